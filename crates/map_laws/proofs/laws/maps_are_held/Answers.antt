use Rattle.map_laws.proofs.Held.{roots-are-named, maps-are-held}
use Rattle.map_laws.proofs.Follow.{walks-follow, walks-follow-merges}
use Rattle.map_laws.proofs.laws.maps_are_held.Goals as goal

pub returns-clause-root : goal.returns-clause-root
returns-clause-root c = roots-are-named

pub returns-clause-hold : goal.returns-clause-hold
returns-clause-hold c = maps-are-held

pub returns-clause-walk : goal.returns-clause-walk
returns-clause-walk c = walks-follow c.walks_find.ensures c.walks_meet_maps.ensures

pub returns-clause-merge : goal.returns-clause-merge
returns-clause-merge c = walks-follow-merges c.lawful_law.ensures.run c.merge_law.ensures (walks-follow c.walks_find.ensures c.walks_meet_maps.ensures)
