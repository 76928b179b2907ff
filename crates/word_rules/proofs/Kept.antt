-- What stores keep of entries' words.
use Rattle.std.proofs.Common.{◌≡◌, ap, ℕ, true}
use Rattle.std.specs.Prelude.{Option}
use Rattle.td_words.specs.Laws.{PackingsUndone}
use Rattle.td_words.specs.Packing.{Entry}
use Rattle.word_rules.specs.Rules.{View, Whole, ThePage, TheRights, Grade, KeepsNothing, KeepsPage, KeepsRights, spares}
use Rattle.word_rules.specs.Views.{named_by, rights_by, of_entry, look, IsKept, ViewsAreKept}

kept : (k : Grade) (v : View) (old new : ℕ) → spares k v ≡ true → IsKept k old new → look v new ≡ look v old
kept KeepsPage ThePage old new h i = i
kept KeepsRights ThePage old new h i = i.0
kept KeepsRights TheRights old new h i = i.1
kept KeepsNothing Whole old new h i = cc
kept _ _ old new h i = cc

pub views-are-kept : PackingsUndone → ViewsAreKept
views-are-kept p = record {
  kept = kept;
  page = λ e h. ap (λ (x : Option Entry). of_entry named_by x) (p.entry e h);
  rights = λ e h. ap (λ (x : Option Entry). of_entry rights_by x) (p.entry e h);
}
