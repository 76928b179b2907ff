-- The load of an entry in a guest's walk as a decision over its word: one load, which is the act.
use Rattle.std.specs.Prelude.{◌≡◌, ℕ, zero, suc, ◌/◌, ◌%◌, ◌^◌, ◌<◌, ◌≤◌, Bool, true, ◌==◌, None, []}
use Rattle.td_words.specs.declared.names.Access.{Access}
use Rattle.td_words.specs.declared.names.Access.TheVariants.{Read, Write}
use Rattle.td_words.specs.declared.replies.Value.TheVariants as value
use Rattle.td_words.specs.declared.replies.Reply.TheVariants.{Done}
use Rattle.td_words.specs.Limits.{IsMachine}
use Rattle.td_words.specs.Packing.{Entry}
use Rattle.td_words.specs.Place as place
use Rattle.flat_core.specs.Processor.{Translation}
use Rattle.flat_core.specs.Tree.{page_of_gpa}
use Rattle.flat_core.specs.Guest.{goes_on, cached_after}
use Rattle.sept_walk.specs.SecureEpt.{index_at}
use Rattle.word_rules.specs.Rules.{TheRights}
use Rattle.word_rules.specs.Views.{rights_by}
use Rattle.leaf_engine.specs.declared.needs.Place.{Place}
use Rattle.leaf_engine.specs.Trees.{Answer, Tree, Load, Since}
use Rattle.leaf_engine.specs.Means.{Task, OfWalk, MeansRow}

-- What the load of an entry tells is a number (`rights_by`): whether it lets write, whether it lets read, whether a walk
-- goes on behind it, and above these bits the page that it names.
abbrev pub may_write_by : ℕ → Bool
may_write_by seen = seen % 2 == 1

abbrev pub allows_by : Access → ℕ → Bool
allows_by Read seen = seen / 2 % 2 == 1
allows_by Write seen = may_write_by seen

abbrev pub goes_on_by : Access → (level seen : ℕ) → Bool
goes_on_by access zero seen = allows_by access seen
goes_on_by access (suc level) seen = seen / 4 % 2 == 1

abbrev pub page_by : ℕ → ℕ
page_by seen = seen / 8

-- the translation that it lets be cached, and the translations once it was loaded
abbrev pub translation_by : (tdr gpa seen : ℕ) → Translation
translation_by t gpa seen = record { tdr = t; gpa_page = page_of_gpa gpa; page = page_by seen; may_write = may_write_by seen }

abbrev pub walked : (tdr : ℕ) → Access → (gpa level seen : ℕ) → Answer
walked t access gpa level seen = record {
  reply = Done (value.Number seen);
  cached = λ ts. cached_after (goes_on_by access level seen) level (translation_by t gpa seen) ts;
  enters = None;
  notes = [];
  tells = [];
  bundles = [];
}

-- the entry of that level, in the secure EPT page where it stands
abbrev pub walk_tree : (tdr : ℕ) → Access → (gpa level page : ℕ) → Tree
walk_tree t access gpa level page = Load TheRights (place.Word page (index_at level gpa)) (λ seen. Since (walked t access gpa level seen) [])

abbrev pub walk_task : Place → (tdr vp : ℕ) → Access → (gpa level page : ℕ) → Task
walk_task p t v access gpa level page = record { place = p; tree = walk_tree t access gpa level page; meaning = OfWalk t v access gpa level page }

-- it means that event of the guest's walk of a private GPA
abbrev pub WalksMean : Type 0
WalksMean = (p : Place) (t v : ℕ) (access : Access) (gpa level page : ℕ) → IsMachine p.machine → gpa < 2 ^ 47 → level ≤ 3 → MeansRow (walk_task p t v access gpa level page)

-- and of each entry that number tells whether the guest's walk goes on there, and where it does, to which page
abbrev pub WalksAreTold : Type 0
WalksAreTold = (access : Access) (level : ℕ) (e : Entry) → (goes_on_by access level (rights_by e) ≡ goes_on access level e) × (goes_on access level e ≡ true → page_by (rights_by e) ≡ e.page)
