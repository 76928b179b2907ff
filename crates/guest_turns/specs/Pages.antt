-- A page's lock that is held shared, and that of the page that a shared GPA names.
use Rattle.std.specs.Prelude.{ℕ}
use Rattle.td_words.specs.declared.names.LockName.TheVariants as name
use Rattle.td_words.specs.declared.names.Mode.TheVariants.{Shared}
use Rattle.td_words.specs.Address.{lock_at}
use Rattle.flat_core.specs.Guest.{shared_page}
use Rattle.leaf_engine.specs.declared.events.HeldLock.{HeldLock}

abbrev pub lock_of : (page : ℕ) → HeldLock
lock_of p = record { name = name.Page p; at = lock_at p; mode = Shared }

abbrev pub page_lock : (gpa : ℕ) → HeldLock
page_lock gpa = lock_of (shared_page gpa)
