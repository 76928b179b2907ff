-- Where no guest reaches a page by the world, the page is clear.
use Rattle.std.proofs.Common.{◌≡◌, ℕ, zero, suc, ◌<◌, Bool, true, false, not, ◌&&◌, ◌||◌, ◌==◌, refl, ap, arith}
use Rattle.flat_core.specs.Processor.{Lp}
use Rattle.flat_core.specs.Event.{State}
use Rattle.flat_core.specs.Laws.{reached}
use Rattle.flat_laws.specs.Unreached.{AreClosed, ClosedIsUnreached, ClosedIsUnchanged, ClosedInRuns}
use Rattle.lock_words.specs.Grips.{reaches, none_reaches}
use Rattle.closed_pages.specs.Clear.{SoundIsClear, ClosedIsClear}

either : (b c : Bool) → c ≡ false → (b || not c) ≡ true
either true c e = refl
either false c e = ap not e

both : (b c : Bool) → b ≡ true → c ≡ true → (b && c) ≡ true
both true c a b = b
both false c a b = cc

-- what none of the first n processors reaches
none-of : (lps : ℕ → Lp) (page : ℕ) (must_write : Bool) (n me : ℕ) → ((p : ℕ) → p < n → reaches (lps p) page must_write ≡ false) → none_reaches lps n me page must_write ≡ true
none-of lps page must_write zero me none = refl
none-of lps page must_write (suc n) me none =
    both (n == me || not (reaches (lps n) page must_write)) (none_reaches lps n me page must_write)
    (either (n == me) (reaches (lps n) page must_write) (none n (omega arith)))
    (none-of lps page must_write n me (λ p below. none p (omega (arith, below))))

pub sound-is-clear : ClosedIsUnreached → ClosedIsUnchanged → SoundIsClear
sound-is-clear unreached unchanged m s t n sound alive some =
    let page : ℕ = (s.world.tds.entries t 0 n).page in
    record {
      reach = λ h me. none-of s.lps page false s.lp_count me (λ p below. (unreached m s p t n (sound p below) alive h).guest some);
      writes = λ h me. none-of s.lps page true s.lp_count me (λ p below. (unchanged m s p t n (sound p below) alive h).guest some);
    }

pub closed-is-clear : ClosedInRuns → ClosedIsClear
closed-is-clear law o ws schedule t n alive some =
    let s : State = reached o ws schedule in
    let closed : AreClosed s = law o ws schedule in
    let page : ℕ = (s.world.tds.entries t 0 n).page in
    record {
      reach = λ h me. none-of s.lps page false s.lp_count me (λ p below. (closed.unreached p t n alive h).guest some);
      writes = λ h me. none-of s.lps page true s.lp_count me (λ p below. (closed.unchanged p t n alive h).guest some);
    }
