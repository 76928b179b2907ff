-- What an operation of a guest loads of its virtual processor's page, and may store there, under the locks of its VP.ENTER.
use Rattle.std.proofs.Common.{◌≡◌, ℕ, ◌+◌, ◌<◌, Bool, true, false, ◌||◌, ◌&&◌, List, [], ◌∷◌, ◌++◌, Option, refl, ap, sym, ◌∙◌, subst, inl, inr, arith}
use Rattle.td_words.specs.declared.names.PageKind.TheVariants as kind
use Rattle.td_words.specs.declared.machines.Machine.{Machine}
use Rattle.td_words.specs.declared.replies.Reply.{Reply}
use Rattle.td_words.specs.Place.{WordPlace}
use Rattle.td_words.specs.Place as place
use Rattle.flat_core.specs.World.{World}
use Rattle.flat_core.specs.Processor.{LockId, OfPage, OfOp, Held, Lp}
use Rattle.flat_core.specs.Locks.{same_lock, is_alone}
use Rattle.flat_core.specs.Row.{Item}
use Rattle.flat_core.specs.Lawful.{Lawful, IsPageOf}
use Rattle.flat_core.specs.Event.{State}
use Rattle.word_rules.specs.Guards.{Grip, Guard, Locked, Reached, Written, Role, Want, Has, Sole, Clear, Rule, MeetsWant, MeetsAll, Meets}
use Rattle.word_rules.specs.Rules.{Class, VcpuWord, Whole, Grade, KeepsNothing, reads, writes, owes}
use Rattle.word_rules.specs.Spots.{spot, guard_at, or_unused, vp_classes}
use Rattle.word_rules.specs.Lines.{in_lines}
use Rattle.word_rules.specs.Permissions.{Reads, Writes, Owes, Respects}
use Rattle.word_rules.specs.Cells.{Shows, IsAs}
use Rattle.lock_words.specs.Grips.{holds, holds_alone, has_of, lock_has, lock_grip, grip_with}
use Rattle.act_rules.proofs.Respected.{leaves, all-same}
use Rattle.leaf_engine.specs.Facts.{GuestFits}
use Rattle.leaf_engine.specs.Trees.{Tree}
use Rattle.leaf_engine.specs.Means.{Instant, Work, Means, hold, grasp_of}
use Rattle.leaf_parts.proofs.Begun.{page-in}
use Rattle.leaf_parts.proofs.Checks.{spot_of, at-spot}
use Rattle.leaf_parts.proofs.Vps.{vp-shown, vp-spot}
use Rattle.access_core.specs.OperationTrees.{with_position, with_register}
use Rattle.access_core.specs.VpShows.{register-line, register-class}

-- locks that are held stay held under newer ones, and what is held alone is held
or-last : (a : Bool) {b : Bool} → b ≡ true → (a || b) ≡ true
or-last true e = refl
or-last false e = e

pub held-under : (hs kept : List Held) (l : LockId) → holds kept l ≡ true → holds (hs ++ kept) l ≡ true
held-under [] kept l e = e
held-under (h ∷ hs) kept l e = or-last (same_lock h.lock l) (held-under hs kept l e)

pub alone-under : (hs kept : List Held) (l : LockId) → holds_alone kept l ≡ true → holds_alone (hs ++ kept) l ≡ true
alone-under [] kept l e = e
alone-under (h ∷ hs) kept l e = or-last (is_alone h.mode && same_lock h.lock l) (alone-under hs kept l e)

pub held-of : (hs : List Held) (l : LockId) → holds_alone hs l ≡ true → holds hs l ≡ true
held-of [] l e = cc
held-of (h ∷ hs) l e = by (is_alone h.mode) (same_lock h.lock l) (holds_alone hs l) (holds hs l) (held-of hs l) e
  where
    by : (a b c d : Bool) → (c ≡ true → d ≡ true) → ((a && b) || c) ≡ true → (b || d) ≡ true
    by true true c d f e = refl
    by true false c d f e = f e
    by false true c d f e = refl
    by false false c d f e = f e

-- what locks alone allow, they allow beside the cached translations of who holds them
has-beside : (lp : Lp) (hs : List Held) (x : Guard) → lock_has hs x ≡ true → has_of lp hs x ≡ true
has-beside lp hs (Locked l) e = e
has-beside lp hs (Reached p) e = cc
has-beside lp hs (Written p) e = cc

module _ (s : State) (me : ℕ) (hs : List Held) (at : Role → Guard) where
  want-beside : (x : Want) → MeetsWant (lock_grip hs) at x → MeetsWant (grip_with s me hs) at x
  want-beside (Has r) e = has-beside (s.lps me) hs (at r) e
  want-beside (Sole r) e = e
  want-beside (Clear r) e = cc

  all-beside : (xs : List Want) → MeetsAll (lock_grip hs) at xs → MeetsAll (grip_with s me hs) at xs
  all-beside [] e = tt
  all-beside (x ∷ xs) e = (want-beside x e.0, all-beside xs e.1)

  meets-beside : (rule : Rule) → Meets (lock_grip hs) at rule → Meets (grip_with s me hs) at rule
  meets-beside [] e = absurd e
  meets-beside (xs ∷ rule) (inl e) = inl (all-beside xs e)
  meets-beside (xs ∷ rule) (inr e) = inr (meets-beside rule e)

pub writes-beside : (c : Instant) (hs : List Held) (w : World) (q : WordPlace) (k : Grade) → Writes (hold c hs) w q k → Writes (grasp_of c hs) w q k
writes-beside c hs w q k may = meets-beside c.state c.me (hs ++ c.kept) (guard_at (spot w q)) (writes (spot w q).class k) may

-- an act that leaves pages, TDs, keys and counts respects all that words are
pub kept-respects : (g : Grip) (w w' : World) → w'.pages ≡ w.pages → w'.tds ≡ w.tds → w'.vps.entered ≡ w.vps.entered → w'.key_table ≡ w.key_table → Respects g w w'
kept-respects g w w' pages tds entered table =
    leaves g w w' (all-same w w' pages (λ u. record { op = rw tds refl; controls = rw tds refl; epoch = rw tds refl; empty = λ b. rw (tds, entered) refl; named = λ n. rw tds refl })) (λ h. rw table refl) (rw tds refl)

module _ (m : Machine) (c : Instant) (t v : ℕ) (la : Lawful m c.state.world) (sh : Shows m c.memory.words c.memory.slots c.state) (fits : GuestFits c.state.world c.me c.kept t v) where
  abbrev w : World
  w = c.state.world

  pub vp-in : v < m.pages
  vp-in = page-in m w t v kind.Tdvpr la fits.vp_page refl

  -- a word of its page, of the class that most are of
  module _ (hs : List Held) where
    tdr-held : holds (hs ++ c.kept) (OfPage t) ≡ true
    tdr-held = held-under hs c.kept (OfPage t) fits.tdr_held

    op-held : holds (hs ++ c.kept) (OfOp t) ≡ true
    op-held = held-under hs c.kept (OfOp t) fits.op_held

    vp-alone : holds_alone (hs ++ c.kept) (OfPage v) ≡ true
    vp-alone = alone-under hs c.kept (OfPage v) fits.vp_held

    vp-spot-is : (w' : World) (i : ℕ) → IsPageOf w'.pages t v kind.Tdvpr → or_unused (in_lines vp_classes i) ≡ VcpuWord → spot w' (place.Word v i) ≡ spot_of VcpuWord t v
    vp-spot-is w' i page class = vp-spot w' t v i page ∙ ap (λ (k : Class). spot_of k t v) class

    pub vp-reads : (i : ℕ) → or_unused (in_lines vp_classes i) ≡ VcpuWord → Reads (hold c hs) w (place.Word v i) Whole
    vp-reads i class = at-spot (hold c hs) w (place.Word v i) (spot_of VcpuWord t v) (λ z. reads z Whole) (vp-spot-is w i fits.vp_page class)
        (inr (inr (inl (tdr-held, (op-held, (held-of (hs ++ c.kept) (OfPage v) vp-alone, tt))))))

    pub vp-writes : (i : ℕ) → or_unused (in_lines vp_classes i) ≡ VcpuWord → Writes (grasp_of c hs) w (place.Word v i) KeepsNothing
    vp-writes i class = at-spot (grasp_of c hs) w (place.Word v i) (spot_of VcpuWord t v) (λ z. writes z KeepsNothing) (vp-spot-is w i fits.vp_page class)
        (inr (inl (tdr-held, (op-held, (vp-alone, tt)))))

    pub vp-owes : (w' : World) (i : ℕ) → IsPageOf w'.pages t v kind.Tdvpr → or_unused (in_lines vp_classes i) ≡ VcpuWord → Owes (hold c hs) w' (place.Word v i) KeepsNothing
    vp-owes w' i page class = at-spot (hold c hs) w' (place.Word v i) (spot_of VcpuWord t v) (λ z. owes z KeepsNothing) (vp-spot-is w' i page class)
        (inr (inl (tdr-held, (op-held, (vp-alone, tt)))))

    -- its position, and a register, are what the world has
    pub position-load : (k : Work) (further : ℕ → Tree) (rest : List (Item Reply)) → Means m c k hs (further (w.vps.positions v)) rest → Means m c k hs (with_position v further) rest
    position-load k further rest h =
        let word : c.memory.words (place.Word v 4) ≡ w.vps.positions v = vp-shown m c.memory.words c.memory.slots c.state sh t fits.alive.life v 4 fits.vp_page vp-in (omega arith) in (
          (vp-in, omega arith),
          inl (vp-reads 4 refl),
          subst (λ (n : ℕ). Means m c k hs (further n) rest) (sym word) h,
        )

    pub register-load : (r : ℕ) → r < 8 → (k : Work) (further : ℕ → Tree) (rest : List (Item Reply)) → Means m c k hs (further (w.hidden.registers v r)) rest → Means m c k hs (with_register v r further) rest
    register-load r few k further rest h =
        let word : c.memory.words (place.Word v (8 + r)) ≡ w.hidden.registers v r =
        subst (λ (o : Option ℕ). IsAs o (c.memory.words (place.Word v (8 + r)))) (register-line w v r few) (vp-shown m c.memory.words c.memory.slots c.state sh t fits.alive.life v (8 + r) fits.vp_page vp-in (omega (arith, few))) in (
          (vp-in, omega (arith, few)),
          inl (vp-reads (8 + r) (register-class r few)),
          subst (λ (n : ℕ). Means m c k hs (further n) rest) (sym word) h,
        )
