-- Each guest operation asks, answers and tells the same in two worlds that differ in private words alone, and keeps them so.
use Rattle.std.proofs.Common.{◌≡◌, refl, sym, ◌∙◌, subst, ap, ℕ, ◌+◌, List, [], ◌∷◌, ◌++◌, length, drop, Option, Some, None, option_map, Bool, true, false, ◌==◌, ◌&&◌, if◌then◌else◌}
use Rattle.std.proofs.lemmas.Bool.{eqb-true, and_parts}
use Rattle.std.proofs.Math.Seq.{drop-append_seam}
use Rattle.td_words.specs.declared.names.EntryState.TheVariants as entry
use Rattle.td_words.specs.declared.names.Access.{Access}
use Rattle.td_words.specs.declared.names.Access.TheVariants.{Read, Write}
use Rattle.td_words.specs.declared.machines.Machine.{Machine}
use Rattle.td_words.specs.declared.calls.GuestOp.TheVariants as op
use Rattle.td_words.specs.declared.replies.Outcome.{Outcome}
use Rattle.td_words.specs.declared.replies.Outcome.TheVariants.{Vmcall}
use Rattle.flat_core.specs.World.{World, Tds, Vps, Hidden, Outgoing, put}
use Rattle.flat_core.specs.Processor.{Note}
use Rattle.flat_core.specs.Opening.{Opening}
use Rattle.flat_core.specs.Row.{Item, OperationRow}
use Rattle.flat_core.specs.Effects.{put_in, set_word, clear_page, pass_operation, leave_guest, tell_words, word_told}
use Rattle.flat_core.specs.Tree.{word_of_gpa, number_at, entry_at}
use Rattle.flat_core.specs.Guest.{Operation, Private, is_private, shared_page, shared_load, shared_store, register_told, is_pending_at, accept_page, accept, call_host, reach}
use Rattle.flat_core.specs.Event.{nothing_more}
use Rattle.flat_core.specs.Alike.{Alike, TellAlike, AreBlindActs, AreBlindOperations, is_public}
use Rattle.flat_core.specs.TwoWorlds.{OperationsAreBlind}
use Rattle.flat_core.proofs.Tests.{by_test}
use Rattle.flat_core.proofs.AlikeParts.{tds_alike, vps_alike, hidden_alike, cleared_alike}

abbrev with_position : Vps → ℕ → Vps
with_position x v = record x { positions = put x.positions v (x.positions v + 1) }

module _ (v w : World) (a : Alike v w) where
  -- an operation that is completed, whatever its guest then knows
  pub passed_alike : (vp : ℕ) (f g : Hidden) → Alike (pass_operation vp (record v { hidden = f })) (pass_operation vp (record w { hidden = g }))
  passed_alike vp f g = vps_alike (record v { hidden = f }) (record w { hidden = g }) (hidden_alike v w a f g) _ _ (ap (λ (x : Vps). with_position x vp) a.vps)

  -- a word that is the same in both; and one of a page that isn't public
  pub word_alike : (p i x y : ℕ) → x ≡ y → Alike (set_word p i x v) (set_word p i y w)
  word_alike p i x y e = record {
    size = a.size;
    pages = a.pages;
    words = λ q j known. ap (λ (z : ℕ). if q == p && j == i then x else z) (a.words q j known) ∙ ap (λ (z : ℕ). if q == p && j == i then z else w.words q j) e;
    tds = a.tds;
    vps = a.vps;
    streams = a.streams;
    key_table = a.key_table;
    told = a.told;
    bundles = a.bundles;
  }

  pub private_word_alike : (p i x y : ℕ) → is_public v.pages v.tds p ≡ false → Alike (set_word p i x v) (set_word p i y w)
  private_word_alike p i x y private = record {
    size = a.size;
    pages = a.pages;
    words = λ q j known. by_test (q == p && j == i)
        (λ y. absurd (let here : q ≡ p = eqb-true q p (and_parts (q == p) (j == i) y).0 in
        let no : true ≡ false = sym known ∙ (ap (λ (n : ℕ). is_public v.pages v.tds n) here ∙ private) in cc))
        (λ n. rw n (a.words q j known));
    tds = a.tds;
    vps = a.vps;
    streams = a.streams;
    key_table = a.key_table;
    told = a.told;
    bundles = a.bundles;
  }

  -- a page is accepted
  accepted_alike : (b c : Bool) (t gpa : ℕ) → b ≡ c → Alike (accept_page b t gpa v) (accept_page c t gpa w)
  accepted_alike false false t gpa e = a
  accepted_alike true false t gpa e = cc
  accepted_alike false true t gpa e = cc
  accepted_alike true true t gpa e =
      let p : ℕ = (entry_at v t 0 gpa).page in
      let f : ℕ → Tds → Tds = λ q x. record x { entries = put x.entries t (put_in (x.entries t) 0 (number_at 0 gpa) (record { state = entry.Mapped; page = q; mark = 0 })) } in
      let cleared : ℕ → World → World = λ q u. clear_page q (record u { tds = f q u.tds }) in
      let a1 : Alike (cleared p v) (cleared p w) = cleared_alike (record v { tds = f p v.tds }) (record w { tds = f p w.tds }) (tds_alike v w a (f p) (λ x. refl)) p in
      let same : p ≡ (entry_at w t 0 gpa).page = ap (λ (x : Tds). (x.entries t 0 (number_at 0 gpa)).page) a.tds in
      let a2 : Alike (cleared p v) (cleared (entry_at w t 0 gpa).page w) = subst (λ (q : ℕ). Alike (cleared p v) (cleared q w)) same a1 in
      hidden_alike (cleared p v) (cleared (entry_at w t 0 gpa).page w) a2 (accept_page true t gpa v).hidden (accept_page true t gpa w).hidden

-- an operation is completed; a guest is left
pub pass_alike : (v w : World) (vp : ℕ) → Alike v w → Alike (pass_operation vp v) (pass_operation vp w)
pass_alike v w vp a = passed_alike v w a vp v.hidden w.hidden

pub leave_alike : (v w : World) (vp : ℕ) → Alike v w → Alike (leave_guest vp v) (leave_guest vp w)
leave_alike v w vp a = vps_alike v w a _ _ (ap (λ (x : Vps). record x { entered = put x.entered vp None }) a.vps)

-- a private access of a page that isn't public
pub reach_alike : (v w : World) (t vp : ℕ) (access : Access) (r gpa page : ℕ) → is_public v.pages v.tds page ≡ false → Alike v w → Alike (reach t vp access r gpa page v) (reach t vp access r gpa page w)
reach_alike v w t vp Read r gpa page private a = passed_alike v w a vp (reach t vp Read r gpa page v).hidden (reach t vp Read r gpa page w).hidden
reach_alike v w t vp Write r gpa page private a =
    let x : ℕ = v.hidden.registers vp r in
    let y : ℕ = w.hidden.registers vp r in
    let i : ℕ = word_of_gpa gpa in
    passed_alike (set_word page i x v) (set_word page i y w) (private_word_alike v w a page i x y private) vp (reach t vp Write r gpa page v).hidden (reach t vp Write r gpa page w).hidden

-- it tells nothing
reach_outgoing : (w : World) (t vp : ℕ) (access : Access) (r gpa page : ℕ) → (reach t vp access r gpa page w).outgoing ≡ w.outgoing
reach_outgoing w t vp Read r gpa page = refl
reach_outgoing w t vp Write r gpa page = refl

pub reach_telling : (v w : World) (t vp : ℕ) (access : Access) (r gpa page : ℕ) (rest : List ℕ) → is_public v.pages v.tds page ≡ false → TellAlike v w rest
    → TellAlike (reach t vp access r gpa page v) (reach t vp access r gpa page w) rest
reach_telling v w t vp access r gpa page rest private k = record {
  alike = reach_alike v w t vp access r gpa page private k.alike;
  own = ap (λ (x : Outgoing). x.to_tell) (reach_outgoing v t vp access r gpa page) ∙ k.own;
  given = ap (λ (x : Outgoing). x.to_tell) (reach_outgoing w t vp access r gpa page) ∙ k.given;
}

-- words that are told are no more to tell
pub tell_alike : (v w : World) (xs ys rest : List ℕ) → xs ≡ ys → Alike v w → v.outgoing.to_tell ≡ None → w.outgoing.to_tell ≡ Some (xs ++ rest) → TellAlike (tell_words xs v) (tell_words ys w) rest
tell_alike v w xs ys rest e a own given = record {
  alike = record {
    size = a.size;
    pages = a.pages;
    words = a.words;
    tds = a.tds;
    vps = a.vps;
    streams = a.streams;
    key_table = a.key_table;
    told = ap (λ (zs : List ℕ). zs ++ xs) a.told ∙ ap (λ (zs : List ℕ). w.outgoing.told ++ zs) e;
    bundles = a.bundles;
  };
  own = ap (λ (x : Option (List ℕ)). option_map (drop (length xs)) x) own;
  given =
      ap (λ (x : Option (List ℕ)). option_map (drop (length ys)) x) given
      ∙ (ap (λ (zs : List ℕ). Some (drop (length zs) (xs ++ rest))) (sym e) ∙ ap (λ (zs : List ℕ). Some zs) (drop-append_seam xs rest));
}

-- the word that is told is the first one's register's
told_same : (v w : World) (vp r : ℕ) (rest : List ℕ) → TellAlike v w (register_told v vp r ∷ rest) → register_told v vp r ≡ register_told w vp r
told_same v w vp r rest t = sym (ap (λ (x : Option (List ℕ)). word_told x (w.hidden.registers vp r)) t.given)

pub nothing_more-blind : AreBlindActs nothing_more nothing_more
nothing_more-blind = record {
  items = λ v w a. refl;
  answer = λ v w rest t. refl;
  tells = λ v w rest t. refl;
  act = λ v w rest t. tell_alike v w [] [] rest refl t.alike t.own t.given;
}

-- an operation that changes what its guest alone knows, and its position
abbrev own_row : ℕ → (World → List (Item (Option Outcome))) → (World → Hidden) → (World → List Note) → OperationRow
own_row vp conditions change noted = record { items = conditions; act = λ w. pass_operation vp (record w { hidden = change w }); answer = λ w. None; notes = noted; tells = λ w. [] }

own_blind : (vp : ℕ) (conditions others : World → List (Item (Option Outcome))) (change other : World → Hidden) (noted known : World → List Note)
    → ((v w : World) → Alike v w → conditions v ≡ others w) → AreBlindActs (own_row vp conditions change noted) (own_row vp others other known)
own_blind vp conditions others change other noted known same = record {
  items = same;
  answer = λ v w rest t. refl;
  tells = λ v w rest t. refl;
  act = λ v w rest t. tell_alike _ _ [] [] rest refl (passed_alike v w t.alike vp (change v) (other w)) t.own t.given;
}

shared_store-blind : (m : Machine) (vp r gpa : ℕ) → AreBlindActs (shared_store m vp r gpa) (shared_store m vp r gpa)
shared_store-blind m vp r gpa = record {
  items = λ v w a. rw a.pages refl;
  answer = λ v w rest t. refl;
  tells = λ v w rest t. ap (λ (x : ℕ). x ∷ []) (told_same v w vp r rest t);
  act = λ v w rest t.
      let e : register_told v vp r ≡ register_told w vp r = told_same v w vp r rest t in
      let p : ℕ = shared_page gpa in
      let i : ℕ = word_of_gpa gpa in
      let v1 : World = set_word p i (register_told v vp r) v in
      let w1 : World = set_word p i (register_told w vp r) w in
      let a1 : Alike v1 w1 = word_alike v w t.alike p i _ _ e in
      tell_alike (pass_operation vp v1) (pass_operation vp w1) _ _ rest (ap (λ (x : ℕ). x ∷ []) e) (pass_alike v1 w1 vp a1) t.own t.given;
}

accept-blind : (t vp gpa : ℕ) → AreBlindActs (accept t vp gpa) (accept t vp gpa)
accept-blind t vp gpa = record {
  items = λ v w a. rw a.tds refl;
  answer = λ v w rest k. refl;
  tells = λ v w rest k. refl;
  act = λ v w rest k.
      let same : is_pending_at v t gpa ≡ is_pending_at w t gpa = rw k.alike.tds refl in
      let v1 : World = accept_page (is_pending_at v t gpa) t gpa v in
      let w1 : World = accept_page (is_pending_at w t gpa) t gpa w in
      tell_alike (pass_operation vp v1) (pass_operation vp w1) [] [] rest refl
      (pass_alike v1 w1 vp (accepted_alike v w k.alike _ _ t gpa same)) (accepted_untold (is_pending_at v t gpa) t gpa v ∙ k.own) (accepted_untold (is_pending_at w t gpa) t gpa w ∙ k.given);
}
  where
    accepted_untold : (b : Bool) (t gpa : ℕ) (u : World) → (accept_page b t gpa u).outgoing.to_tell ≡ u.outgoing.to_tell
    accepted_untold true t gpa u = refl
    accepted_untold false t gpa u = refl

call_host-blind : (vp r : ℕ) → AreBlindActs (call_host vp r) (call_host vp r)
call_host-blind vp r = record {
  items = λ v w a. refl;
  answer = λ v w rest t. ap (λ (x : ℕ). Some (Vmcall x)) (told_same v w vp r rest t);
  tells = λ v w rest t. ap (λ (x : ℕ). x ∷ []) (told_same v w vp r rest t);
  act = λ v w rest t. tell_alike (pass_operation vp v) (pass_operation vp w) _ _ rest (ap (λ (x : ℕ). x ∷ []) (told_same v w vp r rest t)) (pass_alike v w vp t.alike) t.own t.given;
}

-- an access is private or shared in both
either_blind : (b : Bool) (x y z : Operation) → AreBlindOperations x x → AreBlindOperations y z → AreBlindOperations (if b then x else y) (if b then x else z)
either_blind true x y z p s = p
either_blind false x y z p s = s

-- rows of one machine
acts_at : (o q : Opening) → o.machine ≡ q.machine → (r : Machine → OperationRow) → AreBlindActs (r o.machine) (r o.machine) → AreBlindActs (r o.machine) (r q.machine)
acts_at o q e r h = subst (λ (m : Machine). AreBlindActs (r o.machine) (r m)) e h

pub operations_are_blind : OperationsAreBlind
operations_are_blind o q a t v line (op.Set r x) = own_blind v _ _ _ _ _ _ (λ v w b. refl)
operations_are_blind o q a t v line (op.Secret r k) = own_blind v _ _ _ _ _ _ (λ v w b. refl)
operations_are_blind o q a t v line (op.Add r s) = own_blind v _ _ _ _ _ _ (λ v w b. refl)
operations_are_blind o q a t v line (op.Load r gpa) =
    either_blind (is_private gpa) (Private Read r gpa) _ _ refl (acts_at o q a.machine (λ m. shared_load m v line r gpa) (own_blind v _ _ _ _ _ _ (λ v w b. rw b.pages refl)))
operations_are_blind o q a t v line (op.Store r gpa) =
    either_blind (is_private gpa) (Private Write r gpa) _ _ refl (acts_at o q a.machine (λ m. shared_store m v r gpa) (shared_store-blind o.machine v r gpa))
operations_are_blind o q a t v line (op.Accept gpa) = accept-blind t v gpa
operations_are_blind o q a t v line (op.Rtmr i) = own_blind v _ _ _ _ _ _ (λ v w b. refl)
operations_are_blind o q a t v line op.Report = own_blind v _ _ _ _ _ _ (λ v w b. refl)
operations_are_blind o q a t v line (op.Vmcall r) = call_host-blind v r
