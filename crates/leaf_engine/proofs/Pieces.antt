-- Each turn told in pieces.
use Rattle.std.proofs.Common.{◌≡◌, ℕ, zero, suc, Option, List, [], ◌∷◌, ◌++◌, map, refl, ap, sym, ◌∙◌, subst}
use Rattle.std.proofs.lemmas.List.{append-nil}
use Rattle.td_words.specs.declared.machines.Machine.{Machine}
use Rattle.td_words.specs.declared.replies.Reply.{Reply}
use Rattle.mrtd_measure.specs.declared.measures.Measure.{Measure}
use Rattle.step_core.specs.declared.items.Taken.{Taken}
use Rattle.leaf_engine.specs.declared.needs.Need.{Need}
use Rattle.leaf_engine.specs.declared.needs.Need.TheVariants as need
use Rattle.leaf_engine.specs.declared.events.Event.{Event}
use Rattle.leaf_engine.specs.declared.events.Stage.{Stage}
use Rattle.leaf_engine.specs.declared.events.Stage.TheVariants as stages
use Rattle.leaf_engine.specs.Trees.{Tree, Lock, Load, Test, End, Since, settle, passed, changes_of}
use Rattle.leaf_engine.specs.Decides.{Wants}
use Rattle.leaf_engine.specs.Items.{AreChanged}
use Rattle.leaf_engine.specs.Turns.{Standing, Comes, Advances, TurnBy}
use Rattle.leaf_engine.specs.OwnLists.{Piece, Unmarked, Marked, Wordless, taken_in, items_in, last_marked, marked_behind, act_pieces, pieces_for, behind, TurnIn, events_among, TurnsInPieces}

-- what pieces take, and how many events are among them

last-taken : (xs : List Taken) → taken_in (last_marked xs) ≡ xs
last-taken [] = refl
last-taken (x ∷ []) = refl
last-taken (x ∷ y ∷ xs) = ap (λ (zs : List Taken). x ∷ zs) (last-taken (y ∷ xs))

last-one : (xs : List Taken) → events_among (last_marked xs) ≡ 1
last-one [] = refl
last-one (x ∷ []) = refl
last-one (x ∷ y ∷ xs) = last-one (y ∷ xs)

quiet-taken : (xs : List Taken) → taken_in (map Unmarked xs) ≡ xs
quiet-taken [] = refl
quiet-taken (x ∷ xs) = ap (λ (zs : List Taken). x ∷ zs) (quiet-taken xs)

quiet-none : (xs : List Taken) → events_among (map Unmarked xs) ≡ 0
quiet-none [] = refl
quiet-none (x ∷ xs) = quiet-none xs

marked-taken : (n : ℕ) (xs : List Taken) → taken_in (marked_behind n xs) ≡ xs
marked-taken n [] = refl
marked-taken zero (x ∷ xs) = ap (λ (zs : List Taken). x ∷ zs) (quiet-taken xs)
marked-taken (suc n) (x ∷ xs) = ap (λ (zs : List Taken). x ∷ zs) (marked-taken n xs)

marked-one : (n : ℕ) (xs : List Taken) → events_among (marked_behind n xs) ≡ 1
marked-one n [] = refl
marked-one zero (x ∷ xs) = ap suc (quiet-none xs)
marked-one (suc n) (x ∷ xs) = marked-one n xs

after-quiet : (xs : List Taken) (ps : List Piece) → taken_in (map Unmarked xs ++ ps) ≡ xs ++ taken_in ps
after-quiet [] ps = refl
after-quiet (x ∷ xs) ps = ap (λ (zs : List Taken). x ∷ zs) (after-quiet xs ps)

after-quiet-one : (xs : List Taken) (ps : List Piece) → events_among (map Unmarked xs ++ ps) ≡ events_among ps
after-quiet-one [] ps = refl
after-quiet-one (x ∷ xs) ps = after-quiet-one xs ps

before-quiet : (ps : List Piece) (xs : List Taken) → taken_in (ps ++ map Unmarked xs) ≡ taken_in ps ++ xs
before-quiet [] xs = quiet-taken xs
before-quiet (Unmarked y ∷ ps) xs = ap (λ (zs : List Taken). y ∷ zs) (before-quiet ps xs)
before-quiet (Marked y ∷ ps) xs = ap (λ (zs : List Taken). y ∷ zs) (before-quiet ps xs)
before-quiet (Wordless ∷ ps) xs = before-quiet ps xs

before-quiet-one : (ps : List Piece) (xs : List Taken) → events_among (ps ++ map Unmarked xs) ≡ events_among ps
before-quiet-one [] xs = quiet-none xs
before-quiet-one (Unmarked y ∷ ps) xs = before-quiet-one ps xs
before-quiet-one (Marked y ∷ ps) xs = ap suc (before-quiet-one ps xs)
before-quiet-one (Wordless ∷ ps) xs = ap suc (before-quiet-one ps xs)

behind-are : (loads changes : List Taken) → behind loads (loads ++ changes) ≡ changes
behind-are [] changes = refl
behind-are (l ∷ loads) changes = behind-are loads changes

-- at the end of a leaf

act-taken : (m : Machine) (t : Tree) (reply : Reply) (loads changes : List Taken) (h h' : Option Measure) → Wants m.pages t (need.Verdict reply) → AreChanged m (changes_of (passed t)) h changes h'
    → taken_in (act_pieces (passed t) loads changes) ≡ loads ++ changes
act-taken m (Lock l q mode t) reply loads changes h h' g c = cc
act-taken m (Load v q k) reply loads changes h h' g c = cc
act-taken m (Test b out t) reply loads changes h h' g c = absurd g
act-taken m (End a [] []) reply loads changes h h' g c = last-taken loads ∙ (sym (append-nil loads) ∙ ap (λ (zs : List Taken). loads ++ zs) (sym c.1))
act-taken m (End a [] (x ∷ cs)) reply loads changes h h' g c = after-quiet loads (marked_behind 0 changes) ∙ ap (λ (zs : List Taken). loads ++ zs) (marked-taken 0 changes)
act-taken m (End a (f ∷ fs) cs) reply loads changes h h' g c =
    after-quiet loads (marked_behind (items_in (f ∷ fs)) changes) ∙ ap (λ (zs : List Taken). loads ++ zs) (marked-taken (items_in (f ∷ fs)) changes)
act-taken m (Since a cs) reply loads changes h h' g c = before-quiet (last_marked loads) changes ∙ ap (λ (zs : List Taken). zs ++ changes) (last-taken loads)

act-one : (n : ℕ) (t : Tree) (reply : Reply) (loads changes : List Taken) → Wants n t (need.Verdict reply) → events_among (act_pieces (passed t) loads changes) ≡ 1
act-one n (Lock l q mode t) reply loads changes g = cc
act-one n (Load v q k) reply loads changes g = cc
act-one n (Test b out t) reply loads changes g = absurd g
act-one n (End a [] []) reply loads changes g = last-one loads
act-one n (End a [] (x ∷ cs)) reply loads changes g = after-quiet-one loads (marked_behind 0 changes) ∙ marked-one 0 changes
act-one n (End a (f ∷ fs) cs) reply loads changes g = after-quiet-one loads (marked_behind (items_in (f ∷ fs)) changes) ∙ marked-one (items_in (f ∷ fs)) changes
act-one n (Since a cs) reply loads changes g = before-quiet-one (last_marked loads) changes ∙ last-one loads

-- on its way

goes-taken : (m : Machine) (s s' : Standing) (xs loads : List Taken) (t : Tree) (n : Need) (e : Event) → Wants m.pages (settle t) n → Comes m s (passed (settle t)) loads xs n s' e
    → taken_in (pieces_for n (passed (settle t)) loads xs (behind loads xs)) ≡ xs
goes-taken m s s' xs loads t (need.Lock name at mode) e g c = last-taken xs
goes-taken m s s' xs loads t (need.Load at) e g c = absurd c
goes-taken m s s' xs loads t (need.Verdict reply) e g c =
    let left : behind loads xs ≡ c.changes = ap (behind loads) c.items ∙ behind-are loads c.changes in
    ap (λ (zs : List Taken). taken_in (act_pieces (passed (settle t)) loads zs)) left ∙ (act-taken m (settle t) reply loads c.changes s.hasher c.hasher g c.changed ∙ sym c.items)

goes-one : (m : Machine) (s s' : Standing) (xs loads : List Taken) (t : Tree) (n : Need) (e : Event) → Wants m.pages (settle t) n → Comes m s (passed (settle t)) loads xs n s' e
    → events_among (pieces_for n (passed (settle t)) loads xs (behind loads xs)) ≡ 1
goes-one m s s' xs loads t (need.Lock name at mode) e g c = last-one xs
goes-one m s s' xs loads t (need.Load at) e g c = absurd c
goes-one m s s' xs loads t (need.Verdict reply) e g c = act-one m.pages (settle t) reply loads (behind loads xs) g

-- every turn

told-at : (m : Machine) (s s' : Standing) (xs : List Taken) (e : Event) (st : Stage) → s.stage ≡ st → TurnBy st m s xs s' e → (ps : List Piece) × TurnIn st m s ps s' e × (taken_in ps ≡ xs)
told-at m s s' xs e stages.Trying i t = (
  pieces_for t.need (passed (settle t.tree)) t.loads xs (behind t.loads xs),
  record { items = xs; goes = t; pieces = refl },
  goes-taken m s s' xs t.loads t.tree t.need e t.gives t.comes,
)
told-at m s s' xs e (stages.Undoing name at) i t = (last_marked xs, record { items = xs; turn = subst (λ (z : Stage). TurnBy z m s xs s' e) (sym i) t; pieces = refl }, last-taken xs)
told-at m s s' xs e (stages.Answered reply) i t = (last_marked xs, record { items = xs; turn = subst (λ (z : Stage). TurnBy z m s xs s' e) (sym i) t; pieces = refl }, last-taken xs)

one-in : (m : Machine) (s s' : Standing) (ps : List Piece) (e : Event) (st : Stage) → TurnIn st m s ps s' e → events_among ps ≡ 1
one-in m s s' ps e stages.Trying t = ap events_among t.pieces ∙ goes-one m s s' t.items t.goes.loads t.goes.tree t.goes.need e t.goes.gives t.goes.comes
one-in m s s' ps e (stages.Undoing name at) t = ap events_among t.pieces ∙ last-one t.items
one-in m s s' ps e (stages.Answered reply) t = ap events_among t.pieces ∙ last-one t.items

pub turns-in-pieces : TurnsInPieces
turns-in-pieces = record {
  told = λ m s s' xs result t. told-at m s s' xs result.event s.stage refl t.turn;
  one = λ m s s' ps e t. one-in m s s' ps e s.stage t;
}

-- a turn in pieces is the turn of what they take

taken-at : (m : Machine) (s s' : Standing) (ps : List Piece) (e : Event) (st : Stage) → s.stage ≡ st → TurnIn st m s ps s' e → TurnBy s.stage m s (taken_in ps) s' e
taken-at m s s' ps e stages.Trying i t =
    let all : taken_in ps ≡ t.items = ap taken_in t.pieces ∙ goes-taken m s s' t.items t.goes.loads t.goes.tree t.goes.need e t.goes.gives t.goes.comes in
    subst (λ (z : Stage). TurnBy z m s (taken_in ps) s' e) (sym i) (subst (λ (zs : List Taken). Advances m s zs s' e) (sym all) t.goes)
taken-at m s s' ps e (stages.Undoing name at) i t = subst (λ (zs : List Taken). TurnBy s.stage m s zs s' e) (sym (ap taken_in t.pieces ∙ last-taken t.items)) t.turn
taken-at m s s' ps e (stages.Answered reply) i t = subst (λ (zs : List Taken). TurnBy s.stage m s zs s' e) (sym (ap taken_in t.pieces ∙ last-taken t.items)) t.turn

pub turn-of-taken : (m : Machine) (s s' : Standing) (ps : List Piece) (e : Event) → TurnIn s.stage m s ps s' e → TurnBy s.stage m s (taken_in ps) s' e
turn-of-taken m s s' ps e t = taken-at m s s' ps e s.stage refl t
