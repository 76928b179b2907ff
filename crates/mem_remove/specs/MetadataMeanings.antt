-- The leaf of the look at a page's metadata means its row.
use Rattle.std.proofs.Common.{◌≡◌, ℕ, ◌^◌, ◌<◌, ◌≤◌, Bool, true, false, [], ◌∷◌, refl, arith}
use Rattle.std.specs.Prelude.{nat_lt}
use Rattle.std.proofs.lemmas.Bool.{ltb-true, lt-ltb}
use Rattle.td_words.specs.declared.names.PageKind.TheVariants as kind
use Rattle.td_words.specs.declared.names.Mode.TheVariants.{Shared}
use Rattle.td_words.specs.declared.machines.Machine.{Machine}
use Rattle.td_words.specs.Packing.{pamt_in, pamt_word, is_lawful_pamt}
use Rattle.td_words.proofs.Unpacked.{packings}
use Rattle.td_words.specs.Place as place
use Rattle.flat_core.specs.World.{World}
use Rattle.flat_core.specs.Conditions.{is_host_in}
use Rattle.flat_core.specs.Lawful.{Lawful}
use Rattle.word_rules.proofs.Conflicts.{respects-compose}
use Rattle.leaf_engine.specs.declared.needs.Place.{Place}
use Rattle.leaf_engine.specs.Means.{MeansRow, work_of, OfCall, hold}
use Rattle.leaf_parts.proofs.Begun.{page_lock}
use Rattle.leaf_parts.proofs.Checks.{page-told}
use Rattle.flat_core.specs.HostRows.{read_metadata}
use Rattle.leaf_engine.specs.Trees.{answers}
use Rattle.td_words.specs.declared.replies.Reply.TheVariants.{Done}
use Rattle.mem_remove.specs.Words.{metadata}
use Rattle.mem_remove.specs.MetadataTrees.{rdmd_task}

-- the metadata of a page are lawful, in a machine of at most 1,024 pages

pamt_lawful : (m : Machine) (w : World) (p : ℕ) → m.pages ≤ 1024 → Lawful m w → is_lawful_pamt (record { kind = w.pages.kinds p; owner = w.pages.owners p; epoch = w.pages.blocked p }) ≡ true
pamt_lawful m w p few la = by (is_host_in w.pages p) refl
  where
    not_host : (t : ℕ) → w.pages.kinds t ≡ kind.Tdr → is_host_in w.pages t ≡ false
    not_host t e = rw e refl

    blocked : nat_lt (w.pages.blocked p) (2 ^ 32) ≡ true
    blocked = lt-ltb (w.pages.blocked p) (2 ^ 32) (la.pages.blocked p)

    by : (b : Bool) → is_host_in w.pages p ≡ b → is_lawful_pamt (record { kind = w.pages.kinds p; owner = w.pages.owners p; epoch = w.pages.blocked p }) ≡ true
    by true e = (let h = la.pages.host p e in let o : w.pages.owners p ≡ 0 = h.0 in let b : w.pages.blocked p ≡ 0 = h.1 in rw (e, o, b) refl)
    by false e =
        let small : w.pages.owners p < m.pages = la.pages.in_machine (w.pages.owners p) (not_host (w.pages.owners p) (la.pages.owner p e)) in
        let owner : nat_lt (w.pages.owners p) 1024 ≡ true = lt-ltb (w.pages.owners p) 1024 (omega arith) in
        rw (e, owner, blocked) refl

pub rdmd-means : (p : Place) (page : ℕ) → p.machine.pages ≤ 1024 → MeansRow (rdmd_task p page)
rdmd-means p page few = record {
  means = λ c at. (
    refl,
    λ e. refl,
    λ a.
        (let in_page : page < p.machine.pages = ltb-true page p.machine.pages a in
        let word : c.memory.words (place.Pamt page) ≡ pamt_word (record { kind = c.state.world.pages.kinds page; owner = c.state.world.pages.owners page; epoch = c.state.world.pages.blocked page }) = at.shown.word (place.Pamt page) in_page in
        let read = packings.pamt (record { kind = c.state.world.pages.kinds page; owner = c.state.world.pages.owners page; epoch = c.state.world.pages.blocked page }) (pamt_lawful p.machine c.state.world page few at.lawful) in
        page-told p.machine c (work_of (OfCall (read_metadata p.machine page))) [] page Shared in_page (λ pamt. answers (Done (metadata (pamt_in pamt)))) [] (
          record {
            answers = record { reply_is = rw (word, read) refl; cached_is = refl; enters_is = refl; notes_are = refl; tells_are = refl; bundles_are = refl };
            fills_allowed = tt;
            respects = respects-compose.same (hold c (page_lock page Shared ∷ [])) c.state.world;
            locks_stay = ((refl, λ x. x), tt);
            shows = at.shown;
          },
          tt,
        )),
  );
}
