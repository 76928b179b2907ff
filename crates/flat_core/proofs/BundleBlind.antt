-- Each row that makes a bundle asks and answers the same in two worlds that differ in private words alone, and keeps them
-- so: the bundle has the same header in both, and another payload only where that is private.
use Rattle.std.proofs.Common.{◌≡◌, refl, sym, ◌∙◌, subst, ap, ℕ, zero, suc, ◌+◌, ◌%◌, ◌^◌, List, [], ◌∷◌, ◌++◌, length, map, get_or, if◌then◌else◌}
use Rattle.std.specs.Prelude.{Ok, Option, flat_map}
use Rattle.std.specs.List.{range_with_len, sum_by}
use Rattle.std.proofs.lemmas.List.{map-append}
use Rattle.td_words.specs.declared.names.EntryState.{EntryState}
use Rattle.td_words.specs.declared.names.EntryState.TheVariants as entry
use Rattle.td_words.specs.declared.names.OpState.{OpState}
use Rattle.td_words.specs.declared.names.OpState.TheVariants as op
use Rattle.td_words.specs.declared.machines.Machine.{Machine}
use Rattle.td_words.specs.Packing.{is_exported}
use Rattle.flat_core.specs.World.{World, Tds, Vps, Streams, KeyTable, Made, ClearHeader, put}
use Rattle.flat_core.specs.Opening.{blind_words, public_bundle}
use Rattle.flat_core.specs.Digests.{six_words}
use Rattle.flat_core.specs.Tree.{number_at, entry_at}
use Rattle.flat_core.specs.Effects.{put_in, set_op, restate}
use Rattle.flat_core.specs.Sessions.{stream_page, payload_words, About, about, header_of, make_bundle, put_all, begin_session, set_mig_epoch, count_export, note_td_export, note_vp_export}
use Rattle.flat_core.specs.BundleRows.{export_immutable, page_to_export, latest_block, tracked_in, words_of_pages, export_page, export_each, export_pages, start_epoch, export_token, export_td, export_vp}
use Rattle.flat_core.specs.PageLists.{page_count, bundle_version, count_said, gpas_from}
use Rattle.flat_core.specs.Alike.{Alike, AreBlind}
use Rattle.flat_core.proofs.PageLists.{made_first}
use Rattle.flat_core.proofs.AlikeParts.{tds_alike, op_alike, vps_alike}

-- a private payload's words are all 0 to others
same_zeros : (f g : ℕ → ℕ) (xs : List ℕ) → map {B = ℕ} (λ x. 0) (map f xs) ≡ map {B = ℕ} (λ x. 0) (map g xs)
same_zeros f g [] = refl
same_zeros f g (x ∷ xs) = ap (λ (ys : List ℕ). 0 ∷ ys) (same_zeros f g xs)

-- a bundle that is made in both worlds, where others know the same words of its payload
abbrev made : World → (t slot : ℕ) → About → List ℕ → Made
made w t slot a payload = record { slot = slot; header = header_of w t a; payload = payload }

same_header : (v w : World) (t : ℕ) (a : About) → Alike v w → header_of v t a ≡ header_of w t a
same_header v w t a alike = rw (alike.tds, alike.streams) refl

same_public : (v w : World) (t slot : ℕ) (a : About) (xs ys : List ℕ) → Alike v w → blind_words (Ok (header_of v t a)) xs ≡ blind_words (Ok (header_of v t a)) ys
    → public_bundle (made v t slot a xs) ≡ public_bundle (made w t slot a ys)
same_public v w t slot a xs ys alike same =
    ap (λ (zs : List ℕ). record { slot = slot; header = header_of v t a; payload = zs }) same
    ∙ ap (λ (h : ClearHeader). public_bundle (record { slot = slot; header = h; payload = ys })) (same_header v w t a alike)

one_bundle_alike : (v w : World) (t slot : ℕ) (a : About) (xs ys : List ℕ) → Alike v w → blind_words (Ok (header_of v t a)) xs ≡ blind_words (Ok (header_of v t a)) ys
    → Alike (make_bundle t slot a xs v) (make_bundle t slot a ys w)
one_bundle_alike v w t slot a xs ys alike same = record {
  size = alike.size;
  pages = alike.pages;
  words = alike.words;
  tds = alike.tds;
  vps = alike.vps;
  streams =
      ap (λ (x : Streams). record x { counters = put x.counters (stream_page v t a.stream) (x.counters (stream_page v t a.stream) + 1) }) alike.streams
      ∙ ap (λ (x : Tds). record (w.streams) { counters = put w.streams.counters (get_or (x.streams t) a.stream 0) (w.streams.counters (get_or (x.streams t) a.stream 0) + 1) }) alike.tds;
  key_table = alike.key_table;
  told = alike.told;
  bundles =
      map-append public_bundle v.outgoing.bundles (made v t slot a xs ∷ [])
      ∙ (ap (λ (bs : List Made). bs ++ public_bundle (made v t slot a xs) ∷ []) alike.bundles
      ∙ (ap (λ (b : Made). map public_bundle w.outgoing.bundles ++ b ∷ []) (same_public v w t slot a xs ys alike same)
      ∙ sym (map-append public_bundle w.outgoing.bundles (made w t slot a ys ∷ []))));
}

bundle_alike : (v w : World) (t slot : ℕ) (a b : About) (xs ys : List ℕ) → a ≡ b → Alike v w → blind_words (Ok (header_of v t a)) xs ≡ blind_words (Ok (header_of v t a)) ys
    → Alike (make_bundle t slot a xs v) (make_bundle t slot b ys w)
bundle_alike v w t slot a b xs ys e alike same = subst (λ (c : About). Alike (make_bundle t slot a xs v) (make_bundle t slot c ys w)) e (one_bundle_alike v w t slot a xs ys alike same)

-- a session that begins
abbrev begun_tds : Tds → (t last : ℕ) → Tds
begun_tds x t last = record x {
  ops = put x.ops t op.LiveExport;
  sessions = put x.sessions t (last + 1);
  mig_epochs = put x.mig_epochs t 1;
  td_exported = put x.td_exported t 0;
  vps_exported = put x.vps_exported t 0;
  dirtied = put x.dirtied t 0;
  unrestored = put x.unrestored t 0;
}

abbrev begun_streams : Streams → List ℕ → Streams
begun_streams x ps = record { counters = put_all x.counters ps 0; cleaned = put_all x.cleaned ps 0; first_exports = put_all x.first_exports ps 0 }

begun_alike : (v w : World) (t : ℕ) → Alike v w → Alike (begin_session t v) (begin_session t w)
begun_alike v w t a = record {
  size = a.size;
  pages = a.pages;
  words = (op_alike v w a t op.LiveExport (λ h. cc)).words;
  tds = ap (λ (x : Tds). begun_tds x t v.key_table.last_exported) a.tds ∙ ap (λ (k : KeyTable). begun_tds w.tds t k.last_exported) a.key_table;
  vps = a.vps;
  streams = ap (λ (x : Streams). begun_streams x (v.tds.streams t)) a.streams ∙ ap (λ (x : Tds). begun_streams w.streams (x.streams t)) a.tds;
  key_table = ap (λ (k : KeyTable). record k { last_exported = k.last_exported + 1 }) a.key_table;
  told = a.told;
  bundles = a.bundles;
}

pub export_immutable-blind : (m : Machine) (t slot : ℕ) → AreBlind m (export_immutable m t slot) (export_immutable m t slot)
export_immutable-blind m t slot = record {
  enters = refl;
  items = λ v w a. rw (a.pages, a.tds, a.streams, a.key_table) refl;
  value = λ v w a. refl;
  cached = λ v w ts a. refl;
  act = λ v w lv lw a ps.
      bundle_alike (begin_session t v) (begin_session t w) t slot _ _ (six_words (v.tds.mrtds t)) (six_words (w.tds.mrtds t))
      (ap (λ (x : Tds). record (about 0 1) { info = length (x.vps t) }) a.tds) (begun_alike v w t a) (ap (λ (x : Tds). six_words (x.mrtds t)) a.tds);
}

-- an exported page that is counted
abbrev with_export : Streams → ℕ → EntryState → Streams
with_export x p s = record x {
  cleaned = if is_exported s then put x.cleaned p (x.cleaned p + 1) else x.cleaned;
  first_exports = if is_exported s then x.first_exports else put x.first_exports p (x.first_exports p + 1);
}

counted_alike : (v w : World) (t k : ℕ) (r s : EntryState) → r ≡ s → Alike v w → Alike (count_export t k r v) (count_export t k s w)
counted_alike v w t k r s e a = record {
  size = a.size;
  pages = a.pages;
  words = a.words;
  tds = a.tds;
  vps = a.vps;
  streams =
      ap (λ (x : Streams). with_export x (stream_page v t k) r) a.streams
      ∙ (ap (λ (x : Tds). with_export w.streams (get_or (x.streams t) k 0) r) a.tds ∙ ap (λ (z : EntryState). with_export w.streams (stream_page w t k) z) e);
  key_table = a.key_table;
  told = a.told;
  bundles = a.bundles;
}

-- each page that EXPORT.MEM asks for, and the latest of their blocks
latest_alike : (v w : World) (t : ℕ) (gpas : List ℕ) → Alike v w → latest_block v t gpas ≡ latest_block w t gpas
latest_alike v w t [] a = refl
latest_alike v w t (gpa ∷ []) a = rw (a.pages, a.tds) refl
latest_alike v w t (gpa ∷ next ∷ gpas) a = let rest = latest_alike v w t (next ∷ gpas) a in rw (rest, a.pages, a.tds) refl

tracked_alike : (o : OpState) (v w : World) (t : ℕ) (gpas : List ℕ) → Alike v w → tracked_in o v t gpas ≡ tracked_in o w t gpas
tracked_alike op.LiveExport v w t gpas a = let latest = latest_alike v w t gpas a in rw (latest, a.tds, a.vps) refl
tracked_alike _ v w t gpas a = refl

pages_alike : (v w : World) (t : ℕ) (gpas : List ℕ) → Alike v w → flat_map (page_to_export v t) gpas ≡ flat_map (page_to_export w t) gpas
pages_alike v w t [] a = refl
pages_alike v w t (gpa ∷ gpas) a = let rest = pages_alike v w t gpas a in rw (rest, a.tds) refl

-- a private payload's words are all 0 to others, page by page
zero_pages : (v w : World) (t : ℕ) (gpas : List ℕ) → map {B = ℕ} (λ x. 0) (words_of_pages v t gpas) ≡ map {B = ℕ} (λ x. 0) (words_of_pages w t gpas)
zero_pages v w t [] = refl
zero_pages v w t (gpa ∷ []) = same_zeros (v.words (entry_at v t 0 gpa).page) (w.words (entry_at w t 0 gpa).page) (range_with_len 0 512)
zero_pages v w t (gpa ∷ next ∷ gpas) =
    let xs : List ℕ = payload_words (v.words (entry_at v t 0 gpa).page) 512 in
    let ys : List ℕ = payload_words (w.words (entry_at w t 0 gpa).page) 512 in
    map-append (λ (x : ℕ). 0) xs (words_of_pages v t (next ∷ gpas))
    ∙ (ap (λ (zs : List ℕ). zs ++ map {B = ℕ} (λ x. 0) (words_of_pages v t (next ∷ gpas)))
    (same_zeros (v.words (entry_at v t 0 gpa).page) (w.words (entry_at w t 0 gpa).page) (range_with_len 0 512))
    ∙ (ap (λ (zs : List ℕ). map {B = ℕ} (λ x. 0) ys ++ zs) (zero_pages v w t (next ∷ gpas)) ∙ sym
    (map-append (λ (x : ℕ). 0) ys (words_of_pages w t (next ∷ gpas)))))

-- the entry of a page that is exported
abbrev with_entry : Tds → (t number : ℕ) → Tds
with_entry x t n = record x {
  entries = put x.entries t
      (put_in (x.entries t) 0 n (record { state = entry.ExportedBlockedW; page = (x.entries t 0 n).page; mark = x.mig_epochs t }));
}

each_alike : (t k : ℕ) (gpas : List ℕ) (v w : World) → Alike v w → Alike (export_each t k gpas v) (export_each t k gpas w)
each_alike t k [] v w a = a
each_alike t k (gpa ∷ gpas) v w a =
    let n : ℕ = number_at 0 gpa in
    let v1 : World = restate t n entry.ExportedBlockedW (v.tds.mig_epochs t) v in
    let w1 : World = restate t n entry.ExportedBlockedW (w.tds.mig_epochs t) w in
    let a1 : Alike v1 w1 = tds_alike v w a (λ x. with_entry x t n) (λ x. refl) in
    each_alike t k gpas (export_page t k gpa v) (export_page t k gpa w)
    (counted_alike v1 w1 t k (entry_at v t 0 gpa).state (entry_at w t 0 gpa).state (ap (λ (x : Tds). (x.entries t 0 n).state) a.tds) a1)

pub export_pages-blind : (m : Machine) (t gpa k slot : ℕ) (count : Option ℕ)
    → AreBlind m (export_pages m t gpa k slot count) (export_pages m t gpa k slot count)
export_pages-blind m t gpa k slot count = record {
  enters = refl;
  items = λ v w a.
      let gpas : List ℕ = gpas_from gpa (page_count count) in
      let tracked = tracked_alike (v.tds.ops t) v w t gpas a in
      let each = pages_alike v w t gpas a in
      rw (tracked, each, a.pages, a.tds, a.streams) refl;
  value = λ v w a. refl;
  cached = λ v w ts a. refl;
  act = λ v w lv lw a ps.
      let gpas : List ℕ = gpas_from gpa (page_count count) in
      each_alike t k gpas (made_first t gpa k slot count v) (made_first t gpa k slot count w)
      (bundle_alike v w t slot _ _ (words_of_pages v t gpas) (words_of_pages w t gpas)
      (ap (λ (x : Tds). record (about 3 (x.mig_epochs t)) { version = bundle_version count; stream = k; info = count_said count; gpa = gpa }) a.tds) a
      (zero_pages v w t gpas));
}

-- a token
token_items : (m : Machine) (v w : World) (t slot start : ℕ) → Alike v w → (export_token m t slot start).items v ≡ (export_token m t slot start).items w
token_items m v w t slot zero a = rw (a.pages, a.tds, a.streams) refl
token_items m v w t slot (suc n) a = rw (a.pages, a.tds, a.streams) refl

abbrev token_about : (kind epoch : ℕ) → Streams → List ℕ → About
token_about k e s ps = record (about k e) { total = sum_by s.counters ps }

token_alike : (m : Machine) (v w : World) (t slot start : ℕ) → Alike v w → Alike ((export_token m t slot start).act v) ((export_token m t slot start).act w)
token_alike m v w t slot zero a =
    bundle_alike (set_mig_epoch t (v.tds.mig_epochs t + 1) v) (set_mig_epoch t (w.tds.mig_epochs t + 1) w) t slot _ _ [] []
    (ap (λ (x : Tds). token_about 4 (x.mig_epochs t + 1) v.streams (x.streams t)) a.tds ∙ ap (λ (s : Streams). token_about 4 (w.tds.mig_epochs t + 1) s (w.tds.streams t)) a.streams)
    (tds_alike v w a (λ x. record x { mig_epochs = put x.mig_epochs t (x.mig_epochs t + 1) }) (λ x. refl)) refl
token_alike m v w t slot (suc n) a =
    let v1 : World = set_mig_epoch t start_epoch v in
    let w1 : World = set_mig_epoch t start_epoch w in
    let a1 : Alike v1 w1 = tds_alike v w a (λ x. record x { mig_epochs = put x.mig_epochs t start_epoch }) (λ x. refl) in
    bundle_alike (set_op t op.PostExport v1) (set_op t op.PostExport w1) t slot _ _ [] []
    (ap (λ (x : Tds). token_about 5 start_epoch v.streams (x.streams t)) a.tds ∙ ap (λ (s : Streams). token_about 5 start_epoch s (w.tds.streams t)) a.streams)
    (op_alike v1 w1 a1 t op.PostExport (λ h. cc)) refl

pub export_token-blind : (m : Machine) (t slot start : ℕ) → AreBlind m (export_token m t slot start) (export_token m t slot start)
export_token-blind m t slot start = record {
  enters = refl;
  items = λ v w a. token_items m v w t slot start a;
  value = λ v w a. refl;
  cached = λ v w ts a. refl;
  act = λ v w lv lw a ps. token_alike m v w t slot start a;
}

pub export_td-blind : (m : Machine) (t slot : ℕ) → AreBlind m (export_td m t slot) (export_td m t slot)
export_td-blind m t slot = record {
  enters = refl;
  items = λ v w a. rw (a.pages, a.tds, a.streams) refl;
  value = λ v w a. refl;
  cached = λ v w ts a. refl;
  act = λ v w lv lw a ps.
      bundle_alike (note_td_export t v) (note_td_export t w) t slot _ _ _ _
      (ap (λ (x : Tds). about 1 (x.mig_epochs t)) a.tds)
      (tds_alike v w a (λ x. record x { td_exported = put x.td_exported t 1 }) (λ x. refl))
      (same_zeros (v.hidden.rtmrs t) (w.hidden.rtmrs t) (range_with_len 0 24));
}

-- what tells of a virtual processor
abbrev vp_about : (vp epoch : ℕ) → Vps → About
vp_about vp e x = record (about 2 e) { index = x.indexes vp; info = x.positions vp % 2 ^ 32 }

pub export_vp-blind : (m : Machine) (t vp slot : ℕ) → AreBlind m (export_vp m t vp slot) (export_vp m t vp slot)
export_vp-blind m t vp slot = record {
  enters = refl;
  items = λ v w a. rw (a.pages, a.tds, a.vps, a.streams) refl;
  value = λ v w a. refl;
  cached = λ v w ts a. refl;
  act = λ v w lv lw a ps.
      let f : Tds → Tds = λ x. record x { vps_exported = put x.vps_exported t ((x.vps_exported t + 1) % 2 ^ 64) } in
      let v1 : World = record v { tds = f v.tds } in
      let w1 : World = record w { tds = f w.tds } in
      let a1 : Alike v1 w1 = tds_alike v w a f (λ x. refl) in
      bundle_alike (note_vp_export t vp v) (note_vp_export t vp w) t slot _ _ _ _
      (ap (λ (x : Tds). vp_about vp (x.mig_epochs t) v.vps) a.tds ∙ ap (λ (x : Vps). vp_about vp (w.tds.mig_epochs t) x) a.vps)
      (vps_alike v1 w1 a1 _ _
      (ap (λ (x : Vps). record x { exported = put x.exported vp (v.tds.sessions t) }) a.vps ∙ ap (λ (x : Tds). record (w.vps) { exported = put w.vps.exported vp (x.sessions t) }) a.tds))
      (same_zeros (v.hidden.registers vp) (w.hidden.registers vp) (range_with_len 0 8));
}
