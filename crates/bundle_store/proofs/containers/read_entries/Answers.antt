use Rattle.std.proofs.Common.{◌≡◌, ◌∙◌, ◌+◌, ◌-◌, ℕ, suc, List, [], ◌∷◌, ◌++◌, length, take, drop, sym, ap, arith}
use Rattle.std.proofs.lemmas.Bool.{eqb-true, eqb-false}
use Rattle.std.proofs.lemmas.List.{take_rest, length-drop}
use Rattle.td_words.specs.Seen.{BundleSeen}
use Rattle.bundle_store.specs.Containers.{entry_in}
use Rattle.bundle_store.proofs.Steps.{first_so_far, end_of, bad_of, good_of, some_of}
use Rattle.bundle_store.proofs.containers.read_entries.Goals as goal

pub each-init : goal.each-init
each-init c =
    let bs : List ℕ = c.args.bytes.now in
    let long : length (take (length bs - 8) (drop 8 bs)) ≡ length bs - 8 = ap length (take_rest bs 8) ∙ length-drop 8 bs in
    record {
      so_far = first_so_far bs (length bs - 0) c.new-bundles.result.items (omega arith) c.new-bundles.ensures.items;
      room = omega (arith, long, c.requires);
      low = omega arith;
    }

pub returns-then-is_empty : goal.returns-then-is_empty
returns-then-is_empty c =
    end_of (length c.args.bytes.now) (length c.args.bytes.now - c.each._turn) c.each.bundles.items c.each.least c.each.rest.now _
    (omega (arith, c.each-test.true)) (eqb-true (length c.each.rest.now) 0 (sym c.is_empty.ensures ∙ c.if-is_empty.true)) c.each.invariant.so_far

pub returns-in_default : goal.returns-in_default
returns-in_default c =
    bad_of (length c.args.bytes.now) (length c.args.bytes.now - c.each._turn) c.each.bundles.items c.each.least c.each.rest.now _
    (omega (arith, c.each-test.true)) (some_of (length c.each.rest.now) (eqb-false (length c.each.rest.now) 0 (sym c.is_empty.ensures ∙ c.if-is_empty.false))) c.in_default.ensures.is_one c.each.invariant.so_far

pub each-preserved : goal.each-preserved
each-preserved c =
    let parts = c.in-Some.ensures.parts in
    let room = c.in-Some.ensures.room in
    let next : length c.args.bytes.now - c.each._turn ≡ suc (length c.args.bytes.now - (c.each._turn + 1)) = omega (arith, c.each-test.true) in
    let made : BundleSeen = record { slot = c.in-Some.slot; bytes = c.in_ok-copy_of.field-0.items } in
    let bytes = c.in_ok-copy_of.ensures ∙ parts.1 in
    let entry : made ≡ entry_in c.each.rest.now = λ j. record { slot = parts.0 j; bytes = bytes j } in
    record {
      so_far = good_of (length c.args.bytes.now) (length c.args.bytes.now - c.each._turn) (length c.args.bytes.now - (c.each._turn + 1))
          c.each.bundles.items c.push.new.self.items c.each.least c.in-Some.slot c.each.rest.now c.in-Some.more.now _
          next (omega (arith, room.0)) c.in-Some.ensures.is_one
          (c.in_ok-push.ensures.items ∙ ap (λ (b : BundleSeen). c.each.bundles.items ++ b ∷ []) entry) parts.0 parts.2 c.each.invariant.so_far;
      room = omega (arith, room.0, c.each.invariant.room);
      low = omega (arith, room.1);
    }
