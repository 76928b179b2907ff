use Rattle.std.proofs.Common.{◌≡◌, ◌<◌, length, sym, ◌∙◌, subst, arith, Ok, Err}
use Rattle.td_words.specs.declared.replies.Value.TheVariants as value
use Rattle.td_words.specs.declared.replies.Reply.TheVariants.{Done}
use Rattle.leaf_engine.specs.declared.needs.Need.TheVariants as need
use Rattle.leaf_engine.specs.Trees.{Tree, settle, passed}
use Rattle.leaf_engine.specs.Decides.{Wants, Decides}
use Rattle.mem_build.specs.ExtendTrees.{extend_tree, ComesTo}
use Rattle.mem_build.proofs.ExtendSteps.{at-chunk, chunk-known, asks-gives, asks-kept, ends-gives, ends-kept, found-gives, found-kept, stop-gives, stop-then}
use Rattle.mem_build.proofs.extensions.ExtendLeaf.need.Goals as goal

pub returns-then-number-eq-WORDS-clause-gives : goal.returns-then-number-eq-WORDS-clause-gives
returns-then-number-eq-WORDS-clause-gives c =
    let l = c.args.self.now in
    let all : length l.words.items ≡ 32 = sym c.len-number.ensures.value ∙ c.if-number-eq-WORDS.true in
    subst (λ (t : Tree). Wants l.place.machine.pages (settle t) (need.Verdict (Done value.Nothing))) (sym (at-chunk l.place l.tdr l.gpa l.chunk l.told.items l.words.items c.in-Some.chunk c.in-Some.is))
    (ends-gives l.place.machine l.gpa c.in-Some.chunk.page c.in-Some.chunk.hkid l.words.items l.place.machine.pages all)

pub returns-then-number-eq-WORDS-clause-rest : goal.returns-then-number-eq-WORDS-clause-rest
returns-then-number-eq-WORDS-clause-rest c =
    let l = c.args.self.now in
    let all : length l.words.items ≡ 32 = sym c.len-number.ensures.value ∙ c.if-number-eq-WORDS.true in
    subst (λ (t : Tree). t ≡ passed (settle t)) (sym (at-chunk l.place l.tdr l.gpa l.chunk l.told.items l.words.items c.in-Some.chunk c.in-Some.is))
    (ends-kept l.place.machine l.gpa c.in-Some.chunk.page c.in-Some.chunk.hkid l.words.items all)

pub returns-else-number-eq-WORDS-clause-gives : goal.returns-else-number-eq-WORDS-clause-gives
returns-else-number-eq-WORDS-clause-gives c =
    let l = c.args.self.now in
    let known = chunk-known l.place l.tdr l.gpa l.chunk l.told.items l.words.items c.in-Some.chunk c.in-Some.is l.known in
    let few : length l.words.items < 32 = omega (arith, known.2, c.len-number.ensures.value, c.if-number-eq-WORDS.false) in
    subst (λ (t : Tree). Wants l.place.machine.pages (settle t) (need.Load c.word_at.result)) (sym (at-chunk l.place l.tdr l.gpa l.chunk l.told.items l.words.items c.in-Some.chunk c.in-Some.is))
    (asks-gives l.place.machine l.gpa c.in-Some.chunk.page c.in-Some.chunk.hkid l.words.items l.place.machine.pages c.word_at.result few (rw c.len-number.ensures.value at c.word_at.ensures))

pub returns-else-number-eq-WORDS-clause-rest : goal.returns-else-number-eq-WORDS-clause-rest
returns-else-number-eq-WORDS-clause-rest c =
    let l = c.args.self.now in
    let known = chunk-known l.place l.tdr l.gpa l.chunk l.told.items l.words.items c.in-Some.chunk c.in-Some.is l.known in
    let few : length l.words.items < 32 = omega (arith, known.2, c.len-number.ensures.value, c.if-number-eq-WORDS.false) in
    subst (λ (t : Tree). t ≡ passed (settle t)) (sym (at-chunk l.place l.tdr l.gpa l.chunk l.told.items l.words.items c.in-Some.chunk c.in-Some.is))
    (asks-kept l.place.machine l.gpa c.in-Some.chunk.page c.in-Some.chunk.hkid l.words.items few)

pub returns-in-Ok-clause-gives : goal.returns-in-Ok-clause-gives
returns-in-Ok-clause-gives c =
    let l = c.args.self.now in
    let comes : ComesTo l.place l.tdr l.gpa l.told.items c.to_extend.new.told.left.now (Ok c.in-Ok.chunk) = rw (sym c.as_slice.ensures.value) c.in-Ok.ensures.comes in
    found-gives l.place l.tdr l.gpa l.chunk l.told.items l.words.items c.in-None.is c.in-Ok.chunk c.to_extend.new.told.left.now l.known comes (rw (sym c.as_slice.ensures.value) c.in-Ok.ensures.uses) c.word_at-in-Ok.result c.word_at-in-Ok.ensures

pub returns-in-Ok-clause-rest : goal.returns-in-Ok-clause-rest
returns-in-Ok-clause-rest c =
    let l = c.args.self.now in
    let comes : ComesTo l.place l.tdr l.gpa l.told.items c.to_extend.new.told.left.now (Ok c.in-Ok.chunk) = rw (sym c.as_slice.ensures.value) c.in-Ok.ensures.comes in
    found-kept l.place l.tdr l.gpa l.chunk l.told.items l.words.items c.in-None.is c.in-Ok.chunk c.to_extend.new.told.left.now l.known comes (rw (sym c.as_slice.ensures.value) c.in-Ok.ensures.uses)

pub returns-in-Err-clause-gives : goal.returns-in-Err-clause-gives
returns-in-Err-clause-gives c =
    let l = c.args.self.now in
    let d : Decides l.place.machine.pages (extend_tree l.place.machine l.tdr l.gpa) l.told.items (Err c.in-Err.stop) = rw (sym c.as_slice.ensures.value) c.in-Err.ensures.comes in
    rw c.need_at.ensures.need (stop-gives l.place l.tdr l.gpa l.chunk l.told.items l.words.items c.in-None.is c.in-Err.stop d)

pub returns-in-Err-clause-rest : goal.returns-in-Err-clause-rest
returns-in-Err-clause-rest c =
    let l = c.args.self.now in
    let d : Decides l.place.machine.pages (extend_tree l.place.machine l.tdr l.gpa) l.told.items (Err c.in-Err.stop) = rw (sym c.as_slice.ensures.value) c.in-Err.ensures.comes in
    stop-then l.place l.tdr l.gpa l.chunk l.told.items l.words.items c.in-None.is c.in-Err.stop c.need_at.new.told.items d c.need_at.ensures.told
