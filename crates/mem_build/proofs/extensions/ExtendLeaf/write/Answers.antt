use Rattle.std.proofs.Common.{◌≡◌, ◌<◌, [], length, refl, sym, ◌∙◌, subst, arith}
use Rattle.leaf_engine.specs.Trees.{Tree, changes_left}
use Rattle.leaf_engine.specs.Decides.{HandsNext}
use Rattle.mem_build.specs.ExtendStages.{rest_of}
use Rattle.mem_build.proofs.ExtendSteps.{at-chunk, chunk-known, conditions-known, ends-hand, asks-none, conditions-none}
use Rattle.mem_build.proofs.extensions.ExtendLeaf.write.Goals as goal

pub returns-in-Some-clause-next : goal.returns-in-Some-clause-next
returns-in-Some-clause-next c =
    let l = c.args.self.now in
    let all : length l.words.items ≡ 32 = sym c.len.ensures.value ∙ c.if-len-eq-WORDS.true in
    subst (λ (t : Tree). HandsNext l.place.machine (changes_left t l.written) (changes_left t c.next_write.new.written) c.args.hasher.now c.next_write.new.hasher c.next_write.result)
    (sym (at-chunk l.place l.tdr l.gpa l.chunk l.told.items l.words.items c.in-Some.chunk c.in-Some.is))
    (ends-hand l.place.machine l.gpa c.in-Some.chunk.page c.in-Some.chunk.hkid l.words.items l.written c.next_write.new.written c.args.hasher.now c.next_write.new.hasher c.next_write.result all (rw c.as_slice.ensures.value at c.next_write.ensures.next))

pub returns-in_default-clause-next : goal.returns-in_default-clause-next
returns-in_default-clause-next c =
    let l = c.args.self.now in
    let known = chunk-known l.place l.tdr l.gpa l.chunk l.told.items l.words.items c.in-Some.chunk c.in-Some.is l.known in
    let few : length l.words.items < 32 = omega (arith, known.2, c.len.ensures.value, c.if-len-eq-WORDS.false) in
    let none : changes_left (rest_of l.place l.tdr l.gpa l.chunk l.told.items l.words.items) l.written ≡ [] =
    subst (λ (t : Tree). changes_left t l.written ≡ []) (sym (at-chunk l.place l.tdr l.gpa l.chunk l.told.items l.words.items c.in-Some.chunk c.in-Some.is))
    (asks-none l.place.machine l.gpa c.in-Some.chunk.page c.in-Some.chunk.hkid l.words.items l.written few) in
    (none, none, refl)

pub returns-in_default-2-clause-next : goal.returns-in_default-2-clause-next
returns-in_default-2-clause-next c =
    let l = c.args.self.now in
    let known = conditions-known l.place l.tdr l.gpa l.chunk l.told.items l.words.items c.in_default.is l.known in
    let none : changes_left (rest_of l.place l.tdr l.gpa l.chunk l.told.items l.words.items) l.written ≡ [] =
    conditions-none l.place l.tdr l.gpa l.chunk l.told.items l.words.items c.in_default.is l.written known.1 in
    (none, none, refl)
