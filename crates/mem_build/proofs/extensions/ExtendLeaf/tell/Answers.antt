use Rattle.mem_build.proofs.ExtendSteps.{word-told, answer-told}
use Rattle.mem_build.proofs.extensions.ExtendLeaf.tell.Goals as goal

pub returns-in-Some-clause-rest : goal.returns-in-Some-clause-rest
returns-in-Some-clause-rest c = (let l = c.args.self.now in word-told l.place l.tdr l.gpa l.chunk l.told.items l.words.items c.in-Some.field-0 c.args.word c.push.new.self.items c.in-Some.is c.push.ensures.items)

pub returns-in-None-clause-rest : goal.returns-in-None-clause-rest
returns-in-None-clause-rest c = (let l = c.args.self.now in answer-told l.place l.tdr l.gpa l.chunk l.told.items l.words.items c.args.word c.push-in-None.new.self.items c.in-None.is c.push-in-None.ensures.items)
