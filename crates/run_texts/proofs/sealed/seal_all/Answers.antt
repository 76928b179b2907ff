use Rattle.run_texts.proofs.sealed.seal_all.Goals as goal

pub returns : goal.returns
returns c = c.container_of.ensures c.args.keys.now.forward c.args.keys.now.backward (c.new.ensures, c.new-2.ensures)
