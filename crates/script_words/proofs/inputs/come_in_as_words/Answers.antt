use Rattle.script_words.proofs.Arrived.{arrive_as_words}
use Rattle.script_words.proofs.inputs.come_in_as_words.Goals as goal

pub returns : goal.returns
returns c = arrive_as_words c.args.secrets.now c.args.bundles.now c.args.sealed.now c.are_words.ensures c.come_in.ensures
