-- The laws of migrations, of calls with any COUNT.
use Rattle.mig_laws.specs.Lists.{ListsAreSent, ListsAreTaken}
use Rattle.mig_laws.proofs.Sent.{pages_source}
use Rattle.mig_laws.proofs.Paused.{sent_pauses}
use Rattle.mig_laws.proofs.States.{pages_states}
use Rattle.mig_laws.proofs.Started.{pages_starts}
use Rattle.mig_laws.proofs.WellRows.{sent_well}
use Rattle.mig_laws.proofs.ImportsKeep.{keeps_pages}
use Rattle.mig_laws.proofs.Once.{pages_spent, pages_never}

pub lists_are_sent : ListsAreSent
lists_are_sent o w t gpa k slot count l known h ps = record {
  source = pages_source o 0 w l known h.source t gpa k slot count ps;
  pauses = sent_pauses o 0 w l h.source h.pauses t gpa k slot count ps;
  states = pages_states o 0 w l h.source h.pauses h.states t gpa k slot count ps;
  starts = pages_starts o 0 w l h.source h.pauses h.states h.starts t gpa k slot count ps;
  well = sent_well o 0 w l h.source.ivs h.well t gpa k slot count ps;
}

pub lists_are_taken : ListsAreTaken
lists_are_taken = record {
  kept = λ source o w t slot page count well single unforged l h ps. keeps_pages source o well unforged t slot page count single w l h ps;
  spent = λ o w t slot page count l a ps. pages_spent o 0 w l t slot page count a ps;
  once = λ o w t slot page count l ps s. pages_never o 0 w l t slot page count ps s;
}
