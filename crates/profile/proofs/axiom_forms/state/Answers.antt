use Rattle.axioms.specs.View.{axiom_of}
use Rattle.profile.proofs.AxiomReading.{state_answer}
use Rattle.profile.proofs.axiom_forms.state.Goals as goal

pub returns-in-Ok-clause-read : goal.returns-in-Ok-clause-read
returns-in-Ok-clause-read c = state_answer c.args.builder.now c.add_axiom.new.self (axiom_of c.args.«axiom») c.well_formed-2.ensures c.in-Ok.ensures.ok
