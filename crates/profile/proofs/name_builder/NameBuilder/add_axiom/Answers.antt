use Rattle.axioms.specs.View.{axiom_of}
use Rattle.profile.proofs.Extending.{axiom_extends}
use Rattle.profile.proofs.name_builder.NameBuilder.add_axiom.Goals as goal

pub returns-clause-kept : goal.returns-clause-kept
returns-clause-kept c = rw (← c.self.view_is) (axiom_extends c.self.inside.builder c.add_axiom.new.self (axiom_of c.args.«axiom») c.add_axiom.result c.add_axiom.ensures.ok c.add_axiom.ensures.err)
