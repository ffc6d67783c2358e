use Rattle.std.proofs.Common.{subst, sym}
use Rattle.std.specs.Prelude.{IfOk}
use Rattle.taxonomy.specs.declared.outcome.Outcome.TheVariants.{Inconsistent}
use Rattle.classification.specs.Findings.{IsOutcomeOf}
use Rattle.classification.proofs.classification.outcome.Goals as goal

pub returns-then-consistent : goal.returns-then-consistent
returns-then-consistent c = subst (λ b. IfOk c.relations.result (IsOutcomeOf c.args.closed.now.ontology b)) (sym c.if-consistent.true) c.relations.ensures

pub returns-else-consistent : goal.returns-else-consistent
returns-else-consistent c = subst (λ b. IsOutcomeOf c.args.closed.now.ontology b Inconsistent) (sym c.if-consistent.false) tt
