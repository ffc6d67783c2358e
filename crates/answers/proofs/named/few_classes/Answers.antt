use Rattle.std.proofs.Common.{◌≤◌, ◌^◌, length, subst, arith}
use Rattle.axioms.specs.Ontology.{Ontology}
use Rattle.answers.proofs.Lent.{same_ontology}
use Rattle.answers.proofs.named.few_classes.Goals as goal

pub returns : goal.returns
returns c =
    subst (λ (o : Ontology). length o.names.classes ≤ 2 ^ 32) (same_ontology c.ontology.ensures c.closed.ensures) (omega (arith, c.bounded.ensures.classes))
