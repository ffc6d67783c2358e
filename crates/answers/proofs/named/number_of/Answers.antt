use Rattle.std.proofs.Common.{◌≡◌, Contains, MatchOption, Some, slice_get, subst}
use Rattle.axioms.specs.Growth.{names_of}
use Rattle.axioms.specs.Ontology.{Ontology}
use Rattle.answers.proofs.Lent.{same_ontology}
use Rattle.answers.proofs.named.number_of.Goals as goal

pub returns : goal.returns
returns c =
    subst (λ (o : Ontology). MatchOption c.number_of.result (Contains (names_of o.names c.args.kind) c.args.name.now → ⊥) (λ n. slice_get (names_of o.names c.args.kind) n ≡ Some c.args.name.now))
    (same_ontology c.ontology.ensures c.closed.ensures) c.number_of.ensures
