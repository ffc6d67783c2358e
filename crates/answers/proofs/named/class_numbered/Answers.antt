use Rattle.std.proofs.Common.{ℕ, MatchOption, sym, subst}
use Rattle.axioms.specs.Ontology.{IsClassAt, Ontology}
use Rattle.axioms.specs.WellFormedness.{IsOntology}
use Rattle.answers.proofs.Lent.{same_ontology, whole_ontology}
use Rattle.answers.proofs.NamedThings.{class_there, one_there}
use Rattle.answers.proofs.named.class_numbered.Goals as goal

found : (c : goal.After-class_expr) → MatchOption c.class_expr.result ((e : ℕ) → IsClassAt c.args.indexed.now.ontology c.args.number e → ⊥) (λ e. IsClassAt c.args.indexed.now.ontology c.args.number e.0)
found c =
    let n = c.args.number in
    let w = subst IsOntology (sym c.ontology.ensures) c.well_formed-2.ensures.ontology in
    subst (λ (o : Ontology). MatchOption c.class_expr.result ((e : ℕ) → IsClassAt o n e → ⊥) (λ e. IsClassAt o n e.0))
    (same_ontology c.ontology.ensures c.closed-closed.ensures) (class_there c.ontology.result.now w n c.class_expr.result c.class_expr.ensures.found c.class_expr.ensures.only)

pub returns-clause-found : goal.returns-clause-found
returns-clause-found c = found c

pub returns-clause-only : goal.returns-clause-only
returns-clause-only c =
    let w = whole_ontology c.closed-closed.ensures c.well_formed-2.ensures.ontology in
    one_there c.args.indexed.now.ontology w c.args.number c.class_expr.result (found c)
