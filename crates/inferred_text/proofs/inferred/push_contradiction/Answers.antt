use Rattle.std.proofs.Common.{◌≡◌, ◌++◌, ℕ, List, OnOk, ap₂, subst}
use Rattle.axioms.specs.Axiom.{SubClassOf}
use Rattle.axioms.specs.Expression.{owl_nothing, owl_thing}
use Rattle.axioms.specs.Numbering.{States}
use Rattle.axioms.proofs.Trees.{class_named}
use Rattle.statements_text.specs.Texts.{statement_line}
use Rattle.inferred_text.proofs.inferred.push_contradiction.Goals as goal

pub returns : goal.returns
returns c =
    let o = c.args.ontology.now in
    let formed = c.well_formed-2.ensures in
    let said =
    ap₂ (λ d e. c.args.out.now.items ++ statement_line (States (SubClassOf d e)))
    (class_named o 0 0 owl_thing formed.thing_node formed.thing_name) (class_named o 1 1 owl_nothing formed.nothing_node formed.nothing_name) in
    subst (λ (t : List ℕ). OnOk c.push_axiom.result (c.push_axiom.new.out.items ≡ t)) said c.push_axiom.ensures
