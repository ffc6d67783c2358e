use Rattle.std.proofs.Common.{IfOk, subst, sym}
use Rattle.answers.specs.Explanations.{IsClassNamed}
use Rattle.answers.specs.Names.{groups_in}
use Rattle.answers.specs.Questions.{AreBeside}
use Rattle.axioms.specs.Expression.{Iri}
use Rattle.program.specs.declared.question.Side.{Side}
use Rattle.answers.proofs.asking.groups_beside.Goals as goal

pub returns-in-Above : goal.returns-in-Above
returns-in-Above c =
    let o = c.args.indexed.now.ontology in
    subst (λ (s : Side). IfOk c.directly_above.result (λ v. (name : Iri) → IsClassNamed o name c.args.class.0 → AreBeside o s name (groups_in v.items))) (sym c.in-Above.is) c.directly_above.ensures

pub returns-in-Below : goal.returns-in-Below
returns-in-Below c =
    let o = c.args.indexed.now.ontology in
    subst (λ (s : Side). IfOk c.directly_below.result (λ v. (name : Iri) → IsClassNamed o name c.args.class.0 → AreBeside o s name (groups_in v.items))) (sym c.in-Below.is) c.directly_below.ensures
