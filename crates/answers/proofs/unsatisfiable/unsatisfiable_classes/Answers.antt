use Rattle.std.proofs.Common.{◌∙◌, sym}
use Rattle.axioms.specs.Ontology.{nothing}
use Rattle.closure.specs.Closure.{IsRoot}
use Rattle.answers.specs.Entailment.{IsUnsatisfiable}
use Rattle.answers.proofs.Lent.{whole_ontology}
use Rattle.answers.proofs.Naming.{those_marked}
use Rattle.answers.proofs.Unsatisfying.{unsatisfiable_are}
use Rattle.answers.proofs.unsatisfiable.unsatisfiable_classes.Goals as goal

pub marks_of-requires : goal.marks_of-requires
marks_of-requires c = record { root = IsRoot.named 1 nothing (whole_ontology c.closed.ensures c.well_formed-2.ensures.ontology).nothing_node }

pub minus-requires : goal.minus-requires
minus-requires c = c.in_ok-empty.ensures.long ∙ sym c.in_ok-nothing.ensures.long

pub returns : goal.returns
returns c =
    let o = c.args.indexed.now.ontology in
    let w = whole_ontology c.closed.ensures c.well_formed-2.ensures.ontology in
    let are = unsatisfiable_are o w c.in_ok-empty.empty c.in_ok-nothing.nothing c.minus.new.self c.in_ok-empty.ensures c.in_ok-nothing.ensures c.minus.ensures.len c.minus.ensures.members in
    those_marked o.names.classes (IsUnsatisfiable o) c.minus.new.self are _ c.in_ok-names.ensures
