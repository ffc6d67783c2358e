use Rattle.certificate.specs.View.{lines_of}
use Rattle.closure.specs.Denotations.{context_of}
use Rattle.answers.proofs.Lent.{whole_ontology, whole_saturation}
use Rattle.answers.proofs.Explaining.{at_some, at_none, is_satisfiable, yes_explains}
use Rattle.answers.proofs.Refuting.{refutes}
use Rattle.answers.proofs.answering.explanation_where_consistent.Goals as goal

pub part_for-requires-clause-satisfiable : goal.part_for-requires-clause-satisfiable
part_for-requires-clause-satisfiable c =
    is_satisfiable c.args.indexed.now.ontology c.args.indexed.now.saturation.normal.asked (context_of c.args.subject) c.args.class.0 c.requires.subject (at_none _ _ c.in_ok-lines.field-0 c.in-None.is c.in_ok-lines.ensures)

pub returns-in-Some : goal.returns-in-Some
returns-in-Some c =
    let w = whole_ontology c.closed-closed.ensures c.well_formed-2.ensures.ontology in
    let h = whole_saturation c.closed-closed.ensures c.well_formed-2.ensures.saturated in
    yes_explains c.args.indexed.now.ontology w c.args.indexed.now.saturation h c.requires.consistent (context_of c.args.subject) c.args.class.0 (lines_of c.in-Some.lines.items)
    (at_some _ _ c.in_ok-lines.field-0 c.in-Some.lines c.in-Some.is c.in_ok-lines.ensures)

pub returns-in_ok-part-in-None : goal.returns-in_ok-part-in-None
returns-in_ok-part-in-None c = λ asked name about named.
    let w = whole_ontology c.closed-closed.ensures c.well_formed-2.ensures.ontology in
    refutes c.args.indexed.now.ontology c.args.indexed.now.saturation.normal.asked w (context_of c.args.subject) c.in_ok-part-in-None.part c.in_ok-part-in-None.element c.well_formed-in-None.ensures c.in_ok-part-in-None.ensures
    c.requires.unasked asked about name c.args.class.0 named (at_none _ _ c.in_ok-lines.field-0 c.in-None.is c.in_ok-lines.ensures)
