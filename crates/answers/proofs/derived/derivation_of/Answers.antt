use Rattle.std.proofs.Common.{sym, subst}
use Rattle.axioms.specs.Ontology.{nothing}
use Rattle.answers.proofs.Lent.{whole_ontology}
use Rattle.answers.proofs.Explaining.{at_some, derives_with}
use Rattle.explain.specs.Needs.{Derives}
use Rattle.certificate.specs.Certificate.{Subject, Sub}
use Rattle.certificate.specs.View.{lines_of}
use Rattle.certificate.specs.View.{subject_of as subject_in}
use Rattle.closure.specs.Closure.{IsRoot}
use Rattle.closure.specs.Denotations.{context_of}
use Rattle.answers.proofs.derived.derivation_of.Goals as goal

pub lines_of-requires-2-clause-class : goal.lines_of-requires-2-clause-class
lines_of-requires-2-clause-class c = IsRoot.named _ nothing (whole_ontology c.closed-closed.ensures c.well_formed-2.ensures.ontology).nothing_node

pub returns-in_ok-with_class-in-Some-2 : goal.returns-in_ok-with_class-in-Some-2
returns-in_ok-with_class-in-Some-2 c =
    let o = c.args.indexed.now.ontology in
    let empty = at_some _ _ c.in_ok-lines-2.field-0 c.in-Some-2.lines c.in-Some-2.is c.in_ok-lines-2.ensures in
    derives_with o c.args.indexed.now.saturation.normal.asked (whole_ontology c.closed-closed.ensures c.well_formed-2.ensures.ontology) (context_of c.args.subject) c.args.class.0 c.in-Some-2.lines.items (lines_of c.in_ok-with_class-in-Some-2.field-0.items)
    (subject_in c.subject_of.result) c.subject_of.ensures c.requires.subject c.requires.class
    (subst (λ (z : Subject). Derives o (Sub z nothing) (lines_of c.in-Some-2.lines.items)) (sym c.subject_of.ensures) empty)
    c.in_ok-with_class-in-Some-2.ensures
