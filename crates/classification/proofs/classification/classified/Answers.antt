use Rattle.axioms.specs.Ontology.{Ontology}
use Rattle.axioms.specs.WellFormedness.{IsOntology}
use Rattle.cert_check.proofs.Headline.{acceptable_says}
use Rattle.cert_check.specs.Acceptance.{AreRight, IsAcceptable}
use Rattle.std.specs.Prelude.{ℕ, List}
use Rattle.classification.proofs.Counting.{counts_of}
use Rattle.classification.proofs.Following.{consistent_where}
use Rattle.classification.proofs.Shown.{acceptable}
use Rattle.classification.proofs.classification.classified.Goals as goal

pub returns-clause-counts : goal.returns-clause-counts
returns-clause-counts c =
    let o = c.args.closed.now.ontology in
    let s = c.args.closed.now.saturation in
    let w = c.well_formed-2.ensures in
    let consistent = c.has_no_contradiction-consistent in
    let counted = c.counted.ensures in
    counts_of o s c.counted.result consistent.result w.saturated c.requires.unasked counted.consistent counted.classes counted.individuals counted.facts
    (consistent_where o w.ontology s w.saturated consistent.result consistent.ensures)

pub returns-clause-facts : goal.returns-clause-facts
returns-clause-facts c = c.counted.ensures.facts

pub returns-clause-texts : goal.returns-clause-texts
returns-clause-texts c = rw (c.counted.ensures.consistent) c.in_ok-taxonomy.ensures

pub returns-clause-acceptable : goal.returns-clause-acceptable
returns-clause-acceptable c =
    let made = c.in_ok-certificate.ensures in
    acceptable c.args.closed.now.ontology c.well_formed-2.ensures.ontology c.has_no_contradiction-consistent.result made.certificate _ _ _ (c.args.format, made.text_of) made.derivation made.shown c.in_ok-taxonomy.ensures

-- acceptable texts are right
right_where_acceptable : (o : Ontology) → IsOntology o → (taxonomy instances text : List ℕ) → IsAcceptable o taxonomy instances text → AreRight o taxonomy instances text
right_where_acceptable o w taxonomy instances text a =
    record { certificate = a.certificate; text_is = a.text_is; derivation = a.derivation; says = acceptable_says o w taxonomy instances text a }

pub returns-clause-right : goal.returns-clause-right
returns-clause-right c =
    let made = c.in_ok-certificate.ensures in
    right_where_acceptable c.args.closed.now.ontology c.well_formed-2.ensures.ontology _ _ _
    (acceptable c.args.closed.now.ontology c.well_formed-2.ensures.ontology c.has_no_contradiction-consistent.result made.certificate _ _ _ (c.args.format, made.text_of) made.derivation made.shown c.in_ok-taxonomy.ensures)

pub returns-clause-written : goal.returns-clause-written
returns-clause-written c = (c.in_ok-certificate.ensures.certificate, c.in_ok-certificate.ensures.text_of)
