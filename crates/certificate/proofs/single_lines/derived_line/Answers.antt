use Rattle.std.proofs.Common.{sym, refl}
use Rattle.std.proofs.lemmas.Bool.{false≢true}
use Rattle.certificate.specs.View.{conclusion_of}
use Rattle.certificate.proofs.DerivedLines.{no_front, no_conclusion, no_axiom, no_premises, no_end, is_line}
use Rattle.certificate.proofs.single_lines.derived_line.Goals as goal

pub returns-in_default : goal.returns-in_default
returns-in_default c = no_front c.args.ontology.now c.args.format c.args.number c.args.bytes.now (sym c.in_default.ensures)

pub returns-then-not-fits_conclusion : goal.returns-then-not-fits_conclusion
returns-then-not-fits_conclusion c =
    no_conclusion c.args.ontology.now c.args.format c.args.number c.args.bytes.now (conclusion_of c.in-Some.conclusion, (c.in-Some.rule, c.in-Some.axiom)) c.in-Some.rest.now (sym c.in-Some.ensures) (sym c.if-not-fits_conclusion.ensures)

pub returns-then-not-fits_axiom : goal.returns-then-not-fits_axiom
returns-then-not-fits_axiom c =
    no_axiom c.args.ontology.now c.args.format c.args.number c.args.bytes.now (conclusion_of c.in-Some.conclusion, (c.in-Some.rule, c.in-Some.axiom)) c.in-Some.rest.now (sym c.in-Some.ensures) (sym c.if-not-fits_axiom.ensures)

pub returns-then-not-fit : goal.returns-then-not-fit
returns-then-not-fit c =
    no_premises c.args.ontology.now c.args.format c.args.number c.args.bytes.now (conclusion_of c.in-Some.conclusion, (c.in-Some.rule, c.in-Some.axiom)) c.in-Some.rest.now c.args.most_premises
    c.in_ok-premises.premises.items c.in_ok-premises.fit c.in_ok-premises.rest.now (sym c.in-Some.ensures) c.in_ok-premises.ensures c.if-not-fit.true

pub returns-then-not-is_line_feed : goal.returns-then-not-is_line_feed
returns-then-not-is_line_feed c =
    no_end c.args.ontology.now c.args.format c.args.number c.args.bytes.now (conclusion_of c.in-Some.conclusion, (c.in-Some.rule, c.in-Some.axiom)) c.in-Some.rest.now c.args.most_premises
    c.in_ok-premises.premises.items c.in_ok-premises.fit c.in_ok-premises.rest.now (sym c.in-Some.ensures) c.in_ok-premises.ensures (λ e. false≢true (c.if-not-is_line_feed.ensures.1 e))

pub returns : goal.returns
returns c =
    is_line c.args.ontology.now c.args.format c.args.number c.args.bytes.now (conclusion_of c.in-Some.conclusion, (c.in-Some.rule, c.in-Some.axiom)) c.in-Some.rest.now c.args.most_premises
    c.in_ok-premises.premises.items c.in_ok-premises.fit c.in_ok-premises.rest.now (sym c.in-Some.ensures) (sym c.if-not-fits_conclusion.ensures) (sym c.if-not-fits_axiom.ensures)
    c.in_ok-premises.ensures c.if-not-fit.false (c.if-not-is_line_feed.ensures.0 refl)
