use Rattle.std.proofs.Common.{◌≡◌, ℕ, Some, sym, subst}
use Rattle.axioms.specs.declared.ids.PropId.{PropId}
use Rattle.certificate.specs.declared.line.Rule.TheVariants.{K12}
use Rattle.explain.specs.LiftedEdges.{GivesStep, LiftsEdgeTo}
use Rattle.explain.specs.LinesOfFacts.{AreShowing}
use Rattle.explain.specs.Step.{LeadTo}
use Rattle.explain.proofs.LiftedEdges.{edge_leads, given_step, one_step}
use Rattle.facts.specs.declared.contexts.Fact.TheVariants.{Edge}
use Rattle.normal_forms.specs.declared.forms.PropId2.TheVariants.{Property}
use Rattle.normalise.specs.Listing.{Listing}
use Rattle.normalise.specs.Problem.{prefixes_of}
use Rattle.explain.proofs.lifting.lifted_by.Given.{Over}
use Rattle.explain.proofs.lifting.lifted_by.Goals as goal

pub unreachable-requires : goal.unreachable-requires
unreachable-requires g c =
    let (r, s, leads) = c.requires.leads in
    let given = given_step c.args.basis.now.closed.now.ontology c.args.basis.now.closed.now.saturation c.args.form r s c.well_formed-2.ensures.saturated leads.leads in
    c.in_default.ensures r s given.0 (subst (λ (v : Listing). GivesStep v c.args.form r s given.0) (sym c.normal.ensures) given.1)

-- the axiom that was found gave the form, and the property that was found is the one above
leads_to : (g : Over) (c : goal.In_ok-shown g) (r s : PropId) → LiftsEdgeTo c.args.basis.now.closed.now.saturation c.args.derivation.now c.args.numbers.items c.args.ends.source c.args.ends.target c.args.form r s
    → LeadTo c.args.basis.now.closed.now.ontology (prefixes_of c.args.basis.now.closed.now.saturation.normal) c.args.derivation.now K12 (Some c.in-Some.axiom) c.args.numbers.items (Edge c.args.ends.source (Property c.in-Some.above) c.args.ends.target) × (c.in-Some.above ≡ s)
leads_to g c r s leads =
    let o = c.args.basis.now.closed.now.ontology in
    let t = c.args.basis.now.closed.now.saturation in
    let given = given_step o t c.args.form r s c.well_formed-2.ensures.saturated leads.leads in
    let found = subst (λ (v : Listing). GivesStep v c.args.form c.in-Some.ensures.0 c.in-Some.above c.in-Some.axiom) c.normal.ensures c.in-Some.ensures.1 in
    let same = one_step o t c.args.form c.in-Some.ensures.0 c.in-Some.above r s c.in-Some.axiom given.0 found given.1 in
    let up = edge_leads o t c.args.derivation.now c.args.numbers.items c.args.ends.source c.args.ends.target r s given.0 c.well_formed-2.ensures.ontology c.requires.derivation leads.shown given.2 in (
      subst (λ (q : PropId). LeadTo o (prefixes_of t.normal) c.args.derivation.now K12 (Some c.in-Some.axiom) c.args.numbers.items (Edge c.args.ends.source (Property q) c.args.ends.target)) (sym same.1)
          (subst (λ (n : ℕ). LeadTo o (prefixes_of t.normal) c.args.derivation.now K12 (Some n) c.args.numbers.items (Edge c.args.ends.source (Property s) c.args.ends.target)) (sym same.2) up),
      same.1,
    )

pub returns-clause-derivation : goal.returns-clause-derivation
returns-clause-derivation g c =
    let (r, s, leads) = c.requires.leads in
    c.in_ok-shown.ensures.derivation c.args.basis.now.closed.now.ontology (prefixes_of c.args.basis.now.closed.now.saturation.normal) c.requires.derivation (leads_to g c r s leads).0

pub returns-clause-shown : goal.returns-clause-shown
returns-clause-shown g c r s leads =
    let p = leads_to g c r s leads in
    subst (λ (q : PropId). AreShowing (prefixes_of c.args.basis.now.closed.now.saturation.normal) c.concluded.new.derivation c.in_ok-shown.shown.items (Edge c.args.ends.source (Property q) c.args.ends.target)) p.1
    (c.in_ok-shown.ensures.shown c.args.basis.now.closed.now.ontology (prefixes_of c.args.basis.now.closed.now.saturation.normal) p.0)
