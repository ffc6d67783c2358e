use Rattle.std.proofs.Common.{◌≡◌, ◌∷◌, [], ℕ, Some, refl, sym, ap, ◌∙◌, subst, option_map, slice_get}
use Rattle.std.proofs.lemmas.Option.{same_Some}
use Rattle.cert_check.specs.Derivation.{IsDerivation, IsDerived}
use Rattle.certificate.specs.Certificate.{Line, Same}
use Rattle.certificate.specs.declared.line.Rule.TheVariants.{K17}
use Rattle.explain.proofs.SameLines.{linked_by_axiom, same_derived}
use Rattle.explain.proofs.Used.{used_by_line}
use Rattle.explain.proofs.Walking.{last_says}
use Rattle.explain.specs.SameLines.{SaysSame}
use Rattle.explain.specs.Uses.{IsAmong, Uses}
use Rattle.normalise.specs.Entries.{origin_in}
use Rattle.normalise.specs.Listing.{Listing}
use Rattle.explain.proofs.same.same_line.Goals as goal

pub unreachable-requires : goal.unreachable-requires
unreachable-requires g c =
    let (number, by) = linked_by_axiom c.args.basis.now.closed.now.ontology c.args.basis.now.closed.now.saturation c.well_formed-2.ensures.saturated c.args.form c.args.first c.args.second c.requires.linked in
    let found = c.axiom_of.ensures number (ap (λ (v : Listing). option_map origin_in (slice_get v.entries c.args.form)) c.normal.ensures ∙ by) in
    c.in_default-axiom_of.not-Some number found

pub keep_same-requires : goal.keep_same-requires
keep_same-requires g c = last_says c.args.derivation.now c.add.new.self _ c.in_ok-number.number c.in_ok-number.ensures.added c.in_ok-number.ensures.number

pub returns-clause-derivation : goal.returns-clause-derivation
returns-clause-derivation g c =
    let o = c.args.basis.now.closed.now.ontology in
    let s = c.args.basis.now.closed.now.saturation in
    let (number, by) = linked_by_axiom o s c.well_formed-2.ensures.saturated c.args.form c.args.first c.args.second c.requires.linked in
    let found = c.axiom_of.ensures number (ap (λ (v : Listing). option_map origin_in (slice_get v.entries c.args.form)) c.normal.ensures ∙ by) in
    let same : number ≡ c.in-Some-axiom_of.axiom = same_Some number c.in-Some-axiom_of.axiom (sym found ∙ c.in-Some-axiom_of.is) in
    let line : ℕ → Line = λ n. record { conclusion = Same c.args.first.0 c.args.second.0; rule = K17; axiom' = Some n; premises = [] } in
    let derived = same_derived o s c.well_formed-2.ensures.saturated c.well_formed-2.ensures.ontology c.args.form c.args.first c.args.second number c.requires.linked by c.args.derivation.now in
    subst (IsDerivation o) (sym c.keep_same.ensures)
    (c.in_ok-number.ensures.derivation o c.requires.derivation
    (subst (λ n. IsDerived o c.args.derivation.now (line n)) same derived))

pub returns-clause-says : goal.returns-clause-says
returns-clause-says g c = subst (λ lines. SaysSame lines c.in_ok-number.number c.args.first c.args.second) (sym c.keep_same.ensures)
    (last_says c.args.derivation.now c.add.new.self _ c.in_ok-number.number c.in_ok-number.ensures.added c.in_ok-number.ensures.number)

pub returns-clause-used : goal.returns-clause-used
returns-clause-used g c =
    let number = c.in_ok-number.number in
    subst (λ lines. Uses c.args.derivation.now lines (IsAmong []) (number ∷ [])) (sym c.keep_same.ensures)
    (used_by_line c.args.derivation.now c.add.new.self _ (number ∷ []) number c.in_ok-number.ensures.added c.in_ok-number.ensures.number refl)
