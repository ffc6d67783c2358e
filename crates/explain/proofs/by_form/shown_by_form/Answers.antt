use Rattle.std.proofs.Common.{[], ◌<◌, List, length, map, sym, ap, ◌∙◌, subst}
use Rattle.std.proofs.lemmas.Option.{slice_get_within}
use Rattle.lemmas.proofs.Places.{slice_get_there}
use Rattle.facts.specs.Births.{reason}
use Rattle.normal_forms.specs.declared.forms.Form.{Form}
use Rattle.normalise.specs.Entries.{form_in}
use Rattle.normalise.specs.Listing.{Listing}
use Rattle.explain.proofs.Different.{born_of_different}
use Rattle.explain.proofs.Formless.{form_of_birth}
use Rattle.explain.proofs.Used.{used_of_none}
use Rattle.explain.proofs.by_form.shown_by_form.Goals as goal

pub returns-then-condition-eq-BY_DIFFERENT-clause-shown : goal.returns-then-condition-eq-BY_DIFFERENT-clause-shown
returns-then-condition-eq-BY_DIFFERENT-clause-shown g c =
    let s = c.args.basis.now.closed.now.saturation in
    let r = reason c.args.next.now.birth.now in
    let (f, at) = slice_get_there s.state.facts c.args.next.now.fact.0 c.requires.next.there in
    let twelve = sym c.condition-condition.ensures ∙ c.if-condition-eq-BY_DIFFERENT.true in
    let rests = (born_of_different c.args.basis.now.closed.now.ontology s c.well_formed-2.ensures.saturated c.args.next.now.fact.0 r c.requires.next.birth f at c.args.number c.requires.form twelve).rests in record {
      derivation = c.in_ok-numbers-3.ensures.derivation;
      longer = c.in_ok-numbers-3.ensures.longer;
      shown = c.in_ok-numbers-3.ensures.shown;
      used = used_of_none s c.args.next.now.shown.now c.args.next.now.fact.0 r c.requires.next.birth rests c.args.derivation.now c.shown_by_different.new.derivation [] c.in_ok-numbers-3.numbers.items c.in_ok-numbers-3.ensures.used;
    }

pub at-step-requires : goal.at-step-requires
at-step-requires g c =
    let s = c.args.basis.now.closed.now.saturation in
    let (f, at) = slice_get_there s.state.facts c.args.next.now.fact.0 c.requires.next.there in
    let is = c.condition-condition.ensures in
    let (form, at_form) = form_of_birth c.args.basis.now.closed.now.ontology s c.well_formed-2.ensures.saturated c.args.next.now.fact.0 (reason c.args.next.now.birth.now) c.requires.next.birth f at c.args.number c.requires.form
    (λ e. c.if-condition-eq-BY_DIFFERENT.false (is ∙ e), λ e. c.if-condition-eq-BY_DISJOINT.false (is ∙ e)) in
    subst (λ (fs : List Form). c.args.number < length fs) (c.well_formed-2.ensures.saturated.forms ∙ sym (c.forms.ensures ∙ ap (λ (v : Listing). map form_in v.entries) c.normal.ensures))
    (slice_get_within s.state.problem.forms c.args.number form at_form)
