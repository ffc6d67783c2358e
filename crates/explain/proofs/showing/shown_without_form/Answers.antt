use Rattle.std.proofs.Common.{◌≡◌, ◌++◌, ◌∷◌, ◌∙◌, [], ℕ, List, None, map, slice_get, Some, ap, sym, subst}
use Rattle.std.proofs.lemmas.Option.{same_Some}
use Rattle.lemmas.proofs.Places.{slice_get_there}
use Rattle.certificate.specs.declared.line.Rule.{Rule}
use Rattle.facts.specs.Births.{reason}
use Rattle.facts.specs.declared.contexts.Fact.TheVariants.{In, Edge}
use Rattle.facts.specs.Closure.{nothing}
use Rattle.normalise.specs.Problem.{prefixes_of}
use Rattle.explain.specs.LinesOfFacts.{AreShowing}
use Rattle.explain.specs.Step.{LeadTo, subject_in}
use Rattle.explain.proofs.Formless.{is_carried, two_older, two_are_carried, some_end, walk_leads, carried_shown, carried_used, context_leads, rests_on_none}
use Rattle.explain.proofs.Used.{used_of_none}
use Rattle.explain.proofs.showing.shown_without_form.Given.{Over}
use Rattle.explain.proofs.showing.shown_without_form.Goals as goal

pub bounds-as_slice-0 : goal.bounds-as_slice-0
bounds-as_slice-0 g c =
    let s = c.args.basis.now.closed.now.saturation in
    let (f, at) = slice_get_there s.state.facts c.args.next.now.fact.0 c.requires.next.there in
    let eight = two_are_carried c.args.basis.now.closed.now.ontology s c.well_formed-2.ensures.saturated c.args.next.now.fact.0 (reason c.args.next.now.birth.now) c.requires.next.birth f at c.requires.form c.in-Two.edge.0 c.in-Two.class.0 (sym c.in-Two.ensures) in
    some_end c.args.basis.now.closed.now.ontology s c.well_formed-2.ensures.saturated c.args.next.now.fact.0 (reason c.args.next.now.birth.now) c.requires.next.birth f at eight c.args.derivation.now c.args.next.now.shown.now c.requires.next.older c.in-Two.edge.0 c.in-Two.class.0 (sym c.in-Two.ensures)
    c.as_slice.result.now (c.as_slice.ensures ∙ c.in_ok-ends-in-Two.ensures)

pub carried_back-requires-clause-walk : goal.carried_back-requires-clause-walk
carried_back-requires-clause-walk g c =
    let s = c.args.basis.now.closed.now.saturation in
    let (f, at) = slice_get_there s.state.facts c.args.next.now.fact.0 c.requires.next.there in
    let eight = two_are_carried c.args.basis.now.closed.now.ontology s c.well_formed-2.ensures.saturated c.args.next.now.fact.0 (reason c.args.next.now.birth.now) c.requires.next.birth f at c.requires.form c.in-Two.edge.0 c.in-Two.class.0 (sym c.in-Two.ensures) in
    let k = is_carried c.args.basis.now.closed.now.ontology s c.well_formed-2.ensures.saturated c.args.next.now.fact.0 (reason c.args.next.now.birth.now) c.requires.next.birth f at eight in (
      subject_in k.carries.source,
      walk_leads c.args.basis.now.closed.now.ontology s c.well_formed-2.ensures.saturated c.args.next.now.fact.0 (reason c.args.next.now.birth.now) c.requires.next.birth f at eight c.args.derivation.now c.args.next.now.shown.now c.requires.next.older c.in-Two.edge.0 c.in-Two.class.0 (sym c.in-Two.ensures)
          c.as_slice-in-Two.result.now c.as_slice.result.now (c.as_slice-in-Two.ensures ∙ c.in_ok-walk-in-Two.ensures) (c.as_slice.ensures ∙ c.in_ok-ends-in-Two.ensures),
    )

pub returns-in_ok-push-in-Two : goal.returns-in_ok-push-in-Two
returns-in_ok-push-in-Two g c =
    let o = c.args.basis.now.closed.now.ontology in
    let s = c.args.basis.now.closed.now.saturation in
    let r = reason c.args.next.now.birth.now in
    let two = sym c.in-Two.ensures in
    let (h, there) = slice_get_there s.state.facts c.args.next.now.fact.0 c.requires.next.there in
    let walk = c.as_slice-in-Two.ensures ∙ c.in_ok-walk-in-Two.ensures in
    let ends = c.as_slice.ensures ∙ c.in_ok-ends-in-Two.ensures in
    let numbers = c.in_ok-push-in-Two.ensures.ok ∙ ap (λ ns. ns ++ c.in_ok-number-in-Two.number ∷ []) c.new-numbers.ensures.items in
    let carried = two_are_carried o s c.well_formed-2.ensures.saturated c.args.next.now.fact.0 r c.requires.next.birth h there c.requires.form c.in-Two.edge.0 c.in-Two.class.0 two in record {
      derivation = c.in_ok-number-in-Two.ensures.derivation;
      longer = c.in_ok-number-in-Two.ensures.longer;
      shown = λ f at.
          let eight = two_are_carried o s c.well_formed-2.ensures.saturated c.args.next.now.fact.0 r c.requires.next.birth f at c.requires.form c.in-Two.edge.0 c.in-Two.class.0 two in
          let k = is_carried o s c.well_formed-2.ensures.saturated c.args.next.now.fact.0 r c.requires.next.birth f at eight in
          let leads = walk_leads o s c.well_formed-2.ensures.saturated c.args.next.now.fact.0 r c.requires.next.birth f at eight c.args.derivation.now c.args.next.now.shown.now c.requires.next.older c.in-Two.edge.0 c.in-Two.class.0 two
          c.as_slice-in-Two.result.now c.as_slice.result.now walk ends in
          carried_shown o s c.well_formed-2.ensures.saturated c.args.next.now.fact.0 r c.requires.next.birth f at eight c.args.derivation.now c.args.next.now.shown.now c.requires.next.older c.in-Two.edge.0 c.in-Two.class.0 two
          c.carried_back.new.derivation c.in_ok-number-in-Two.number c.push.new.self.items (c.in_ok-number-in-Two.ensures.shown (subject_in k.carries.source) leads) numbers;
      used = carried_used o s c.well_formed-2.ensures.saturated c.args.next.now.fact.0 r c.requires.next.birth h there carried c.args.derivation.now c.args.next.now.shown.now c.requires.next.older c.in-Two.edge.0 c.in-Two.class.0 two
          c.carried_back.new.derivation c.as_slice-in-Two.result.now c.as_slice.result.now c.in_ok-number-in-Two.number c.push.new.self.items walk ends numbers c.in_ok-number-in-Two.ensures.used;
    }

-- where two facts did not give it, nothing was carried
not_carried : (g : Over) (c : goal.In_ok-numbers-in_default g) → (reason c.args.next.now.birth.now).condition ≡ 8 → ⊥
not_carried g c eight =
    let s = c.args.basis.now.closed.now.saturation in
    let (f, at) = slice_get_there s.state.facts c.args.next.now.fact.0 c.requires.next.there in
    let k = is_carried c.args.basis.now.closed.now.ontology s c.well_formed-2.ensures.saturated c.args.next.now.fact.0 (reason c.args.next.now.birth.now) c.requires.next.birth f at eight in
    let (x, y, is) = two_older c.older.result s.state.facts (Edge k.carries.source k.carries.step k.carries.target) (In nothing k.carries.target) (ap (map (slice_get s.state.facts)) c.older.ensures ∙ k.at ∙ ap (map Some) k.carries.older_are) in
    c.in_default.not-Two x y is

leading : (g : Over) (c : goal.In_ok-numbers-in_default g) → LeadTo c.args.basis.now.closed.now.ontology (prefixes_of c.args.basis.now.closed.now.saturation.normal) c.args.derivation.now c.rule.result None c.new-none.result.items c.fact_of-fact.result
leading g c =
    let o = c.args.basis.now.closed.now.ontology in
    let s = c.args.basis.now.closed.now.saturation in
    let f = c.fact_of-fact.result in
    let to = context_leads o s c.well_formed-2.ensures.saturated c.args.next.now.fact.0 (reason c.args.next.now.birth.now) c.requires.next.birth f c.fact_of-fact.ensures c.well_formed-2.ensures.ontology c.requires.form (not_carried g c) c.args.derivation.now in
    subst (λ (ns : List ℕ). LeadTo o (prefixes_of s.normal) c.args.derivation.now c.rule.result None ns f) (sym c.new-none.ensures.items)
    (subst (λ (rule : Rule). LeadTo o (prefixes_of s.normal) c.args.derivation.now rule None [] f) (sym c.rule.ensures) to)

pub returns-in_ok-numbers-in_default : goal.returns-in_ok-numbers-in_default
returns-in_ok-numbers-in_default g c =
    let o = c.args.basis.now.closed.now.ontology in
    let s = c.args.basis.now.closed.now.saturation in
    let r = reason c.args.next.now.birth.now in
    let rests = rests_on_none o s c.well_formed-2.ensures.saturated c.args.next.now.fact.0 r c.requires.next.birth _ c.fact_of-fact.ensures c.requires.form (not_carried g c) in record {
      derivation = c.in_ok-numbers-in_default.ensures.derivation o (prefixes_of s.normal) c.requires.next.derivation (leading g c);
      longer = c.in_ok-numbers-in_default.ensures.longer;
      shown = λ f at. subst (AreShowing (prefixes_of s.normal) c.concluded.new.derivation c.in_ok-numbers-in_default.numbers.items) (same_Some c.fact_of-fact.result f (sym c.fact_of-fact.ensures ∙ at))
          (c.in_ok-numbers-in_default.ensures.shown o (prefixes_of s.normal) (leading g c));
      used = used_of_none s c.args.next.now.shown.now c.args.next.now.fact.0 r c.requires.next.birth rests c.args.derivation.now c.concluded.new.derivation c.new-none.result.items
          c.in_ok-numbers-in_default.numbers.items c.in_ok-numbers-in_default.ensures.used;
    }
