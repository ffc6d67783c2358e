use Rattle.std.proofs.Common.{map, option_map, slice_get, Contains, sym, ap, ap₂, ◌∙◌, subst}
use Rattle.std.proofs.lemmas.Option.{same_Some}
use Rattle.lemmas.proofs.Places.{slice_get_there}
use Rattle.axioms.specs.Ontology.{Ontology}
use Rattle.facts.specs.Births.{reason}
use Rattle.normalise.specs.Entries.{origin_in}
use Rattle.normalise.specs.Listing.{Listing}
use Rattle.normalise.specs.Problem.{prefixes_of}
use Rattle.explain.specs.FormRule.{origin_rule}
use Rattle.explain.specs.OlderFacts.{rests_on}
use Rattle.explain.specs.LinesOfFacts.{AreShowing}
use Rattle.explain.proofs.ByForm.{LeadsBy, led_to}
use Rattle.explain.proofs.Growing.{lengthened_twice}
use Rattle.explain.proofs.Used.{used_by_fact}
use Rattle.explain.proofs.by_form.shown_by_facts.Given.{Over}
use Rattle.explain.proofs.by_form.shown_by_facts.Goals as goal

pub premises-requires-clause-there : goal.premises-requires-clause-there
premises-requires-clause-there g c m there =
    let s = c.args.basis.now.closed.now.saturation in
    let r = reason c.args.next.now.birth.now in
    let (f, at) = slice_get_there s.state.facts c.args.next.now.fact.0 c.requires.next.there in
    (led_to c.args.basis.now.closed.now.ontology s c.well_formed-2.ensures.ontology c.well_formed-2.ensures.saturated c.args.next.now.fact.0 r c.requires.next.birth f at c.args.form c.requires.form c.requires.of_form c.args.step.now c.requires.step c.requires.facts).there m
    (subst (λ ns. Contains ns m) (c.rests_on-older.ensures ∙ ap (λ (v : Listing). rests_on v.entries r) c.normal-normal.ensures) there)

pub premises-requires-clause-shown : goal.premises-requires-clause-shown
premises-requires-clause-shown g c m there f at =
    let r = reason c.args.next.now.birth.now in
    c.requires.next.older r c.requires.next.birth m (subst (λ ns. Contains ns m) (c.rests_on-older.ensures ∙ ap (λ (v : Listing). rests_on v.entries r) c.normal-normal.ensures) there) f at

pub premises-requires-clause-below : goal.premises-requires-clause-below
premises-requires-clause-below g c fs at_fs =
    let s = c.args.basis.now.closed.now.saturation in
    let r = reason c.args.next.now.birth.now in
    let (f, at) = slice_get_there s.state.facts c.args.next.now.fact.0 c.requires.next.there in
    (led_to c.args.basis.now.closed.now.ontology s c.well_formed-2.ensures.ontology c.well_formed-2.ensures.saturated c.args.next.now.fact.0 r c.requires.next.birth f at c.args.form c.requires.form c.requires.of_form c.args.step.now c.requires.step c.requires.facts).lift fs
    (ap (map (slice_get s.state.facts)) (sym (c.rests_on-older.ensures ∙ ap (λ (v : Listing). rests_on v.entries r) c.normal-normal.ensures)) ∙ at_fs)

-- the line that the rule makes follows
leading : (g : Over) (c : goal.In_ok-numbers-2 g) → LeadsBy c.args.basis.now.closed.now.ontology c.args.basis.now.closed.now.saturation c.premises.new.derivation c.in_ok-numbers.numbers.items c.fact_of-fact.result c.origin_rule-rule.result
leading g c =
    let o = c.args.basis.now.closed.now.ontology in
    let s = c.args.basis.now.closed.now.saturation in
    let r = reason c.args.next.now.birth.now in
    let f = c.fact_of-fact.result in
    let to = (led_to o s c.well_formed-2.ensures.ontology c.well_formed-2.ensures.saturated c.args.next.now.fact.0 r c.requires.next.birth f c.fact_of-fact.ensures c.args.form c.requires.form c.requires.of_form c.args.step.now c.requires.step c.requires.facts).lead_to c.premises.new.derivation c.in_ok-numbers.numbers.items
    (λ fs at. c.in_ok-numbers.ensures.shown fs (ap (map (slice_get s.state.facts)) (c.rests_on-older.ensures ∙ ap (λ (v : Listing). rests_on v.entries r) c.normal-normal.ensures) ∙ at)) in
    subst (LeadsBy o s c.premises.new.derivation c.in_ok-numbers.numbers.items f)
    (sym (c.origin_rule-rule.ensures ∙ ap₂ (λ (p : Ontology) (v : Listing). origin_rule p (option_map origin_in (slice_get v.entries c.args.form)) c.args.step.now) c.ontology.ensures c.normal-normal.ensures)) to

pub returns-clause-shown : goal.returns-clause-shown
returns-clause-shown g c =
    let o = c.args.basis.now.closed.now.ontology in
    let s = c.args.basis.now.closed.now.saturation in
    let r = reason c.args.next.now.birth.now in
    let rest = sym (c.rests_on-older.ensures ∙ ap (λ (v : Listing). rests_on v.entries r) c.normal-normal.ensures) in record {
      derivation = c.in_ok-numbers-2.ensures.derivation o (prefixes_of s.normal) c.in_ok-numbers.ensures.derivation (leading g c);
      longer = lengthened_twice c.in_ok-numbers.ensures.longer c.in_ok-numbers-2.ensures.longer;
      shown = λ f at. subst (AreShowing (prefixes_of s.normal) c.concluded.new.derivation c.in_ok-numbers-2.numbers.items) (same_Some c.fact_of-fact.result f (sym c.fact_of-fact.ensures ∙ at))
          (c.in_ok-numbers-2.ensures.shown o (prefixes_of s.normal) (leading g c));
      used = used_by_fact s c.args.next.now.shown.now c.args.next.now.fact.0 r _ c.requires.next.birth rest c.args.derivation.now c.premises.new.derivation c.concluded.new.derivation
          c.in_ok-numbers.numbers.items c.in_ok-numbers-2.numbers.items c.in_ok-numbers-2.ensures.longer c.in_ok-numbers.ensures.used c.in_ok-numbers-2.ensures.used;
    }
