use Rattle.std.proofs.Common.{option_map, slice_get, sym, ap, ◌∙◌, subst}
use Rattle.std.proofs.lemmas.Option.{same_Some}
use Rattle.lemmas.proofs.Places.{slice_get_there}
use Rattle.facts.specs.Births.{reason}
use Rattle.normalise.specs.Entries.{origin_in}
use Rattle.normalise.specs.Listing.{Listing}
use Rattle.normalise.specs.Problem.{prefixes_of}
use Rattle.explain.specs.FormRule.{inclusion_rule}
use Rattle.explain.specs.LinesOfFacts.{AreShowing}
use Rattle.explain.specs.Uses.{IsAmong, IsAmongThose, ShowsOlder}
use Rattle.explain.proofs.ByForm.{LeadsBy}
use Rattle.explain.proofs.Inclusions.{leads_on, one_taken, rests, rests_on_one}
use Rattle.explain.proofs.Used.{of_one, shows_those, used_from}
use Rattle.explain.proofs.by_form.shown_by_inclusion.Given.{Over}
use Rattle.explain.proofs.by_form.shown_by_inclusion.Goals as goal

pub unreachable-requires : goal.unreachable-requires
unreachable-requires g c =
    let s = c.args.basis.now.closed.now.saturation in
    let (f, there) = slice_get_there s.state.facts c.args.next.now.fact.0 c.requires.next.there in
    one_taken c.args.basis.now.closed.now.ontology s c.well_formed-2.ensures.ontology c.well_formed-2.ensures.saturated c.args.next.now.fact.0 (reason c.args.next.now.birth.now) c.requires.next.birth f there c.args.form c.requires.form c.requires.inclusion c.older.result c.older.ensures c.in_default.not-One

-- the line that the rule makes follows
leading : (g : Over) (c : goal.In_ok-numbers-2 g) → LeadsBy c.args.basis.now.closed.now.ontology c.args.basis.now.closed.now.saturation c.args.derivation.now c.in_ok-numbers.numbers.items c.fact_of-fact.result c.inclusion_rule-rule.result
leading g c =
    let o = c.args.basis.now.closed.now.ontology in
    let s = c.args.basis.now.closed.now.saturation in
    let r = reason c.args.next.now.birth.now in
    let f = c.fact_of-fact.result in
    let rest = rests o s c.well_formed-2.ensures.ontology c.well_formed-2.ensures.saturated c.args.next.now.fact.0 r c.requires.next.birth f c.fact_of-fact.ensures c.args.form c.requires.form c.requires.inclusion c.older.result c.older.ensures c.in-One.older c.in-One.is in
    let to = leads_on o s c.well_formed-2.ensures.ontology c.well_formed-2.ensures.saturated c.args.next.now.fact.0 r c.requires.next.birth f c.fact_of-fact.ensures c.args.form c.requires.form c.requires.inclusion c.older.result c.older.ensures c.in-One.older c.in-One.is c.args.derivation.now c.in_ok-numbers.numbers.items
    (λ h at. subst (λ ns. AreShowing (prefixes_of s.normal) c.args.derivation.now ns h) (sym c.in_ok-numbers.ensures) (c.requires.next.older r c.requires.next.birth c.in-One.older.0 rest h at)) in
    subst (LeadsBy o s c.args.derivation.now c.in_ok-numbers.numbers.items f)
    (sym (c.inclusion_rule-rule.ensures ∙ ap (λ (v : Listing). inclusion_rule (option_map origin_in (slice_get v.entries c.args.form))) c.normal.ensures)) to

pub returns : goal.returns
returns g c =
    let o = c.args.basis.now.closed.now.ontology in
    let s = c.args.basis.now.closed.now.saturation in
    let r = reason c.args.next.now.birth.now in
    let shown = c.args.next.now.shown.now in
    let only = rests_on_one o s c.well_formed-2.ensures.ontology c.well_formed-2.ensures.saturated c.args.next.now.fact.0 r c.requires.next.birth c.fact_of-fact.result c.fact_of-fact.ensures c.args.form c.requires.form c.requires.inclusion c.older.result c.older.ensures c.in-One.older c.in-One.is in record {
      derivation = c.in_ok-numbers-2.ensures.derivation o (prefixes_of s.normal) c.requires.next.derivation (leading g c);
      longer = c.in_ok-numbers-2.ensures.longer;
      shown = λ f at. subst (AreShowing (prefixes_of s.normal) c.concluded.new.derivation c.in_ok-numbers-2.numbers.items) (same_Some c.fact_of-fact.result f (sym c.fact_of-fact.ensures ∙ at))
          (c.in_ok-numbers-2.ensures.shown o (prefixes_of s.normal) (leading g c));
      used = used_from c.args.derivation.now c.concluded.new.derivation (IsAmong c.in_ok-numbers.numbers.items) (ShowsOlder s shown c.args.next.now.fact.0) c.in_ok-numbers-2.numbers.items
          (λ k h. subst (λ ns. IsAmong ns k) (sym c.in_ok-numbers.ensures) (of_one shown c.in-One.older.0 k (subst (λ ns. IsAmongThose shown ns k) only (shows_those s shown c.args.next.now.fact.0 r c.requires.next.birth k h))))
          c.in_ok-numbers-2.ensures.used;
    }
