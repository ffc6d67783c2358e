use Rattle.std.proofs.Common.{sym, subst, ◌∙◌}
use Rattle.std.proofs.lemmas.Option.{same_Some}
use Rattle.lemmas.proofs.Places.{slice_get_there}
use Rattle.facts.specs.Births.{reason}
use Rattle.normalise.specs.Problem.{prefixes_of}
use Rattle.explain.proofs.Sameness.{given_there, hands, has_edges, one_told, rests, rests_on_one, two_facts}
use Rattle.explain.proofs.Used.{of_one, shows_those, used_from}
use Rattle.explain.specs.LinesOfFacts.{AreShowing}
use Rattle.explain.specs.Uses.{IsAmong, IsAmongThose, ShowsOlder}
use Rattle.explain.proofs.by_form.shown_by_same.Goals as goal

pub unreachable-requires : goal.unreachable-requires
unreachable-requires g c =
    let s = c.args.basis.now.closed.now.saturation in
    let (i, j, at) = c.requires.same in
    let (f, there) = slice_get_there s.state.facts c.args.next.now.fact.0 c.requires.next.there in
    one_told c.args.basis.now.closed.now.ontology s c.well_formed-2.ensures.saturated c.args.next.now.fact.0 (reason c.args.next.now.birth.now) c.requires.next.birth f there c.args.form c.requires.form c.requires.of_form i j at c.older.result c.older.ensures c.in_default.not-One

pub fact_of-given-requires : goal.fact_of-given-requires
fact_of-given-requires g c =
    let s = c.args.basis.now.closed.now.saturation in
    let (i, j, at) = c.requires.same in
    let (f, there) = slice_get_there s.state.facts c.args.next.now.fact.0 c.requires.next.there in
    given_there c.args.basis.now.closed.now.ontology s c.well_formed-2.ensures.saturated c.args.next.now.fact.0 (reason c.args.next.now.birth.now) c.requires.next.birth f there c.args.form c.requires.form c.requires.of_form i j at c.older.result c.older.ensures c.in-One.older c.in-One.is

pub handed_on-requires-clause-hands : goal.handed_on-requires-clause-hands
handed_on-requires-clause-hands g c =
    let (i, j, at) = c.requires.same in
    hands c.args.basis.now.closed.now.ontology c.args.basis.now.closed.now.saturation c.well_formed-2.ensures.saturated c.args.next.now.fact.0 (reason c.args.next.now.birth.now) c.requires.next.birth c.fact_of-fact.result c.fact_of-fact.ensures c.args.form c.requires.form c.requires.of_form i j at c.older.result c.older.ensures c.in-One.older c.in-One.is
    c.fact_of-given.result c.fact_of-given.ensures

pub handed_on-requires-clause-two : goal.handed_on-requires-clause-two
handed_on-requires-clause-two g c =
    let (i, j, at) = c.requires.same in
    two_facts c.args.basis.now.closed.now.ontology c.args.basis.now.closed.now.saturation c.well_formed-2.ensures.saturated c.args.next.now.fact.0 (reason c.args.next.now.birth.now) c.requires.next.birth c.fact_of-fact.result c.fact_of-fact.ensures c.args.form c.requires.form c.requires.of_form i j at c.older.result c.older.ensures c.in-One.older c.in-One.is
    c.fact_of-given.result c.fact_of-given.ensures

pub handed_on-requires-clause-shown : goal.handed_on-requires-clause-shown
handed_on-requires-clause-shown g c =
    let s = c.args.basis.now.closed.now.saturation in
    let (i, j, at) = c.requires.same in
    let rest = rests c.args.basis.now.closed.now.ontology s c.well_formed-2.ensures.saturated c.args.next.now.fact.0 (reason c.args.next.now.birth.now) c.requires.next.birth c.fact_of-fact.result c.fact_of-fact.ensures c.args.form c.requires.form c.requires.of_form i j at c.older.result c.older.ensures c.in-One.older c.in-One.is in
    subst (λ ns. AreShowing (prefixes_of s.normal) c.args.derivation.now ns c.fact_of-given.result) (sym (c.as_slice.ensures ∙ c.in_ok-known.ensures))
    (c.requires.next.older (reason c.args.next.now.birth.now) c.requires.next.birth c.in-One.older.0 rest c.fact_of-given.result c.fact_of-given.ensures)

pub handed_on-requires-clause-some : goal.handed_on-requires-clause-some
handed_on-requires-clause-some g c =
    let s = c.args.basis.now.closed.now.saturation in
    let (i, j, at) = c.requires.same in
    let rest = rests c.args.basis.now.closed.now.ontology s c.well_formed-2.ensures.saturated c.args.next.now.fact.0 (reason c.args.next.now.birth.now) c.requires.next.birth c.fact_of-fact.result c.fact_of-fact.ensures c.args.form c.requires.form c.requires.of_form i j at c.older.result c.older.ensures c.in-One.older c.in-One.is in
    let shown = c.requires.next.older (reason c.args.next.now.birth.now) c.requires.next.birth c.in-One.older.0 rest c.fact_of-given.result c.fact_of-given.ensures in
    has_edges c.args.basis.now.closed.now.ontology s c.well_formed-2.ensures.ontology c.well_formed-2.ensures.saturated c.in-One.older.0 c.fact_of-given.result c.fact_of-given.ensures c.args.derivation.now c.as_slice.result.now
    (subst (λ ns. AreShowing (prefixes_of s.normal) c.args.derivation.now ns c.fact_of-given.result) (sym (c.as_slice.ensures ∙ c.in_ok-known.ensures)) shown)

pub returns : goal.returns
returns g c =
    let s = c.args.basis.now.closed.now.saturation in
    let r = reason c.args.next.now.birth.now in
    let (i, j, at) = c.requires.same in
    let shown = c.args.next.now.shown.now in
    let only = rests_on_one c.args.basis.now.closed.now.ontology s c.well_formed-2.ensures.saturated c.args.next.now.fact.0 r c.requires.next.birth c.fact_of-fact.result c.fact_of-fact.ensures c.args.form c.requires.form c.requires.of_form i j at c.older.result c.older.ensures c.in-One.older c.in-One.is in record {
      derivation = c.in_ok-numbers.ensures.derivation;
      longer = c.in_ok-numbers.ensures.longer;
      shown = λ f there. subst (AreShowing (prefixes_of s.normal) c.handed_on.new.derivation c.in_ok-numbers.numbers.items) (same_Some c.fact_of-fact.result f (sym c.fact_of-fact.ensures ∙ there)) c.in_ok-numbers.ensures.shown;
      used = used_from c.args.derivation.now c.handed_on.new.derivation (IsAmong c.as_slice.result.now) (ShowsOlder s shown c.args.next.now.fact.0) c.in_ok-numbers.numbers.items
          (λ k h. subst (λ ns. IsAmong ns k) (sym (c.as_slice.ensures ∙ c.in_ok-known.ensures)) (of_one shown c.in-One.older.0 k (subst (λ ns. IsAmongThose shown ns k) only (shows_those s shown c.args.next.now.fact.0 r c.requires.next.birth k h))))
          c.in_ok-numbers.ensures.used;
    }
