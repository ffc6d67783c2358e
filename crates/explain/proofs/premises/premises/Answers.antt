use Rattle.std.proofs.Common.{◌++◌, ◌∙◌, ap}
use Rattle.explain.proofs.Growing.{showing_grown}
use Rattle.explain.proofs.Taking.{only_number, first_number, second_number, only_leads, first_leads, second_leads, two_taken}
use Rattle.explain.proofs.Used as used
use Rattle.normalise.specs.Problem.{prefixes_of}
use Rattle.explain.proofs.premises.premises.Goals as goal

pub lifted_to-requires-clause-there : goal.lifted_to-requires-clause-there
lifted_to-requires-clause-there g c = c.requires.there c.in-One.only.0 (only_number c.args.older c.in-One.only c.in-One.is)

pub lifted_to-requires-clause-below : goal.lifted_to-requires-clause-below
lifted_to-requires-clause-below g c f there =
    only_leads c.args.basis.now.closed.now.saturation.state.facts c.args.basis.now.closed.now.saturation.state.problem.forms c.args.form.now c.args.older c.requires.below c.in-One.only _ f c.in-One.is c.first_property-property.ensures there

pub lifted_to-requires-in-Two-clause-there : goal.lifted_to-requires-in-Two-clause-there
lifted_to-requires-in-Two-clause-there g c = c.requires.there c.in-Two.first.0 (first_number c.args.older c.in-Two.first c.in-Two.second c.in-Two.is)

pub lifted_to-requires-in-Two-clause-below : goal.lifted_to-requires-in-Two-clause-below
lifted_to-requires-in-Two-clause-below g c f there =
    first_leads c.args.basis.now.closed.now.saturation.state.facts c.args.basis.now.closed.now.saturation.state.problem.forms c.args.form.now c.args.older c.requires.below c.in-Two.first c.in-Two.second _ f c.in-Two.is c.first_property-property-in-Two.ensures
    (c.requires.there c.in-Two.second.0 (second_number c.args.older c.in-Two.first c.in-Two.second c.in-Two.is)) there

pub lifted_to-requires-in-Two-2-clause-there : goal.lifted_to-requires-in-Two-2-clause-there
lifted_to-requires-in-Two-2-clause-there g c = c.requires.there c.in-Two.second.0 (second_number c.args.older c.in-Two.first c.in-Two.second c.in-Two.is)

pub lifted_to-requires-in-Two-2-clause-shown : goal.lifted_to-requires-in-Two-2-clause-shown
lifted_to-requires-in-Two-2-clause-shown g c f there =
    showing_grown c.in_ok-numbers-in-Two.ensures.longer
    (c.requires.shown c.in-Two.second.0 (second_number c.args.older c.in-Two.first c.in-Two.second c.in-Two.is) f there)

pub lifted_to-requires-in-Two-2-clause-below : goal.lifted_to-requires-in-Two-2-clause-below
lifted_to-requires-in-Two-2-clause-below g c f there =
    second_leads c.args.basis.now.closed.now.saturation.state.facts c.args.basis.now.closed.now.saturation.state.problem.forms c.args.form.now c.args.older c.requires.below c.in-Two.first c.in-Two.second _ f c.in-Two.is c.second_property-property.ensures
    (c.requires.there c.in-Two.first.0 (first_number c.args.older c.in-Two.first c.in-Two.second c.in-Two.is)) there

pub returns-in_ok-extend_from_slice-in-Two-clause-shown : goal.returns-in_ok-extend_from_slice-in-Two-clause-shown
returns-in_ok-extend_from_slice-in-Two-clause-shown g c fs at =
    two_taken (prefixes_of c.args.basis.now.closed.now.saturation.normal) c.lifted_to-in-Two-2.new.derivation c.args.basis.now.closed.now.saturation.state.facts c.args.form.now c.args.older c.in-Two.first c.in-Two.second _ _
    c.in_ok-numbers-in-Two.numbers.items c.in_ok-more-in-Two.more.items _ c.in-Two.is c.first_property-property-in-Two.ensures c.second_property-property.ensures
    (c.requires.there c.in-Two.first.0 (first_number c.args.older c.in-Two.first c.in-Two.second c.in-Two.is))
    (c.requires.there c.in-Two.second.0 (second_number c.args.older c.in-Two.first c.in-Two.second c.in-Two.is))
    (c.in_ok-extend_from_slice-in-Two.ensures.ok ∙ ap (λ ns. c.in_ok-numbers-in-Two.numbers.items ++ ns) c.as_slice.ensures)
    (λ f there. showing_grown c.in_ok-more-in-Two.ensures.longer (c.in_ok-numbers-in-Two.ensures.shown f there))
    (λ g also. c.in_ok-more-in-Two.ensures.shown g also) fs at

pub returns-in-None-clause-used : goal.returns-in-None-clause-used
returns-in-None-clause-used g c = used.none_taken c.args.shown.now c.args.older c.args.derivation.now _ c.in-None.is

pub returns-in_ok-numbers-in-One-clause-used : goal.returns-in_ok-numbers-in-One-clause-used
returns-in_ok-numbers-in-One-clause-used g c =
    used.one_taken c.args.shown.now c.args.older c.in-One.only c.args.derivation.now c.lifted_to.new.derivation c.in_ok-numbers-in-One.numbers.items c.in-One.is c.in_ok-numbers-in-One.ensures.used

pub returns-in_ok-extend_from_slice-in-Two-clause-used : goal.returns-in_ok-extend_from_slice-in-Two-clause-used
returns-in_ok-extend_from_slice-in-Two-clause-used g c =
    used.two_taken c.args.shown.now c.args.older c.in-Two.first c.in-Two.second c.args.derivation.now c.lifted_to-in-Two.new.derivation c.lifted_to-in-Two-2.new.derivation
    c.in_ok-numbers-in-Two.numbers.items c.in_ok-more-in-Two.more.items _ c.in-Two.is
    (c.in_ok-extend_from_slice-in-Two.ensures.ok ∙ ap (λ ns. c.in_ok-numbers-in-Two.numbers.items ++ ns) c.as_slice.ensures)
    c.in_ok-more-in-Two.ensures.longer c.in_ok-numbers-in-Two.ensures.used c.in_ok-more-in-Two.ensures.used
