use Rattle.std.proofs.Common.{◌≡◌, ◌+◌, Some, ap, slice_get, sym, ◌∙◌, subst, arith}
use Rattle.closure.specs.Closure.{Individual}
use Rattle.closure.specs.Groups.{least_same}
use Rattle.countermodel.proofs.FirstIndividuals.{AreFirst, one_first}
use Rattle.countermodel.proofs.Leading.{IsLeastBy, least_is}
use Rattle.countermodel.proofs.individuals.individual_elements.Goals as goal

pub unreachable-requires : goal.unreachable-requires
unreachable-requires c =
    let groups = c.args.groups.now in
    let number = c.loop-number.number in
    let there = c.requires.there number (omega (arith, c.individuals-number-end.ensures.count, c.loop-number-test.true)) in
    let is : IsLeastBy groups (record { 0 = number }) c.least-least.result = record { same = c.least-least.ensures.same groups c.requires.groups.1.links; low = λ b. c.least-least.ensures.low groups b c.requires.groups.1.links } in
    c.in_default.ensures there.0 (there.1 ∙ ap (λ a. Some (Individual a)) (sym (least_is c.args.ontology.now c.requires.groups.0 groups c.requires.groups.1 (record { 0 = number }) c.least-least.result is)))

pub loop-number-preserved : goal.loop-number-preserved
loop-number-preserved c =
    let o = c.args.ontology.now in
    let groups = c.args.groups.now in
    let elements = c.args.elements.now in
    let number = c.loop-number.number in
    let is : IsLeastBy groups (record { 0 = number }) c.least-least.result = record { same = c.least-least.ensures.same groups c.requires.groups.1.links; low = λ b. c.least-least.ensures.low groups b c.requires.groups.1.links } in
    let at : slice_get elements c.in-Some.element ≡ Some (Individual (least_same o number)) = c.in-Some.ensures ∙ ap (λ a. Some (Individual a)) (least_is o c.requires.groups.0 groups c.requires.groups.1 (record { 0 = number }) c.least-least.result is) in
    subst (AreFirst o elements (number + 1)) (sym c.in_ok-push.ensures.items) (one_first o elements number c.in-Some.element c.loop-number.numbers.items c.loop-number.invariant at)
