use Rattle.std.proofs.Common.{◌≡◌, ℕ, List, subst, arith}
use Rattle.generated_part.specs.Elements.{prop_id, AddsTargets, ArePairsAt}
use Rattle.generated_part.proofs.Rows.{one_property}
use Rattle.generated_part.proofs.by_element.pairs_at.Goals as goal

pub loop-number-preserved : goal.loop-number-preserved
loop-number-preserved c =
    let old = c.loop-number.found.items in
    let now = c.push_targets.new.found.items in
    one_property c.args.interpretation.now c.loop-number.number c.args.element old now c.loop-number.invariant
    (subst (λ (ts : List ℕ). AddsTargets old (prop_id c.loop-number.number) ts now) c.targets_at.ensures c.in_ok-push_targets.ensures)

pub returns : goal.returns
returns c =
    let end : c.loop-number.number ≡ c.args.properties = omega (arith, c.loop-number.auto.number-end, c.loop-number-test.false) in
    subst (λ n. ArePairsAt c.args.interpretation.now n c.args.element c.loop-number.found.items) end c.loop-number.invariant
