use Rattle.std.proofs.Common.{rules, ◌-◌, length, map, arith}
use Rattle.interpretation_spec.specs.Fields.{kept_pairs}
use Rattle.interpretation_spec.proofs.Wholes.{IsNumbered-at_first}
use Rattle.interpretation_spec.proofs.interpretation.Interpretation.new.Goals as goal

pub invariant_of-result : goal.invariant_of-result
invariant_of-result c =
    let size = c.args.size in
    IsNumbered-at_first size (length c.classes.result.now - 1) (length c.properties.result.now) (length c.individuals.result.now) c.in_ok-new.field-0 (map (kept_pairs size) c.in_ok-without_pairs.field-0.items) c.in_ok-vec.field-0.items
    (omega arith) c.in_ok-new.ensures (c.in_ok-without_pairs.ensures size) (search rules)
