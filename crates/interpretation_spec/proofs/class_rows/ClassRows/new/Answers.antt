use Rattle.std.proofs.Common.{rules, arith}
use Rattle.interpretation_spec.proofs.ClassRows.{placed_at_first, rows_at_first}
use Rattle.interpretation_spec.proofs.class_rows.ClassRows.new.Goals as goal

pub invariant_of-result : goal.invariant_of-result
invariant_of-result c = placed_at_first c.in_ok-rows.rows.items c.in_ok-places.places.items c.args.size c.args.count (omega arith) c.in_ok-rows.ensures (search rules)

pub returns : goal.returns
returns c = rows_at_first c.in_ok-rows.rows.items c.in_ok-places.places.items c.args.size c.args.count (omega arith) c.in_ok-rows.ensures (search rules)
