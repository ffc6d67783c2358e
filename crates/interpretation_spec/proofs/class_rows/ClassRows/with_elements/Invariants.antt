use Rattle.std.proofs.Common.{◌≡◌, ◌-◌, ◌<◌, [], get_or, length}
use Rattle.std.specs.List.{filter, range_with_len}
use Rattle.interpretation_spec.specs.Members.{has_some}
use Rattle.interpretation_spec.proofs.class_rows.ClassRows.with_elements.Given as goal

abbrev pub invariant-loop-class : goal.invariant-loop-class
invariant-loop-class l = (0 < l.class) × (length l.self ≡ 0 → l.class ≡ 1) × (l.classes.items ≡ filter (λ c. has_some (get_or l.self c [])) (range_with_len 1 (l.class - 1)))
