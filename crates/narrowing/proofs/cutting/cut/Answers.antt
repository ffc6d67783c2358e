use Rattle.std.proofs.Common.{arith}
use Rattle.listed_model.proofs.Given.{ascends_pairs}
use Rattle.certificate.specs.View.{listed_of}
use Rattle.narrowing.proofs.Parted.{few_intervals}
use Rattle.narrowing.proofs.cutting.cut.Goals as goal

pub invariant_of-intervals : goal.invariant_of-intervals
invariant_of-intervals c =
    let starts = c.args.starts.items in
    let few = few_intervals (listed_of c.args.listed.rows) starts 4294967295 c.requires (omega arith) (omega arith) in
    record { ascend = ascends_pairs starts c.requires.ascend; few = omega (arith, few) }

pub overflow_add-listed : goal.overflow_add-listed
overflow_add-listed c =
    let few = few_intervals (listed_of c.args.listed.rows) c.args.starts.items 4294967295 c.requires (omega arith) (omega arith) in
    omega (arith, few)
