use Rattle.std.proofs.Common.{◌-◌, arith}
use Rattle.std.proofs.lemmas.Option.{slice_get-get_or}
use Rattle.std.specs.Prelude.{slice_index_or}
use Rattle.explain.proofs.Renumbering.{renumbered_next}
use Rattle.explain.proofs.kept.renumbered.Goals as goal

pub loop-number-preserved : goal.loop-number-preserved
loop-number-preserved c new h =
    let number = slice_index_or c.args.numbers.now c.loop-number.number-index 0 in
    let within = c.requires c.loop-number.number-index 0 c.loop-number-test.true in
    renumbered_next new c.args.places.now c.args.numbers.now c.loop-number.renumbered.items c.push.new.self.items c.loop-number.number-index
    number (number - 1) (slice_index_or c.args.places.now (number - 1) 0)
    (c.loop-number.invariant new h) (slice_get-get_or c.args.numbers.now c.loop-number.number-index 0 c.loop-number-test.true)
    (omega (arith, within.0)) (slice_get-get_or c.args.places.now (number - 1) 0 (omega (arith, within.0, within.1)))
    c.in_ok-push.ensures.items h
