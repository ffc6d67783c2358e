use Rattle.std.proofs.Common.{arith}
use Rattle.explain.proofs.Aiming.{goal_derived}
use Rattle.explain.proofs.shown.add_goal.Goals as goal

pub add_lines-requires-clause-within : goal.add_lines-requires-clause-within
add_lines-requires-clause-within g c = omega (arith, c.in_ok-marks.ensures.long, c.requires.there)

pub returns : goal.returns
returns g c = λ class x at.
    goal_derived c.args.closed.now.ontology c.args.closed.now.saturation c.in_ok-marks.marks (g.L.LineSink.lines c.in_ok-sink.sink) c.in_ok-sink.ensures.derivation c.in_ok-sink.ensures.shown class x
    c.args.goal c.in_ok-marks.ensures.exact at
