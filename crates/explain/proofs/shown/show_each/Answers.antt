use Rattle.std.proofs.Common.{◌≤◌, ◌∙◌, length, arith}
use Rattle.explain.proofs.Adding.{all_shown}
use Rattle.explain.proofs.shown.show_each.Goals as goal

pub show_more-requires-clause-ready : goal.show_more-requires-clause-ready
show_more-requires-clause-ready g c = record {
  paths = c.loop-paths.invariant.paths ∙ c.requires.ready.paths;
  within = c.requires.ready.within;
  closed = c.requires.ready.closed;
}

pub returns-clause-shown : goal.returns-clause-shown
returns-clause-shown g c =
    let long : length c.args.marks.now ≤ length c.loop-paths.shown = omega (arith, c.loop-paths-test.false, c.len-in-loop-paths.ensures, c.len-in-loop-paths-2.ensures) in
    all_shown c.args.basis.now.closed.now.ontology c.args.basis.now.closed.now.saturation c.args.marks.now c.loop-paths.derivation c.loop-paths.shown long c.loop-paths.invariant.showing
