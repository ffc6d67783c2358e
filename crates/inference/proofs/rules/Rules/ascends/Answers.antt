use Rattle.inference.proofs.Differing.{ascend_next, none_ascend, none_same}
use Rattle.inference.proofs.rules.Rules.ascends.Goals as goal

pub loop-place-init : goal.loop-place-init
loop-place-init c = none_ascend c.args.self.now.problem.now.forms c.args.list.now

pub loop-place-preserved : goal.loop-place-preserved
loop-place-preserved c =
    let forms = c.args.self.now.problem.now.forms in
    ascend_next forms c.args.list.now c.loop-place.place c.loop-place.end _ c.least-least.result c.loop-place-test.true
    (record { same = c.least-least.ensures.same forms c.args.self.now.grouped; low = λ b same. c.least-least.ensures.low forms b c.args.self.now.grouped same })
    c.if-least-end.false c.loop-place.invariant

pub returns : goal.returns
returns c = λ _. none_same c.args.self.now.problem.now.forms c.args.list.now c.loop-place.place c.loop-place.end c.loop-place-test.false c.loop-place.invariant
