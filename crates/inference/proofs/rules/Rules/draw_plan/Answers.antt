use Rattle.std.proofs.Common.{refl}
use Rattle.inference.specs.declared.plans.PlannedChain.{PlannedChain}
use Rattle.inference.specs.Completeness.{IsDrawnFrom}
use Rattle.inference.proofs.Growth.{grows_trans}
use Rattle.inference.proofs.Drawing.{at_still, draws, each_more, each, drawn_at_still, member_at}
use Rattle.inference.proofs.rules.Rules.draw_plan.Goals as goal

pub draw_planned-requires-clause-older : goal.draw_planned-requires-clause-older
draw_planned-requires-clause-older c = at_still _ _ c.loop-chain.invariant.grows.facts c.args.older.numbers.now c.args.older.facts.now c.requires.older

pub draw_planned-requires-clause-says : goal.draw_planned-requires-clause-says
draw_planned-requires-clause-says c = c.requires.say _ (member_at c.args.plan.now c.args.plan.now c.loop-chain.chain-index _ refl c.loop-chain-test.true)

pub loop-chain-preserved : goal.loop-chain-preserved
loop-chain-preserved c =
    let k = c.args.self.now.problem.now in
    let older = c.args.older.facts.now in
    let s = c.draw_planned.ensures.grows in
    record {
      grows = grows_trans c.loop-chain.invariant.grows s;
      drawn = each_more (λ (l : PlannedChain). IsDrawnFrom k older c.loop-chain.facts.facts l.number) (λ (l : PlannedChain). IsDrawnFrom k older c.draw_planned.new.facts.facts l.number)
          c.args.plan.now c.args.plan.now c.loop-chain.chain-index _ refl c.loop-chain-test.true c.loop-chain.invariant.drawn (λ l. drawn_at_still s _ _ l.number) c.in_ok-draw_planned.ensures.drawn;
    }

pub returns : goal.returns
returns c =
    draws c.loop-chain.invariant.grows (each (λ (l : PlannedChain). IsDrawnFrom c.args.self.now.problem.now c.args.older.facts.now c.loop-chain.facts.facts l.number) c.args.plan.now c.args.plan.now c.loop-chain.chain-index refl c.loop-chain-test.false c.loop-chain.invariant.drawn)
