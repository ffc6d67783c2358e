use Rattle.std.proofs.Common.{sym, subst, ◌∙◌}
use Rattle.facts.specs.Closure.{Problem}
use Rattle.inference.specs.Visits.{IsNotCarried}
use Rattle.inference.specs.Completeness.{IsRedundantAsSecond}
use Rattle.saturate.proofs.Flagging.{kept_none, kept_one}
use Rattle.saturate.proofs.Listing.{one_more}
use Rattle.saturate.proofs.extension.index_kept.Goals as goal

pub returns-then-has : goal.returns-then-has
returns-then-has c = λ w s. rw (kept_none c.args.flags.now w c.args.number (sym c.has.ensures ∙ c.if-has.true)) s

pub returns : goal.returns
returns c = λ w s. rw (kept_one c.args.flags.now w c.args.number (sym c.has.ensures ∙ c.if-has.false)) (one_more s c.add.ensures.may c.get-fact.ensures c.in_ok-add.ensures.ok
    (λ no. subst (λ (k : Problem). IsRedundantAsSecond k c.args.facts.now c.get-fact.result) c.problem-problem.ensures (c.is_second_premise-is_second.ensures no c.get-fact.result c.get-fact.ensures))
    (λ no. subst (λ (k : Problem). IsNotCarried k c.get-fact.result) c.problem-problem.ensures (c.is_filler-is_filler.ensures no)))
