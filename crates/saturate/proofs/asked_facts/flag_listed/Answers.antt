use Rattle.std.proofs.Common.{arith}
use Rattle.std.proofs.lemmas.Result.{on_ok_weaker}
use Rattle.saturate.proofs.Flagging.{flagged_both}
use Rattle.saturate.proofs.asked_facts.flag_listed.Goals as goal

pub flag_individual-requires-in-N10 : goal.flag_individual-requires-in-N10
flag_individual-requires-in-N10 c = λ x n listed. omega (arith, c.requires.below x n listed, c.flag_individual.ensures.long)

pub returns-in_ok-flag_individual-in-N10-clause-ok : goal.returns-in_ok-flag_individual-in-N10-clause-ok
returns-in_ok-flag_individual-in-N10-clause-ok c = on_ok_weaker c.flag_individual-in-N10.result
    (λ second. rw c.in-N10.is (flagged_both _ _ c.in_ok-flag_individual-in-N10.ensures.ok second))
    c.flag_individual-in-N10.ensures.ok
