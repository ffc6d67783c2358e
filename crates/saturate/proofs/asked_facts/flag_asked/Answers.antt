use Rattle.std.proofs.Common.{arith}
use Rattle.std.proofs.lemmas.Result.{on_ok_weaker}
use Rattle.saturate.proofs.Flagging.{flagged_both}
use Rattle.saturate.proofs.Listed.{flags_served}
use Rattle.saturate.proofs.asked_facts.flag_asked.Goals as goal

pub flag_of_individuals-requires-clause-below : goal.flag_of_individuals-requires-clause-below
flag_of_individuals-requires-clause-below c = λ x n listed. omega (arith, c.requires.below x n listed, c.flag_of_named.ensures.long, c.flag_lists.ensures.long, c.flag_edges.ensures.long)

pub returns-clause-ok : goal.returns-clause-ok
returns-clause-ok c = on_ok_weaker c.flag_of_individuals.result
    (λ last. flags_served c.args.ground.now.forms c.args.added.now c.args.facts.now.facts c.args.index.now c.args.flags.now c.flag_of_individuals.new.flags c.requires.none
    (flagged_both _ _ (flagged_both _ _ (flagged_both _ _ (rw c.forms.ensures at c.in_ok-flag_of_named.ensures.ok) (rw c.apart.ensures at c.in_ok-flag_lists.ensures.ok)) c.in_ok-flag_edges.ensures.ok) (rw c.forms-2.ensures at last)))
    c.flag_of_individuals.ensures.ok
