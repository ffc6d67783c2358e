use Rattle.std.proofs.Common.{Some, inr, refl, ap, ◌∙◌}
use Rattle.saturate.proofs.NewSeconds.{listed_as, one_second}
use Rattle.saturate.proofs.new_seconds.list_second.Goals as goal

pub returns-clause-more : goal.returns-clause-more
returns-clause-more c = one_second c.args.facts.now.facts c.in-Edge.source c.in-Edge.field-1 c.in-Edge.field-2 c.args.number (c.get.ensures ∙ ap Some c.in-Edge.is) c.in_ok-add_second_premise.ensures.others c.in_ok-add_second_premise.ensures.ok

pub returns-clause-listed : goal.returns-clause-listed
returns-clause-listed c = λ from.
    listed_as from c.args.ground.now c.args.facts.now c.add_second_premise.new.self c.args.number c.in-Edge.source c.in-Edge.field-1 c.in-Edge.field-2 (c.get.ensures ∙ ap Some c.in-Edge.is)
    ((c.in_ok-add_second_premise.ensures.ok c.in-Edge.source c.args.number).1 (inr (refl, refl)))
