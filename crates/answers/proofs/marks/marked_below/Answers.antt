use Rattle.std.proofs.Common.{ℕ, replicate, false, ap, ◌∙◌}
use Rattle.answers.proofs.MarkedFacts.{by_both}
use Rattle.answers.proofs.marks.marked_below.Goals as goal

pub returns : goal.returns
returns c =
    by_both c.args.indexed.now.ontology c.args.expression c.args.indexed.now.saturation.state.facts c.args.marks.now c.in_ok-found.found c.mark_below.new.found c.mark_below-2.new.found
    (c.in_ok-found.ensures ∙ ap (λ (n : ℕ). replicate n false) c.len.ensures) c.mark_below.ensures.long c.mark_below-2.ensures.long c.mark_below.ensures.exact c.mark_below-2.ensures.exact
