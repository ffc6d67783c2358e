use Rattle.std.proofs.Common.{Some, sym, ap, ◌∙◌}
use Rattle.explain.proofs.Leading.{read_in}
use Rattle.explain.proofs.line.fact_of.Goals as goal

pub returns : goal.returns
returns c =
    read_in c.args.closed.now.saturation.state.facts c.facts.result.now c.args.number.0 _ c.facts.ensures c.requires ∙ ap (λ f. Some f) (sym (c.get.ensures ∙ c.index-facts-number.is))
