use Rattle.std.proofs.Common.{length, sym, ap, ◌∙◌}
use Rattle.explain.proofs.Entries.{length_numbers}
use Rattle.explain.proofs.lines_by_fact.LinesByFact.len.Goals as goal

pub returns : goal.returns
returns c = sym (length_numbers c.self.inside.lists c.self.inside.blocks c.self.inside.facts) ∙ ap length c.self.view_is
