use Rattle.std.proofs.Common.{sym, ◌∙◌}
use Rattle.std.proofs.lemmas.Bool.{false≢true}
use Rattle.inference.proofs.Marking.{all_filled}
use Rattle.inference.proofs.fillers.filled_by.Goals as goal

pub returns-then-is_nothing : goal.returns-then-is_nothing
returns-then-is_nothing c = all_filled c.args.problem.now.forms c.args.class

pub returns-else-is_nothing : goal.returns-else-is_nothing
returns-else-is_nothing c = record {
  restrictions = λ n under. c.restrictions.ensures n ((c.with_filler.ensures n).1 under);
  all = λ same p. absurd (false≢true (sym c.if-is_nothing.false ∙ c.is_nothing.ensures.1 same));
}
