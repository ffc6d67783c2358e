use Rattle.std.proofs.lemmas.Bool.{false≢true}
use Rattle.classification.proofs.consistent.has_no_impossible_individual.Goals as goal

pub returns-then-is_in_nothing : goal.returns-then-is_in_nothing
returns-then-is_in_nothing c = (
  λ t. absurd (false≢true t),
  λ none. absurd (none (record { 0 = c.loop-number.number }) c.loop-number-test.true (c.is_in_nothing.ensures.0 c.if-is_in_nothing.true)),
)
