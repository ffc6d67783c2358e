use Rattle.std.proofs.Common.{rules}
use Rattle.inference.proofs.known_facts.KnownFacts.copy.Goals as goal

pub invariant_of-result : goal.invariant_of-result
invariant_of-result c = (
  rw (c.in_ok-facts.ensures, c.in_ok-marks.ensures) c.self.invariant.0,
  search rules,
  rw (c.in_ok-facts.ensures, c.in_ok-lists.ensures) c.self.invariant.2,
)
