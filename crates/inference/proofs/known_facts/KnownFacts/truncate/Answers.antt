use Rattle.std.proofs.Common.{rules}
use Rattle.inference.proofs.Marking.{marks_of_first}
use Rattle.inference.proofs.known_facts.KnownFacts.truncate.Goals as goal

pub invariant_of-self : goal.invariant_of-self
invariant_of-self c = (
  rw (c.truncate.ensures, c.truncate-3.ensures.items) (marks_of_first c.self.inside.facts c.self.inside.marks.items c.args.len c.self.invariant.0),
  search rules,
  rw (c.truncate.ensures, ← c.as_slice.ensures.value) c.unlist.ensures,
)
