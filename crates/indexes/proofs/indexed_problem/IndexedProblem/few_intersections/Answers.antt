use Rattle.std.proofs.Common.{ap, ◌∙◌}
use Rattle.facts.specs.Closure.{Problem}
use Rattle.indexes.specs.Disjoint.{operands_from}
use Rattle.indexes.specs.Keys.{by_first, by_second}
use Rattle.indexes.proofs.Indexing.{under}
use Rattle.indexes.proofs.Parting.{apart_when}
use Rattle.indexes.specs.FormIndex.{listed_at}
use Rattle.indexes.proofs.indexed_problem.IndexedProblem.few_intersections.Goals as goal

pub returns-clause-first : goal.returns-clause-first
returns-clause-first c = λ n. rw (← c.self.view_is, ← c.key_of_class-key.ensures) (under _ by_first (listed_at c.self.inside.index.first) _ _ c.of-first.ensures c.self.invariant.index.listed.first n)

pub returns-clause-second : goal.returns-clause-second
returns-clause-second c = λ n. rw (← c.self.view_is, ← c.key_of_class-key.ensures) (under _ by_second (listed_at c.self.inside.index.second) _ _ c.of-second.ensures c.self.invariant.index.listed.second n)

pub returns-clause-apart : goal.returns-clause-apart
returns-clause-apart c = λ b. rw (c.key_of_class-key.ensures)
    (apart_when c.args.self.now c.self.inside.disjoint (c.self.invariant.listed ∙ ap (λ (p : Problem). operands_from 0 p.apart.classes) c.self.view_is) c.args.class b)
