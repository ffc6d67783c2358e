use Rattle.std.proofs.Common.{inl, inr, ⊎_elim}
use Rattle.indexes.specs.Keys.{by_first, by_second}
use Rattle.indexes.proofs.Indexing.{under}
use Rattle.indexes.specs.FormIndex.{listed_at}
use Rattle.indexes.proofs.indexed_problem.IndexedProblem.intersections.Goals as goal

pub returns-clause-all : goal.returns-clause-all
returns-clause-all c = λ n. rw (← c.self.view_is, ← c.key_of_class-first.ensures, ← c.key_of_class-second.ensures) (λ w u. c.common.ensures.all n
    ((under _ by_first (listed_at c.self.inside.index.first) _ _ c.of.ensures c.self.invariant.index.listed.first n).1 w)
    ((under _ by_second (listed_at c.self.inside.index.second) _ _ c.of-2.ensures c.self.invariant.index.listed.second n).1 u))

pub returns-clause-only : goal.returns-clause-only
returns-clause-only c = λ n there. rw (← c.self.view_is, ← c.key_of_class-first.ensures, ← c.key_of_class-second.ensures) (⊎_elim
    (λ a. inl ((under _ by_first (listed_at c.self.inside.index.first) _ _ c.of.ensures c.self.invariant.index.listed.first n).0 a))
    (λ b. inr ((under _ by_second (listed_at c.self.inside.index.second) _ _ c.of-2.ensures c.self.invariant.index.listed.second n).0 b))
    (c.common.ensures.only n there))

pub common-requires-clause-first : goal.common-requires-clause-first
common-requires-clause-first c = rw (c.of.ensures) (c.self.invariant.index.first_ascends _)

pub common-requires-clause-second : goal.common-requires-clause-second
common-requires-clause-second c = rw (c.of-2.ensures) (c.self.invariant.index.second_ascends _)
