use Rattle.indexes.specs.Keys.{by_alone}
use Rattle.indexes.proofs.Led.{as_long, as_many, led, led_none}
use Rattle.indexes.proofs.indexed_problem.IndexedProblem.led_alone.Goals as goal

pub at-requires-clause-wholes : goal.at-requires-clause-wholes
at-requires-clause-wholes c = as_long _ _ _ c.self.invariant.alone.shared.wholes

pub at-requires-clause-partials : goal.at-requires-clause-partials
at-requires-clause-partials c = as_long _ _ _ c.self.invariant.alone.shared.partials

pub at-requires-clause-changed : goal.at-requires-clause-changed
at-requires-clause-changed c = as_many _ _ _ c.self.invariant.alone.changed

pub returns : goal.returns
returns c = rw (← c.self.view_is, ← c.key_of_class-key.ensures) (led by_alone _ c.self.inside.index.alone c.self.inside.alone _ _ c.at.ensures c.self.invariant.index.listed.alone c.self.invariant.alone)

pub returns-then-is_past : goal.returns-then-is_past
returns-then-is_past c = rw (← c.self.view_is, ← c.key_of_class-key.ensures) (led_none by_alone _ c.self.inside.index.alone _ (c.is_past.ensures c.if-is_past.true) c.self.invariant.index.listed.alone)
