use Rattle.indexes.specs.Keys.{by_filler}
use Rattle.indexes.proofs.Led.{as_long, as_many, led, led_none}
use Rattle.indexes.proofs.indexed_problem.IndexedProblem.led_by_filler.Goals as goal

pub at-requires-clause-wholes : goal.at-requires-clause-wholes
at-requires-clause-wholes c = as_long _ _ _ c.self.invariant.fillers.shared.wholes

pub at-requires-clause-partials : goal.at-requires-clause-partials
at-requires-clause-partials c = as_long _ _ _ c.self.invariant.fillers.shared.partials

pub at-requires-clause-changed : goal.at-requires-clause-changed
at-requires-clause-changed c = as_many _ _ _ c.self.invariant.fillers.changed

pub returns : goal.returns
returns c = rw (← c.self.view_is, ← c.key_of_class-key.ensures) (led by_filler _ c.self.inside.index.fillers c.self.inside.fillers _ _ c.at.ensures c.self.invariant.index.listed.fillers c.self.invariant.fillers)

pub returns-then-is_past : goal.returns-then-is_past
returns-then-is_past c = rw (← c.self.view_is, ← c.key_of_class-key.ensures) (led_none by_filler _ c.self.inside.index.fillers _ (c.is_past.ensures c.if-is_past.true) c.self.invariant.index.listed.fillers)
