use Rattle.std.proofs.lemmas.List.Filters.{FiltersInPlace}
use Rattle.indexes.specs.Tables.{is_other}
use Rattle.indexes.proofs.packed.gather_others.Given as goal

abbrev pub invariant-loop-place : goal.invariant-loop-place
invariant-loop-place l = FiltersInPlace (is_other l.number) l.fn.list l.list l.others l.place
