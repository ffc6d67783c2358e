-- The numbers of a list.
use Rattle.std.specs.Prelude.{ℕ, List, []}
use Rattle.number_sets.specs.declared.list.Numbers.{Numbers}
use Rattle.number_sets.specs.declared.list.Numbers.TheVariants as the

abbrev pub items_of : Numbers → List ℕ
items_of the.None = []
items_of (the.One numbers) = numbers
items_of (the.Two numbers) = numbers
items_of (the.Three numbers) = numbers
items_of (the.Many numbers) = numbers.value.items
