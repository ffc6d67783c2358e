use Rattle.std.proofs.Common.{Ok, Err, ◌∙◌}
use Rattle.std.proofs.lemmas.List.Sorted.{searched}
use Rattle.interpretation_spec.proofs.Ascending.{with_number_there, with_number_inserted, no_descent}
use Rattle.interpretation_spec.proofs.pairs.insert_ascending.Goals as goal

pub returns-in_ok-insert-clause-after : goal.returns-in_ok-insert-clause-after
returns-in_ok-insert-clause-after c =
    let xs = c.args.numbers.now.items in
    let n = c.args.number in
    let found = rw c.deref.ensures.value at c.in-Err.ensures.position in
    let (within, below, above) = searched xs n (Err c.in-Err.place) found (no_descent xs c.requires) in
    c.in_ok-insert.ensures.items ∙ with_number_inserted n xs c.in-Err.place within below above

pub returns-in_default-clause-after : goal.returns-in_default-clause-after
returns-in_default-clause-after c =
    let xs = c.args.numbers.now.items in
    let n = c.args.number in
    let found = rw c.deref.ensures.value at c.in_default.ensures.position in
    let (within, here) = searched xs n (Ok c.in_default.field-0) found (no_descent xs c.requires) in
    with_number_there n xs c.in_default.field-0 c.requires within here
