use Rattle.std.proofs.Common.{map}
use Rattle.std.proofs.lemmas.List.{length-map}
use Rattle.std.specs.String.{string_bytes}
use Rattle.answers.specs.Names.{IsMarked}
use Rattle.answers.proofs.Naming.{all_marked, in_order}
use Rattle.answers.proofs.names.names_in_order.Goals as goal

pub returns : goal.returns
returns c =
    let names = map string_bytes c.args.names.now in
    in_order names (IsMarked c.args.marks.now) c.in_ok-found.found.items c.sort.new.self.items
    (all_marked names c.args.marks.now (map (λ s. s.now) c.in_ok-found.found.items) (rw (length-map c.args.names.now string_bytes) c.in_ok-found.ensures)) c.sort.ensures.permutation c.in_ok-sort.ensures.sorted
