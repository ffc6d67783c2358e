use Rattle.std.proofs.Common.{◌++◌, ◌≡◌, drop, map}
use Rattle.std.specs.List.{filter, flat_map}
use Rattle.std.specs.String.{string_bytes}
use Rattle.inferred_text.proofs.Declared.{declaration_line, is_from}
use Rattle.inferred_text.proofs.declarations.push_names.Given as goal

abbrev pub invariant-loop-n : goal.invariant-loop-n
invariant-loop-n l =
    let line = declaration_line l.kind (map string_bytes l.names) in
    l.out.items ++ flat_map line (filter (is_from l.first) (drop l.n-index l.n-items)) ≡ l.fn.out.items ++ flat_map line (filter (is_from l.first) l.n-items)
