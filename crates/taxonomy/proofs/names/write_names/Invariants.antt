use Rattle.std.proofs.Common.{◌++◌, ◌≡◌, drop, map}
use Rattle.taxonomy.specs.Texts.{listed}
use Rattle.std.specs.String.{string_bytes}
use Rattle.taxonomy.proofs.names.write_names.Given as goal

abbrev pub invariant-loop-n : goal.invariant-loop-n
invariant-loop-n l =
    l.out.items ++ listed (map string_bytes l.names) l.before l.between (drop l.n-index l.classes)
    ≡ l.fn.out.items ++ listed (map string_bytes l.names) l.lead l.between l.classes
