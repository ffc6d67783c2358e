use Rattle.std.proofs.Common.{◌≡◌, take}
use Rattle.fs_parser.specs.View.{prefixes_of_code}
use Rattle.fs_parser.proofs.known.Known.of.Given as goal

-- the prefixes so far
abbrev pub invariant-loop-prefix : goal.invariant-loop-prefix
invariant-loop-prefix l = prefixes_of_code l.known.declared.items ≡ prefixes_of_code (take l.prefix-index l.prefixes)
