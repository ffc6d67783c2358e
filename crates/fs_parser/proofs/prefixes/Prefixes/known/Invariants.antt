use Rattle.std.proofs.Common.{◌≡◌, map, take}
use Rattle.fs_parser.specs.OwnedPrefixes.{owned_prefix}
use Rattle.fs_parser.specs.View.{prefixes_of_code}
use Rattle.fs_parser.proofs.prefixes.Prefixes.known.Given as goal

-- the prefixes so far
abbrev pub invariant-loop-prefix : goal.invariant-loop-prefix
invariant-loop-prefix l = prefixes_of_code l.known.declared.items ≡ map owned_prefix (take l.prefix-index l.prefix-items)
