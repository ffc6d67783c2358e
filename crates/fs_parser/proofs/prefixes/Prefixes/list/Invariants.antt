use Rattle.std.proofs.Common.{◌≡◌, ◌++◌, map, take}
use Rattle.fs_parser.specs.Name.{standard_prefixes}
use Rattle.fs_parser.specs.OwnedPrefixes.{owned_prefix}
use Rattle.fs_parser.specs.View.{prefixes_of_code}
use Rattle.fs_parser.proofs.prefixes.Prefixes.list.Given as goal

-- the standard ones, and the prefixes so far
abbrev pub invariant-loop-prefix : goal.invariant-loop-prefix
invariant-loop-prefix l = prefixes_of_code l.all.items ≡ standard_prefixes ++ map owned_prefix (take l.prefix-index l.prefix-items)
