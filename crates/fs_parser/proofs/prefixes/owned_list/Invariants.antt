use Rattle.std.proofs.Common.{◌≡◌, map, take}
use Rattle.fs_parser.specs.OwnedPrefixes.{owned_prefix}
use Rattle.fs_parser.specs.View.{prefixes_of_code}
use Rattle.fs_parser.proofs.prefixes.owned_list.Given as goal

-- the copies so far
abbrev pub invariant-loop-prefix : goal.invariant-loop-prefix
invariant-loop-prefix l = map owned_prefix l.copies.items ≡ prefixes_of_code (take l.prefix-index l.declared)
