use Rattle.std.proofs.Common.{◌≡◌, take}
use Rattle.fs_parser.specs.View.{prefixes_of_code}
use Rattle.short_names.specs.Found.{pairs_of, written_prefixes}
use Rattle.short_names.specs.Spellings.{written_in}
use Rattle.short_names.proofs.shortening.written_list.Given as goal

-- the prefixes so far
abbrev pub invariant-loop-prefix : goal.invariant-loop-prefix
invariant-loop-prefix l = pairs_of l.list.items ≡ written_prefixes (written_in l.graph) (prefixes_of_code (take l.prefix-index l.prefixes))
