-- What names are expanded with while a document is read.
use Rattle.std.specs.Prelude.{◌++◌}
use Rattle.fs_parser.specs.declared.known.Known.{Known}
use Rattle.fs_parser.specs.Name.{Prefixes, standard_prefixes}
use Rattle.fs_parser.specs.View.{prefixes_of_code}

-- the standard prefixes, and those that were declared so far
abbrev pub known_of : Known → Prefixes
known_of k = standard_prefixes ++ prefixes_of_code k.declared.items
