use Rattle.std.proofs.Common.{List, ◌++◌, sym, subst}
use Rattle.fs_parser.specs.Name.{StandForOne, standard_prefixes}
use Rattle.fs_parser.specs.View.{prefixes_of_code}
use Rattle.fs_parser.specs.declared.prefix.Prefix.{Prefix}
use Rattle.fs_parser.proofs.tree_reader.TreeReader.prefixes.Goals as goal

pub of-requires : goal.of-requires
of-requires c = subst (λ (ps : List Prefix). StandForOne (standard_prefixes ++ prefixes_of_code ps)) (sym c.deref.ensures.value) c.self.invariant.1
