use Rattle.std.proofs.Common.{List, ◌++◌, sym, subst}
use Rattle.fs_parser.specs.Name.{StandForOne, standard_prefixes}
use Rattle.fs_parser.specs.View.{document_of, prefixes_of_code, tokens_of}
use Rattle.fs_parser.specs.declared.prefix.Prefix.{Prefix}
use Rattle.reading_tests.proofs.parts.declared.Goals as goal

pub of-requires : goal.of-requires
of-requires c =
    let one = c.tokens_are_one_document.ensures.prefixes (document_of c.in_ok-document.document) (tokens_of c.args.tokens.now) c.in_ok-document.ensures.found in
    subst (λ (ps : List Prefix). StandForOne (standard_prefixes ++ prefixes_of_code ps)) (sym c.deref.ensures.value) one
