use Rattle.fs_lexer.specs.Views.{token_of}
use Rattle.fs_parser.specs.KnownPrefixes.{known_of}
use Rattle.fs_parser.proofs.Steps.{not_named}
use Rattle.fs_parser.proofs.expansion.expand.Goals as goal

pub returns-in-ShortName-clause-none : goal.returns-in-ShortName-clause-none
returns-in-ShortName-clause-none c =
    not_named (known_of c.args.known.now) (token_of c.args.token.now) c.expand_short.result c.in-ShortName.is c.expand_short.ensures.none
