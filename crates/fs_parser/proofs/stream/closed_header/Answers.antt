use Rattle.std.proofs.Common.{ap, ◌∙◌}
use Rattle.std.proofs.lemmas.List.{map_push}
use Rattle.fs_lexer.specs.Views.{token_of}
use Rattle.fs_parser.specs.View.{tokens_of}
use Rattle.fs_parser.proofs.stream.closed_header.Goals as goal

pub returns : goal.returns
returns c = (_, ap tokens_of c.in-Ok.ensures.items ∙ map_push token_of c.args.header.items _)
