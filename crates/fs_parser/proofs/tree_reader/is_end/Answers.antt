use Rattle.fs_lexer.specs.Views.{token_of}
use Rattle.fs_parser.proofs.TreeReading.{none_left}
use Rattle.fs_parser.proofs.tree_reader.is_end.Goals as goal

pub returns-in-Closing : goal.returns-in-Closing
returns-in-Closing c = λ t. none_left c.args.text.now c.args.from c.in-Some.behind (token_of c.in-Some.token) c.in-Closing.is c.in-Some.ensures.read (c.only_separators.ensures.0 t)
