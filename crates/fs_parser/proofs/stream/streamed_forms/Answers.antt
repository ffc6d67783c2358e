use Rattle.fs_parser.specs.View.{prefixes_of_code, tokens_of, trees_of}
use Rattle.fs_parser.proofs.Streams.{forms_are}
use Rattle.fs_parser.proofs.stream.streamed_forms.Goals as goal

pub returns : goal.returns
returns c =
    forms_are c.args.text.now (tokens_of c.in_ok-header.header.items) c.in_ok-header.from (prefixes_of_code c.in_ok-known.known.declared.items) (trees_of c.in_ok-trees.trees.items)
    c.in_ok-header.ensures c.in_ok-known.ensures c.in_ok-trees.ensures
