use Rattle.fs_parser.specs.View.{prefixes_of_code, tokens_of}
use Rattle.fs_parser.proofs.TreeReading.{trees_start}
use Rattle.fs_parser.proofs.tree_reader.TreeReader.start.Goals as goal

pub returns : goal.returns
returns c =
    trees_start c.args.text.now (tokens_of c.in_ok-header.header.items) c.in_ok-header.from (prefixes_of_code c.in_ok-known.known.declared.items) c.in_ok-header.ensures c.in_ok-known.ensures
