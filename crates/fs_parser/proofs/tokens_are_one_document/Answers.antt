use Rattle.fs_parser.proofs.Complete.{one_tree, one_reading}
use Rattle.fs_parser.proofs.Documents.{one_document, document_prefixes}
use Rattle.fs_parser.proofs.Faults.{tokens_end_inside}
use Rattle.fs_parser.proofs.Names.{ends_at_colon}
use Rattle.fs_parser.proofs.tokens_are_one_document.Goals as goal

pub returns : goal.returns
returns c = record { document = one_document; prefixes = document_prefixes; trees = one_reading; tree = one_tree; names = ends_at_colon; ends = tokens_end_inside }
