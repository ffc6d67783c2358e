use Rattle.cli.proofs.EveryDocument.{every_document}
use Rattle.cli.proofs.every_document_is_classified.Goals as goal

pub returns : goal.returns
returns c = every_document
