use Rattle.speech.proofs.Edits.{calls_of, exchanges_of, one_document}
use Rattle.speech.proofs.editing.conversations_are_edits.Goals as goal

pub returns : goal.returns
returns c = record { exchanges = exchanges_of; calls = calls_of; document = one_document }
