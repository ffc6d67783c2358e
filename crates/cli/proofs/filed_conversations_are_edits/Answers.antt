use Rattle.cli.proofs.Filed.{calls_of, one_document}
use Rattle.cli.proofs.filed_conversations_are_edits.Goals as goal

pub returns : goal.returns
returns c = record { calls = calls_of; document = one_document }
