use Rattle.session.proofs.Alike.{say_alike, write_alike}
use Rattle.session.proofs.Calls.{accepted_alike, edits_are_one_document}
use Rattle.session.proofs.SameTexts.{same_listed, same_texts}
use Rattle.session.proofs.edits.any_edits.Goals as goal

pub returns : goal.returns
returns c = record { ontology = edits_are_one_document; alike = accepted_alike; facts = say_alike; written = write_alike; texts = same_texts; listed = same_listed }
