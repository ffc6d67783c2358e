use Rattle.profile.proofs.Readings.{axioms_fit}
use Rattle.profile.proofs.document.opened_bytes.Goals as goal

pub returns-in-Ok-clause-axioms : goal.returns-in-Ok-clause-axioms
returns-in-Ok-clause-axioms c = axioms_fit c.args.version c.read_text.result c.in-Ok.text.now c.read_text.ensures.read
