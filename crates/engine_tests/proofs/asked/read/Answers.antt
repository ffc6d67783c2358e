use Rattle.engine_tests.proofs.Reading.{grows, is_there}
use Rattle.engine_tests.proofs.asked.read.Goals as goal

pub returns-in-Ok-clause-grows : goal.returns-in-Ok-clause-grows
returns-in-Ok-clause-grows c = grows c.args.document.now.prefixes c.args.text.now c.args.document.now.ontology c.in-Ok.read.0 c.in-Ok.read.1.0 c.in-Ok.ensures.read

pub returns-in-Ok-clause-there : goal.returns-in-Ok-clause-there
returns-in-Ok-clause-there c = is_there c.args.document.now.prefixes c.args.text.now c.args.document.now.ontology c.in-Ok.read.0 c.in-Ok.read.1.0 c.in-Ok.ensures.read
