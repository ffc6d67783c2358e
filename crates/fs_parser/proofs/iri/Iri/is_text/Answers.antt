use Rattle.fs_parser.proofs.Steps.{same_behind}
use Rattle.fs_parser.proofs.iri.Iri.is_text.Goals as goal

pub returns-in-Some : goal.returns-in-Some
returns-in-Some c = same_behind c.args.self.now.base.now c.args.self.now.local.now c.in-Some.rest.now c.args.text.now c.eq.result c.in-Some.ensures.some c.eq.ensures
