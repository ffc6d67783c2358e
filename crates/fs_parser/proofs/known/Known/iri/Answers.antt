use Rattle.fs_parser.specs.Name.{standard_prefixes}
use Rattle.fs_parser.specs.View.{prefixes_of_code}
use Rattle.fs_parser.proofs.Steps.{known_more, known_none}
use Rattle.fs_parser.proofs.known.Known.iri.Goals as goal

pub returns-in-None-clause-some : goal.returns-in-None-clause-some
returns-in-None-clause-some c = known_more standard_prefixes (prefixes_of_code c.args.self.now.declared.items) c.args.name.now c.declared_iri.result c.declared_iri.ensures.some

pub returns-in-None-clause-none : goal.returns-in-None-clause-none
returns-in-None-clause-none c =
    known_none standard_prefixes (prefixes_of_code c.args.self.now.declared.items) c.args.name.now c.declared_iri.result c.in-None.ensures.none c.declared_iri.ensures.none
