use Rattle.std.proofs.Common.{refl}
use Rattle.answers.proofs.Knowing.{class_known}
use Rattle.answers.proofs.asking.names_asked.Goals as goal

pub names_related-requires : goal.names_related-requires
names_related-requires c = (c.args.name.now, c.in-Some.ensures)

pub returns-clause-known : goal.returns-clause-known
returns-clause-known c = (λ _. class_known c.args.indexed.now.ontology c.args.name.now c.in-Some.class.0 c.in-Some.ensures, λ _. refl)

pub returns-clause-exact : goal.returns-clause-exact
returns-clause-exact c = c.in_ok-names.ensures c.args.name.now c.in-Some.ensures
