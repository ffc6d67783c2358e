use Rattle.std.proofs.Common.{refl, subst}
use Rattle.std.proofs.lemmas.Option.{slice_get_within}
use Rattle.lemmas.proofs.Members.{Contains-from_slice_get}
use Rattle.axioms.specs.Expression.{Iri}
use Rattle.answers.specs.Names.{groups_in}
use Rattle.answers.specs.Questions.{AreDirectTypes}
use Rattle.answers.proofs.Naming.{name_is}
use Rattle.answers.proofs.asking.direct_types_asked.Goals as goal

pub direct_types_of-requires : goal.direct_types_of-requires
direct_types_of-requires c = slice_get_within c.args.indexed.now.ontology.names.individuals c.in-Some.individual.0 c.args.name.now c.in-Some.ensures

pub returns-clause-known : goal.returns-clause-known
returns-clause-known c = (λ _. Contains-from_slice_get c.args.indexed.now.ontology.names.individuals c.in-Some.individual.0 c.args.name.now c.in-Some.ensures, λ _. refl)

pub returns-clause-exact : goal.returns-clause-exact
returns-clause-exact c =
    let o = c.args.indexed.now.ontology in
    subst (λ (i : Iri). AreDirectTypes o i (groups_in c.in_ok-groups.groups.items)) (name_is o.names.individuals c.in-Some.individual.0 c.args.name.now c.in-Some.ensures) c.in_ok-groups.ensures
