use Rattle.std.proofs.Common.{refl, map, subst}
use Rattle.std.proofs.lemmas.Option.{slice_get_within}
use Rattle.lemmas.proofs.Members.{Contains-from_slice_get}
use Rattle.axioms.specs.Expression.{Iri}
use Rattle.answers.specs.Questions.{AreTypes}
use Rattle.answers.proofs.Naming.{name_is}
use Rattle.answers.proofs.asking.types_asked.Goals as goal

pub types_of-requires : goal.types_of-requires
types_of-requires c = slice_get_within c.args.indexed.now.ontology.names.individuals c.in-Some.individual.0 c.args.name.now c.in-Some.ensures

pub returns-clause-known : goal.returns-clause-known
returns-clause-known c = (λ _. Contains-from_slice_get c.args.indexed.now.ontology.names.individuals c.in-Some.individual.0 c.args.name.now c.in-Some.ensures, λ _. refl)

pub returns-clause-exact : goal.returns-clause-exact
returns-clause-exact c =
    let o = c.args.indexed.now.ontology in
    subst (λ (i : Iri). AreTypes o i (map (λ s. s.now) c.in_ok-names.names.items)) (name_is o.names.individuals c.in-Some.individual.0 c.args.name.now c.in-Some.ensures) c.in_ok-names.ensures
