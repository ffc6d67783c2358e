-- The parts of conditions that an answer has are expressions of the ontology.
use Rattle.axioms.specs.Expression.{Iri}
use Rattle.axioms.specs.Ontology.{Ontology}
use Rattle.axioms.specs.WellFormedness.{IsOntology}
use Rattle.answers.specs.Conditions.{IsInExpression, IsLacking}
use Rattle.answers.specs.declared.condition.Lacking.{Lacking}
use Rattle.answers.specs.declared.condition.Lacking.TheVariants.{Nothing, Conditions}
use Rattle.answers.proofs.Giving.{found_within}
use Rattle.program.specs.declared.question.Asked.{Asked}
use Rattle.session.specs.Texts.{IsWithin}

pub lacking_within : (o : Ontology) → IsOntology o → (asked : Asked) (class : Iri) (lacking : Lacking) → IsLacking o asked class lacking → IsWithin o lacking
lacking_within o w asked class Nothing is = tt
lacking_within o w asked class (Conditions found) (outside, (e, named, are)) = found_within o w e (IsInExpression o asked) found.items are
