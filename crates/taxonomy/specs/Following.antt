-- What relations on named classes and individuals say, by the finite interpretations of the axioms (OWL 2 Direct Semantics, section
-- 2.5).
use Rattle.std.specs.Prelude.{◌≡◌, ◌↔◌, ◌<◌, ℕ, Bool, true, length}
use Rattle.axioms.specs.Expression.{ClassExpression, Named}
use Rattle.axioms.specs.Ontology.{Names, Ontology, axiom_trees, name_at}
use Rattle.interpretation_spec.specs.Interpretation.{IsBelow, IsContradictory, IsMember}
use Rattle.taxonomy.specs.Relation.{is_listed, lies_below}
use Rattle.taxonomy.specs.declared.outcome.Outcome.{Outcome}
use Rattle.taxonomy.specs.declared.outcome.Outcome.TheVariants.{Consistent, Inconsistent}

-- the class of that number
abbrev pub class_at : Names → ℕ → ClassExpression
class_at names c = Named (name_at names.classes c)

-- the axioms have a model, a class lies below another exactly where that follows, and an individual belongs to a class exactly where
-- that does
pub record AreWhatFollows (o : Ontology) (lies_below belongs : ℕ → ℕ → Bool) : Type 0 where
  pub consistent : IsContradictory (axiom_trees o) → ⊥
  pub below : (c d : ℕ) → c < length o.names.classes → d < length o.names.classes → (lies_below c d ≡ true) ↔ IsBelow (axiom_trees o) (class_at o.names c) (class_at o.names d)
  pub members : (a c : ℕ) → a < length o.names.individuals → c < length o.names.classes → (belongs a c ≡ true) ↔ IsMember (axiom_trees o) (name_at o.names.individuals a) (class_at o.names c)

-- what was found is what follows from the axioms
abbrev pub IsWhatFollows : Ontology → Outcome → Type 0
IsWhatFollows o (Consistent taxonomy types) = AreWhatFollows o (lies_below taxonomy) (is_listed types)
IsWhatFollows o Inconsistent = IsContradictory (axiom_trees o)
