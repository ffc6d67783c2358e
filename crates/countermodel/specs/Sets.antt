-- Sets of contexts.
use Rattle.std.specs.Prelude.{◌≡◌, ◌<◌, Bool, true, not, ◌&&◌, length, slice_set}
use Rattle.axioms.specs.Ontology.{Ontology}
use Rattle.facts.specs.declared.contexts.Context as code
use Rattle.facts.specs.declared.contexts.Context.TheVariants.{Expr, Individual as Individual2}
use Rattle.closure.specs.Closure.{Context, Expression, Individual}
use Rattle.number_sets.specs.Members.{has}
use Rattle.countermodel.specs.declared.context_set.ContextSet.{ContextSet}
use Rattle.countermodel.specs.declared.satisfiable.Satisfiable.{Satisfiable}

-- whether the set has the context
abbrev pub holds : ContextSet → Context → Bool
holds s (Expression e) = has s.expressions e
holds s (Individual a) = has s.individuals a

abbrev pub with_context : ContextSet → code.Context → ContextSet
with_context s (Expr e) = record s { expressions = slice_set s.expressions e.0 true }
with_context s (Individual2 a) = record s { individuals = slice_set s.individuals a.0 true }

-- whether owl:Thing is there, and not owl:Nothing
abbrev pub admits : Satisfiable → Context → Bool
admits s x = holds s.things x && not (holds s.nothings x)

abbrev pub IsAdmitted : Satisfiable → Context → Type 0
IsAdmitted s x = admits s x ≡ true

-- the set has room for the contexts of the ontology
pub record HasRoom (o : Ontology) (s : ContextSet) : Type 0 where
  pub expressions : length s.expressions ≡ length o.nodes
  pub individuals : length s.individuals ≡ length o.names.individuals

-- the ontology has the expression or individual
abbrev pub IsWithin : Ontology → Context → Type 0
IsWithin o (Expression e) = e < length o.nodes
IsWithin o (Individual a) = a < length o.names.individuals
