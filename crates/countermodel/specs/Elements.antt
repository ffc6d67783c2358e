-- Contexts as elements.
use Rattle.std.specs.Prelude.{List, map}
use Rattle.axioms.specs.Ontology.{Ontology}
use Rattle.closure.specs.Closure.{Context, Expression, Individual}
use Rattle.closure.specs.Groups.{least_same}
use Rattle.closure.specs.Denotations.{context_of}
use Rattle.facts.specs.declared.contexts.Context as code

-- the contexts of the definitions that these of the code say
abbrev pub contexts_of : List code.Context → List Context
contexts_of xs = map context_of xs

-- the context that has the element of this one: of individuals that are one the least
abbrev pub leader : Ontology → Context → Context
leader o (Expression e) = Expression e
leader o (Individual a) = Individual (least_same o a)
