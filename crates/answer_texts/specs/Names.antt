-- Names and class expressions in the functional syntax, with full IRIs and single spaces.
use Rattle.std.specs.Prelude.{ℕ, List, [], ◌∷◌, ◌++◌, codes}
use Rattle.std.specs.List.{flat_map}
use Rattle.std.specs.Fmt.{decimal}
use Rattle.axioms.specs.Expression.{Iri, ClassExpression, Operands, Named, Intersection, SomeValues, Pair, Before}

abbrev pub line_feed : List ℕ
line_feed = 10 ∷ []

-- an IRI as it is written
abbrev pub name_text : Iri → List ℕ
name_text name = codes "<" ++ name ++ codes ">"

-- each number behind a space
abbrev pub spaced_numbers : List ℕ → List ℕ
spaced_numbers ns = flat_map (λ n. codes " " ++ decimal n) ns

abbrev mutual
  pub expression_text : ClassExpression → List ℕ
  expression_text (Named c) = name_text c
  expression_text (Intersection operands) = codes "ObjectIntersectionOf(" ++ operands_text operands ++ codes ")"
  expression_text (SomeValues r c) = codes "ObjectSomeValuesFrom(" ++ name_text r ++ codes " " ++ expression_text c ++ codes ")"

  pub operands_text : Operands → List ℕ
  operands_text (Pair c d) = expression_text c ++ codes " " ++ expression_text d
  operands_text (Before c rest) = expression_text c ++ codes " " ++ operands_text rest
