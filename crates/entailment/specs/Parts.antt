-- What axioms say, one thing after the other: simpler axioms, which together say the same.
use Rattle.std.specs.Prelude.{ℕ, List, [], ◌∷◌, get_or, length}
use Rattle.std.specs.List.{flat_map, range_with_len}
use Rattle.axioms.specs.Ontology.{Axiom, EquivalentClasses, DisjointClasses, EquivalentProperties, SameIndividuals, DifferentIndividuals, SubClass, SubProperty, Transitive}

-- how many members the list of an axiom has
abbrev pub member_count : Axiom → ℕ
member_count (EquivalentClasses cs) = length cs
member_count (DisjointClasses cs) = length cs
member_count (EquivalentProperties rs) = length rs
member_count (SameIndividuals xs) = length xs
member_count (DifferentIndividuals xs) = length xs
member_count axiom' = 0

-- what it says of the members at two places
abbrev pub parts_at : Axiom → (m n : ℕ) → List Axiom
parts_at (EquivalentClasses cs) m n = SubClass (get_or cs m 0) (get_or cs n 0) ∷ SubClass (get_or cs n 0) (get_or cs m 0) ∷ []
parts_at (DisjointClasses cs) m n = DisjointClasses (get_or cs m 0 ∷ get_or cs n 0 ∷ []) ∷ []
parts_at (EquivalentProperties rs) m n = SubProperty (get_or rs m 0 ∷ []) (get_or rs n 0) ∷ SubProperty (get_or rs n 0 ∷ []) (get_or rs m 0) ∷ []
parts_at (SameIndividuals xs) m n = SameIndividuals (get_or xs m 0 ∷ get_or xs n 0 ∷ []) ∷ []
parts_at (DifferentIndividuals xs) m n = DifferentIndividuals (get_or xs m 0 ∷ get_or xs n 0 ∷ []) ∷ []
parts_at axiom' m n = []

-- of the member at the place with each before it
abbrev pub parts_before : Axiom → ℕ → List Axiom
parts_before axiom' n = flat_map (λ m. parts_at axiom' m n) (range_with_len 0 n)

-- of each two members
abbrev pub parts_of_list : Axiom → List Axiom
parts_of_list axiom' = flat_map (parts_before axiom') (range_with_len 0 (member_count axiom'))

-- what an axiom says: of a list, what it says of each two members; a transitive property, that a chain of two of it lies below it
-- (OWL 2 Structural Specification, sections 9.1.2, 9.1.3, 9.2.2, 9.2.13, 9.6.1 and 9.6.2); and any other, itself
abbrev pub parts_of : Axiom → List Axiom
parts_of (EquivalentClasses cs) = parts_of_list (EquivalentClasses cs)
parts_of (DisjointClasses cs) = parts_of_list (DisjointClasses cs)
parts_of (EquivalentProperties rs) = parts_of_list (EquivalentProperties rs)
parts_of (SameIndividuals xs) = parts_of_list (SameIndividuals xs)
parts_of (DifferentIndividuals xs) = parts_of_list (DifferentIndividuals xs)
parts_of (Transitive r) = SubProperty (r ∷ r ∷ []) r ∷ []
parts_of axiom' = axiom' ∷ []
