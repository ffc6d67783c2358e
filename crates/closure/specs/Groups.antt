-- Groups of individuals that have one element by the axioms, each by its least member.
use Rattle.std.specs.Prelude.{ℕ, ◌≤◌, List, [], ◌∷◌, if◌then◌else◌, ltb, ◌==◌}
use Rattle.axioms.specs.Ontology.{Ontology, Axiom, SameIndividuals}
use Rattle.closure.specs.Closure.{AreSame}

-- the least of its group
abbrev pub IsLeast : Ontology → List ℕ → ℕ → Type 0
IsLeast o asked a = (b : ℕ) → AreSame o asked a b → a ≤ b

-- ---- as a function

abbrev pub lower : ℕ → ℕ → ℕ
lower m n = if ltb m n then m else n

-- what k stands for once m and n stand for the lower of them
abbrev pub joined : ℕ → ℕ → ℕ → ℕ
joined m n k = if k == m then lower m n else (if k == n then lower m n else k)

-- .. once each of a list and the next stand for one
abbrev pub joined_along : (ℕ → ℕ) → List ℕ → ℕ → ℕ
joined_along least [] x = least x
joined_along least (a ∷ []) x = least x
joined_along least (a ∷ b ∷ bs) x =
    joined (joined_along least (b ∷ bs) a) (joined_along least (b ∷ bs) b) (joined_along least (b ∷ bs) x)

abbrev pub joined_by : (ℕ → ℕ) → Axiom → ℕ → ℕ
joined_by least (SameIndividuals xs) x = joined_along least xs x
joined_by least _ x = least x

abbrev pub least_by : List Axiom → ℕ → ℕ
least_by [] x = x
least_by (a ∷ axioms) x = joined_by (least_by axioms) a x

-- the least individual that has the element of this one by the axioms
abbrev pub least_same : Ontology → ℕ → ℕ
least_same o a = least_by o.axioms a
