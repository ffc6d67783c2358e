-- What fresh names stand for: prefixes of intersections and of chains.
use Rattle.std.specs.Prelude.{◌≡◌, ℕ, zero, suc, ◌<◌, ◌≤◌, List, [], ◌∷◌, ◌++◌, length, take, slice_get, Some, nat_le, if◌then◌else◌}
use Rattle.std.specs.List.{Contains, flat_map}
use Rattle.axioms.specs.Ontology.{Ontology, Axiom, And, SubProperty}
use Rattle.normal_forms.specs.Occurrences.{Occurs, AtLeft}

-- the first members of a list, two or more of them and not all
pub record IsPrefixOf (whole list : List ℕ) : Type 0 where
  pub many : 2 ≤ length list
  pub shorter : length list < length whole
  pub first : list ≡ take (length list) whole

-- the first operands of an intersection that occurs left, two or more of them and not all
pub record BeginsIntersection (o : Ontology) (asked : List ℕ) (ds : List ℕ) : Type 0 where
  pub expression : ℕ
  pub operands : List ℕ
  pub occurs : Occurs AtLeft o asked expression
  pub there : slice_get o.nodes expression ≡ Some (And operands)
  pub prefix : IsPrefixOf operands ds

-- the prefixes of two members or more and fewer than k, the shorter ones first
abbrev pub prefixes_below : ℕ → List ℕ → List (List ℕ)
prefixes_below zero list = []
prefixes_below (suc k) list = if nat_le 2 k then prefixes_below k list ++ take k list ∷ [] else prefixes_below k list

-- the prefixes of two members or more and fewer than all, the shorter ones first
abbrev pub prefixes_of : List ℕ → List (List ℕ)
prefixes_of list = prefixes_below (length list) list

-- those of the chain of an axiom
abbrev pub chain_prefixes : Axiom → List (List ℕ)
chain_prefixes (SubProperty rs s) = prefixes_of rs
chain_prefixes _ = []

-- the prefixes of the chains of all axioms, in the order of the axioms
abbrev pub all_chain_prefixes : List Axiom → List (List ℕ)
all_chain_prefixes axioms = flat_map chain_prefixes axioms

-- the members of the first list have numbers in the second, by the first place of each: where one stands, each with a smaller
-- number stands before
pub record AreNumberedByFirstPlace {X : Type 0} (places numbered : List X) : Type 0 where
  pub each : (x : X) → Contains numbered x → Contains places x
  pub all : (x : X) → Contains places x → Contains numbered x
  pub order : (m n : ℕ) (x y : X) → m < n → slice_get numbered m ≡ Some x → slice_get numbered n ≡ Some y → (j : ℕ) → slice_get places j ≡ Some y → (i : ℕ) × (i < j) × (slice_get places i ≡ Some x)

-- the fresh properties stand for the prefixes of the chains, by the first place of each
abbrev pub NameChains : List Axiom → List (List ℕ) → Type 0
NameChains axioms steps = AreNumberedByFirstPlace (all_chain_prefixes axioms) steps
