-- Marks on expressions, by their numbers.
use Rattle.std.specs.Prelude.{◌≡◌, ℕ, suc, ◌+◌, ◌<◌, ◌≤◌, ◌⊎◌, ◌↔◌, Bool, true, false, List, [], ◌∷◌, length, slice_get, Some}
use Rattle.std.specs.List.{Contains}
use Rattle.axioms.specs.Ontology.{Ontology, Axiom, Node, IsPart}
use Rattle.normal_forms.specs.Occurrences.{AtLeft, AtRight, Occurs, Reached}
use Rattle.normalise.specs.View.{Keeps}
use Rattle.normalise.specs.declared.marks.Marked.{Marked}
use Rattle.normalise.specs.declared.marks.Side.{Side}
use Rattle.normalise.specs.declared.marks.Side.TheVariants as sides

abbrev pub IsMarked : List Bool → ℕ → Type 0
IsMarked marks e = slice_get marks e ≡ Some true

-- the axiom has the expression on that side
abbrev pub AtSide : Side → Axiom → ℕ → Type 0
AtSide sides.Right = AtRight
AtSide sides.Left = AtLeft

-- new has the marks of old, and those that P says
pub record Marks (old new : List Bool) (P : ℕ → Type 0) : Type 0 where
  pub same_length : length new ≡ length old
  pub kept : (e : ℕ) → IsMarked old e → IsMarked new e
  pub only : (e : ℕ) → IsMarked new e → IsMarked old e ⊎ P e
  pub all : (e : ℕ) → e < length old → P e → IsMarked new e

-- how many are not marked
abbrev pub unmarked : List Bool → ℕ
unmarked [] = 0
unmarked (true ∷ marks) = unmarked marks
unmarked (false ∷ marks) = suc (unmarked marks)

-- behind the numbers of old, new has noted what it has marked newly, each once
pub record Notes (old new : Marked) : Type 0 where
  pub keeps : Keeps old.noted.items new.noted.items
  pub each : (e : ℕ) → Contains new.noted.items e → Contains old.noted.items e ⊎ IsMarked new.marks e
  pub all : (e : ℕ) → IsMarked new.marks e → IsMarked old.marks e ⊎ Contains new.noted.items e
  pub count : unmarked new.marks + length new.noted.items ≡ unmarked old.marks + length old.noted.items

-- new has the marks of old, and those that P says, and has noted those that are new
pub record MarksMore (old new : Marked) (P : ℕ → Type 0) : Type 0 where
  pub marks : Marks old.marks new.marks P
  pub notes : Notes old new

-- what is noted is marked
abbrev pub AreNotedMarked : Marked → Type 0
AreNotedMarked m = (e : ℕ) → Contains m.noted.items e → IsMarked m.marks e

-- new has the marks of old and others that these reach; and the parts of what is noted are marked
pub record Closes (nodes : List Node) (old new : Marked) : Type 0 where
  pub same_length : length new.marks ≡ length old.marks
  pub kept : (e : ℕ) → IsMarked old.marks e → IsMarked new.marks e
  pub only : (e : ℕ) → IsMarked new.marks e → Reached nodes (IsMarked old.marks) e
  pub notes : Notes old new
  pub closed : (d : ℕ) (node : Node) (e : ℕ) → Contains new.noted.items d → slice_get nodes d ≡ Some node → IsPart node e → e < length new.marks → IsMarked new.marks e

-- a part of the expression of that number
abbrev pub IsPartOf : List Node → ℕ → ℕ → Type 0
IsPartOf nodes d e = (node : Node) × (slice_get nodes d ≡ Some node) × IsPart node e

-- what F says of one of the first k elements
abbrev pub EachOf : {X : Type 0} → List X → (X → ℕ → Type 0) → ℕ → ℕ → Type 0
EachOf {X} xs F k e = (n : ℕ) × (n < k) × ((x : X) × (slice_get xs n ≡ Some x) × F x e)

-- what F says of one of the elements from a place on and below another
abbrev pub EachFrom : {X : Type 0} → List X → (X → ℕ → Type 0) → ℕ → ℕ → ℕ → Type 0
EachFrom {X} xs F from k e = (n : ℕ) × (from ≤ n) × (n < k) × ((x : X) × (slice_get xs n ≡ Some x) × F x e)

-- the marks are on what occurs
abbrev pub MarksOccurring : (Axiom → ℕ → Type 0) → Ontology → List ℕ → List Bool → Type 0
MarksOccurring At o asked marks = (length marks ≡ length o.nodes) × ((e : ℕ) → e < length o.nodes → IsMarked marks e ↔ Occurs At o asked e)
