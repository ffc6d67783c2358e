-- What is found, by the numbers of classes and individuals, and the statements that say it.
use Rattle.std.proofs.Common.{◌≡◌, ℕ, ◌<◌, ◌≤◌, List, [], ◌∷◌, ◌++◌, length, map, All, refl, ap₂, ◌∙◌}
use Rattle.std.specs.List.{flat_map}
use Rattle.std.proofs.lemmas.List.{map-append}
use Rattle.std.proofs.lemmas.List.Elements.{All-append, All-cons, All-head, All-nil, All-tail}
use Rattle.axioms.specs.Axiom.{ClassAssertion, EquivalentClasses, SubClassOf}
use Rattle.axioms.specs.Numbering.{Statement, States}
use Rattle.axioms.specs.Ontology.{Names, name_at}
use Rattle.taxonomy.specs.Following.{class_at}
use Rattle.taxonomy.specs.Superclasses.{AreOnce}

-- one class is below the other, classes are the same, or an individual is in a class
pub data Line : Type 0 where
  Below : (c d : ℕ) → Line
  Same : (cs : List ℕ) → Line
  Member : (a c : ℕ) → Line

-- the statement that says it
abbrev pub said : Names → Line → Statement
said names (Below c d) = States (SubClassOf (class_at names c) (class_at names d))
said names (Same cs) = States (EquivalentClasses (map (class_at names) cs))
said names (Member a c) = States (ClassAssertion (class_at names c) (name_at names.individuals a))

-- of numbers of names, and classes that are the same are two or more, each once
abbrev pub IsGood : Names → Line → Type 0
IsGood names (Below c d) = (c < length names.classes) × (d < length names.classes)
IsGood names (Same cs) = (2 ≤ length cs) × AreOnce cs × All (λ c. c < length names.classes) cs
IsGood names (Member a c) = (a < length names.individuals) × (c < length names.classes)

-- the statements say such lines
pub record HaveLines (names : Names) (ss : List Statement) : Type 0 where
  pub lines : List Line
  pub say : map (said names) lines ≡ ss
  pub good : All (IsGood names) lines

module _ (names : Names) where
  pub no_lines : HaveLines names []
  no_lines = record { lines = []; say = refl; good = All-nil (IsGood names) }

  pub one_line : (line : Line) → IsGood names line → HaveLines names (said names line ∷ [])
  one_line line h = record { lines = line ∷ []; say = refl; good = All-cons (IsGood names) line [] h (All-nil (IsGood names)) }

  pub both_lines : (ss ts : List Statement) → HaveLines names ss → HaveLines names ts → HaveLines names (ss ++ ts)
  both_lines ss ts h k = record {
    lines = h.lines ++ k.lines;
    say = map-append (said names) h.lines k.lines ∙ ap₂ (λ x y. x ++ y) h.say k.say;
    good = All-append (IsGood names) h.lines k.lines h.good k.good;
  }

  -- a line for each number
  pub each_line : (f : ℕ → Statement) (line : ℕ → Line) → ((x : ℕ) → said names (line x) ≡ f x) → (xs : List ℕ) → All (λ x. IsGood names (line x)) xs → HaveLines names (map f xs)
  each_line f line is [] h = no_lines
  each_line f line is (x ∷ xs) h =
      let P : ℕ → Type 0 = λ x. IsGood names (line x) in
      let rest = each_line f line is xs (All-tail P x xs h) in
      record {
        lines = line x ∷ rest.lines;
        say = ap₂ (λ y ys. y ∷ ys) (is x) rest.say;
        good = All-cons (IsGood names) (line x) rest.lines (All-head P x xs h) rest.good;
      }

  -- lines for each number
  pub lines_of_each : (f : ℕ → List Statement) (xs : List ℕ) → All (λ x. HaveLines names (f x)) xs → HaveLines names (flat_map f xs)
  lines_of_each f [] h = no_lines
  lines_of_each f (x ∷ xs) h =
      let P : ℕ → Type 0 = λ x. HaveLines names (f x) in
      both_lines (f x) (flat_map f xs) (All-head P x xs h) (lines_of_each f xs (All-tail P x xs h))
