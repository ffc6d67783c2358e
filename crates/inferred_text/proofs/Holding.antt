-- What holds in an interpretation of each of some statements: declarations say nothing.
use Rattle.std.proofs.Common.{◌↔◌, ℕ, List, [], ◌∷◌, ◌++◌, map, All}
use Rattle.std.specs.List.{filter_map, flat_map}
use Rattle.std.proofs.lemmas.List.Elements.{All-append, All-cons, All-head, All-map, All-nil, All-tail}
use Rattle.lemmas.proofs.Mapped.{All-from_map}
use Rattle.axioms.specs.Numbering.{DeclaresClass, DeclaresIndividual, DeclaresProperty, Statement, States, logical_axiom}
use Rattle.interpretation_spec.specs.Interpretation.{Interpretation, Satisfies}
use Rattle.inferred_text.proofs.Orders.{all_among, of_among}
use Rattle.inferred_text.proofs.Among.{Each}

-- ---- lists in parts

pub all_front : {X : Type 0} (P : X → Type 0) (xs ys : List X) → All P (xs ++ ys) → All P xs
all_front P [] ys h = All-nil P
all_front P (x ∷ xs) ys h = All-cons P x xs (All-head P x (xs ++ ys) h) (all_front P xs ys (All-tail P x (xs ++ ys) h))

pub all_back : {X : Type 0} (P : X → Type 0) (xs ys : List X) → All P (xs ++ ys) → All P ys
all_back P [] ys h = h
all_back P (x ∷ xs) ys h = all_back P xs ys (All-tail P x (xs ++ ys) h)

all_parts : {X : Type 0} (P : X → Type 0) (f : ℕ → List X) (xs : List ℕ) → All P (flat_map f xs) → All (λ k. All P (f k)) xs
all_parts P f [] h = All-nil (λ k. All P (f k))
all_parts P f (x ∷ xs) h = All-cons (λ k. All P (f k)) x xs (all_front P (f x) (flat_map f xs) h) (all_parts P f xs (all_back P (f x) (flat_map f xs) h))

all_joined : {X : Type 0} (P : X → Type 0) (f : ℕ → List X) (xs : List ℕ) → All (λ k. All P (f k)) xs → All P (flat_map f xs)
all_joined P f [] h = All-nil P
all_joined P f (x ∷ xs) h = All-append P (f x) (flat_map f xs) (All-head (λ k. All P (f k)) x xs h) (all_joined P f xs (All-tail (λ k. All P (f k)) x xs h))

module _ {X : Type 0} (P : X → Type 0) where
  -- what holds of each that the numbers are mapped to
  pub all_map : (f : ℕ → X) (xs : List ℕ) → All P (map f xs) ↔ Each (λ k. P (f k)) xs
  all_map f xs = (λ h. of_among (λ k. P (f k)) xs (All-from_map P f xs h), λ h. All-map P f xs (all_among (λ k. P (f k)) xs h))

  -- and of each of the lists
  pub all_flat_map : (f : ℕ → List X) (xs : List ℕ) → All P (flat_map f xs) ↔ Each (λ k. All P (f k)) xs
  all_flat_map f xs = (λ h. of_among (λ k. All P (f k)) xs (all_parts P f xs h), λ h. all_joined P f xs (all_among (λ k. All P (f k)) xs h))

-- ---- statements

module _ (i : Interpretation) where
  -- what a statement says
  abbrev pub Holds : Statement → Type 0
  Holds (DeclaresClass c) = Unit {0}
  Holds (DeclaresProperty r) = Unit {0}
  Holds (DeclaresIndividual a) = Unit {0}
  Holds (States ax) = Satisfies i ax

  holding_from : (ss : List Statement) → All (Satisfies i) (filter_map logical_axiom ss) → All Holds ss
  holding_from [] h = All-nil Holds
  holding_from (DeclaresClass c ∷ ss) h = All-cons Holds (DeclaresClass c) ss tt (holding_from ss h)
  holding_from (DeclaresProperty r ∷ ss) h = All-cons Holds (DeclaresProperty r) ss tt (holding_from ss h)
  holding_from (DeclaresIndividual a ∷ ss) h = All-cons Holds (DeclaresIndividual a) ss tt (holding_from ss h)
  holding_from (States ax ∷ ss) h =
      let rest = filter_map logical_axiom ss in
      All-cons Holds (States ax) ss (All-head (Satisfies i) ax rest h) (holding_from ss (All-tail (Satisfies i) ax rest h))

  holding_to : (ss : List Statement) → All Holds ss → All (Satisfies i) (filter_map logical_axiom ss)
  holding_to [] h = All-nil (Satisfies i)
  holding_to (DeclaresClass c ∷ ss) h = holding_to ss (All-tail Holds (DeclaresClass c) ss h)
  holding_to (DeclaresProperty r ∷ ss) h = holding_to ss (All-tail Holds (DeclaresProperty r) ss h)
  holding_to (DeclaresIndividual a ∷ ss) h = holding_to ss (All-tail Holds (DeclaresIndividual a) ss h)
  holding_to (States ax ∷ ss) h =
      All-cons (Satisfies i) ax (filter_map logical_axiom ss) (All-head Holds (States ax) ss h) (holding_to ss (All-tail Holds (States ax) ss h))

  -- the axioms are satisfied where each statement holds
  pub holding : (ss : List Statement) → All (Satisfies i) (filter_map logical_axiom ss) ↔ All Holds ss
  holding ss = (holding_from ss, holding_to ss)
