-- What axioms about lists say of two members, and what is told of parts.
use Rattle.std.proofs.Common.{◌≡◌, ◌↔◌, ℕ, zero, suc, ◌<◌, List, [], ◌∷◌, Bool, true, All, Result, Ok, Err, IfErr, IfOk, OnOk, length, map, get_or, slice_get, Some, refl, sym, ap, ◌∙◌, subst, subst₂, arith}
use Rattle.std.proofs.lemmas.List.{get_or-map, length-map}
use Rattle.std.proofs.lemmas.List.Elements.{All-cons, All-nil}
use Rattle.std.proofs.lemmas.Option.{none-some, same_Some, slice_get-get_or}
use Rattle.axioms.specs.Ontology.{Ontology, Axiom, EquivalentClasses, DisjointClasses, EquivalentProperties, SameIndividuals, DifferentIndividuals}
use Rattle.axioms.specs.WellFormedness.{AreOperands}
use Rattle.entailment.specs.Parts.{parts_of, parts_of_list}
use Rattle.entailment.specs.Testers.{AreFewInTests, IsFollowing, IsTold, IsUntold}
use Rattle.entailment.specs.declared.fault.TestFault.{TestFault}
use Rattle.lemmas.proofs.Mapped.{mapped}

-- ---- what is told

-- what tells of the one tells of each that is the same
pub told_of_each : {X : Type 0} (o : Ontology) (parts : List Axiom) (n : ℕ) (r : Result Bool TestFault) (W Q : X → Type 0) → ((x : X) → W x → All (IsFollowing o) parts ↔ Q x) → IsTold o parts n r → IfOk r (λ b. (x : X) → W x → (b ≡ true) ↔ Q x)
told_of_each o parts n (Ok b) W Q same told = λ x h. (λ t. (same x h).0 (told.0.0 t), λ q. told.0.1 ((same x h).1 q))
told_of_each o parts n (Err fault) W Q same told = tt

-- the tests were within the limit
pub told_within : (o : Ontology) (parts : List Axiom) (n : ℕ) (r : Result Bool TestFault) → IsTold o parts n r → OnOk r (AreFewInTests o parts n)
told_within o parts n (Ok b) told = told.1
told_within o parts n (Err fault) told = tt

-- or one was not
pub told_fault : (o : Ontology) (parts : List Axiom) (n : ℕ) (r : Result Bool TestFault) → IsTold o parts n r → IfErr r (IsUntold o parts n)
told_fault o parts n (Ok b) told = tt
told_fault o parts n (Err fault) told = told

-- ---- at a place

module _ {X Y : Type 0} (P : Y → Type 0) (f : X → Y) (xs : List X) (k : ℕ) (x : X) (at : slice_get xs k ≡ Some x) where
  pub one_at : All P (map f xs) → P (f x)
  one_at all = mapped P f xs all k x at

-- ---- members by number

module _ {X : Type 0} (f : X → ℕ) (xs : List X) (d : X) where
  pub number_at : (m : ℕ) → m < length (map f xs) → get_or (map f xs) m 0 ≡ f (get_or xs m d)
  number_at m low = get_or-map f xs m d 0 (omega (arith, length-map xs f))

  pub low_at : (bound m : ℕ) → AreOperands bound (map f xs) → m < length (map f xs) → f (get_or xs m d) < bound
  low_at bound m are low = subst (λ n. n < bound) (number_at m low) (are.within m 0 low)

  -- two members of a list of operands are operands
  pub two_at : (bound m n : ℕ) → AreOperands bound (map f xs) → m < n → n < length (map f xs) → AreOperands bound (f (get_or xs m d) ∷ f (get_or xs n d) ∷ [])
  two_at bound m n are order low =
      let P : ℕ → Type 0 = λ x. x < bound in
      let x = f (get_or xs m d) in
      let y = f (get_or xs n d) in
      let low' : m < length (map f xs) = omega arith in
      let at_m : slice_get (map f xs) m ≡ Some x = slice_get-get_or (map f xs) m 0 low' ∙ ap (λ k. Some k) (number_at m low') in
      let at_n : slice_get (map f xs) n ≡ Some y = slice_get-get_or (map f xs) n 0 low ∙ ap (λ k. Some k) (number_at n low) in
      record {
        many = omega arith;
        distinct = two_differ x y (λ same. (let e : m ≡ n = are.distinct m n y (at_m ∙ ap (λ k. Some k) same) at_n in omega arith));
        within = All-cons P x (y ∷ []) (low_at bound m are low') (All-cons P y [] (low_at bound n are low) (All-nil P));
      }
    where
      two_differ : (x y : ℕ) → (x ≡ y → ⊥) → (i j : ℕ) (z : ℕ) → slice_get (x ∷ y ∷ []) i ≡ Some z → slice_get (x ∷ y ∷ []) j ≡ Some z → i ≡ j
      two_differ x y apart zero zero z g h = refl
      two_differ x y apart zero (suc zero) z g h = absurd (apart (same_Some x z g ∙ sym (same_Some y z h)))
      two_differ x y apart (suc zero) zero z g h = absurd (apart (same_Some x z h ∙ sym (same_Some y z g)))
      two_differ x y apart (suc zero) (suc zero) z g h = refl
      two_differ x y apart zero (suc (suc j)) z g h = absurd (none-some z h)
      two_differ x y apart (suc zero) (suc (suc j)) z g h = absurd (none-some z h)
      two_differ x y apart (suc (suc i)) j z g h = absurd (none-some z g)

  -- what holds of the two holds of their numbers
  pub moved_pair : (R : ℕ → ℕ → Type 0) (m n : ℕ) → m < n → n < length (map f xs) → R (f (get_or xs m d)) (f (get_or xs n d)) ↔ R (get_or (map f xs) m 0) (get_or (map f xs) n 0)
  moved_pair R m n order low =
      let low' : m < length (map f xs) = omega arith in
      (λ h. subst₂ R (sym (number_at m low')) (sym (number_at n low)) h, λ h. subst₂ R (number_at m low') (number_at n low) h)

-- ---- two members of a list that is lent

module _ {X : Type 0} (f : X → ℕ) (xs ys : List X) (same : xs ≡ ys) (d : X) (m n : ℕ) (order : m < n) (within : n < length (map f ys)) where
  pub lent_first : (bound : ℕ) → AreOperands bound (map f ys) → f (get_or xs m d) < bound
  lent_first bound are = subst (λ (zs : List X). f (get_or zs m d) < bound) (sym same) (low_at f ys d bound m are (omega (arith, order, within)))

  pub lent_second : (bound : ℕ) → AreOperands bound (map f ys) → f (get_or xs n d) < bound
  lent_second bound are = subst (λ (zs : List X). f (get_or zs n d) < bound) (sym same) (low_at f ys d bound n are within)

  pub lent_two : (bound : ℕ) → AreOperands bound (map f ys) → AreOperands bound (f (get_or xs m d) ∷ f (get_or xs n d) ∷ [])
  lent_two bound are = subst (λ (zs : List X). AreOperands bound (f (get_or zs m d) ∷ f (get_or zs n d) ∷ [])) (sym same) (two_at f ys d bound m n are order within)

  pub lent_pair : (R : ℕ → ℕ → Type 0) → R (f (get_or xs m d)) (f (get_or xs n d)) ↔ R (get_or (map f ys) m 0) (get_or (map f ys) n 0)
  lent_pair R = subst (λ (zs : List X). R (f (get_or zs m d)) (f (get_or zs n d)) ↔ R (get_or (map f ys) m 0) (get_or (map f ys) n 0)) (sym same) (moved_pair f ys d R m n order within)

-- ---- axioms about lists

-- the axiom is one about a list
abbrev pub IsAboutList : Axiom → Type 0
IsAboutList (EquivalentClasses cs) = Unit {0}
IsAboutList (DisjointClasses cs) = Unit {0}
IsAboutList (EquivalentProperties rs) = Unit {0}
IsAboutList (SameIndividuals xs) = Unit {0}
IsAboutList (DifferentIndividuals xs) = Unit {0}
IsAboutList axiom' = ⊥

-- it says what it says of each two members
pub told_of_list : (o : Ontology) (n : ℕ) (a : Axiom) → IsAboutList a → (r : Result Bool TestFault) → IsTold o (parts_of_list a) n r → IsTold o (parts_of a) n r
told_of_list o n (EquivalentClasses cs) is r told = told
told_of_list o n (DisjointClasses cs) is r told = told
told_of_list o n (EquivalentProperties rs) is r told = told
told_of_list o n (SameIndividuals xs) is r told = told
told_of_list o n (DifferentIndividuals xs) is r told = told
told_of_list o n _ is _ told = absurd is
