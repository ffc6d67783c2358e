-- The facts of contexts say of them what all facts do.
use Rattle.std.proofs.Common.{◌≡◌, ◌↔◌, ◌⊎◌, ℕ, ◌+◌, ◌<◌, ◌≤◌, inl, inr, List, [], ◌∷◌, ◌++◌, length, get_or, take, slice_get, Some, All, Contains, refl, sym, ap, ◌∙◌, subst}
use Rattle.std.proofs.lemmas.List.Elements.{Contains-append_left, Contains-get_or, Contains-push, Contains-push_cases}
use Rattle.std.proofs.lemmas.Option.{get_or_from_slice_get, same_Some, slice_get_within}
use Rattle.lemmas.proofs.Mapped.{Contains-map, slice_get_map_from}
use Rattle.lemmas.proofs.Members.{Contains-from_slice_get, slice_get-from_Contains}
use Rattle.axioms.specs.Ontology.{Ontology}
use Rattle.closure.specs.Closure.{Context}
use Rattle.closure.specs.Denotations.{context_of}
use Rattle.facts.specs.declared.contexts.Context as code
use Rattle.facts.specs.declared.contexts.Fact.{Fact}
use Rattle.facts.specs.declared.contexts.Fact.TheVariants.{In, Edge}
use Rattle.indexes.specs.FactIndex.{IsFrom, IsIn}
use Rattle.normal_forms.specs.declared.forms.PropId2.TheVariants as properties
use Rattle.property_closure.specs.PropertyClosures.{Known}
use Rattle.number_sets.proofs.Members.{all_taken, one_more_taken}
use Rattle.saturate.specs.ServedFacts.{AreNumbersOf}
use Rattle.countermodel.proofs.Listing.{same_code}
use Rattle.countermodel.specs.Edges.{IsGiven, IsGivenBy}
use Rattle.countermodel.specs.Elements.{contexts_of}
use Rattle.countermodel.specs.FactsOf.{AddsFacts, AreFactsOf, IsFactOf}
use Rattle.countermodel.specs.Members.{IsMember, SayMembers}
use Rattle.countermodel.specs.declared.pair.Pair.{Pair}

-- all facts are those of any contexts
pub all_facts : (contexts : List Context) (all some : List Fact) → some ≡ all → AreFactsOf contexts all some
all_facts contexts all some same = rw same (record { each = λ f c. c; whole = λ x f c of there. there })

module _ (elements : List Context) (all some : List Fact) (are : AreFactsOf elements all some) where
  module _ (o : Ontology) where
    member_fact : (f : Fact) (e m : ℕ) → IsMember o elements f e m → Contains all f → Contains some f
    member_fact f e m (own, (x, is, at)) there =
        are.whole (context_of x) f (Contains-from_slice_get elements m (context_of x) at) (subst (IsFactOf (context_of x)) (sym is) refl) there

    pub members_in : (Has : ℕ → ℕ → Type 0) → SayMembers o elements some Has → SayMembers o elements all Has
    members_in Has members e m = (
      λ c. (let (f, there, is) = (members e m).0 c in (f, are.each f there, is)),
      λ (f, there, is). (members e m).1 (f, member_fact f e m is there, is),
    )

  module _ (k : Known) where
    given_fact : (f : Fact) (p : Pair) → IsGivenBy k elements f p → Contains all f → Contains some f
    given_fact (Edge x (properties.Property q) y) p by there =
        are.whole (context_of x) (Edge x (properties.Property q) y) (Contains-from_slice_get elements p.source (context_of x) by.0) refl there
    given_fact (Edge x (properties.Partial n) y) p by there = absurd by
    given_fact (In a x) p by there = absurd by

    pub given_in : (p : Pair) → IsGiven k elements some p ↔ IsGiven k elements all p
    given_in p = (
      λ (f, there, by). (f, are.each f there, by),
      λ (f, there, by). (f, given_fact f p by there, by),
    )

-- ---- facts by their numbers

pub one_pushed : (all : List Fact) (numbers : List ℕ) (old now : List Fact) (k d : ℕ) (g : Fact) → k < length numbers → slice_get all (get_or numbers k d) ≡ Some g
    → AddsFacts all (take k numbers) old now → AddsFacts all (take (k + 1) numbers) old (now ++ g ∷ [])
one_pushed all numbers old now k d g low at was f = (
  λ c. elim (Contains-push_cases now g f c) [
    | inl before ↦ elim ((was f).0 before) [
      | inl c' ↦ inl c'
      | inr (n, c', at') ↦ inr (n, (one_more_taken numbers k d n low).1 (inl c'), at')
    ]
    | inr same ↦ inr (get_or numbers k d, (one_more_taken numbers k d (get_or numbers k d) low).1 (inr refl), at ∙ ap Some same)
  ],
  λ h. elim h [
    | inl c ↦ Contains-append_left now (g ∷ []) f ((was f).1 (inl c))
    | inr (n, c, at') ↦ elim ((one_more_taken numbers k d n low).0 c) [
      | inl before ↦ Contains-append_left now (g ∷ []) f ((was f).1 (inr (n, before, at')))
      | inr here ↦ subst (Contains (now ++ g ∷ [])) (same_Some g f (sym (subst (λ (m : ℕ). slice_get all m ≡ Some g) here at) ∙ at')) (Contains-push now g)
    ]
  ],
)

pub all_pushed : (all : List Fact) (numbers : List ℕ) (old now : List Fact) (k : ℕ) → length numbers ≤ k → AddsFacts all (take k numbers) old now → AddsFacts all numbers old now
all_pushed all numbers old now k done was f = (
  λ c. elim ((was f).0 c) [ inl c' ↦ inl c' | inr (n, c', at) ↦ inr (n, (all_taken numbers k n done).0 c', at) ],
  λ h. (was f).1 (elim h [ inl c ↦ inl c | inr (n, c, at) ↦ inr (n, (all_taken numbers k n done).1 c, at) ]),
)

-- ---- of contexts

module _ (all : List Fact) (contexts : List code.Context) (k : ℕ) (x : code.Context) (low : k < length contexts) (here : slice_get contexts k ≡ Some x)
    (classes : List ℕ) (are_classes : AreNumbersOf (IsIn x) all classes) (edges : List ℕ) (are_edges : AreNumbersOf (IsFrom x) all edges) where
  pub of_one_more : (old now new : List Fact) → AreFactsOf (contexts_of (take k contexts)) all old → AddsFacts all classes old now → AddsFacts all edges now new → AreFactsOf (contexts_of (take (k + 1) contexts)) all new
  of_one_more old now new was with_classes with_edges = record {
    each = λ f c. elim ((with_edges f).0 c) [
      | inl c' ↦ elim ((with_classes f).0 c') [
        | inl before ↦ was.each f before
        | inr (n, there, at) ↦ Contains-from_slice_get all n f at
      ]
      | inr (n, there, at) ↦ Contains-from_slice_get all n f at
    ];
    whole = λ y f c of there. elim (which y c) [
      | inl before ↦ (with_edges f).1 (inl ((with_classes f).1 (inl (was.whole y f before of there))))
      | inr same ↦ of_this f (subst (λ (z : Context). IsFactOf z f) (sym same) of) there
    ];
  }
    where
      which : (y : Context) → Contains (contexts_of (take (k + 1) contexts)) y → Contains (contexts_of (take k contexts)) y ⊎ (context_of x ≡ y)
      which y c =
          let (m, at) = slice_get-from_Contains (contexts_of (take (k + 1) contexts)) y c in
          let (z, at_z, same) = slice_get_map_from context_of (take (k + 1) contexts) m y at in
          elim ((one_more_taken contexts k x z low).0 (Contains-from_slice_get (take (k + 1) contexts) m z at_z)) [
            | inl before ↦ inl (subst (Contains (contexts_of (take k contexts))) same (Contains-map context_of (take k contexts) z before))
            | inr this ↦ inr (ap context_of (sym (get_or_from_slice_get contexts k x x here) ∙ this) ∙ same)
          ]

      of_this : (f : Fact) → IsFactOf (context_of x) f → Contains all f → Contains new f
      of_this (In a z) of there =
          let (n, at) = slice_get-from_Contains all (In a z) there in
          (with_edges (In a z)).1 (inl ((with_classes (In a z)).1 (inr (n, (are_classes n).1 (In a z, at, same_code z x of), at))))
      of_this (Edge z r y) of there =
          let (n, at) = slice_get-from_Contains all (Edge z r y) there in
          (with_edges (Edge z r y)).1 (inr (n, (are_edges n).1 (Edge z r y, at, same_code z x of), at))

-- facts of these numbers are there
pub numbers_within : (P : Fact → Type 0) (all : List Fact) (numbers : List ℕ) → AreNumbersOf P all numbers → All (λ n. n < length all) numbers
numbers_within P all numbers are = λ k d low. (let (f, at, is) = (are (get_or numbers k d)).0 (Contains-get_or numbers k d low) in slice_get_within all (get_or numbers k d) f at)
