-- The elements that facts put into classes, list by list.
use Rattle.std.proofs.Common.{◌≡◌, ℕ, ◌+◌, ◌<◌, ◌≤◌, inl, inr, List, [], ◌∷◌, ◌++◌, length, get_or, replicate, slice_get, Some, Contains, AllPairs, sym, ap, ◌∙◌, subst, subst₂, arith, below_more}
use Rattle.std.specs.Prelude.{slice_set}
use Rattle.std.proofs.lemmas.List.{length-set, length-replicate}
use Rattle.std.proofs.lemmas.Option.{same_Some, slice_get-get_or, slice_get_within}
use Rattle.lemmas.proofs.Members.{Contains-none, Contains-from_slice_get, slice_get-from_Contains}
use Rattle.axioms.specs.Ontology.{Ontology, Class}
use Rattle.closure.specs.Closure.{Context}
use Rattle.exactness.specs.ListedInterpretation.{IsBefore}
use Rattle.facts.specs.declared.contexts.Fact.{Fact}
use Rattle.number_sets.specs.Pieces.{list_at}
use Rattle.number_sets.proofs.Members.{one_more_item, list_at_none}
use Rattle.closure.specs.Denotations.{context_of}
use Rattle.countermodel.specs.Members.{IsMember, AreMembers, expr_id}
use Rattle.exactness.proofs.Listed.{one_place}

-- the lists have what facts say, and all that the first facts say
pub record HasPut (o : Ontology) (elements : List Context) (facts : List Fact) (count : ℕ) (lists : List (List ℕ)) : Type 0 where
  pub long : length lists ≡ length o.nodes
  pub only : (e m : ℕ) → Contains (list_at lists e) m → (fact : Fact) × Contains facts fact × IsMember o elements fact e m
  pub each : (n : ℕ) → n < count → (fact : Fact) → slice_get facts n ≡ Some fact → (e m : ℕ) → IsMember o elements fact e m → Contains (list_at lists e) m

-- a fact puts an element into one class
pub one_member : (o : Ontology) (elements : List Context) → AllPairs IsBefore elements → (fact : Fact) (d m e n : ℕ) → IsMember o elements fact d m → IsMember o elements fact e n → (e ≡ d) × (n ≡ m)
one_member o elements ascend fact d m e n (_, (x, is, at)) (_, (y, is', at')) =
    let class : expr_id e ≡ expr_id d = cc in
    let context : y ≡ x = cc in
    (ap (λ c. c.0) class, one_place elements ascend n m (context_of x) (subst (λ z. slice_get elements n ≡ Some (context_of z)) context at') at)

module _ (o : Ontology) (elements : List Context) (facts : List Fact) where
  pub none_put : HasPut o elements facts 0 (replicate (length o.nodes) [])
  none_put = record {
    long = length-replicate (length o.nodes) [];
    only = λ e m c. absurd (Contains-none m (subst (λ (l : List ℕ). Contains l m) (list_at_none (length o.nodes) e) c));
    each = λ n l. absurd (omega arith);
  }

  module _ (count : ℕ) (d : Fact) (lists : List (List ℕ)) (low : count < length facts) (put : HasPut o elements facts count lists) where
    here : (fact : Fact) → slice_get facts count ≡ Some fact → get_or facts count d ≡ fact
    here fact at = same_Some (get_or facts count d) fact (sym (slice_get-get_or facts count d low) ∙ at)

    pub nothing_put : ((e m : ℕ) → IsMember o elements (get_or facts count d) e m → ⊥) → HasPut o elements facts (count + 1) lists
    nothing_put never = record {
      long = put.long;
      only = put.only;
      each = below_more (λ n. (fact : Fact) → slice_get facts n ≡ Some fact → (e m : ℕ) → IsMember o elements fact e m → Contains (list_at lists e) m) count
          put.each
          (λ fact at e m is. absurd (never e m (subst (λ f. IsMember o elements f e m) (sym (here fact at)) is)));
    }

    pub one_put : AllPairs IsBefore elements → (e m : ℕ) → IsMember o elements (get_or facts count d) e m → HasPut o elements facts (count + 1) (slice_set lists e (list_at lists e ++ m ∷ []))
    one_put ascend e m is =
        let within : e < length lists = omega (arith, put.long, slice_get_within o.nodes e (Class is.0.1.0) is.0.1.1) in
        record {
          long = length-set lists e (list_at lists e ++ m ∷ []) ∙ put.long;
          only = λ f n c. elim ((one_more_item lists e m f n within).0 c) [
            | inl old ↦ put.only f n old
            | inr new ↦ (
              get_or facts count d,
              Contains-from_slice_get facts count (get_or facts count d) (slice_get-get_or facts count d low),
              subst₂ (IsMember o elements (get_or facts count d)) (sym new.0) (sym new.1) is,
            )
          ];
          each = below_more (λ n. (fact : Fact) → slice_get facts n ≡ Some fact → (f n : ℕ) → IsMember o elements fact f n → Contains (list_at (slice_set lists e (list_at lists e ++ m ∷ [])) f) n) count
              (λ n l fact at f k h. (one_more_item lists e m f k within).1 (inl (put.each n l fact at f k h)))
              (λ fact at f k h.
              let same = one_member o elements ascend (get_or facts count d) e m f k is (subst (λ g. IsMember o elements g f k) (sym (here fact at)) h) in
              (one_more_item lists e m f k within).1 (inr same));
        }

  pub all_put : (count : ℕ) (lists : List (List ℕ)) → length facts ≤ count → HasPut o elements facts count lists → AreMembers o elements facts lists
  all_put count lists done put e m = (
    put.only e m,
    λ (fact, there, is).
        let (n, at) = slice_get-from_Contains facts fact there in
        put.each n (omega (arith, done, slice_get_within facts n fact at)) fact at e m is,
  )
