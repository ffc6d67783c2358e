-- Claims, one behind the other.
use Rattle.std.proofs.Common.{◌≡◌, ℕ, ◌+◌, ◌<◌, ◌≤◌, inl, inr, List, [], ◌∷◌, ◌++◌, length, map, slice_get, Some, Contains, AllPairs, sym, ap, subst, subst₂, arith}
use Rattle.std.proofs.lemmas.Bool.{cases_eq}
use Rattle.std.proofs.lemmas.List.{map-append}
use Rattle.std.proofs.lemmas.List.Elements.{Contains-append_left, Contains-push, Contains-push_cases}
use Rattle.std.proofs.lemmas.Option.{slice_get_within}
use Rattle.lemmas.proofs.Mapped.{slice_get_map_from}
use Rattle.lemmas.proofs.Members.{Contains-from_slice_get}
use Rattle.axioms.specs.Ontology.{Ontology, Class}
use Rattle.certificate.specs.Writability.{Ascends}
use Rattle.closure.specs.Closure.{Context, Expression}
use Rattle.exactness.specs.ListedInterpretation.{IsBefore}
use Rattle.countermodel.specs.Members.{IsOwnElement}
use Rattle.countermodel.specs.MemberRows.{AreOwnClaims}
use Rattle.exactness.proofs.Listed.{one_place}
use Rattle.exactness.proofs.Trimmed.{Ascends-push}

-- the claims of the first expressions
pub record AreFirstClaims (o : Ontology) (elements : List Context) (count : ℕ) (claims : List (ℕ × ℕ)) : Type 0 where
  pub ascend : Ascends (map (λ c. c.0) claims)
  pub each : (e m : ℕ) → Contains claims (e, m) → (e < count) × IsOwnElement o elements e m
  pub all : (e m : ℕ) → e < count → IsOwnElement o elements e m → Contains claims (e, m)

module _ (o : Ontology) (elements : List Context) where
  module _ (count : ℕ) (claims : List (ℕ × ℕ)) (are : AreFirstClaims o elements count claims) where
    pub none_claimed : ((m : ℕ) → IsOwnElement o elements count m → ⊥) → AreFirstClaims o elements (count + 1) claims
    none_claimed never = record {
      ascend = are.ascend;
      each = λ e m h. (let p = are.each e m h in (omega (arith, p.0), p.1));
      all = λ e m l own. elim (cases_eq e count) [
        | inl same ↦ absurd (never m (subst (λ d. IsOwnElement o elements d m) same own))
        | inr other ↦ are.all e m (omega arith) own
      ];
    }

    keys_below : (k x : ℕ) → slice_get (map (λ (c : ℕ × ℕ). c.0) claims) k ≡ Some x → x < count
    keys_below k x h =
        let (c, at, same) = slice_get_map_from (λ (c : ℕ × ℕ). c.0) claims k x h in
        let l = (are.each c.0 c.1 (Contains-from_slice_get claims k c at)).0 in
        subst (λ y. y < count) same l

    pub one_claimed : (m : ℕ) → IsOwnElement o elements count m → ((n : ℕ) → IsOwnElement o elements count n → n ≡ m) → AreFirstClaims o elements (count + 1) (claims ++ (count, m) ∷ [])
    one_claimed m own only = record {
      ascend = rw (map-append (λ (c : ℕ × ℕ). c.0) claims ((count, m) ∷ [])) (Ascends-push (map (λ (c : ℕ × ℕ). c.0) claims) count are.ascend keys_below);
      each = λ e n h. elim (Contains-push_cases claims (count, m) (e, n) h) [
        | inl k ↦ (let p = are.each e n k in (omega (arith, p.0), p.1))
        | inr same ↦ here e n same
      ];
      all = λ e n l has. elim (cases_eq e count) [
        | inl same ↦
            let here : n ≡ m = only n (subst (λ d. IsOwnElement o elements d n) same has) in
            subst₂ (λ d k. Contains (claims ++ (count, m) ∷ []) (d, k)) (sym same) (sym here) (Contains-push claims (count, m))
        | inr other ↦ Contains-append_left claims ((count, m) ∷ []) (e, n) (are.all e n (omega arith) has)
      ];
    }
      where
        here : (e n : ℕ) → ◌≡◌ {A = ℕ × ℕ} (count, m) (e, n) → (e < count + 1) × IsOwnElement o elements e n
        here e n same =
            let first : count ≡ e = ap (λ (c : ℕ × ℕ). c.0) same in
            (omega arith, subst (λ (c : ℕ × ℕ). IsOwnElement o elements c.0 c.1) same own)

  -- each context stands at one place
  pub one_own : AllPairs IsBefore elements → (e m n : ℕ) → IsOwnElement o elements e m → IsOwnElement o elements e n → n ≡ m
  one_own ascend e m n own other = one_place elements ascend n m (Expression e) other.1 own.1

  pub all_claimed : (count : ℕ) (claims : List (ℕ × ℕ)) → length o.nodes ≤ count → AreFirstClaims o elements count claims → AreOwnClaims o elements claims
  all_claimed count claims done are = record {
    ascend = are.ascend;
    each = λ e m h. (are.each e m h).1;
    all = λ c e m node at. are.all e m (omega (arith, done, slice_get_within o.nodes e (Class c) node)) ((c, node), at);
  }
