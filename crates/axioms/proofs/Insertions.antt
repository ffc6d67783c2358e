-- What a look-up and an insertion in a numbered set give, by a view of its keys.
use Rattle.std.proofs.Common.{◌≡◌, ℕ, zero, suc, Bool, true, false, inl, inr, List, ◌||◌, [], ◌∷◌, ◌++◌, if◌then◌else◌, map, slice_get, Some, Contains, String, string_bytes, bytes_eq, refl, sym, ap, ap₂, ◌∙◌, subst, arith, nat_eq}
use Rattle.std.proofs.lemmas.Bool.{true≢false, both_ways, or_left, or_right}
use Rattle.std.proofs.lemmas.Bool.Decides.{Decides-eqb, Decides-like, Decides-and}
use Rattle.std.proofs.lemmas.List.{map-append, length-map}
use Rattle.std.proofs.lemmas.Option.{none-some, same_Some}
use Rattle.std.proofs.lemmas.Slice.Eq.{bytes_eq-Decides}
use Rattle.std.specs.Bool.{Decides}
use Rattle.std.specs.Prelude.{IfNone, IfSome, MatchOption, None, Option}
use Rattle.std.specs.Cmp.Lexicographic.{pointwise}
use Rattle.std.specs.List.{list_any}
use Rattle.std.specs.String.{string_eq}
use Rattle.std.specs.declared.alloc.Global.{Global}
use Rattle.lemmas.proofs.Mapped.{slice_get_map}
use Rattle.lemmas.proofs.Places.{slice_get_push_cases}
use Rattle.keyed_hash.specs.Numbering.{insert_key}
use Rattle.axioms.specs.Growth.{Numbers}
use Rattle.axioms.specs.Ontology.{Class, And, Exists}
use Rattle.axioms.specs.View.{node_of}
use Rattle.axioms.specs.contracts.terms.ExprPartialEq.TheImpl.{ghosts}
use Rattle.axioms.specs.declared.ids.ExprId.{ExprId}
use Rattle.axioms.specs.declared.terms.Expr.{Expr}
use Rattle.axioms.specs.declared.terms.Expr.TheVariants as expr

-- a test that passes the keys that stand for x
module _ {K X : Type 0} (test : K → Bool) (view : K → X) (x : X) (says : (k : K) → Decides (test k) (view k ≡ x)) where
  at_place : (ks : List K) (n : ℕ) (k : K) → slice_get ks n ≡ Some k → test k ≡ true → slice_get (map view ks) n ≡ Some x
  at_place ks n k at passes = slice_get_map view ks n k at ∙ ap Some ((says k).0 passes)

  -- the place that is found has x
  pub placed : (ks : List K) (n : ℕ) → (k : K) × (slice_get ks n ≡ Some k) × (test k ≡ true) → slice_get (map view ks) n ≡ Some x
  placed ks n found = at_place ks n found.0 found.1 found.2

  passes_there : (ks : List K) → Contains (map view ks) x → list_any test ks ≡ true
  passes_there [] h = absurd (omega (arith, h.1))
  passes_there (k ∷ ks) (zero, lt, e) = or_left (test k) _ ((says k).1 e)
  passes_there (k ∷ ks) (suc i, lt, e) = or_right (test k) _ (passes_there ks (i, omega arith, e))

  -- where none is found, x is not there
  pub absent : (ks : List K) → list_any test ks ≡ false → Contains (map view ks) x → ⊥
  absent ks none there = true≢false (sym (passes_there ks there) ∙ none)

  -- where x is not there, none passes
  pub none_passes : (ks : List K) → (Contains (map view ks) x → ⊥) → list_any test ks ≡ false
  none_passes [] apart = refl
  none_passes (k ∷ ks) apart = by (test k) refl (none_passes ks (λ there. apart (suc there.0, omega (arith, there.1), there.2)))
    where
      by : (b : Bool) → test k ≡ b → list_any test ks ≡ false → list_any test (k ∷ ks) ≡ false
      by true e rest = absurd (apart (zero, omega arith, (says k).0 e))
      by false e rest = ap (λ c. c || list_any test ks) e ∙ rest

  passes_at : (ks : List K) (n : ℕ) (k : K) → slice_get ks n ≡ Some k → test k ≡ true → list_any test ks ≡ true
  passes_at [] n k at passes = absurd (none-some k at)
  passes_at (d ∷ ks) zero k at passes = or_left (test d) _ (ap test (same_Some d k at) ∙ passes)
  passes_at (d ∷ ks) (suc n) k at passes = or_right (test d) _ (passes_at ks n k at passes)

-- what an insertion of k gives, which answers with a place that has an equal key
module _ {K X : Type 0} (eq : K → K → Bool) (view : K → X) (same : (a b : K) → Decides (eq a b) (view a ≡ view b)) (k : K) where
  says : (l : K) → Decides (eq k l) (view l ≡ view k)
  says l = (λ h. sym ((same k l).0 h), λ e. (same k l).1 (sym e))

  pub unlisted : (ks : List K) → (Contains (map view ks) (view k) → ⊥) → list_any (eq k) ks ≡ false
  unlisted ks = none_passes (eq k) view (view k) says ks

  by_cases : (ks : List K) (n : ℕ) (l : K) (b : Bool) → list_any (eq k) ks ≡ b → slice_get (if b then ks else ks ++ k ∷ []) n ≡ Some l → eq k l ≡ true → Numbers (map view ks) (view k) (map view (if b then ks else ks ++ k ∷ [])) n
  by_cases ks n l true any at e = inl (at_place (eq k) view (view k) says ks n l at e, refl)
  by_cases ks n l false any at e =
      elim (slice_get_push_cases ks k n l at) [
        | inl h ↦ absurd (both_ways _ any (passes_at (eq k) view (view k) says ks n l h e))
        | inr h ↦ inr (absent (eq k) view (view k) says ks any, h.0 ∙ sym (length-map ks view), map-append view ks (k ∷ []))
      ]

  pub inserted : (ks new : List K) (n : ℕ) → new ≡ insert_key eq ks k → (l : K) × (slice_get new n ≡ Some l) × (eq k l ≡ true) → Numbers (map view ks) (view k) (map view new) n
  inserted ks new n is (l, at, e) =
      subst (λ xs. Numbers (map view ks) (view k) (map view xs) n) (sym is)
      (by_cases ks n l (list_any (eq k) ks) refl (subst (λ xs. slice_get xs n ≡ Some l) is at) e)

-- a text that stands for some bytes
text_test : (bytes : List ℕ) (k : String Global) → Decides (bytes_eq bytes (string_bytes k)) (string_bytes k ≡ bytes)
text_test bytes k = Decides-like (bytes_eq bytes (string_bytes k)) sym sym (bytes_eq-Decides bytes (string_bytes k))

pub text_placed : (bytes : List ℕ) (ks : List (String Global)) (n : ℕ) → (k : String Global) × (slice_get ks n ≡ Some k) × (bytes_eq bytes (string_bytes k) ≡ true) → slice_get (map string_bytes ks) n ≡ Some bytes
text_placed bytes = placed (λ k. bytes_eq bytes (string_bytes k)) string_bytes bytes (text_test bytes)

pub text_absent : (bytes : List ℕ) (ks : List (String Global)) → list_any (λ k. bytes_eq bytes (string_bytes k)) ks ≡ false → Contains (map string_bytes ks) bytes → ⊥
text_absent bytes = absent (λ k. bytes_eq bytes (string_bytes k)) string_bytes bytes (text_test bytes)

-- a text stands for its bytes
pub same_text : (a b : String Global) → Decides (string_eq a b) (string_bytes a ≡ string_bytes b)
same_text a b = bytes_eq-Decides (string_bytes a) (string_bytes b)

numbers_same : (xs ys : List ExprId) → Decides (pointwise (λ a b. nat_eq a.0 b.0) xs ys) (map (λ (e : ExprId). e.0) xs ≡ map (λ (e : ExprId). e.0) ys)
numbers_same [] [] = (λ h. refl, λ h. refl)
numbers_same [] (y ∷ ys) = (λ h. absurd (true≢false (sym h)), λ h. cc)
numbers_same (x ∷ xs) [] = (λ h. absurd (true≢false (sym h)), λ h. cc)
numbers_same (x ∷ xs) (y ∷ ys) = Decides-like _ (λ p. ap₂ (λ a bs. a ∷ bs) p.0 p.1) (λ e. (cc, cc)) (Decides-and _ _ (Decides-eqb x.0 y.0) (numbers_same xs ys))

-- an expression stands for its node
pub same_expr : (a b : Expr) → Decides (ghosts.eq a b) (node_of a ≡ node_of b)
same_expr (expr.Class c) (expr.Class d) = Decides-like _ (λ e. ap Class e) (λ e. cc) (Decides-eqb c.0 d.0)
same_expr (expr.Class c) (expr.And w) = (λ h. absurd (true≢false (sym h)), λ h. cc)
same_expr (expr.Class c) (expr.Some q f) = (λ h. absurd (true≢false (sym h)), λ h. cc)
same_expr (expr.And v) (expr.Class d) = (λ h. absurd (true≢false (sym h)), λ h. cc)
same_expr (expr.And v) (expr.And w) = Decides-like _ (λ e. ap And e) (λ e. cc) (numbers_same v.items w.items)
same_expr (expr.And v) (expr.Some q f) = (λ h. absurd (true≢false (sym h)), λ h. cc)
same_expr (expr.Some p e) (expr.Class d) = (λ h. absurd (true≢false (sym h)), λ h. cc)
same_expr (expr.Some p e) (expr.And w) = (λ h. absurd (true≢false (sym h)), λ h. cc)
same_expr (expr.Some p e) (expr.Some q f) = Decides-like _ (λ h. ap₂ Exists h.0 h.1) (λ h. (cc, cc)) (Decides-and _ _ (Decides-eqb p.0 q.0) (Decides-eqb e.0 f.0))

-- whether a text is among texts
pub any_text : (iri : List ℕ) (names : List (String Global)) → list_any (λ k. bytes_eq iri (string_bytes k)) names ≡ list_any (bytes_eq iri) (map string_bytes names)
any_text iri [] = refl
any_text iri (name ∷ names) = ap (λ b. bytes_eq iri (string_bytes name) || b) (any_text iri names)

-- what a search for a text among texts finds
pub number_of_text : (iri : List ℕ) (names : List (String Global)) (found : Option ℕ) → IfSome found (λ n. (k : String Global) × (slice_get names n ≡ Some k) × (bytes_eq iri (string_bytes k) ≡ true))
    → IfNone found (list_any (λ k. bytes_eq iri (string_bytes k)) names ≡ false)
    → MatchOption found (Contains (map string_bytes names) iri → ⊥) (λ n. slice_get (map string_bytes names) n ≡ Some iri)
number_of_text iri names None some none = text_absent iri names none
number_of_text iri names (Some n) some none = text_placed iri names n some
