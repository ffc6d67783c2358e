-- Conditions that axioms state, one after the other.
use Rattle.std.proofs.Common.{◌≡◌, ◌==◌, ◌||◌, ℕ, ◌+◌, ◌<◌, Bool, true, false, List, [], ◌∷◌, ◌++◌, if◌then◌else◌, take, get_or, length, map, refl, sym, ap, ◌∙◌, arith}
use Rattle.std.specs.List.{enumerate_from, flat_map, list_any}
use Rattle.std.proofs.lemmas.List.{append-nil, length-map, length-take, map-append, take_more}
use Rattle.std.proofs.lemmas.List.Concat.{flat_map-append}
use Rattle.lemmas.proofs.Ranges.{enumerate_push}
use Rattle.axioms.specs.Ontology.{EquivalentClasses}
use Rattle.axioms.specs.View.{axiom_of, expr_numbers}
use Rattle.axioms.specs.declared.ids.ExprId.{ExprId}
use Rattle.axioms.specs.declared.terms.Axiom.{Axiom}
use Rattle.answers.specs.Conditions.{numbered_conditions, others}

-- with the number of the axiom
abbrev pub stated_by : (number e : ℕ) → List ExprId → List (ℕ × ℕ)
stated_by number e xs = map (λ f. (number, f)) (others e (expr_numbers xs))

-- ---- of an axiom

any_number : (e : ℕ) (xs : List ExprId) → list_any (λ x. x.0 == e) xs ≡ list_any (λ d. d == e) (expr_numbers xs)
any_number e [] = refl
any_number e (x ∷ xs) = ap (λ b. (x.0 == e) || b) (any_number e xs)

module _ (number e : ℕ) (xs : List ExprId) where
  of_equivalents : (b : Bool) → list_any (λ (x : ExprId). x.0 == e) xs ≡ b
      → numbered_conditions e (number, EquivalentClasses (expr_numbers xs)) ≡ map (λ f. (number, f)) (if b then others e (expr_numbers xs) else [])
  of_equivalents b is = ap (λ b. map (λ f. (number, f)) (if b then others e (expr_numbers xs) else [])) (sym (any_number e xs) ∙ is)

  pub stated_all : list_any (λ (x : ExprId). x.0 == e) xs ≡ true → numbered_conditions e (number, EquivalentClasses (expr_numbers xs)) ≡ stated_by number e xs
  stated_all is = of_equivalents true is

  pub stated_none : list_any (λ (x : ExprId). x.0 == e) xs ≡ false → numbered_conditions e (number, EquivalentClasses (expr_numbers xs)) ≡ []
  stated_none is = of_equivalents false is

-- ---- of axioms

-- those of the first n axioms
abbrev pub stated_first : (e n : ℕ) → List Axiom → List (ℕ × ℕ)
stated_first e n axioms = flat_map (numbered_conditions e) (enumerate_from 1 (map axiom_of (take n axioms)))

pub stated_more : (e : ℕ) (axioms : List Axiom) (i : ℕ) (d : Axiom) → i < length axioms → d ≡ get_or axioms i d
    → stated_first e (i + 1) axioms ≡ stated_first e i axioms ++ numbered_conditions e (i + 1, axiom_of d)
stated_more e axioms i d l is =
    let f = numbered_conditions e in
    let before = map axiom_of (take i axioms) in
    let x = axiom_of (get_or axioms i d) in
    let k : 1 + length before ≡ i + 1 = omega (arith, length-map (take i axioms) axiom_of, length-take i axioms) in
    ap (λ zs. flat_map f (enumerate_from 1 (map axiom_of zs))) (take_more axioms i d l)
    ∙ ap (λ zs. flat_map f (enumerate_from 1 zs)) (map-append axiom_of (take i axioms) (get_or axioms i d ∷ []))
    ∙ ap (flat_map f) (enumerate_push 1 before x ∙ ap (λ (k : ℕ). enumerate_from 1 before ++ (k, x) ∷ []) k)
    ∙ flat_map-append f (enumerate_from 1 before) ((i + 1, x) ∷ [])
    ∙ ap (λ (s : List (ℕ × ℕ)). flat_map f (enumerate_from 1 before) ++ s) (append-nil (f (i + 1, x)))
    ∙ ap (λ (a : Axiom). flat_map f (enumerate_from 1 before) ++ f (i + 1, axiom_of a)) (sym is)
