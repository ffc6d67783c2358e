-- A class in another individual, operand by operand.
use Rattle.std.proofs.Common.{◌≡◌, ℕ, zero, suc, ◌+◌, ◌<◌, ◌≤◌, List, [], ◌∷◌, ◌++◌, length, map, slice_get, get_or, take, Some, refl, sym, ap, ◌∙◌, subst, arith}
use Rattle.std.proofs.lemmas.List.{length-map, map-append, take_all}
use Rattle.std.proofs.lemmas.Option.{none-some, same_Some, slice_get-get_or}
use Rattle.lemmas.proofs.Mapped.{slice_get_map}
use Rattle.lemmas.proofs.Places.{take_push}
use Rattle.axioms.specs.View.{at_number, expr_numbers}
use Rattle.axioms.specs.declared.ids.ExprId.{ExprId}
use Rattle.certificate.specs.Certificate.{Subject, Sub, Line}
use Rattle.cert_check.specs.Derivation.{at_numbers}
use Rattle.closure.specs.Closure as definition
use Rattle.closure.specs.Denotations.{Prefixes, SaysClass, SaysFact, in_context}
use Rattle.exactness.proofs.Derivable.{conclusions, prepended_list_parts}
use Rattle.explain.proofs.Conclusions.{class_shown, showing_class}
use Rattle.explain.proofs.Exchanging.{numbers_long}
use Rattle.explain.proofs.Growing.{at_numbers_joined, conclusions_grown}
use Rattle.explain.proofs.Walking.{at_one_more}
use Rattle.explain.specs.Exchanges.{AreOperandsOf}
use Rattle.explain.specs.LinesOfFacts.{AreShowing, Lengthens, operands_of}
use Rattle.explain.specs.Step.{subject_in}
use Rattle.facts.specs.declared.contexts.Context.{Context}
use Rattle.facts.specs.declared.contexts.Fact.TheVariants as facts
use Rattle.normal_forms.specs.Forms.{Class2}
use Rattle.normal_forms.specs.declared.forms.Class2 as code_class
use Rattle.normalise.specs.Listing.{Listing}
use Rattle.normalise.specs.Problem.{prefixes_of}

-- the lines that put a context into a class
pub record IsShownClass (b : Prefixes) (lines : List Line) (numbers : List ℕ) (a : code_class.Class2) (x : Context) : Type 0 where
  pub class : Class2
  pub says : SaysClass b a class
  pub at : at_numbers (conclusions lines) numbers ≡ Some (map (Sub (subject_in x)) (operands_of class))

pub shown_class : {b : Prefixes} {lines : List Line} {numbers : List ℕ} {a : code_class.Class2} {x : Context} → AreShowing b lines numbers (facts.In a x) → IsShownClass b lines numbers a x
shown_class {b} {lines} {numbers} {a} {x} shown = go shown.fact shown.says
  where
    go : (g : definition.Fact) → SaysFact b (facts.In a x) g → IsShownClass b lines numbers a x
    go _ (in_context {a' = c} says says_x) = record { class = c; says = says; at = class_shown says shown }

at_place : {X : Type 0} (xs : List X) (ns : List ℕ) (ys : List X) (k n : ℕ) (y : X) → at_numbers xs ns ≡ Some ys → slice_get ns k ≡ Some n → slice_get ys k ≡ Some y → at_number xs n ≡ Some y
at_place xs [] ys k n y at there also = absurd (none-some n there)
at_place xs (m ∷ ms) ys zero n y at there also =
    let (z, zs, at_m, rest, is) = prepended_list_parts (at_number xs m) (at_numbers xs ms) ys at in
    let same : m ≡ n = same_Some m n there in
    let first : z ≡ y = same_Some z y (ap (λ us. slice_get us 0) is ∙ also) in
    subst (λ j. at_number xs j ≡ Some y) same (at_m ∙ ap Some first)
at_place xs (m ∷ ms) ys (suc k) n y at there also =
    let (z, zs, at_m, rest, is) = prepended_list_parts (at_number xs m) (at_numbers xs ms) ys at in
    at_place xs ms zs k n y rest there (ap (λ us. slice_get us (suc k)) is ∙ also)

module _ {b : Prefixes} {lines : List Line} {known : List ℕ} {a : code_class.Class2} {x : Context} (s : IsShownClass b lines known a x) (ids : List ExprId) (operands : AreOperandsOf b a ids) where
  -- the lines are as many as the operands
  pub operands_long : length ids ≡ length known
  operands_long =
      sym (length-map ids (λ (e : ExprId). e.0)) ∙ ap length (operands s.class s.says) ∙ sym (length-map (operands_of s.class) (Sub (subject_in x))) ∙ sym (numbers_long (conclusions lines) known _ s.at)

  pub operand_there : (k : ℕ) (d : ExprId) → k < length known → slice_get (operands_of s.class) k ≡ Some (get_or ids k d).0
  operand_there k d low =
      ap (λ ds. slice_get ds k) (sym (operands s.class s.says)) ∙ slice_get_map (λ (e : ExprId). e.0) ids k (get_or ids k d) (slice_get-get_or ids k d (omega (arith, low, operands_long)))

  -- what each line says
  pub operand_says : (k n : ℕ) (d : ExprId) → k < length known → slice_get known k ≡ Some n → at_number (conclusions lines) n ≡ Some (Sub (subject_in x) (get_or ids k d).0)
  operand_says k n d low there =
      at_place (conclusions lines) known (map (Sub (subject_in x)) (operands_of s.class)) k n (Sub (subject_in x) (get_or ids k d).0) s.at there
      (slice_get_map (Sub (subject_in x)) (operands_of s.class) k (get_or ids k d).0 (operand_there k d low))

-- one line more
pub class_more : (old new : List Line) (numbers : List ℕ) (n : ℕ) (x : Subject) (ds : List ℕ) (k d : ℕ) → slice_get ds k ≡ Some d → Lengthens old new → at_numbers (conclusions old) numbers ≡ Some (map (Sub x) (take k ds)) → at_number (conclusions new) n ≡ Some (Sub x d)
    → at_numbers (conclusions new) (numbers ++ n ∷ []) ≡ Some (map (Sub x) (take (k + 1) ds))
class_more old new numbers n x ds k d there longer at at_n =
    at_numbers_joined (conclusions new) numbers (n ∷ []) (map (Sub x) (take k ds)) (Sub x d ∷ []) (conclusions_grown numbers (map (Sub x) (take k ds)) longer at) (at_one_more (conclusions new) n [] (Sub x d) [] at_n refl)
    ∙ ap Some (sym (ap (map (Sub x)) (take_push ds k d there) ∙ map-append (Sub x) (take k ds) (d ∷ [])))

-- ---- what the code reads

module _ (v u : Listing) (e : v ≡ u) (lines : List Line) (known : List ℕ) (a : code_class.Class2) (ids : List ExprId) (operands : AreOperandsOf (prefixes_of v) a ids) (x : Context) (shown : AreShowing (prefixes_of u) lines known (facts.In a x)) where
  operands_said : AreOperandsOf (prefixes_of u) a ids
  operands_said = subst (λ (y : Listing). AreOperandsOf (prefixes_of y) a ids) e operands

  -- there are as many operands as lines
  pub operands_there : length ids ≡ length known
  operands_there = operands_long (shown_class shown) ids operands_said

  -- what the line at a place says
  pub operand_at : (k : ℕ) (d : ExprId) → k < length known → at_number (conclusions lines) (get_or known k 0) ≡ Some (Sub (subject_in x) (get_or ids k d).0)
  operand_at k d low = operand_says (shown_class shown) ids operands_said k (get_or known k 0) d low (slice_get-get_or known k 0 low)

  pub operand_read : (k : ℕ) (d : ExprId) → k < length known → slice_get (expr_numbers ids) k ≡ Some (get_or ids k d).0
  operand_read k d low = slice_get_map (λ (y : ExprId). y.0) ids k (get_or ids k d) (slice_get-get_or ids k d (omega (arith, low, operands_there)))

  -- lines that say them all of another context show the class in it
  pub class_moved : (new : List Line) (numbers : List ℕ) (z : Context) (k : ℕ) → length known ≤ k → at_numbers (conclusions new) numbers ≡ Some (map (Sub (subject_in z)) (take k (expr_numbers ids))) → AreShowing (prefixes_of u) new numbers (facts.In a z)
  class_moved new numbers z k all at =
      let s = shown_class shown in
      let whole : take k (expr_numbers ids) ≡ operands_of s.class = take_all k (expr_numbers ids) (omega (arith, all, operands_there, length-map ids (λ (y : ExprId). y.0))) ∙ operands_said s.class s.says in
      showing_class s.says (at ∙ ap (λ ds. Some (map (Sub (subject_in z)) ds)) whole)
