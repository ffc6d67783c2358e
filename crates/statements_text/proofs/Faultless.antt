-- Trees of expressions whose names and operands are as they have to be have no fault.
use Rattle.std.proofs.Common.{◌≡◌, ℕ, ◌+◌, Bool, true, false, ◌&&◌, List, [], ◌∷◌, ◌++◌, length, map, refl, sym, ap, subst, ◌∙◌, arith}
use Rattle.std.specs.Prelude.{nat_lt}
use Rattle.std.specs.List.{list_any}
use Rattle.std.specs.Str.{bytes_eq}
use Rattle.std.proofs.lemmas.List.{map-append}
use Rattle.axioms.specs.Expression.{ClassExpression, Operands, Named, Intersection, SomeValues, Pair, Before, Iri, operand_list}
use Rattle.axioms.specs.Numbering.{same_expression, same_operands}
use Rattle.fs_parser.specs.Tree.{Tree, Empty}
use Rattle.program.specs.declared.version.Version.{Version}
use Rattle.program.specs.declared.version.Version.TheVariants.{One, Two}
use Rattle.shapes.specs.Faults.{count_of, faults, faults_in}
use Rattle.shapes.specs.Names.{is_reserved}
use Rattle.shapes.specs.Shapes.{Many}
use Rattle.shapes.specs.TreeEquality.{same_tree, same_trees}
use Rattle.shapes.specs.declared.expected.Expected.{Expected}
use Rattle.shapes.specs.declared.expected.Expected.TheVariants.{ClassExpression as AnExpression}
use Rattle.statements_text.specs.Sound.{AreApart, AreSound, IsSound}
use Rattle.statements_text.specs.Terms.{Term, Terms, Word, None, And, term_text, term_tree, terms_trees, later_trees, words, class_term, operand_terms, class_terms}

-- ---- trees are the same where the expressions are

and_no : (a : Bool) → (a && false) ≡ false
and_no true = refl
and_no false = refl

and_yes : (a : Bool) → (a && true) ≡ a
and_yes true = refl
and_yes false = refl

pub later_is : (ts : Terms) (at : ℕ) → later_trees at ts ≡ terms_trees (at + 1) ts
later_is None at = refl
later_is (And first rest) at = refl

no_more : (os : Operands) (at : ℕ) → same_trees Empty (later_trees at (operand_terms os)) ≡ false
no_more (Pair c d) at = refl
no_more (Before c os) at = refl

none_left : (os : Operands) (at : ℕ) → same_trees (later_trees at (operand_terms os)) Empty ≡ false
none_left (Pair c d) at = refl
none_left (Before c os) at = refl

two_no : (a b : Bool) → (a && (b && false)) ≡ false
two_no a b = let e = and_no b in let f = and_no a in rw (e, f) refl

mutual
  pub same_class : (c d : ClassExpression) (at to : ℕ) → same_tree (term_tree at (class_term c)) (term_tree to (class_term d)) ≡ same_expression c d
  same_class (Named c) (Named d) at to = refl
  same_class (Intersection os) (Intersection us) at to = same_each os us (at + 21) (to + 21)
  same_class (SomeValues r c) (SomeValues s d) at to =
      ap (λ (b : Bool). bytes_eq r s && b) (and_yes _ ∙ same_class c d (at + 21 + length (term_text (Word r)) + 1) (to + 21 + length (term_text (Word s)) + 1))
  same_class _ _ at to = refl

  same_each : (os us : Operands) (at to : ℕ) → same_trees (terms_trees at (operand_terms os)) (terms_trees to (operand_terms us)) ≡ same_operands os us
  same_each (Pair c d) (Pair e f) at to =
      let a = same_class c e at to in
      let b = same_class d f (at + length (term_text (class_term c)) + 1) (to + length (term_text (class_term e)) + 1) in
      rw (a, b) (ap (λ (x : Bool). same_expression c e && x) (and_yes (same_expression d f)))
  same_each (Pair c d) (Before e (Pair f g)) at to = two_no _ _
  same_each (Pair c d) (Before e (Before f us)) at to =
      let n = no_more us (to + length (term_text (class_term e)) + 1 + length (term_text (class_term f))) in
      rw n (two_no _ _)
  same_each (Before c (Pair d e)) (Pair f g) at to = two_no _ _
  same_each (Before c (Before d os)) (Pair f g) at to =
      let n = none_left os (at + length (term_text (class_term c)) + 1 + length (term_text (class_term d))) in
      rw n (two_no _ _)
  same_each (Before c os) (Before d us) at to =
      let a = same_class c d at to in
      let e = later_is (operand_terms os) (at + length (term_text (class_term c))) in
      let f = later_is (operand_terms us) (to + length (term_text (class_term d))) in
      let b = same_each os us (at + length (term_text (class_term c)) + 1) (to + length (term_text (class_term d)) + 1) in
      rw (e, f, a, b) refl

-- ---- operands that differ

abbrev pub terms_of : {A : Type 0} → (A → Term) → List A → Terms
terms_of term [] = None
terms_of term (x ∷ xs) = And (term x) (terms_of term xs)

pub words_are : (rs : List Iri) → words rs ≡ terms_of Word rs
words_are [] = refl
words_are (r ∷ rs) = ap (And (Word r)) (words_are rs)

pub classes_are : (cs : List ClassExpression) → class_terms cs ≡ terms_of class_term cs
classes_are [] = refl
classes_are (c ∷ cs) = ap (And (class_term c)) (classes_are cs)

pub operands_are : (os : Operands) → operand_terms os ≡ terms_of class_term (operand_list os)
operands_are (Pair c d) = refl
operands_are (Before c rest) = ap (And (class_term c)) (operands_are rest)

module _ (version : Version) (expected : Expected) {A : Type 0} (term : A → Term) (same : A → A → Bool)
    (told : (x y : A) (at to : ℕ) → same_tree (term_tree at (term x)) (term_tree to (term y)) ≡ same x y) where
  abbrev pub AreFaultless : List A → Type 0
  AreFaultless [] = Unit {0}
  AreFaultless (x ∷ xs) = ((at : ℕ) → faults version expected (term_tree at (term x)) ≡ []) × AreFaultless xs

  abbrev tree_in : ℕ × A → Tree
  tree_in p = term_tree p.0 (term p.1)

  abbrev item_in : ℕ × A → A
  item_in p = p.1

  any_same : (x : A) (at : ℕ) (earlier : List (ℕ × A)) → list_any (same_tree (term_tree at (term x))) (map tree_in earlier) ≡ list_any (same x) (map item_in earlier)
  any_same x at [] = refl
  any_same x at (p ∷ ps) = let a = told x p.1 at p.0 in let b = any_same x at ps in rw (a, b) refl

  pub inside : (xs : List A) (earlier : List (ℕ × A)) (at : ℕ) → AreApart same (map item_in earlier) xs → AreFaultless xs →
      faults_in version false (map tree_in earlier) (Many true expected) (terms_trees at (terms_of term xs)) ≡ []
  inside [] earlier at apart h = refl
  inside (x ∷ xs) earlier at apart h =
      let e = any_same x at earlier ∙ apart.0 in
      let l = later_is (terms_of term xs) (at + length (term_text (term x))) in
      let f = h.0 at in
      let now = earlier ++ (at, x) ∷ [] in
      let rest = inside xs now (at + length (term_text (term x)) + 1)
      (subst (λ ys. AreApart same ys xs) (sym (map-append item_in earlier ((at, x) ∷ []))) apart.1) h.1 in
      let m = subst (λ ts. faults_in version false ts (Many true expected) (terms_trees (at + length (term_text (term x)) + 1) (terms_of term xs)) ≡ [])
      (map-append tree_in earlier ((at, x) ∷ [])) rest in
      rw (e, f, l) m

-- ---- expressions

pub two_fit : (n : ℕ) → nat_lt 1 (n + 1 + 1) ≡ true
two_fit n = grind arith

two_operands : (os : Operands) (at : ℕ) → nat_lt 1 (count_of (terms_trees at (operand_terms os))) ≡ true
two_operands (Pair c d) at = refl
two_operands (Before c (Pair d e)) at = refl
two_operands (Before c (Before d os)) at = two_fit _

module _ (version : Version) where
  -- an intersection has the faults of its operands
  whole : (os : Operands) (at : ℕ) → faults_in version false [] (Many true AnExpression) (terms_trees (at + 21) (operand_terms os)) ≡ [] →
      faults version AnExpression (term_tree at (class_term (Intersection os))) ≡ []
  whole os at h = go version h
    where
      go : (v : Version) → faults_in v false [] (Many true AnExpression) (terms_trees (at + 21) (operand_terms os)) ≡ [] → faults v AnExpression (term_tree at (class_term (Intersection os))) ≡ []
      go One h = let n = two_operands os (at + 21) in rw (n, h) refl
      go Two h = let n = two_operands os (at + 21) in rw (n, h) refl

  some : (r : Iri) (c : ClassExpression) (at : ℕ) → is_reserved r ≡ false → ((to : ℕ) → faults version AnExpression (term_tree to (class_term c)) ≡ []) →
      faults version AnExpression (term_tree at (class_term (SomeValues r c))) ≡ []
  some r c at h k = go version k
    where
      go : (v : Version) → ((to : ℕ) → faults v AnExpression (term_tree to (class_term c)) ≡ []) → faults v AnExpression (term_tree at (class_term (SomeValues r c))) ≡ []
      go One k = let e = k (at + 21 + length (term_text (Word r)) + 1) in rw (h, e) refl
      go Two k = let e = k (at + 21 + length (term_text (Word r)) + 1) in rw (h, e) refl

  mutual
    pub sound_class : (c : ClassExpression) (at : ℕ) → IsSound c → faults version AnExpression (term_tree at (class_term c)) ≡ []
    sound_class (Named c) at h = rw h refl
    sound_class (Intersection os) at h =
        whole os at (subst (λ ts. faults_in version false [] (Many true AnExpression) (terms_trees (at + 21) ts) ≡ []) (sym (operands_are os))
        (inside version AnExpression class_term same_expression same_class (operand_list os) [] (at + 21) h.1 (sound_operands os h.0)))
    sound_class (SomeValues r c) at h = some r c at h.0 (λ to. sound_class c to h.1)

    sound_operands : (os : Operands) → AreSound os → AreFaultless version AnExpression class_term same_expression same_class (operand_list os)
    sound_operands (Pair c d) h = ((λ at. sound_class c at h.0), ((λ at. sound_class d at h.1), tt))
    sound_operands (Before c rest) h = ((λ at. sound_class c at h.0), sound_operands rest h.1)
