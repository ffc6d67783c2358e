-- The terms of trees without faults are those of what they state.
use Rattle.std.proofs.Common.{◌≡◌, ℕ, ◌≤◌, Bool, true, false, inl, inr, List, [], ◌∷◌, ◌++◌, length, codes, refl, sym, ap, ap₂, ◌∙◌, arith}
use Rattle.axioms.specs.Expression.{ClassExpression as Class, Iri}
use Rattle.axioms.specs.Ontology.{intersection, operands_of as parts_of}
use Rattle.fs_parser.specs.Tree.{Tree, Trees, Name, Form, Empty, Then}
use Rattle.program.specs.declared.version.Version.{Version}
use Rattle.shapes.specs.Faults.{faults, faults_in}
use Rattle.shapes.specs.Shapes.{Many}
use Rattle.shapes.specs.declared.expected.Expected.{Expected}
use Rattle.shapes.specs.declared.expected.Expected.TheVariants.{Class as ClassName, ClassExpression, Individual, Property, PropertyOrChain}
use Rattle.profile.specs.Statements.{chain_of, class_of, classes_of, iri_of, iris_of, operand}
use Rattle.profile.proofs.ClassForms.{ArePlainSome, IsPlainForm, intersection_is, plain, some_is, some_values_are}
use Rattle.profile.proofs.Faultless.{operand_parts}
use Rattle.profile.proofs.NameTrees.{IsName, chain_form, class_named, individual_name, property_name}
use Rattle.statements_text.specs.Terms.{Term, Terms, Word, Of, And, None as NoTerms, class_term, class_terms, chain_term, operand_terms, words}
use Rattle.statements_text.specs.TreeTerms.{term_in, terms_in}

-- ---- expressions

operand_terms_are : (c d : Class) (es : List Class) → operand_terms (parts_of c d es) ≡ class_terms (c ∷ d ∷ es)
operand_terms_are c d [] = refl
operand_terms_are c d (e ∷ es) = ap (And (class_term c)) (operand_terms_are d e es)

intersection_term : (cs : List Class) → 2 ≤ length cs → class_term (intersection cs) ≡ Of (codes "ObjectIntersectionOf") (class_terms cs)
intersection_term [] many = absurd (omega (arith, many))
intersection_term (c ∷ []) many = absurd (omega (arith, many))
intersection_term (c ∷ d ∷ es) many = ap (Of (codes "ObjectIntersectionOf")) (operand_terms_are c d es)

chain_is : (rs : List Iri) → 2 ≤ length rs → chain_term rs ≡ Of (codes "ObjectPropertyChain") (words rs)
chain_is [] many = absurd (omega (arith, many))
chain_is (r ∷ []) many = absurd (omega (arith, many))
chain_is (r ∷ s ∷ rs) many = refl

name_said : (t : Tree) → IsName t → term_in t ≡ Word (iri_of t)
name_said (Name at iri) h = refl
name_said _ h = absurd h

abbrev pair_terms : Trees → Terms
pair_terms ts = And (Word (iri_of (operand ts 0))) (And (class_term (class_of (operand ts 1))) NoTerms)

module _ (version : Version) where
  pub property_said : (t : Tree) → faults version Property t ≡ [] → term_in t ≡ Word (iri_of t)
  property_said t h = name_said t (property_name version t h)

  pub individual_said : (t : Tree) → faults version Individual t ≡ [] → term_in t ≡ Word (iri_of t)
  individual_said t h = name_said t (individual_name version t h)

  pub class_name_said : (t : Tree) → faults version ClassName t ≡ [] → term_in t ≡ Word (iri_of t)
  class_name_said t h = name_said t (class_named version t h)

  names_said : (expected : Expected) (distinct : Bool) → ((t : Tree) → faults version expected t ≡ [] → IsName t) → (earlier : List Tree) (ts : Trees) →
      faults_in version false earlier (Many distinct expected) ts ≡ [] → terms_in ts ≡ words (iris_of ts)
  names_said expected distinct name earlier Empty h = refl
  names_said expected distinct name earlier (Then t ts) h =
      let p = operand_parts version earlier (Many distinct expected) t ts h in
      ap₂ And (name_said t (name t p.faultless)) (names_said expected distinct name (earlier ++ t ∷ []) ts p.later)

  pub properties_said : (distinct : Bool) (ts : Trees) → faults_in version false [] (Many distinct Property) ts ≡ [] → terms_in ts ≡ words (iris_of ts)
  properties_said distinct ts h = names_said Property distinct (property_name version) [] ts h

  pub individuals_said : (distinct : Bool) (ts : Trees) → faults_in version false [] (Many distinct Individual) ts ≡ [] → terms_in ts ≡ words (iris_of ts)
  individuals_said distinct ts h = names_said Individual distinct (individual_name version) [] ts h

  module _ (at : ℕ) (k : List ℕ) (ts : Trees) (lists : faults_in version false [] (Many true ClassExpression) ts ≡ [] → terms_in ts ≡ class_terms (classes_of ts))
      (pairs : ArePlainSome version ts → terms_in ts ≡ pair_terms ts) where
    form_said : IsPlainForm version k ts → Of k (terms_in ts) ≡ class_term (class_of (Form at k ts))
    form_said (inl p) = ap₂ Of p.word (lists p.faultless) ∙ sym (intersection_term (classes_of ts) p.many) ∙ ap class_term (sym (intersection_is version at k ts p))
    form_said (inr p) = ap₂ Of p.word (pairs p.parts_fit) ∙ ap class_term (sym (some_is version at k ts p ∙ some_values_are version ts p.parts_fit))

  mutual
    pub class_said : (t : Tree) → faults version ClassExpression t ≡ [] → term_in t ≡ class_term (class_of t)
    class_said (Name at iri) h = refl
    class_said (Form at k ts) h = form_said at k ts (λ f. classes_said [] ts f) (λ p. some_said ts p) (plain version at k ts h)
    class_said _ h = cc

    pub classes_said : (earlier : List Tree) (ts : Trees) → faults_in version false earlier (Many true ClassExpression) ts ≡ [] → terms_in ts ≡ class_terms (classes_of ts)
    classes_said earlier Empty h = refl
    classes_said earlier (Then t ts) h =
        let p = operand_parts version earlier (Many true ClassExpression) t ts h in
        ap₂ And (class_said t p.faultless) (classes_said (earlier ++ t ∷ []) ts p.later)

    some_said : (ts : Trees) → ArePlainSome version ts → terms_in ts ≡ pair_terms ts
    some_said (Then r (Then c Empty)) h = ap₂ And (property_said r h.0) (ap (λ (x : Term). And x NoTerms) (class_said c h.1))
    some_said _ h = absurd h

  -- ---- chains

  pub chain_said : (t : Tree) → faults version PropertyOrChain t ≡ [] → term_in t ≡ chain_term (chain_of t)
  chain_said (Name at iri) h = refl
  chain_said (Form at k ts) h =
      let p = chain_form version at k ts h in
      ap₂ Of p.word (properties_said false ts p.faultless) ∙ sym (chain_is (iris_of ts) p.many)
  chain_said _ h = cc
