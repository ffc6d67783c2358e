-- Forms without faults that are class expressions: intersections, and things with a successor.
use Rattle.std.proofs.Common.{◌≡◌, ℕ, ◌≤◌, Bool, true, false, ◌⊎◌, inl, inr, List, [], ◌∷◌, Some, None, length, codes, refl, sym, ap, ◌∙◌, arith, bytes_eq}
use Rattle.std.proofs.lemmas.Bool.{eqb-true}
use Rattle.std.proofs.lemmas.Option.{none-some, same_Some}
use Rattle.std.proofs.lemmas.Slice.Eq.{bytes_eq-Decides}
use Rattle.axioms.specs.Expression.{Iri, ClassExpression as Class, Named, Intersection, SomeValues, operand_list}
use Rattle.axioms.specs.Ontology.{intersection, operands_of as parts_of}
use Rattle.fs_parser.specs.Tree.{Trees, Form, Empty, Then}
use Rattle.program.specs.declared.version.Version.{Version}
use Rattle.shapes.specs.Faults.{count_of, faults, faults_in}
use Rattle.shapes.specs.Shapes.{Operands, Each, Many, fits_count, operands_of}
use Rattle.shapes.specs.declared.expected.Expected.TheVariants.{ClassExpression, Property}
use Rattle.profile.specs.Statements.{class_of, classes_of, iri_of, operand, some_values}
use Rattle.profile.proofs.Faultless.{AreOperandsOf, form_operands, operand_parts}
use Rattle.profile.proofs.NameTrees.{many_trees}

-- ---- an intersection is of its operands

parts_are : (c d : Class) (es : List Class) → operand_list (parts_of c d es) ≡ c ∷ d ∷ es
parts_are c d [] = refl
parts_are c d (e ∷ es) = ap (λ xs. c ∷ xs) (parts_are d e es)

abbrev parts : Class → List Class
parts (Intersection operands) = operand_list operands
parts _ = []

parts_of_intersection : (cs : List Class) → 2 ≤ length cs → parts (intersection cs) ≡ cs
parts_of_intersection [] many = absurd (omega arith)
parts_of_intersection (c ∷ []) many = absurd (omega arith)
parts_of_intersection (c ∷ d ∷ ds) many = parts_are c d ds

pub same_parts : (cs ds : List Class) → 2 ≤ length cs → 2 ≤ length ds → intersection cs ≡ intersection ds → cs ≡ ds
same_parts cs ds many others e = sym (parts_of_intersection cs many) ∙ ap parts e ∙ parts_of_intersection ds others

-- an intersection is no name, and no thing with a successor
pub intersection_is_not : (cs : List Class) → 2 ≤ length cs → ((iri : Iri) → intersection cs ≡ Named iri → ⊥) × ((r : Iri) (d : Class) → intersection cs ≡ SomeValues r d → ⊥)
intersection_is_not [] many = absurd (omega arith)
intersection_is_not (c ∷ []) many = absurd (omega arith)
intersection_is_not (c ∷ d ∷ ds) many = (λ iri e. cc, λ r f e. cc)

-- ---- the forms of class expressions

-- as many class expressions as trees
pub count_of_classes : (ts : Trees) → length (classes_of ts) ≡ count_of ts
count_of_classes Empty = refl
count_of_classes (Then t ts) = omega (arith, count_of_classes ts)

module _ (version : Version) where
  -- a property, and a class expression behind it
  abbrev pub ArePlainSome : Trees → Type 0
  ArePlainSome (Then property (Then filler Empty)) = (faults version Property property ≡ []) × (faults version ClassExpression filler ≡ [])
  ArePlainSome _ = ⊥

  pub record IsPlainIntersection (keyword : List ℕ) (ts : Trees) : Type 0 where
    pub word : keyword ≡ codes "ObjectIntersectionOf"
    pub many : 2 ≤ length (classes_of ts)
    pub faultless : faults_in version false [] (Many true ClassExpression) ts ≡ []

  pub record IsPlainSome (keyword : List ℕ) (ts : Trees) : Type 0 where
    pub word : keyword ≡ codes "ObjectSomeValuesFrom"
    pub parts_fit : ArePlainSome ts

  abbrev pub IsPlainForm : List ℕ → Trees → Type 0
  IsPlainForm keyword ts = IsPlainIntersection keyword ts ⊎ IsPlainSome keyword ts

  some_of_two : (ts : Trees) → count_of ts ≡ 2 → faults_in version false [] (Each (Property ∷ ClassExpression ∷ [])) ts ≡ [] → ArePlainSome ts
  some_of_two Empty n h = absurd (omega arith)
  some_of_two (Then r Empty) n h = absurd (omega arith)
  some_of_two (Then r (Then c Empty)) n h =
      let first = operand_parts version [] (Each (Property ∷ ClassExpression ∷ [])) r (Then c Empty) h in
      let second = operand_parts version (r ∷ []) (Each (ClassExpression ∷ [])) c Empty first.later in
      (first.faultless, second.faultless)
  some_of_two (Then r (Then c (Then d ts))) n h = absurd (omega arith)

  module _ (keyword : List ℕ) (ts : Trees) (are : AreOperandsOf version ClassExpression keyword ts) where
    of_intersection : codes "ObjectIntersectionOf" ≡ keyword → Many true ClassExpression ≡ are.operands → IsPlainForm keyword ts
    of_intersection word e =
        let count : fits_count (Many true ClassExpression) (count_of ts) ≡ true = ap (λ (o : Operands). fits_count o (count_of ts)) e ∙ are.count in
        inl (record {
          word = sym word;
          many = omega (arith, count_of_classes ts, many_trees true ClassExpression ts count);
          faultless = ap (λ (o : Operands). faults_in version false [] o ts) e ∙ are.faultless;
        })

    of_some : codes "ObjectSomeValuesFrom" ≡ keyword → Each (Property ∷ ClassExpression ∷ []) ≡ are.operands → IsPlainForm keyword ts
    of_some word e =
        let count : fits_count (Each (Property ∷ ClassExpression ∷ [])) (count_of ts) ≡ true = ap (λ (o : Operands). fits_count o (count_of ts)) e ∙ are.count in
        inr (record {
          word = sym word;
          parts_fit = some_of_two ts (eqb-true (count_of ts) 2 count) (ap (λ (o : Operands). faults_in version false [] o ts) e ∙ are.faultless);
        })

    pub plain_form : IsPlainForm keyword ts
    plain_form = go (bytes_eq (codes "ObjectIntersectionOf") keyword) (bytes_eq (codes "ObjectSomeValuesFrom") keyword) refl refl
      where
        go : (a b : Bool) → bytes_eq (codes "ObjectIntersectionOf") keyword ≡ a → bytes_eq (codes "ObjectSomeValuesFrom") keyword ≡ b → IsPlainForm keyword ts
        go true b e f =
            let is : operands_of version ClassExpression keyword ≡ Some (Many true ClassExpression) = rw e refl in
            of_intersection ((bytes_eq-Decides (codes "ObjectIntersectionOf") keyword).0 e) (same_Some (Many true ClassExpression) are.operands (sym is ∙ are.shape))
        go false true e f =
            let is : operands_of version ClassExpression keyword ≡ Some (Each (Property ∷ ClassExpression ∷ [])) = rw (e, f) refl in
            of_some ((bytes_eq-Decides (codes "ObjectSomeValuesFrom") keyword).0 f) (same_Some (Each (Property ∷ ClassExpression ∷ [])) are.operands (sym is ∙ are.shape))
        go false false e f =
            let is : operands_of version ClassExpression keyword ≡ None = rw (e, f) refl in
            absurd (none-some are.operands (sym is ∙ are.shape))

  pub plain : (at : ℕ) (keyword : List ℕ) (ts : Trees) → faults version ClassExpression (Form at keyword ts) ≡ [] → IsPlainForm keyword ts
  plain at keyword ts h = plain_form keyword ts (form_operands version ClassExpression at keyword ts h)

  -- ---- what the forms mean

  pub intersection_is : (at : ℕ) (keyword : List ℕ) (ts : Trees) → IsPlainIntersection keyword ts → class_of (Form at keyword ts) ≡ intersection (classes_of ts)
  intersection_is at keyword ts plain = ap (λ (k : List ℕ). class_of (Form at k ts)) plain.word

  pub some_is : (at : ℕ) (keyword : List ℕ) (ts : Trees) → IsPlainSome keyword ts → class_of (Form at keyword ts) ≡ some_values ts (classes_of ts)
  some_is at keyword ts plain = ap (λ (k : List ℕ). class_of (Form at k ts)) plain.word

  pub some_values_are : (ts : Trees) → ArePlainSome ts → some_values ts (classes_of ts) ≡ SomeValues (iri_of (operand ts 0)) (class_of (operand ts 1))
  some_values_are Empty h = absurd h
  some_values_are (Then r Empty) h = absurd h
  some_values_are (Then r (Then c Empty)) h = refl
  some_values_are (Then r (Then c (Then d ts))) h = absurd h
