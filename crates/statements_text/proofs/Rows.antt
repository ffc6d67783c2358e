-- What trees without faults state can be said: its term is that of the tree, and its names and operands are as they have to be.
use Rattle.std.proofs.Common.{◌≡◌, ℕ, Bool, true, false, ◌&&◌, List, [], ◌∷◌, Option, Some, None, map, codes, refl, sym, ap, ap₂, ◌∙◌, arith, subst, if◌then◌else◌, bytes_eq, option_map}
use Rattle.std.specs.List.{list_all}
use Rattle.std.specs.Option.{is_some}
use Rattle.std.proofs.lemmas.Bool.{and_parts, false≢true}
use Rattle.std.proofs.lemmas.Option.{none-some, same_Some}
use Rattle.std.proofs.lemmas.Slice.Eq.{bytes_eq-Decides}
use Rattle.axioms.specs.Axiom.{SubClassOf, EquivalentClasses, DisjointClasses, SubPropertyOf, EquivalentProperties, PropertyDomain, TransitiveProperty, ReflexiveProperty, ClassAssertion, PropertyAssertion, SameIndividuals, DifferentIndividuals, NegativePropertyAssertion}
use Rattle.axioms.specs.Numbering.{Statement, DeclaresClass, DeclaresProperty, DeclaresIndividual, States}
use Rattle.fs_parser.specs.Tree.{Tree, Trees, Form, Empty, Then}
use Rattle.program.specs.declared.version.Version.{Version}
use Rattle.program.specs.declared.version.Version.TheVariants.{One, Two}
use Rattle.shapes.specs.Faults.{behind_annotations, count_of, faults}
use Rattle.shapes.specs.Shapes.{Operands, Each, Shape, axiom_forms, entity_forms, fits_count, form_of, row, shape, shape_in, since, takes}
use Rattle.shapes.specs.TreeStatements.{axiom_by, entity_by, entity_in, meaning, said, stated_by}
use Rattle.shapes.specs.declared.expected.Expected.TheVariants.{Axiom, Class, ClassExpression, Entity, Individual, Property, PropertyOrChain}
use Rattle.shapes.specs.declared.form.Form as shapes
use Rattle.shapes.specs.declared.form.Form.TheVariants as forms
use Rattle.profile.specs.Statements.{chain_of, class_of, classes_of, iri_of, iris_of, statement_of}
use Rattle.profile.proofs.ClassForms.{count_of_classes}
use Rattle.profile.proofs.Faultless.{AreOperandsOf, form_operands, operand_parts}
use Rattle.profile.proofs.GivenOperands.{AreGiven, AreOne, AreTwo, AreThree, are_one, are_two, are_three}
use Rattle.profile.proofs.NameTrees.{count_of_names, many_trees}
use Rattle.profile.proofs.PlainNames.{class_name_sound, individual_plain, property_plain}
use Rattle.statements_text.specs.Sound.{IsSoundStatement}
use Rattle.statements_text.specs.Terms.{Term, Of, And, None as NoTerms, Word, statement_term, since as statement_since}
use Rattle.statements_text.specs.TreeTerms.{bare_term, term_in, terms_in}
use Rattle.statements_text.proofs.Said.{chain_said, class_said, classes_said, class_name_said, individual_said, individuals_said, properties_said, property_said}
use Rattle.statements_text.proofs.Sounding.{chain_plain, class_sound, classes_apart, classes_sound, individuals_apart, individuals_plain, properties_apart, properties_plain}

-- ---- rows

-- the row of a keyword: its word and operands are those of its form, which is one of these and of the version
pub record IsRow (version : Version) (fs : List shapes.Form) (k : List ℕ) (f : shapes.Form) : Type 0 where
  pub word : (row f).0 ≡ k
  pub taken : takes version (since f) ≡ true
  pub operands : option_map (λ (s : Shape). s.2) (shape_in version (map shape fs) k) ≡ Some (row f).1
  pub among : (p : shapes.Form → Bool) → list_all p fs ≡ true → p f ≡ true

pub row_is : (version : Version) (fs : List shapes.Form) (k : List ℕ) (f : shapes.Form) → option_map (λ (s : Shape). s.0) (shape_in version (map shape fs) k) ≡ Some f → IsRow version fs k f
row_is version [] k f h = absurd (none-some f h)
row_is version (g ∷ gs) k f h = go (takes version (since g) && bytes_eq (row g).0 k) refl (λ i. row_is version gs k f i)
  where
    go : (b : Bool) → (takes version (since g) && bytes_eq (row g).0 k) ≡ b → (option_map (λ (s : Shape). s.0) (shape_in version (map shape gs) k) ≡ Some f → IsRow version gs k f) → IsRow version (g ∷ gs) k f
    go true e more =
        let here : shape_in version (map shape (g ∷ gs)) k ≡ Some (shape g) = rw e refl in
        let same : g ≡ f = same_Some g f (sym (ap (option_map (λ (s : Shape). s.0)) here) ∙ h) in
        let parts = and_parts (takes version (since g)) (bytes_eq (row g).0 k) e in
        record {
          word = ap (λ (x : shapes.Form). (row x).0) (sym same) ∙ (bytes_eq-Decides (row g).0 k).0 parts.1;
          taken = ap (λ (x : shapes.Form). takes version (since x)) (sym same) ∙ parts.0;
          operands = ap (option_map (λ (s : Shape). s.2)) here ∙ ap (λ (x : shapes.Form). Some (row x).1) same;
          among = λ p all. ap p (sym same) ∙ (and_parts (p g) (list_all p gs) all).0;
        }
    go false e more =
        let later : shape_in version (map shape (g ∷ gs)) k ≡ shape_in version (map shape gs) k = rw e refl in
        let r = more (sym (ap (option_map (λ (s : Shape). s.0)) later) ∙ h) in
        record {
          word = r.word;
          taken = r.taken;
          operands = ap (option_map (λ (s : Shape). s.2)) later ∙ r.operands;
          among = λ p all. r.among p (and_parts (p g) (list_all p gs) all).1;
        }

abbrev is_entity : shapes.Form → Bool
is_entity forms.Class = true
is_entity forms.ObjectProperty = true
is_entity forms.NamedIndividual = true
is_entity forms.AnnotationProperty = true
is_entity _ = false

abbrev no_entity : shapes.Form → Bool
no_entity forms.Class = false
no_entity forms.ObjectProperty = false
no_entity forms.NamedIndividual = false
no_entity forms.AnnotationProperty = false
no_entity _ = true

-- a form that has as many operands as it takes states what its row says
states : (f : shapes.Form) (ts : Trees) (s : Statement) → fits_count (row f).1 (count_of ts) ≡ true → meaning (stated_by f ts) ≡ s ∷ [] → said (row f).2 ts ≡ s ∷ []
states f ts s fits e = go (is_some (row f).2) (subst (λ (b : Bool). meaning (if is_some (row f).2 && b then Some (f, ts) else None) ≡ s ∷ []) fits e)
  where
    go : (b : Bool) → meaning (if b && true then Some (f, ts) else None) ≡ s ∷ [] → said (row f).2 ts ≡ s ∷ []
    go true h = h
    go false h = absurd (let none : [] ≡ s ∷ [] = h in cc)

first_is : (x s : Statement) → x ∷ [] ≡ s ∷ [] → x ≡ s
first_is x s e = cc

-- ---- what is said

-- the statement has this term, its names and operands are as they have to be, and it is taken since this version
pub record IsSaid (term : Term) (first : Version) (s : Statement) : Type 0 where
  pub term_is : term ≡ statement_term s
  pub sound : IsSoundStatement s
  pub since_is : statement_since s ≡ first

-- where the statement is another's
as_said : (term : Term) (first : Version) (x s : Statement) → x ∷ [] ≡ s ∷ [] → IsSaid term first x → IsSaid term first s
as_said term first x s e h = subst (IsSaid term first) (first_is x s e) h

abbrev one_term : List ℕ → Term → Term
one_term k a = Of k (And a NoTerms)

abbrev two_terms : List ℕ → Term → Term → Term
two_terms k a b = Of k (And a (And b NoTerms))

abbrev three_terms : List ℕ → Term → Term → Term → Term
three_terms k a b c = Of k (And a (And b (And c NoTerms)))

three_are : (k : List ℕ) (a b c x y z : Term) → a ≡ x → b ≡ y → c ≡ z → three_terms k a b c ≡ three_terms k x y z
three_are k a b c x y z e f g = rw (e, f, g) refl

pub nothing_said : (s : Statement) → [] ≡ s ∷ [] → ⊥
nothing_said s e = cc

module _ (version : Version) where
  sub_class : (ts : Trees) → AreTwo version ClassExpression ClassExpression ts → (s : Statement) → said (row forms.SubClassOf).2 ts ≡ s ∷ [] → IsSaid (Of (codes "SubClassOf") (terms_in ts)) One s
  sub_class (Then t (Then u Empty)) h s e =
      as_said (two_terms (codes "SubClassOf") (term_in t) (term_in u)) One (States (SubClassOf (class_of t) (class_of u))) s e
      (record { term_is = ap₂ (two_terms (codes "SubClassOf")) (class_said version t h.0) (class_said version u h.1); sound = (class_sound version t h.0, class_sound version u h.1); since_is = refl })
  sub_class _ h s e = absurd h

  sub_property : (ts : Trees) → AreTwo version PropertyOrChain Property ts → (s : Statement) → said (row forms.SubObjectPropertyOf).2 ts ≡ s ∷ [] → IsSaid (Of (codes "SubObjectPropertyOf") (terms_in ts)) One s
  sub_property (Then t (Then u Empty)) h s e =
      as_said (two_terms (codes "SubObjectPropertyOf") (term_in t) (term_in u)) One (States (SubPropertyOf (chain_of t) (iri_of u))) s e
      (record { term_is = ap₂ (two_terms (codes "SubObjectPropertyOf")) (chain_said version t h.0) (property_said version u h.1); sound = ((chain_plain version t h.0).0, (chain_plain version t h.0).1, property_plain version u h.1); since_is = refl })
  sub_property _ h s e = absurd h

  domain : (ts : Trees) → AreTwo version Property ClassExpression ts → (s : Statement) → said (row forms.ObjectPropertyDomain).2 ts ≡ s ∷ [] → IsSaid (Of (codes "ObjectPropertyDomain") (terms_in ts)) One s
  domain (Then t (Then u Empty)) h s e =
      as_said (two_terms (codes "ObjectPropertyDomain") (term_in t) (term_in u)) One (States (PropertyDomain (iri_of t) (class_of u))) s e
      (record { term_is = ap₂ (two_terms (codes "ObjectPropertyDomain")) (property_said version t h.0) (class_said version u h.1); sound = (property_plain version t h.0, class_sound version u h.1); since_is = refl })
  domain _ h s e = absurd h

  class_assertion : (ts : Trees) → AreTwo version ClassExpression Individual ts → (s : Statement) → said (row forms.ClassAssertion).2 ts ≡ s ∷ [] → IsSaid (Of (codes "ClassAssertion") (terms_in ts)) One s
  class_assertion (Then t (Then u Empty)) h s e =
      as_said (two_terms (codes "ClassAssertion") (term_in t) (term_in u)) One (States (ClassAssertion (class_of t) (iri_of u))) s e
      (record { term_is = ap₂ (two_terms (codes "ClassAssertion")) (class_said version t h.0) (individual_said version u h.1); sound = (class_sound version t h.0, individual_plain version u h.1); since_is = refl })
  class_assertion _ h s e = absurd h

  transitive : (ts : Trees) → AreOne version Property ts → (s : Statement) → said (row forms.TransitiveObjectProperty).2 ts ≡ s ∷ [] → IsSaid (Of (codes "TransitiveObjectProperty") (terms_in ts)) One s
  transitive (Then t Empty) h s e =
      as_said (one_term (codes "TransitiveObjectProperty") (term_in t)) One (States (TransitiveProperty (iri_of t))) s e
      (record { term_is = ap (one_term (codes "TransitiveObjectProperty")) (property_said version t h); sound = property_plain version t h; since_is = refl })
  transitive _ h s e = absurd h

  reflexive : (ts : Trees) → AreOne version Property ts → (s : Statement) → said (row forms.ReflexiveObjectProperty).2 ts ≡ s ∷ [] → IsSaid (Of (codes "ReflexiveObjectProperty") (terms_in ts)) One s
  reflexive (Then t Empty) h s e =
      as_said (one_term (codes "ReflexiveObjectProperty") (term_in t)) One (States (ReflexiveProperty (iri_of t))) s e
      (record { term_is = ap (one_term (codes "ReflexiveObjectProperty")) (property_said version t h); sound = property_plain version t h; since_is = refl })
  reflexive _ h s e = absurd h

  property_assertion : (ts : Trees) → AreThree version Property Individual Individual ts → (s : Statement) → said (row forms.ObjectPropertyAssertion).2 ts ≡ s ∷ [] → IsSaid (Of (codes "ObjectPropertyAssertion") (terms_in ts)) One s
  property_assertion (Then t (Then u (Then v Empty))) h s e =
      as_said (three_terms (codes "ObjectPropertyAssertion") (term_in t) (term_in u) (term_in v)) One (States (PropertyAssertion (iri_of t) (iri_of u) (iri_of v))) s e (record {
        term_is = three_are (codes "ObjectPropertyAssertion") (term_in t) (term_in u) (term_in v) (Word (iri_of t)) (Word (iri_of u)) (Word (iri_of v)) (property_said version t h.0) (individual_said version u h.1) (individual_said version v h.2);
        sound = (property_plain version t h.0, individual_plain version u h.1, individual_plain version v h.2);
        since_is = refl;
      })
  property_assertion _ h s e = absurd h

  negative_assertion : (ts : Trees) → AreThree version Property Individual Individual ts → (s : Statement) → said (row forms.NegativeObjectPropertyAssertion).2 ts ≡ s ∷ [] → IsSaid (Of (codes "NegativeObjectPropertyAssertion") (terms_in ts)) Two s
  negative_assertion (Then t (Then u (Then v Empty))) h s e =
      as_said (three_terms (codes "NegativeObjectPropertyAssertion") (term_in t) (term_in u) (term_in v)) Two (States (NegativePropertyAssertion (iri_of t) (iri_of u) (iri_of v))) s e (record {
        term_is = three_are (codes "NegativeObjectPropertyAssertion") (term_in t) (term_in u) (term_in v) (Word (iri_of t)) (Word (iri_of u)) (Word (iri_of v)) (property_said version t h.0) (individual_said version u h.1) (individual_said version v h.2);
        sound = (property_plain version t h.0, individual_plain version u h.1, individual_plain version v h.2);
        since_is = refl;
      })
  negative_assertion _ h s e = absurd h

  row_said : (f : shapes.Form) (ts : Trees) → no_entity f ≡ true → AreGiven version (row f).1 ts → (s : Statement) → said (row f).2 ts ≡ s ∷ [] → IsSaid (Of (row f).0 (terms_in ts)) (since f) s
  row_said forms.SubClassOf ts o g s e = sub_class ts (are_two version ClassExpression ClassExpression ts g) s e
  row_said forms.SubObjectPropertyOf ts o g s e = sub_property ts (are_two version PropertyOrChain Property ts g) s e
  row_said forms.ObjectPropertyDomain ts o g s e = domain ts (are_two version Property ClassExpression ts g) s e
  row_said forms.ClassAssertion ts o g s e = class_assertion ts (are_two version ClassExpression Individual ts g) s e
  row_said forms.TransitiveObjectProperty ts o g s e = transitive ts (are_one version Property ts g) s e
  row_said forms.ReflexiveObjectProperty ts o g s e = reflexive ts (are_one version Property ts g) s e
  row_said forms.ObjectPropertyAssertion ts o g s e = property_assertion ts (are_three version Property Individual Individual ts g) s e
  row_said forms.NegativeObjectPropertyAssertion ts o g s e = negative_assertion ts (are_three version Property Individual Individual ts g) s e
  row_said forms.EquivalentClasses ts o g s e =
      as_said (Of (codes "EquivalentClasses") (terms_in ts)) One (States (EquivalentClasses (classes_of ts))) s e
      (record { term_is = ap (Of (codes "EquivalentClasses")) (classes_said version [] ts g.faultless); sound = (omega (arith, count_of_classes ts, many_trees true ClassExpression ts g.count), classes_sound version [] ts g.faultless, classes_apart version ts g.faultless); since_is = refl })
  row_said forms.DisjointClasses ts o g s e =
      as_said (Of (codes "DisjointClasses") (terms_in ts)) One (States (DisjointClasses (classes_of ts))) s e
      (record { term_is = ap (Of (codes "DisjointClasses")) (classes_said version [] ts g.faultless); sound = (omega (arith, count_of_classes ts, many_trees true ClassExpression ts g.count), classes_sound version [] ts g.faultless, classes_apart version ts g.faultless); since_is = refl })
  row_said forms.EquivalentObjectProperties ts o g s e =
      as_said (Of (codes "EquivalentObjectProperties") (terms_in ts)) One (States (EquivalentProperties (iris_of ts))) s e
      (record { term_is = ap (Of (codes "EquivalentObjectProperties")) (properties_said version true ts g.faultless); sound = (omega (arith, count_of_names ts, many_trees true Property ts g.count), properties_plain version true ts g.faultless, properties_apart version ts g.faultless); since_is = refl })
  row_said forms.SameIndividual ts o g s e =
      as_said (Of (codes "SameIndividual") (terms_in ts)) Two (States (SameIndividuals (iris_of ts))) s e
      (record { term_is = ap (Of (codes "SameIndividual")) (individuals_said version true ts g.faultless); sound = (omega (arith, count_of_names ts, many_trees true Individual ts g.count), individuals_plain version true ts g.faultless, individuals_apart version ts g.faultless); since_is = refl })
  row_said forms.DifferentIndividuals ts o g s e =
      as_said (Of (codes "DifferentIndividuals") (terms_in ts)) Two (States (DifferentIndividuals (iris_of ts))) s e
      (record { term_is = ap (Of (codes "DifferentIndividuals")) (individuals_said version true ts g.faultless); sound = (omega (arith, count_of_names ts, many_trees true Individual ts g.count), individuals_plain version true ts g.faultless, individuals_apart version ts g.faultless); since_is = refl })
  row_said forms.Class ts o g s e = absurd (false≢true o)
  row_said forms.ObjectProperty ts o g s e = absurd (false≢true o)
  row_said forms.NamedIndividual ts o g s e = absurd (false≢true o)
  row_said _ ts o g s e = absurd (nothing_said s e)

  -- ---- declarations

  abbrev declared : List ℕ → Term → Term
  declared k t = one_term (codes "Declaration") (one_term k t)

  declared_class : (ts : Trees) → AreOne version Class ts → (s : Statement) → said (row forms.Class).2 ts ≡ s ∷ [] → IsSaid (one_term (codes "Declaration") (Of (codes "Class") (terms_in ts))) One s
  declared_class (Then t Empty) h s e =
      as_said (declared (codes "Class") (term_in t)) One (DeclaresClass (iri_of t)) s e
      (record { term_is = ap (declared (codes "Class")) (class_name_said version t h); sound = class_name_sound version t h; since_is = refl })
  declared_class _ h s e = absurd h

  declared_property : (ts : Trees) → AreOne version Property ts → (s : Statement) → said (row forms.ObjectProperty).2 ts ≡ s ∷ [] →
      IsSaid (one_term (codes "Declaration") (Of (codes "ObjectProperty") (terms_in ts))) One s
  declared_property (Then t Empty) h s e =
      as_said (declared (codes "ObjectProperty") (term_in t)) One (DeclaresProperty (iri_of t)) s e
      (record { term_is = ap (declared (codes "ObjectProperty")) (property_said version t h); sound = property_plain version t h; since_is = refl })
  declared_property _ h s e = absurd h

  declared_individual : (ts : Trees) → AreOne version Individual ts → (s : Statement) → said (row forms.NamedIndividual).2 ts ≡ s ∷ [] →
      IsSaid (one_term (codes "Declaration") (Of (codes "NamedIndividual") (terms_in ts))) One s
  declared_individual (Then t Empty) h s e =
      as_said (declared (codes "NamedIndividual") (term_in t)) One (DeclaresIndividual (iri_of t)) s e
      (record { term_is = ap (declared (codes "NamedIndividual")) (individual_said version t h); sound = individual_plain version t h; since_is = refl })
  declared_individual _ h s e = absurd h

  entity_said : (f : shapes.Form) (ts : Trees) → is_entity f ≡ true → AreGiven version (row f).1 ts → (s : Statement) → said (row f).2 ts ≡ s ∷ [] → IsSaid (one_term (codes "Declaration") (Of (row f).0 (terms_in ts))) One s
  entity_said forms.Class ts o g s e = declared_class ts (are_one version Class ts g) s e
  entity_said forms.ObjectProperty ts o g s e = declared_property ts (are_one version Property ts g) s e
  entity_said forms.NamedIndividual ts o g s e = declared_individual ts (are_one version Individual ts g) s e
  entity_said forms.AnnotationProperty ts o g s e = absurd (nothing_said s e)
  entity_said _ ts o g s e = absurd (false≢true o)

  -- ---- trees

  given : (operands : Operands) (ts : Trees) (more : Operands) → Some more ≡ Some operands → AreGiven version more ts → AreGiven version operands ts
  given operands ts more same g = subst (λ (o : Operands). AreGiven version o ts) (same_Some more operands same) g

  declaration_said : (t : Tree) → faults version Entity t ≡ [] → (s : Statement) → meaning (entity_in version t) ≡ s ∷ [] → IsSaid (one_term (codes "Declaration") (term_in t)) One s
  declaration_said (Form at k ts) h s e = go (form_of version Entity k) refl e
    where
      are : AreOperandsOf version Entity k ts
      are = form_operands version Entity at k ts h

      go : (o : Option shapes.Form) → form_of version Entity k ≡ o → meaning (entity_by o ts) ≡ s ∷ [] → IsSaid (one_term (codes "Declaration") (Of k (terms_in ts))) One s
      go None found e = absurd (nothing_said s e)
      go (Some f) found e =
          let r = row_is version entity_forms k f found in
          let g = given (row f).1 ts are.operands (sym are.shape ∙ r.operands) (record { count = are.count; faultless = are.faultless }) in
          subst (λ (w : List ℕ). IsSaid (one_term (codes "Declaration") (Of w (terms_in ts))) One s) r.word (entity_said f ts (r.among is_entity refl) g s (states f ts s g.count e))
  declaration_said _ h s e = absurd (nothing_said s e)

  axiom_said : (f : shapes.Form) (ts : Trees) → no_entity f ≡ true → AreGiven version (row f).1 ts → (s : Statement) → meaning (axiom_by version (Some f) ts) ≡ s ∷ [] → IsSaid (Of (row f).0 (terms_in ts)) (since f) s
  axiom_said forms.Declaration Empty o g s e = absurd (nothing_said s e)
  axiom_said forms.Declaration (Then t Empty) o g s e = declaration_said t (operand_parts version [] (Each (Entity ∷ [])) t Empty g.faultless).faultless s e
  axiom_said forms.Declaration (Then t (Then u ts)) o g s e = absurd (nothing_said s e)
  axiom_said f ts o g s e = row_said f ts o g s (states f ts s g.count e)

  -- what a tree without faults states
  pub record IsStated (t : Tree) (s : Statement) : Type 0 where
    pub first : Version
    pub said_is : IsSaid (bare_term t) first s
    pub taken : takes version first ≡ true

  pub stated_is : (t : Tree) → faults version Axiom t ≡ [] → (s : Statement) → statement_of version t ≡ s ∷ [] → IsStated t s
  stated_is (Form at k trees) h s e = go (form_of version Axiom k) refl e
    where
      ts : Trees
      ts = behind_annotations trees

      are : AreOperandsOf version Axiom k ts
      are = form_operands version Axiom at k trees h

      go : (o : Option shapes.Form) → form_of version Axiom k ≡ o → meaning (axiom_by version o ts) ≡ s ∷ [] → IsStated (Form at k trees) s
      go None found e = absurd (nothing_said s e)
      go (Some f) found e =
          let r = row_is version axiom_forms k f found in
          let g = given (row f).1 ts are.operands (sym are.shape ∙ r.operands) (record { count = are.count; faultless = are.faultless }) in
          record {
            first = since f;
            said_is = subst (λ (w : List ℕ). IsSaid (Of w (terms_in ts)) (since f) s) r.word (axiom_said f ts (r.among no_entity refl) g s e);
            taken = r.taken;
          }
  stated_is _ h s e = absurd (nothing_said s e)
