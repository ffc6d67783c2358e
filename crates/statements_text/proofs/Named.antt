-- Where neither literals nor annotations may stand, a tree without faults has names and forms alone.
use Rattle.std.proofs.Common.{◌≡◌, ℕ, Bool, true, false, ◌&&◌, List, [], ◌∷◌, ◌++◌, Option, Some, None, map, refl, sym, ap, ◌∙◌, subst, bytes_eq, option_map}
use Rattle.std.specs.List.{list_all}
use Rattle.std.proofs.lemmas.Bool.{and_parts, false≢true}
use Rattle.std.proofs.lemmas.Option.{none-some, same_Some}
use Rattle.axioms.specs.Numbering.{Statement}
use Rattle.fs_parser.specs.Tree.{Tree, Trees, Name, PlainLiteral, TaggedLiteral, TypedLiteral, Form, Empty, Then}
use Rattle.program.specs.declared.version.Version.{Version}
use Rattle.profile.proofs.Faultless.{AreOperandsOf, form_operands, operand_parts}
use Rattle.profile.proofs.PlainNames.{not_none}
use Rattle.profile.proofs.TreeNames.{HasNames, HaveNames, behind_names}
use Rattle.profile.specs.Statements.{statement_of}
use Rattle.shapes.specs.Faults.{behind_annotations, faults, faults_in, literal_faults, own_trees}
use Rattle.shapes.specs.Shapes.{Operands, Each, Many, Shape, axiom_forms, form_of, forms_of, later_expected, next_expected, row, shape, shape_in, since, takes}
use Rattle.shapes.specs.TreeStatements.{axiom_by, meaning}
use Rattle.shapes.specs.declared.expected.Expected.{Expected}
use Rattle.shapes.specs.declared.expected.Expected.TheVariants.{Annotation, Axiom, NameOrLiteral}
use Rattle.shapes.specs.declared.form.Form as shapes
use Rattle.shapes.specs.declared.form.Form.TheVariants as forms
use Rattle.statements_text.specs.Terms.{HasSpelling, HaveSpelling}
use Rattle.statements_text.specs.TreeTerms.{bare_term, term_in, terms_in}
use Rattle.statements_text.proofs.Rows.{nothing_said, row_is}

-- ---- what is expected

-- there may be neither a literal nor annotations in front
abbrev is_bare : Expected → Bool
is_bare Axiom = false
is_bare Annotation = false
is_bare NameOrLiteral = false
is_bare _ = true

abbrev are_bare : Operands → Bool
are_bare (Each es) = list_all is_bare es
are_bare (Many distinct e) = is_bare e

abbrev has_bare : shapes.Form → Bool
has_bare f = are_bare (row f).1

next_bare : (operands : Operands) → are_bare operands ≡ true → is_bare (next_expected operands) ≡ true
next_bare (Each []) h = refl
next_bare (Each (e ∷ es)) h = (and_parts (is_bare e) (list_all is_bare es) h).0
next_bare (Many distinct e) h = h

later_bare : (operands : Operands) → are_bare operands ≡ true → are_bare (later_expected operands) ≡ true
later_bare (Each []) h = refl
later_bare (Each (e ∷ es)) h = (and_parts (is_bare e) (list_all is_bare es) h).1
later_bare (Many distinct e) h = h

-- ---- rows

row_bare : (version : Version) (fs : List shapes.Form) (k : List ℕ) (operands : Operands) → list_all has_bare fs ≡ true →
    option_map (λ (s : Shape). s.2) (shape_in version (map shape fs) k) ≡ Some operands → are_bare operands ≡ true
row_bare version [] k operands all h = absurd (none-some operands h)
row_bare version (f ∷ fs) k operands all h = go (takes version (since f) && bytes_eq (row f).0 k) refl (λ i. row_bare version fs k operands (and_parts (has_bare f) (list_all has_bare fs) all).1 i)
  where
    go : (b : Bool) → (takes version (since f) && bytes_eq (row f).0 k) ≡ b → (option_map (λ (s : Shape). s.2) (shape_in version (map shape fs) k) ≡ Some operands → are_bare operands ≡ true) →
        are_bare operands ≡ true
    go true e more =
        let here : shape_in version (map shape (f ∷ fs)) k ≡ Some (shape f) = rw e refl in
        let same : (row f).1 ≡ operands = same_Some (row f).1 operands (sym (ap (option_map (λ (s : Shape). s.2)) here) ∙ h) in
        ap are_bare (sym same) ∙ (and_parts (has_bare f) (list_all has_bare fs) all).0
    go false e more =
        let later : shape_in version (map shape (f ∷ fs)) k ≡ shape_in version (map shape fs) k = rw e refl in
        more (sym (ap (option_map (λ (s : Shape). s.2)) later) ∙ h)

forms_bare : (e : Expected) → is_bare e ≡ true → list_all has_bare (forms_of e) ≡ true
forms_bare Axiom h = absurd (false≢true h)
forms_bare Annotation h = absurd (false≢true h)
forms_bare NameOrLiteral h = absurd (false≢true h)
forms_bare _ h = refl

own_are : (e : Expected) (ts : Trees) → is_bare e ≡ true → own_trees e ts ≡ ts
own_are Axiom ts h = absurd (false≢true h)
own_are Annotation ts h = absurd (false≢true h)
own_are NameOrLiteral ts h = absurd (false≢true h)
own_are _ ts h = refl

no_literal : (e : Expected) (at : ℕ) → is_bare e ≡ true → literal_faults e at ≡ [] → ⊥
no_literal NameOrLiteral at h none = false≢true h
no_literal _ at h none = not_none _ _ none

-- ---- trees

module _ (version : Version) where
  mutual
    bare_tree : (e : Expected) (t : Tree) → is_bare e ≡ true → faults version e t ≡ [] → HasNames t → HasSpelling (term_in t)
    bare_tree e (Name at iri) b h n = n
    bare_tree e (PlainLiteral at text) b h n = absurd (no_literal e at b h)
    bare_tree e (TaggedLiteral at text tag) b h n = absurd (no_literal e at b h)
    bare_tree e (TypedLiteral at text type) b h n = absurd (no_literal e at b h)
    bare_tree e (Form at k ts) b h n =
        let are = form_operands version e at k ts h in
        let inside : faults_in version false [] are.operands ts ≡ [] = subst (λ (us : Trees). faults_in version false [] are.operands us ≡ []) (own_are e ts b) are.faultless in
        (n.0, bare_trees [] are.operands ts (row_bare version (forms_of e) k are.operands (forms_bare e b) are.shape) inside n.1)
    bare_tree e _ b h n = absurd (not_none _ _ h)

    bare_trees : (earlier : List Tree) (operands : Operands) (ts : Trees) → are_bare operands ≡ true → faults_in version false earlier operands ts ≡ [] → HaveNames ts → HaveSpelling (terms_in ts)
    bare_trees earlier operands Empty b h n = tt
    bare_trees earlier operands (Then t ts) b h n =
        let p = operand_parts version earlier operands t ts h in
        (bare_tree (next_expected operands) t (next_bare operands b) p.faultless n.0, bare_trees (earlier ++ t ∷ []) (later_expected operands) ts (later_bare operands b) p.later n.1)

  -- only forms of annotations take literals, and they state nothing
  states_bare : (f : shapes.Form) (ts : Trees) (s : Statement) → meaning (axiom_by version (Some f) ts) ≡ s ∷ [] → has_bare f ≡ true
  states_bare forms.AnnotationAssertion ts s e = absurd (nothing_said s e)
  states_bare forms.Annotation ts s e = absurd (nothing_said s e)
  states_bare _ ts s e = refl

  -- the term of a tree that states something
  pub stated_spelled : (t : Tree) → faults version Axiom t ≡ [] → (s : Statement) → statement_of version t ≡ s ∷ [] → HasNames t → HasSpelling (bare_term t)
  stated_spelled (Form at k trees) h s e n = go (form_of version Axiom k) refl e
    where
      ts : Trees
      ts = behind_annotations trees

      are : AreOperandsOf version Axiom k ts
      are = form_operands version Axiom at k trees h

      go : (o : Option shapes.Form) → form_of version Axiom k ≡ o → meaning (axiom_by version o ts) ≡ s ∷ [] → HasSpelling (bare_term (Form at k trees))
      go None found e = absurd (nothing_said s e)
      go (Some f) found e =
          let r = row_is version axiom_forms k f found in
          let same : (row f).1 ≡ are.operands = same_Some (row f).1 are.operands (sym r.operands ∙ are.shape) in
          (n.0, bare_trees [] are.operands ts (ap are_bare (sym same) ∙ states_bare f ts s e) are.faultless (behind_names trees n.1))
  stated_spelled _ h s e n = absurd (nothing_said s e)
