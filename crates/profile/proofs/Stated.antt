-- What parts of an ontology state, and of which operands.
use Rattle.std.proofs.Common.{◌≡◌, ◌&&◌, ℕ, Bool, true, false, List, [], ◌∷◌, Option, Some, None, map, codes, refl, sym, ap, ◌∙◌, subst, if◌then◌else◌, bytes_eq, option_map}
use Rattle.std.specs.Option.{is_some}
use Rattle.std.proofs.lemmas.Option.{none-some, same_Some}
use Rattle.std.proofs.lemmas.Slice.Eq.{bytes_eq-Decides}
use Rattle.fs_parser.specs.Tree.{Tree, Trees, Form, Empty, Then}
use Rattle.shapes.specs.Faults.{behind_annotations, count_of, faults}
use Rattle.shapes.specs.Places.{faults_at}
use Rattle.shapes.specs.Shapes.{Operands, Each, Shape, axiom_forms, entity_forms, fits_count, form_of, row, shape, shape_in, since, takes}
use Rattle.shapes.specs.TreeStatements.{Stated, axiom_by, entity_by, entity_in, stated_by, statement_in}
use Rattle.shapes.specs.declared.expected.Expected.TheVariants.{Annotation, Axiom, Entity}
use Rattle.shapes.specs.declared.form.Form as shapes
use Rattle.shapes.specs.declared.form.Form.TheVariants as forms
use Rattle.shapes.specs.declared.place.Place.{Place}
use Rattle.shapes.specs.declared.place.Place.TheVariants.{Front, Axioms}
use Rattle.program.specs.declared.version.Version.{Version}
use Rattle.program.specs.declared.version.Version.TheVariants.{One, Two}
use Rattle.profile.specs.Operands.{IsFitting}
use Rattle.profile.proofs.Faultless.{AreOperandsOf, form_operands, operand_parts}
use Rattle.profile.proofs.GivenOperands.{AreGiven, given_operands}
use Rattle.profile.proofs.TreeNames.{HasNames, HaveNames, behind_names}

-- a row has the operands of its form
row_operands : (version : Version) (fs : List shapes.Form) (k : List ℕ) (f : shapes.Form) →
    option_map (λ (s : Shape). s.0) (shape_in version (map shape fs) k) ≡ Some f → option_map (λ (s : Shape). s.2) (shape_in version (map shape fs) k) ≡ Some (row f).1
row_operands version [] k f h = absurd (none-some f h)
row_operands version (g ∷ gs) k f h = go (takes version (since g) && bytes_eq (row g).0 k) h (λ i. row_operands version gs k f i)
  where
    go : (b : Bool) → option_map (λ (s : Shape). s.0) (if b then Some (shape g) else shape_in version (map shape gs) k) ≡ Some f →
        (option_map (λ (s : Shape). s.0) (shape_in version (map shape gs) k) ≡ Some f → option_map (λ (s : Shape). s.2) (shape_in version (map shape gs) k) ≡ Some (row f).1) →
        option_map (λ (s : Shape). s.2) (if b then Some (shape g) else shape_in version (map shape gs) k) ≡ Some (row f).1
    go true i more = ap (λ (x : shapes.Form). Some (row x).1) (same_Some g f i)
    go false i more = more i

-- what is stated is of operands that are given, whose names can be spelled where this holds
abbrev pub IsGiven : Version → Type 0 → Option Stated → Type 0
IsGiven version N None = Unit {0}
IsGiven version N (Some stated) = AreGiven version (row stated.0).1 stated.1 × (N → HaveNames stated.1)

given_where : (version : Version) (M N : Type 0) (says : Option Stated) → (N → M) → IsGiven version M says → IsGiven version N says
given_where version M N None f g = tt
given_where version M N (Some stated) f g = (g.0, λ n. g.1 (f n))

-- an annotation is no axiom
annotation_given : (version : Version) (N : Type 0) (ts : Trees) → IsGiven version N (axiom_by version (form_of version Axiom (codes "Annotation")) ts)
annotation_given One N ts = tt
annotation_given Two N ts = tt

module _ (version : Version) where
  by_row : (N : Type 0) (f : shapes.Form) (ts : Trees) → (N → HaveNames ts) → AreGiven version (row f).1 ts → IsGiven version N (stated_by f ts)
  by_row N f ts names g = go (is_some (row f).2 && fits_count (row f).1 (count_of ts))
    where
      go : (b : Bool) → IsGiven version N (if b then Some (f, ts) else None)
      go true = (g, names)
      go false = tt

  -- the operands that a keyword takes are those of its form
  given : (operands : Operands) (ts : Trees) (more : Operands) → Some more ≡ Some operands → AreGiven version more ts → AreGiven version operands ts
  given operands ts more same g = subst (λ (o : Operands). AreGiven version o ts) (same_Some more operands same) g

  entity_given : (t : Tree) → faults version Entity t ≡ [] → IsGiven version (HasNames t) (entity_in version t)
  entity_given (Form at k ts) h = go (form_of version Entity k) refl
    where
      are : AreOperandsOf version Entity k ts
      are = form_operands version Entity at k ts h

      go : (o : Option shapes.Form) → form_of version Entity k ≡ o → IsGiven version (HasNames (Form at k ts)) (entity_by o ts)
      go None found = tt
      go (Some f) found =
          by_row (HasNames (Form at k ts)) f ts (λ n. n.1)
          (given (row f).1 ts are.operands (sym are.shape ∙ row_operands version entity_forms k f found) (record { count = are.count; faultless = are.faultless }))
  entity_given _ h = tt

  -- a declaration's operand is an entity
  axiom_given : (N : Type 0) (f : shapes.Form) (ts : Trees) → (N → HaveNames ts) → AreGiven version (row f).1 ts → IsGiven version N (axiom_by version (Some f) ts)
  axiom_given N forms.Declaration Empty names g = tt
  axiom_given N forms.Declaration (Then t Empty) names g =
      given_where version (HasNames t) N (entity_in version t) (λ n. (names n).0) (entity_given t (operand_parts version [] (Each (Entity ∷ [])) t Empty g.faultless).faultless)
  axiom_given N forms.Declaration (Then t (Then u ts)) names g = tt
  axiom_given N f ts names g = by_row N f ts names g

  form_given : (at : ℕ) (k : List ℕ) (trees : Trees) → faults version Axiom (Form at k trees) ≡ [] → IsGiven version (HasNames (Form at k trees)) (statement_in version (Form at k trees))
  form_given at k trees h = go (form_of version Axiom k) refl
    where
      are : AreOperandsOf version Axiom k (behind_annotations trees)
      are = form_operands version Axiom at k trees h

      go : (o : Option shapes.Form) → form_of version Axiom k ≡ o → IsGiven version (HasNames (Form at k trees)) (axiom_by version o (behind_annotations trees))
      go None found = tt
      go (Some f) found =
          axiom_given (HasNames (Form at k trees)) f (behind_annotations trees) (λ n. behind_names trees n.1)
          (given (row f).1 (behind_annotations trees) are.operands (sym are.shape ∙ row_operands version axiom_forms k f found) (record { count = are.count; faultless = are.faultless }))

  -- what a tree without faults at its place states; an annotation in front states nothing
  pub part_given : (place : Place) (t : Tree) → faults_at version None place t ≡ [] → IsGiven version (HasNames t) (statement_in version t)
  part_given Axioms (Form at k trees) h = form_given at k trees h
  part_given (Front count) (Form at k trees) h = go (bytes_eq k (codes "Annotation")) refl h
    where
      go : (b : Bool) → bytes_eq k (codes "Annotation") ≡ b → (if b then faults version Annotation (Form at k trees) else faults version Axiom (Form at k trees)) ≡ [] →
          IsGiven version (HasNames (Form at k trees)) (statement_in version (Form at k trees))
      go true e i =
          subst (λ (w : List ℕ). IsGiven version (HasNames (Form at k trees)) (axiom_by version (form_of version Axiom w) (behind_annotations trees))) (sym ((bytes_eq-Decides k (codes "Annotation")).0 e))
          (annotation_given version (HasNames (Form at k trees)) (behind_annotations trees))
      go false e i = form_given at k trees i
  part_given _ _ h = tt

  fitting : (N : Type 0) (says : Option Stated) → IsGiven version N says → IsFitting says
  fitting N None g = tt
  fitting N (Some stated) g = given_operands version (row stated.0).1 stated.1 g.0

  -- it has the operands that it takes
  pub part_fits : (place : Place) (t : Tree) → faults_at version None place t ≡ [] → IsFitting (statement_in version t)
  part_fits place t h = fitting (HasNames t) (statement_in version t) (part_given place t h)
