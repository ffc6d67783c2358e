-- What is read in two versions is the same in both.
use Rattle.std.proofs.Common.{◌≡◌, ℕ, Bool, true, false, List, [], ◌++◌, Option, Some, None, codes, refl, sym, ap, ap₂, ◌∙◌, subst, bytes_eq}
use Rattle.std.proofs.lemmas.Slice.Eq.{bytes_eq-Decides}
use Rattle.axioms.specs.Numbering.{Statement}
use Rattle.fs_parser.specs.Tree.{Tree, Trees, Form, Empty, Then}
use Rattle.profile.proofs.Faultless.{none_first, none_second}
use Rattle.profile.specs.Statements.{statements}
use Rattle.program.specs.declared.version.Version.{Version}
use Rattle.program.specs.declared.version.Version.TheVariants.{One, Two}
use Rattle.shapes.proofs.Places.{one_by_one}
use Rattle.shapes.specs.Faults.{axiom_faults, behind_annotations, document_faults}
use Rattle.shapes.specs.Places.{faults_at, faults_from, place_behind}
use Rattle.shapes.specs.Shapes.{form_of}
use Rattle.shapes.specs.TreeStatements.{axiom_by, entity_in, meaning, statement_in}
use Rattle.shapes.specs.declared.expected.Expected.TheVariants.{Axiom}
use Rattle.shapes.specs.declared.form.Form as shapes
use Rattle.shapes.specs.declared.form.Form.TheVariants as forms
use Rattle.shapes.specs.declared.place.Place.{Place}
use Rattle.shapes.specs.declared.place.Place.TheVariants.{Front, Axioms}

-- ---- statements

-- a keyword that the second version alone has is a fault in the first
pair_is_new : (place : Place) (at : ℕ) (ts : Trees) → faults_at One None place (Form at (codes "NegativeObjectPropertyAssertion") ts) ≡ [] → ⊥
pair_is_new Axioms at ts h = cc
pair_is_new (Front count) at ts h = cc

same_is_new : (place : Place) (at : ℕ) (ts : Trees) → faults_at One None place (Form at (codes "SameIndividual") ts) ≡ [] → ⊥
same_is_new Axioms at ts h = cc
same_is_new (Front count) at ts h = cc

different_is_new : (place : Place) (at : ℕ) (ts : Trees) → faults_at One None place (Form at (codes "DifferentIndividuals") ts) ≡ [] → ⊥
different_is_new Axioms at ts h = cc
different_is_new (Front count) at ts h = cc

-- any other has one form in both
one_form : (k : List ℕ) → bytes_eq (codes "SameIndividual") k ≡ false → bytes_eq (codes "DifferentIndividuals") k ≡ false → bytes_eq (codes "NegativeObjectPropertyAssertion") k ≡ false → form_of One Axiom k ≡ form_of Two Axiom k
one_form k a b c = rw a (rw b (rw c refl))

entity_same : (t : Tree) → entity_in One t ≡ entity_in Two t
entity_same (Form at k ts) = refl
entity_same _ = refl

axiom_same : (form : Option shapes.Form) (ts : Trees) → axiom_by One form ts ≡ axiom_by Two form ts
axiom_same None ts = refl
axiom_same (Some forms.Declaration) Empty = refl
axiom_same (Some forms.Declaration) (Then t Empty) = entity_same t
axiom_same (Some forms.Declaration) (Then t (Then u ts)) = refl
axiom_same (Some _) ts = refl

-- a tree without faults in the first version states the same in the second
tree_states : (place : Place) (t : Tree) → faults_at One None place t ≡ [] → statement_in One t ≡ statement_in Two t
tree_states place (Form at k ts) h = go _ _ _ refl refl refl
  where
    keyword : (w : List ℕ) → bytes_eq w k ≡ true → faults_at One None place (Form at w ts) ≡ []
    keyword w e = subst (λ (v : List ℕ). faults_at One None place (Form at v ts) ≡ []) (sym ((bytes_eq-Decides w k).0 e)) h

    go : (a b c : Bool) → bytes_eq (codes "SameIndividual") k ≡ a → bytes_eq (codes "DifferentIndividuals") k ≡ b → bytes_eq (codes "NegativeObjectPropertyAssertion") k ≡ c → statement_in One (Form at k ts) ≡ statement_in Two (Form at k ts)
    go true b c e f g = absurd (same_is_new place at ts (keyword _ e))
    go false true c e f g = absurd (different_is_new place at ts (keyword _ f))
    go false false true e f g = absurd (pair_is_new place at ts (keyword _ g))
    go false false false e f g =
        let own = behind_annotations ts in
        ap (λ form. axiom_by One form own) (one_form k e f g) ∙ axiom_same (form_of Two Axiom k) own
tree_states place _ h = refl

trees_state : (place : Place) (ts : Trees) → faults_from One None place ts ≡ [] → statements One ts ≡ statements Two ts
trees_state place Empty h = refl
trees_state place (Then t ts) h =
    let here = faults_at One None place t in
    let behind = place_behind place t in
    let later = faults_from One None behind ts in
    let parts : here ++ later ≡ [] = sym (one_by_one One None place t ts) ∙ h in
    ap₂ (λ (xs ys : List Statement). xs ++ ys) (ap meaning (tree_states place t (none_first here later parts))) (trees_state behind ts (none_second here later parts))

-- trees without faults in two versions state the same in both
states : (place : Place) (version other : Version) (trees : Trees) → faults_from version None place trees ≡ [] → faults_from other None place trees ≡ [] → statements version trees ≡ statements other trees
states place One One trees here there = refl
states place One Two trees here there = trees_state place trees here
states place Two One trees here there = sym (trees_state place trees there)
states place Two Two trees here there = refl

-- so do documents, and texts that are added
pub document_states : (version other : Version) (trees : Trees) → document_faults version trees ≡ [] → document_faults other trees ≡ [] → statements version trees ≡ statements other trees
document_states = states (Front 2)

pub texts_state : (version other : Version) (trees : Trees) → axiom_faults version trees ≡ [] → axiom_faults other trees ≡ [] → statements version trees ≡ statements other trees
texts_state = states Axioms
