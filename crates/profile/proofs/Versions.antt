-- What the first version takes the second takes, and it states the same.
use Rattle.std.proofs.Common.{◌≡◌, ℕ, Bool, true, false, ◌&&◌, ◌||◌, not, List, [], ◌∷◌, ◌++◌, Option, Some, None, codes, refl, sym, ap, ap₂, ◌∙◌, subst, if◌then◌else◌, bytes_eq, option_map}
use Rattle.std.specs.Cmp.{first_so, second_so}
use Rattle.std.specs.Option.{is_some}
use Rattle.std.proofs.lemmas.Bool.{false≢true, true≢false}
use Rattle.std.proofs.lemmas.Option.{none-some}
use Rattle.std.proofs.lemmas.Slice.Eq.{bytes_eq-Decides}
use Rattle.axioms.specs.Numbering.{Statement, IsOntologyOf}
use Rattle.fs_parser.specs.Tree.{Tree, Trees, Form, Empty, Then, place_of}
use Rattle.program.specs.declared.version.Version.{Version}
use Rattle.program.specs.declared.version.Version.TheVariants.{One, Two}
use Rattle.shapes.proofs.Places.{none_from, one_by_one}
use Rattle.shapes.specs.Faults.{Fault, RepeatedOperand, WrongShape, behind_annotations, count_of, faults, faults_in, form_faults, front_name_faults, is_annotation, is_name, is_repeated, operands_or_none, own_trees}
use Rattle.shapes.specs.Places.{faults_at, faults_from, place_behind}
use Rattle.shapes.specs.Shapes.{Operands, Shape, fits_count, form_of, later_expected, may_be_annotated, next_expected, operands_of, shape_in, shape_of, shapes_of, takes}
use Rattle.shapes.specs.TreeStatements.{axiom_by, entity_in, meaning, statement_in}
use Rattle.shapes.specs.declared.expected.Expected.{Expected}
use Rattle.shapes.specs.declared.expected.Expected.TheVariants.{Annotation, Axiom}
use Rattle.shapes.specs.declared.form.Form as shapes
use Rattle.shapes.specs.declared.form.Form.TheVariants as forms
use Rattle.shapes.specs.declared.place.Place.{Place}
use Rattle.shapes.specs.declared.place.Place.TheVariants.{Front, Axioms}
use Rattle.profile.specs.DocumentTheorems.{FirstVersionIsInSecond}
use Rattle.profile.specs.Statements.{statements}
use Rattle.profile.proofs.Faultless.{form_operands, none_first, none_second}

-- ---- rows

-- no row that the second version alone has stands in front of one of the first with the same keyword
abbrev hides_none : List Shape → Bool
hides_none [] = true
hides_none (s ∷ ss) = (takes One s.3 || not (is_some (shape_in One ss s.1))) && hides_none ss

none_hidden : (expected : Expected) → hides_none (shapes_of expected) ≡ true
none_hidden Axiom = refl
none_hidden _ = refl

second_takes : (since : Version) → takes Two since ≡ true
second_takes One = refl
second_takes Two = refl

row_kept : (ss : List Shape) (k : List ℕ) (s : Shape) → hides_none ss ≡ true → shape_in One ss k ≡ Some s → shape_in Two ss k ≡ Some s
row_kept [] k s h found = absurd (none-some s found)
row_kept (r ∷ rs) k s h found = go (takes One r.3) (takes Two r.3) (bytes_eq r.1 k) (second_takes r.3) refl h found (λ i there. row_kept rs k s i there)
  where
    go : (b d c : Bool) → d ≡ true → bytes_eq r.1 k ≡ c → ((b || not (is_some (shape_in One rs r.1))) && hides_none rs) ≡ true → (if b && c then Some r else shape_in One rs k) ≡ Some s →
        (hides_none rs ≡ true → shape_in One rs k ≡ Some s → shape_in Two rs k ≡ Some s) → (if d && c then Some r else shape_in Two rs k) ≡ Some s
    go b false c taken e i there more = absurd (false≢true taken)
    go true true true taken e i there more = there
    go true true false taken e i there more = more i there
    go false true false taken e i there more = more (second_so (not (is_some (shape_in One rs r.1))) (hides_none rs) i) there
    go false true true taken e i there more =
        let alone : not (is_some (shape_in One rs r.1)) ≡ true = first_so (not (is_some (shape_in One rs r.1))) (hides_none rs) i in
        let hidden : not (is_some (shape_in One rs r.1)) ≡ false = ap (λ (w : List ℕ). not (is_some (shape_in One rs w))) ((bytes_eq-Decides r.1 k).0 e) ∙ ap (λ o. not (is_some o)) there in
        absurd (true≢false (sym alone ∙ hidden))

shape_kept : (expected : Expected) (k : List ℕ) (s : Shape) → shape_of One expected k ≡ Some s → shape_of Two expected k ≡ Some s
shape_kept expected k s = row_kept (shapes_of expected) k s (none_hidden expected)

-- what a row has it has in both
module _ {A : Type 0} (part : Shape → A) where
  part_kept : (expected : Expected) (k : List ℕ) (x : A) → option_map part (shape_of One expected k) ≡ Some x → option_map part (shape_of Two expected k) ≡ Some x
  part_kept expected k x h = go (shape_of One expected k) refl h
    where
      go : (o : Option Shape) → shape_of One expected k ≡ o → option_map part o ≡ Some x → option_map part (shape_of Two expected k) ≡ Some x
      go None e i = absurd (none-some x i)
      go (Some s) e i = ap (option_map part) (shape_kept expected k s e) ∙ i

operands_kept : (expected : Expected) (k : List ℕ) (operands : Operands) → operands_of One expected k ≡ Some operands → operands_of Two expected k ≡ Some operands
operands_kept = part_kept (λ s. s.2)

-- a keyword that takes operands has one form in both
one_form : (expected : Expected) (k : List ℕ) (operands : Operands) → operands_of One expected k ≡ Some operands → (f : shapes.Form) × (form_of One expected k ≡ Some f) × (form_of Two expected k ≡ Some f)
one_form expected k operands h = go (shape_of One expected k) refl h
  where
    go : (o : Option Shape) → shape_of One expected k ≡ o → option_map (λ (s : Shape). s.2) o ≡ Some operands → (f : shapes.Form) × (form_of One expected k ≡ Some f) × (form_of Two expected k ≡ Some f)
    go None e i = absurd (none-some operands i)
    go (Some s) e i = (s.0, ap (option_map (λ (x : Shape). x.0)) e, ap (option_map (λ (x : Shape). x.0)) (shape_kept expected k s e))

-- ---- faults

none_joined : {A : Type 0} (xs ys : List A) → xs ≡ [] → ys ≡ [] → xs ++ ys ≡ []
none_joined xs ys h k = ap₂ (λ x y. x ++ y) h k

parts_kept : (b c : Bool) (f : Fault) (ann ann' more more' here here' later later' : List Fault) → (ann ≡ [] → ann' ≡ []) → (more ≡ [] → more' ≡ []) → (here ≡ [] → here' ≡ []) → (later ≡ [] → later' ≡ []) →
    (if b then ann ++ more else ((if c then f ∷ [] else here) ++ later)) ≡ [] → (if b then ann' ++ more' else ((if c then f ∷ [] else here') ++ later')) ≡ []
parts_kept true c f ann ann' more more' here here' later later' p q r s h = none_joined ann' more' (p (none_first ann more h)) (q (none_second ann more h))
parts_kept false true f ann ann' more more' here here' later later' p q r s h = cc
parts_kept false false f ann ann' more more' here here' later later' p q r s h = none_joined here' later' (r (none_first here later h)) (s (none_second here later h))

form_kept : (expected : Expected) (at : ℕ) (k : List ℕ) (ts : Trees) →
    ((operands : Operands) → faults_in One (may_be_annotated expected) [] operands ts ≡ [] → faults_in Two (may_be_annotated expected) [] operands ts ≡ []) →
    faults One expected (Form at k ts) ≡ [] → faults Two expected (Form at k ts) ≡ []
form_kept expected at k ts inside h = go (operands_of One expected k) refl h
  where
    go : (o : Option Operands) → operands_of One expected k ≡ o → form_faults One at k o (own_trees expected ts) (faults_in One (may_be_annotated expected) [] (operands_or_none o) ts) ≡ [] →
        faults Two expected (Form at k ts) ≡ []
    go None e i = cc
    go (Some operands) e i = rw (operands_kept expected k operands e) (fit (fits_count operands (count_of (own_trees expected ts))) i)
      where
        fit : (b : Bool) → (if b then faults_in One (may_be_annotated expected) [] operands ts else WrongShape at ∷ []) ≡ [] → (if b then faults_in Two (may_be_annotated expected) [] operands ts else WrongShape at ∷ []) ≡ []
        fit true j = inside operands j
        fit false j = cc

mutual
  tree_kept : (expected : Expected) (t : Tree) → faults One expected t ≡ [] → faults Two expected t ≡ []
  tree_kept expected (Form at k ts) h = form_kept expected at k ts (λ operands. trees_kept (may_be_annotated expected) [] operands ts) h
  tree_kept expected _ h = h

  trees_kept : (annotated : Bool) (earlier : List Tree) (operands : Operands) (ts : Trees) → faults_in One annotated earlier operands ts ≡ [] → faults_in Two annotated earlier operands ts ≡ []
  trees_kept annotated earlier operands Empty h = refl
  trees_kept annotated earlier operands (Then t ts) h =
      parts_kept (annotated && is_annotation t) (is_repeated operands t earlier) (RepeatedOperand (place_of t)) _ _ _ _ _ _ _ _
      (tree_kept Annotation t) (trees_kept annotated earlier operands ts) (tree_kept (next_expected operands) t) (trees_kept false (earlier ++ t ∷ []) (later_expected operands) ts) h

part_kept_at : (place : Place) (t : Tree) → faults_at One None place t ≡ [] → faults_at Two None place t ≡ []
part_kept_at Axioms t h = tree_kept Axiom t h
part_kept_at (Front count) t h = go (is_name t) (is_annotation t) (front_name_faults count t) h
  where
    go : (b c : Bool) (name : List Fault) → (if b then name else (if c then faults One Annotation t else faults One Axiom t)) ≡ [] → (if b then name else (if c then faults Two Annotation t else faults Two Axiom t)) ≡ []
    go true c name i = i
    go false true name i = tree_kept Annotation t i
    go false false name i = tree_kept Axiom t i

-- ---- statements

entity_same : (t : Tree) → entity_in One t ≡ entity_in Two t
entity_same (Form at k ts) = refl
entity_same _ = refl

axiom_same : (f : shapes.Form) (ts : Trees) → axiom_by One (Some f) ts ≡ axiom_by Two (Some f) ts
axiom_same forms.Declaration Empty = refl
axiom_same forms.Declaration (Then t Empty) = entity_same t
axiom_same forms.Declaration (Then t (Then u ts)) = refl
axiom_same _ ts = refl

form_says : (at : ℕ) (k : List ℕ) (ts : Trees) → faults One Axiom (Form at k ts) ≡ [] → statement_in One (Form at k ts) ≡ statement_in Two (Form at k ts)
form_says at k ts h =
    let are = form_operands One Axiom at k ts h in
    let (f, first, second) = one_form Axiom k are.operands are.shape in
    let own = behind_annotations ts in
    ap (λ o. axiom_by One o own) first ∙ axiom_same f own ∙ ap (λ o. axiom_by Two o own) (sym second)

-- a tree without faults at its place states the same; an annotation in front states nothing
part_says : (place : Place) (t : Tree) → faults_at One None place t ≡ [] → statement_in One t ≡ statement_in Two t
part_says Axioms (Form at k ts) h = form_says at k ts h
part_says (Front count) (Form at k ts) h = go (bytes_eq k (codes "Annotation")) refl h
  where
    go : (b : Bool) → bytes_eq k (codes "Annotation") ≡ b → (if b then faults One Annotation (Form at k ts) else faults One Axiom (Form at k ts)) ≡ [] → statement_in One (Form at k ts) ≡ statement_in Two (Form at k ts)
    go true e i = subst (λ (w : List ℕ). axiom_by One (form_of One Axiom w) (behind_annotations ts) ≡ axiom_by Two (form_of Two Axiom w) (behind_annotations ts)) (sym ((bytes_eq-Decides k (codes "Annotation")).0 e)) refl
    go false e i = form_says at k ts i
part_says _ _ h = refl

-- ---- documents

all_kept : (place : Place) (ts : Trees) → faults_from One None place ts ≡ [] → (faults_from Two None place ts ≡ []) × (statements One ts ≡ statements Two ts)
all_kept place Empty h = (none_from Two None place, refl)
all_kept place (Then t ts) h =
    let here = faults_at One None place t in
    let behind = place_behind place t in
    let parts : here ++ faults_from One None behind ts ≡ [] = sym (one_by_one One None place t ts) ∙ h in
    let faultless = none_first here (faults_from One None behind ts) parts in
    let later = all_kept behind ts (none_second here (faults_from One None behind ts) parts) in (
      one_by_one Two None place t ts ∙ none_joined (faults_at Two None place t) (faults_from Two None behind ts) (part_kept_at place t faultless) later.0,
      ap₂ (λ (xs ys : List Statement). xs ++ ys) (ap meaning (part_says place t faultless)) later.1,
    )

pub first_in_second : FirstVersionIsInSecond
first_in_second bytes o r =
    let both = all_kept (Front 2) r.document.trees r.read.faultless in
    record {
      document = r.document;
      text = r.text;
      read = record { faultless = both.0; ontology = subst (λ (ss : List Statement). IsOntologyOf ss o) both.1 r.read.ontology; few_names = r.read.few_names };
      well_formed = r.well_formed;
    }
