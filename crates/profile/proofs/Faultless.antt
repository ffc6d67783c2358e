-- Trees without faults, taken apart: a form has as many operands as its shape says, and each operand has no fault.
use Rattle.std.proofs.Common.{◌≡◌, ℕ, Bool, true, false, List, [], ◌∷◌, ◌++◌, Option, Some, None, refl, sym, ap, ◌∙◌}
use Rattle.fs_parser.specs.Tree.{Tree, Trees, Form, Then, place_of}
use Rattle.axioms.specs.Ontology.{Names}
use Rattle.shapes.specs.Faults.{Fault, WrongShape, RepeatedOperand, misplaced, count_of, faults, faults_among, faults_in, faults_inside, front_faults, is_repeated, own_trees}
use Rattle.program.specs.declared.version.Version.{Version}
use Rattle.shapes.specs.Shapes.{Operands, fits_count, later_expected, may_be_annotated, next_expected, operands_of}
use Rattle.shapes.specs.declared.expected.Expected.{Expected}
use Rattle.shapes.proofs.Lists.{fitting_form, unfitting_form}

-- ---- of two lists that are empty together, each is empty

pub none_first : {A : Type 0} (xs ys : List A) → xs ++ ys ≡ [] → xs ≡ []
none_first [] ys h = refl
none_first (x ∷ xs) ys h = absurd (let e : x ∷ (xs ++ ys) ≡ [] = h in cc)

pub none_second : {A : Type 0} (xs ys : List A) → xs ++ ys ≡ [] → ys ≡ []
none_second [] ys h = h
none_second (x ∷ xs) ys h = absurd (let e : x ∷ (xs ++ ys) ≡ [] = h in cc)

one_is_not_none : (fs : List Fault) (f : Fault) → fs ≡ f ∷ [] → fs ≡ [] → ⊥
one_is_not_none fs f e h = cc

-- ---- forms

-- these may be the operands of a form with this keyword, where such a tree is expected: it has a shape there, they are as
-- many as it says, and none has a fault
pub record AreOperandsOf (version : Version) (expected : Expected) (keyword : List ℕ) (trees : Trees) : Type 0 where
  pub operands : Operands
  pub shape : operands_of version expected keyword ≡ Some operands
  pub count : fits_count operands (count_of trees) ≡ true
  pub faultless : faults_in version false [] operands trees ≡ []

-- behind the annotations in front stand the operands of the keyword; names may be any or only these
form_parts : (version : Version) (names : Option Names) (expected : Expected) (at : ℕ) (keyword : List ℕ) (trees : Trees) (operands : Operands) → operands_of version expected keyword ≡ Some operands →
    faults_among version names expected (Form at keyword trees) ≡ [] →
    (fits_count operands (count_of (own_trees expected trees)) ≡ true) × (faults_inside version names false [] operands (own_trees expected trees) ≡ [])
form_parts version names expected at keyword trees operands shape h = go (fits_count operands (count_of (own_trees expected trees))) refl
  where
    go : (b : Bool) → fits_count operands (count_of (own_trees expected trees)) ≡ b →
        (fits_count operands (count_of (own_trees expected trees)) ≡ true) × (faults_inside version names false [] operands (own_trees expected trees) ≡ [])
    go false f = absurd (one_is_not_none (faults_among version names expected (Form at keyword trees)) (WrongShape at) (unfitting_form version names expected at keyword trees operands shape f) h)
    go true f =
        let is = fitting_form version names expected at keyword trees operands shape f in
        (f, none_second (front_faults version names expected trees) (faults_inside version names false [] operands (own_trees expected trees)) (sym is ∙ h))

pub form_operands : (version : Version) (expected : Expected) (at : ℕ) (keyword : List ℕ) (trees : Trees) → faults version expected (Form at keyword trees) ≡ [] → AreOperandsOf version expected keyword (own_trees expected trees)
form_operands version expected at keyword trees h = go (operands_of version expected keyword) refl
  where
    go : (o : Option Operands) → operands_of version expected keyword ≡ o → AreOperandsOf version expected keyword (own_trees expected trees)
    go None e = absurd (one_is_not_none (faults version expected (Form at keyword trees)) (misplaced version at keyword) (rw e refl) h)
    go (Some operands) e =
        let parts = form_parts version None expected at keyword trees operands e h in
        record { operands = operands; shape = e; count = parts.0; faultless = parts.1 }

-- ---- operands

-- the first of the operands equals none before it, and has no fault, and so on; names may be any or only these
pub record AreFaultless (version : Version) (names : Option Names) (earlier : List Tree) (operands : Operands) (first : Tree) (rest : Trees) : Type 0 where
  pub fresh : is_repeated operands first earlier ≡ false
  pub faultless : faults_among version names (next_expected operands) first ≡ []
  pub later : faults_inside version names false (earlier ++ first ∷ []) (later_expected operands) rest ≡ []

pub operand_parts_among : (version : Version) (names : Option Names) (earlier : List Tree) (operands : Operands) (first : Tree) (rest : Trees) → faults_inside version names false earlier operands (Then first rest) ≡ [] →
    AreFaultless version names earlier operands first rest
operand_parts_among version names earlier operands first rest h = go (is_repeated operands first earlier) refl
  where
    go : (b : Bool) → is_repeated operands first earlier ≡ b → AreFaultless version names earlier operands first rest
    go true e =
        let after = faults_inside version names false (earlier ++ first ∷ []) (later_expected operands) rest in
        let is : faults_inside version names false earlier operands (Then first rest) ≡ (RepeatedOperand (place_of first) ∷ []) ++ after = rw e refl in
        cc
    go false e =
        let after = faults_inside version names false (earlier ++ first ∷ []) (later_expected operands) rest in
        let is : faults_inside version names false earlier operands (Then first rest) ≡ faults_among version names (next_expected operands) first ++ after = rw e refl in
        record {
          fresh = e;
          faultless = none_first (faults_among version names (next_expected operands) first) after (sym is ∙ h);
          later = none_second (faults_among version names (next_expected operands) first) after (sym is ∙ h);
        }

pub operand_parts : (version : Version) (earlier : List Tree) (operands : Operands) (first : Tree) (rest : Trees) → faults_in version false earlier operands (Then first rest) ≡ [] →
    AreFaultless version None earlier operands first rest
operand_parts version = operand_parts_among version None

-- the operands of a form that no annotations may stand in front of, where it has no fault
pub inside_of : (version : Version) (names : Option Names) (expected : Expected) (at : ℕ) (keyword : List ℕ) (trees : Trees) (operands : Operands) → operands_of version expected keyword ≡ Some operands →
    may_be_annotated expected ≡ false → faults_among version names expected (Form at keyword trees) ≡ [] → faults_inside version names false [] operands trees ≡ []
inside_of version names expected at keyword trees operands shape plain h =
    let own : own_trees expected trees ≡ trees = rw plain refl in
    ap (faults_inside version names false [] operands) (sym own) ∙ (form_parts version names expected at keyword trees operands shape h).1
