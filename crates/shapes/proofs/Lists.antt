-- Lists of trees, one tree after the other.
use Rattle.std.proofs.Common.{◌≡◌, ℕ, suc, ◌+◌, ◌-◌, ◌<◌, ◌≤◌, Bool, true, false, ◌&&◌, ◌||◌, not, List, [], ◌∷◌, ◌++◌, map, take, drop, length, get_or, refl, sym, ap, ap₂, ◌∙◌, arith, add-one, Option, Some, if◌then◌else◌}
use Rattle.std.proofs.lemmas.List.{drop_more, get_or-drop, length-drop, map-append, take_more, append_assoc}
use Rattle.std.proofs.Math.Bool.{and-false}
use Rattle.std.proofs.lemmas.Bool.{not-true, not-false}
use Rattle.std.proofs.lemmas.List.Folds.{list_any-append}
use Rattle.std.specs.List.{list_any}
use Rattle.shapes.proofs.Table.{or_none}
use Rattle.fs_parser.specs.Tree.{Tree, Trees, Empty, Then, Form, place_of}
use Rattle.fs_parser.specs.View.{tree_of, trees_of}
use Rattle.fs_parser.specs.declared.tree.Tree as code
use Rattle.axioms.specs.Ontology.{Names}
use Rattle.shapes.specs.Faults.{Fault, RepeatedOperand, WrongShape, behind_annotations, annotation_faults, count_of, faults_among, faults_inside, front_faults, is_annotation, is_repeated, own_trees}
use Rattle.program.specs.declared.version.Version.{Version}
use Rattle.shapes.specs.TreeEquality.{same_tree, same_trees}
use Rattle.shapes.specs.Shapes.{Operands, Many, fits_count, later_expected, may_be_annotated, next_expected, operands_of}
use Rattle.shapes.specs.declared.expected.Expected.{Expected}
use Rattle.shapes.specs.declared.expected.Expected.TheVariants.{Annotation}

-- ---- what is left of a list

-- the trees from the place on
pub left_at : (ts : List code.Tree) (i : ℕ) (t : code.Tree) → i < length ts → t ≡ get_or ts i t → trees_of (drop i ts) ≡ Then (tree_of t) (trees_of (drop (i + 1) ts))
left_at ts i t h e = ap trees_of (drop_more ts i t h ∙ ap (λ (s : code.Tree). s ∷ drop (i + 1) ts) (sym e))

-- ---- one more piece of a list of faults

-- what was found, and what is left to be found, are all
pub one_more : (all found new piece rest left : List Fault) → found ++ left ≡ all → left ≡ piece ++ rest → new ≡ found ++ piece → new ++ rest ≡ all
one_more all found new piece rest left h e f = ap (λ t. t ++ rest) f ∙ append_assoc found piece rest ∙ ap (λ t. found ++ t) (sym e) ∙ h

-- ---- operands

pub lengths_differ : (as' bs : List code.Tree) → (length as' ≡ length bs → ⊥) → same_trees (trees_of as') (trees_of bs) ≡ false
lengths_differ [] [] h = absurd (h refl)
lengths_differ [] (b ∷ bs) h = refl
lengths_differ (a ∷ as') [] h = refl
lengths_differ (a ∷ as') (b ∷ bs) h =
    ap (λ t. same_tree (tree_of a) (tree_of b) && t) (lengths_differ as' bs (λ e. h (ap suc e))) ∙ and-false (same_tree (tree_of a) (tree_of b))

-- the operands before the place, where the first stands behind n trees
abbrev pub earlier : List code.Tree → ℕ → ℕ → List Tree
earlier ts n i = map tree_of (take (i - n) (drop n ts))

between : (ts : List code.Tree) (n i : ℕ) (t : code.Tree) → n ≤ i → i < length ts → t ≡ get_or ts i t → take (i + 1 - n) (drop n ts) ≡ take (i - n) (drop n ts) ++ t ∷ []
between ts n i t h k e =
    ap (λ (m : ℕ). take m (drop n ts)) (let same : i + 1 - n ≡ (i - n) + 1 = omega arith in same)
    ∙ take_more (drop n ts) (i - n) t (let long = length-drop n ts in omega (arith, long))
    ∙ ap (λ (s : code.Tree). take (i - n) (drop n ts) ++ s ∷ []) (get_or-drop n ts (i - n) t ∙ ap (λ (m : ℕ). get_or ts m t) (let same : n + (i - n) ≡ i = omega arith in same) ∙ sym e)

pub earlier_next : (ts : List code.Tree) (n i : ℕ) (t : code.Tree) → n ≤ i → i < length ts → t ≡ get_or ts i t → earlier ts n (i + 1) ≡ earlier ts n i ++ tree_of t ∷ []
earlier_next ts n i t h k e = ap (map tree_of) (between ts n i t h k e) ∙ map-append tree_of (take (i - n) (drop n ts)) (t ∷ [])

-- what one operand adds
abbrev pub operand_faults : Version → Option Names → List Tree → Operands → Tree → List Fault
operand_faults version names before operands next = if is_repeated operands next before then RepeatedOperand (place_of next) ∷ [] else faults_among version names (next_expected operands) next

pub operand_step :
    (version : Version) (names : Option Names) (all found new : List Fault) (operands later : Operands) (ts : List code.Tree) (n i : ℕ) (t : code.Tree) →
    n ≤ i → i < length ts → t ≡ get_or ts i t → later ≡ later_expected operands →
    found ++ faults_inside version names false (earlier ts n i) operands (trees_of (drop i ts)) ≡ all →
    new ≡ found ++ operand_faults version names (earlier ts n i) operands (tree_of t) →
    new ++ faults_inside version names false (earlier ts n (i + 1)) later (trees_of (drop (i + 1) ts)) ≡ all
operand_step version names all found new operands later ts n i t h k e l inv more =
    let rest = trees_of (drop (i + 1) ts) in
    ap₂ (λ (x : List Tree) (y : Operands). new ++ faults_inside version names false x y rest) (earlier_next ts n i t h k e) l
    ∙ one_more all found new (operand_faults version names (earlier ts n i) operands (tree_of t)) (faults_inside version names false (earlier ts n i ++ tree_of t ∷ []) (later_expected operands) rest)
    (faults_inside version names false (earlier ts n i) operands (trees_of (drop i ts))) inv (ap (faults_inside version names false (earlier ts n i) operands) (left_at ts i t k e)) more

-- ---- forms

pub count_is : (ts : List code.Tree) → count_of (trees_of ts) ≡ length ts
count_is [] = refl
count_is (t ∷ ts) = ap (λ (n : ℕ). n + 1) (count_is ts) ∙ add-one (length ts)

-- the faults of a form's trees are those of the annotations in front, and then those of its operands
in_front : (version : Version) (names : Option Names) (operands : Operands) (ts : Trees) → faults_inside version names true [] operands ts ≡ annotation_faults version names ts ++ faults_inside version names false [] operands (behind_annotations ts)
in_front version names operands Empty = refl
in_front version names operands (Then t ts) = go (is_annotation t) refl (in_front version names operands ts)
  where
    go : (b : Bool) → is_annotation t ≡ b → faults_inside version names true [] operands ts ≡ annotation_faults version names ts ++ faults_inside version names false [] operands (behind_annotations ts) →
        faults_inside version names true [] operands (Then t ts) ≡ annotation_faults version names (Then t ts) ++ faults_inside version names false [] operands (behind_annotations (Then t ts))
    go true e more = rw e (ap (λ fs. faults_among version names Annotation t ++ fs) more ∙ sym (append_assoc (faults_among version names Annotation t) (annotation_faults version names ts) (faults_inside version names false [] operands (behind_annotations ts))))
    go false e more = rw e refl

inside : (version : Version) (names : Option Names) (expected : Expected) (operands : Operands) (ts : Trees) →
    faults_inside version names (may_be_annotated expected) [] operands ts ≡ front_faults version names expected ts ++ faults_inside version names false [] operands (own_trees expected ts)
inside version names expected operands ts = go (may_be_annotated expected) refl
  where
    go : (b : Bool) → may_be_annotated expected ≡ b → faults_inside version names (may_be_annotated expected) [] operands ts ≡ front_faults version names expected ts ++ faults_inside version names false [] operands (own_trees expected ts)
    go true e = rw e (in_front version names operands ts)
    go false e = rw e refl

pub fitting_form :
    (version : Version) (names : Option Names) (expected : Expected) (at : ℕ) (keyword : List ℕ) (ts : Trees) (operands : Operands) →
    operands_of version expected keyword ≡ Some operands → fits_count operands (count_of (own_trees expected ts)) ≡ true →
    faults_among version names expected (Form at keyword ts) ≡ front_faults version names expected ts ++ faults_inside version names false [] operands (own_trees expected ts)
fitting_form version names expected at keyword ts operands o f = rw (o, f) (inside version names expected operands ts)

pub unfitting_form :
    (version : Version) (names : Option Names) (expected : Expected) (at : ℕ) (keyword : List ℕ) (ts : Trees) (operands : Operands) →
    operands_of version expected keyword ≡ Some operands → fits_count operands (count_of (own_trees expected ts)) ≡ false →
    faults_among version names expected (Form at keyword ts) ≡ WrongShape at ∷ []
unfitting_form version names expected at keyword ts operands o f = rw (o, f) refl

pub fits_behind : (expected : Expected) (operands : Operands) (ts : List code.Tree) (n : ℕ) (b : Bool) → trees_of (drop n ts) ≡ own_trees expected (trees_of ts) → b ≡ fits_count operands (length ts - n) → fits_count operands (count_of (own_trees expected (trees_of ts))) ≡ b
fits_behind expected operands ts n b e f = ap (fits_count operands) (ap count_of (sym e) ∙ count_is (drop n ts) ∙ length-drop n ts) ∙ sym f

pub form_found :
    (version : Version) (names : Option Names) (found front mid new all : List Fault) (operands : Operands) (left own : Trees) →
    left ≡ own → all ≡ front ++ faults_inside version names false [] operands own → mid ≡ found ++ front → new ≡ mid ++ faults_inside version names false [] operands left → new ≡ found ++ all
form_found version names found front mid new all operands left own e f g h =
    h ∙ ap₂ (λ (m : List Fault) (l : Trees). m ++ faults_inside version names false [] operands l) g e ∙ append_assoc found front (faults_inside version names false [] operands own) ∙ ap (λ (t : List Fault). found ++ t) (sym f)

pub repeated : (version : Version) (names : Option Names) (before : List Tree) (operands : Operands) (next : Tree) (at : ℕ) → true ≡ is_repeated operands next before → at ≡ place_of next → RepeatedOperand at ∷ [] ≡ operand_faults version names before operands next
repeated version names before operands next at h e = rw (sym h) (ap (λ (n : ℕ). RepeatedOperand n ∷ []) e)

pub not_repeated : (version : Version) (names : Option Names) (before : List Tree) (operands : Operands) (next : Tree) (expected : Expected) → false ≡ is_repeated operands next before → expected ≡ next_expected operands → faults_among version names expected next ≡ operand_faults version names before operands next
not_repeated version names before operands next expected h e = rw (sym h) (ap (λ (x : Expected). faults_among version names x next) e)

-- ---- operands of one kind, no two of which may be equal

-- the table finds what is among the operands so far
abbrev pub FindsAmong : List Tree → List Tree → Type 0
FindsAmong table before = (t : Tree) → list_any (same_tree t) table ≡ list_any (same_tree t) before

or_swap : (t u : Tree) (before : List Tree) → (list_any (same_tree t) before || same_tree t u) ≡ list_any (same_tree t) (before ++ u ∷ [])
or_swap t u before = sym (list_any-append (same_tree t) before (u ∷ []) ∙ ap (λ b. list_any (same_tree t) before || b) (or_none (same_tree t u)))

pub finds_more : (table new before : List Tree) (u : Tree) → FindsAmong table before → ((t : Tree) → list_any (same_tree t) new ≡ (list_any (same_tree t) table || same_tree t u)) → FindsAmong new (before ++ u ∷ [])
finds_more table new before u finds more t = more t ∙ ap (λ b. b || same_tree t u) (finds t) ∙ or_swap t u before

pub not_new : (before table : List Tree) (operand : Expected) (u : Tree) (b : Bool) → FindsAmong table before → b ≡ not (list_any (same_tree u) table) → b ≡ not (is_repeated (Many true operand) u before)
not_new before table operand u b finds is = is ∙ ap not (finds u)

pub was_repeated : (version : Version) (names : Option Names) (before table : List Tree) (operand : Expected) (u : Tree) (at : ℕ) (b : Bool) → FindsAmong table before → b ≡ not (list_any (same_tree u) table) → b ≡ false → at ≡ place_of u →
    RepeatedOperand at ∷ [] ≡ operand_faults version names before (Many true operand) u
was_repeated version names before table operand u at b finds is old e =
    let repeats : is_repeated (Many true operand) u before ≡ true = not-false (is_repeated (Many true operand) u before) (sym (not_new before table operand u b finds is) ∙ old) in
    repeated version names before (Many true operand) u at (sym repeats) e

pub was_new : (version : Version) (names : Option Names) (before table : List Tree) (operand : Expected) (u : Tree) (b : Bool) → FindsAmong table before → b ≡ not (list_any (same_tree u) table) → b ≡ true →
    faults_among version names operand u ≡ operand_faults version names before (Many true operand) u
was_new version names before table operand u b finds is new =
    let fresh : is_repeated (Many true operand) u before ≡ false = not-true (is_repeated (Many true operand) u before) (sym (not_new before table operand u b finds is) ∙ new) in
    not_repeated version names before (Many true operand) u operand (sym fresh) refl
