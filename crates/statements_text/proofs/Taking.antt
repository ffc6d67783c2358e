-- Trees that are taken one by one, and kept where they have no fault and state something.
use Rattle.std.proofs.Common.{◌≡◌, ◌∙◌, ◌&&◌, ◌+◌, ◌-◌, ◌^◌, ◌<◌, ◌≤◌, ℕ, Bool, true, false, not, List, [], ◌∷◌, ◌++◌, Option, None, Some, codes, length, map, refl, sym, ap, subst, if◌then◌else◌, append_assoc, arith, option_map, drop, get_or}
use Rattle.std.specs.Option.{is_some}
use Rattle.std.specs.Str.{IsUtf8}
use Rattle.std.proofs.lemmas.List.{append-nil, drop_all, drop_more, length-append, length-map, map-append}
use Rattle.std.proofs.lemmas.Grind.{flat_map-append}
use Rattle.fs_parser.specs.Rest.{AreLeft, IsFirst, IsStartOf, TextLeft}
use Rattle.fs_parser.specs.Tree.{Tree, Trees, Empty, Then}
use Rattle.fs_parser.specs.View.{tree_of, trees_from, trees_of}
use Rattle.fs_parser.specs.declared.tree.Tree as parsed
use Rattle.profile.specs.Intake.{AreTaken, of_document}
use Rattle.profile.specs.Statements.{statement_of}
use Rattle.program.specs.declared.version.Version.{Version}
use Rattle.shapes.specs.Faults.{Fault, document_faults}
use Rattle.shapes.specs.Places.{faults_at, faults_from, place_behind}
use Rattle.shapes.specs.TreeStatements.{Stated, stated, statement_in}
use Rattle.shapes.specs.View.{faults_of}
use Rattle.shapes.specs.declared.fault.Fault as code
use Rattle.shapes.specs.declared.place.Place.{Place}
use Rattle.shapes.specs.declared.statement.Statement.{Statement as Statement'}
use Rattle.shapes.proofs.Places.{none_from, one_by_one}
use Rattle.statements_text.specs.Restricting.{IsBegun, IsWhole, IsWholeOf, TakesAll, TakesTree, kept_of}
use Rattle.statements_text.specs.Restrictions.{faulty, faulty_from, has_none, is_kept, kept_trees}
use Rattle.statements_text.specs.Terms.{line_text, lines_text, term_text}
use Rattle.statements_text.specs.TreeTerms.{bare_term}
use Rattle.statements_text.specs.declared.restriction.Restricting.{Restricting}
use Rattle.statements_text.proofs.Keeping.{kept_at, tree_tells}

-- ---- one tree

same_length : (old new : List code.Fault) (fs : List Fault) → faults_of new ≡ faults_of old ++ fs → length new ≡ length old + length fs
same_length old new fs told = sym (length-map new _) ∙ ap length told ∙ length-append (faults_of old) fs ∙ ap (λ (n : ℕ). n + length fs) (length-map old _)

some_more : (old new : List code.Fault) (fs : List Fault) → faults_of new ≡ faults_of old ++ fs → length old < length new → has_none fs ≡ false
some_more old new [] told less = absurd (omega (arith, same_length old new [] told, less))
some_more old new (f ∷ fs) told less = refl

none_more : (old new : List code.Fault) (fs : List Fault) → faults_of new ≡ faults_of old ++ fs → length new ≤ length old → has_none fs ≡ true
none_more old new [] told less = refl
none_more old new (f ∷ fs) told less = absurd (omega (arith, same_length old new (f ∷ fs) told, less))

told_some : (s : Option Statement') (o : Option Stated) → option_map stated s ≡ o → is_some s ≡ is_some o
told_some None o is = ap is_some is
told_some (Some x) o is = ap is_some is

module _ (version : Version) (place : Place) (t : Tree) (old new : List code.Fault) (told : faults_of new ≡ faults_of old ++ faults_at version None place t) where
  not_kept : is_kept version t ≡ false → kept_of version t ≡ []
  not_kept e = rw e refl

  pub none_of_faulty : length old < length new → kept_of version t ≡ []
  none_of_faulty less =
      let some = some_more old new (faults_at version None place t) told less in
      not_kept (sym (kept_at version place t) ∙ ap (λ (b : Bool). b && not (has_none (statement_of version t))) some)

  pub counts_faulty : length old < length new → ◌≡◌ {A = ℕ} (if has_none (faults_at version None place t) then 0 else 1) 1
  counts_faulty less = rw (some_more old new (faults_at version None place t) told less) refl

  pub counts_none : length new ≤ length old → ◌≡◌ {A = ℕ} (if has_none (faults_at version None place t) then 0 else 1) 0
  counts_none less = rw (none_more old new (faults_at version None place t) told less) refl

  says : length new ≤ length old → (s : Option Statement') → option_map stated s ≡ statement_in version t → is_kept version t ≡ is_some s
  says less s is =
      sym (kept_at version place t)
      ∙ ap (λ (b : Bool). b && not (has_none (statement_of version t))) (none_more old new (faults_at version None place t) told less)
      ∙ sym (told_some s (statement_in version t) is ∙ tree_tells version t)

  pub kept_stated : length new ≤ length old → (s : Option Statement') → option_map stated s ≡ statement_in version t → is_some s ≡ true → kept_of version t ≡ t ∷ []
  kept_stated less s is some = let e = says less s is ∙ some in rw e refl

  pub none_stated : length new ≤ length old → (s : Option Statement') → option_map stated s ≡ statement_in version t → is_some s ≡ false → kept_of version t ≡ []
  none_stated less s is none = not_kept (says less s is ∙ none)

-- ---- the trees so far

-- of all the trees those before the rest were taken; each that is kept has a line, and each that is left out a fault
pub record IsTakenUpTo (version : Version) (all rest : Trees) (r : Restricting) : Type 0 where
  pub version_is : r.version ≡ version
  pub faults : faults_of r.faults.items ++ faults_from version None r.place rest ≡ document_faults version all
  pub lines : r.lines.items ++ lines_text (map bare_term (kept_trees version rest)) ≡ lines_text (map bare_term (kept_trees version all))
  pub before : List Tree
  pub reader : AreTaken (of_document version) before r.reader
  pub others : before ++ kept_trees version rest ≡ kept_trees version all
  pub kept : r.kept + length (kept_trees version rest) ≡ length (kept_trees version all)
  pub left_out : r.left_out + faulty_from version r.place rest ≡ faulty version all
  pub few_kept : r.kept ≤ length r.lines.items
  pub few_left_out : r.left_out ≤ length r.faults.items

-- the lists are there, and so the counts are small
pub few_kept : (version : Version) (all rest : Trees) (r : Restricting) → IsTakenUpTo version all rest r → r.kept < 2 ^ 64 - 1
few_kept version all rest r to = omega (arith, to.few_kept, r.lines.ok.0, r.lines.ok.1, r.lines.small)

pub few_left_out : (version : Version) (all rest : Trees) (r : Restricting) → IsTakenUpTo version all rest r → r.left_out < 2 ^ 64 - 1
few_left_out version all rest r to = omega (arith, to.few_left_out, r.faults.ok.0, r.faults.ok.1, r.faults.small)

no_more : (n : ℕ) → 0 + n ≡ n
no_more n = omega arith

pub begun : (version : Version) (all : Trees) (r : Restricting) → IsBegun version r → IsTakenUpTo version all all r
begun version all r b = record {
  version_is = b.version_is;
  faults = rw (b.faults, b.place) refl;
  lines = rw b.lines refl;
  before = [];
  reader = b.reader;
  others = refl;
  kept = rw b.kept (no_more (length (kept_trees version all)));
  left_out = rw (b.left_out, b.place) (no_more (faulty version all));
  few_kept = omega (arith, b.kept);
  few_left_out = omega (arith, b.left_out);
}

-- ---- one tree more

kept_first : (version : Version) (t : Tree) (rest : Trees) → kept_trees version (Then t rest) ≡ kept_of version t ++ kept_trees version rest
kept_first version t rest = go (is_kept version t)
  where
    go : (b : Bool) → (if b then t ∷ kept_trees version rest else kept_trees version rest) ≡ (if b then t ∷ [] else []) ++ kept_trees version rest
    go true = refl
    go false = refl

lines_both : (us vs : List Tree) → lines_text (map bare_term (us ++ vs)) ≡ lines_text (map bare_term us) ++ lines_text (map bare_term vs)
lines_both us vs = ap lines_text (map-append bare_term us vs) ∙ flat_map-append line_text (map bare_term us) (map bare_term vs)

few : (t : Tree) (b : Bool) → length (if b then t ∷ [] else []) ≤ length (lines_text (map bare_term (if b then t ∷ [] else [])))
few t true = omega (arith, length-append (line_text (bare_term t)) [], length-append (term_text (bare_term t)) (codes "\n"))
few t false = omega arith

one_more : (fs : List Fault) → (if has_none fs then 0 else 1) ≤ length fs
one_more [] = omega arith
one_more (f ∷ fs) = omega arith

module _ (version : Version) (all rest : Trees) (t : Tree) (old new : Restricting) (to : IsTakenUpTo version all (Then t rest) old) (takes : TakesTree t old new) where
  kept_here : kept_trees version (Then t rest) ≡ kept_of version t ++ kept_trees version rest
  kept_here = kept_first version t rest

  of_version : kept_of old.version t ≡ kept_of version t
  of_version = ap (λ (v : Version). kept_of v t) to.version_is

  faults_here : faults_of new.faults.items ≡ faults_of old.faults.items ++ faults_at version None old.place t
  faults_here = takes.faults ∙ ap (λ (v : Version). faults_of old.faults.items ++ faults_at v None old.place t) to.version_is

  pub one_taken : IsTakenUpTo version all rest new
  one_taken = record {
    version_is = takes.version ∙ to.version_is;
    faults =
        ap (λ (fs : List Fault). fs ++ faults_from version None new.place rest) faults_here
        ∙ ap (λ (p : Place). (faults_of old.faults.items ++ faults_at version None old.place t) ++ faults_from version None p rest) takes.place
        ∙ append_assoc (faults_of old.faults.items) (faults_at version None old.place t) (faults_from version None (place_behind old.place t) rest)
        ∙ ap (λ (fs : List Fault). faults_of old.faults.items ++ fs) (sym (one_by_one version None old.place t rest))
        ∙ to.faults;
    lines =
        ap (λ (bytes : List ℕ). bytes ++ lines_text (map bare_term (kept_trees version rest))) (takes.lines ∙ ap (λ (us : List Tree). old.lines.items ++ lines_text (map bare_term us)) of_version)
        ∙ append_assoc old.lines.items (lines_text (map bare_term (kept_of version t))) (lines_text (map bare_term (kept_trees version rest)))
        ∙ ap (λ (bytes : List ℕ). old.lines.items ++ bytes) (sym (lines_both (kept_of version t) (kept_trees version rest)))
        ∙ ap (λ (us : List Tree). old.lines.items ++ lines_text (map bare_term us)) (sym kept_here)
        ∙ to.lines;
    before = to.before ++ kept_of version t;
    reader = subst (λ (us : List Tree). AreTaken (of_document version) (to.before ++ us) new.reader) of_version (takes.reader (of_document version) to.before to.reader);
    others = append_assoc to.before (kept_of version t) (kept_trees version rest) ∙ ap (λ (us : List Tree). to.before ++ us) (sym kept_here) ∙ to.others;
    kept =
        let long = ap length kept_here ∙ length-append (kept_of version t) (kept_trees version rest) in
        omega (arith, takes.kept, ap length of_version, long, to.kept);
    left_out =
        let one = takes.left_out ∙ ap (λ (v : Version). old.left_out + (if has_none (faults_at v None old.place t) then 0 else 1)) to.version_is in
        let place = ap (λ (p : Place). faulty_from version p rest) takes.place in
        omega (arith, one, place, to.left_out);
    few_kept =
        let long = ap length takes.lines ∙ length-append old.lines.items (lines_text (map bare_term (kept_of old.version t))) in
        omega (arith, takes.kept, few t (is_kept old.version t), long, to.few_kept);
    few_left_out =
        let found = faults_at old.version None old.place t in
        omega (arith, takes.left_out, one_more found, same_length old.faults.items new.faults.items found takes.faults, to.few_left_out);
  }

-- the whole
pub all_taken : (version : Version) (all : Trees) (r : Restricting) → IsTakenUpTo version all Empty r → IsWhole version all r
all_taken version all r to =
    record {
      faults = sym (append-nil (faults_of r.faults.items)) ∙ ap (λ (fs : List Fault). faults_of r.faults.items ++ fs) (sym (none_from version None r.place)) ∙ to.faults;
      lines = sym (append-nil r.lines.items) ∙ to.lines;
      reader = subst (λ (us : List Tree). AreTaken (of_document version) us r.reader) (sym (append-nil to.before) ∙ to.others) to.reader;
      kept = omega (arith, to.kept);
      left_out = omega (arith, to.left_out);
    }

-- ---- the trees of a list

-- the first n of them were taken
abbrev pub IsTakenTo : Version → List parsed.Tree → ℕ → Restricting → Type 0
IsTakenTo version ts n r = IsTakenUpTo version (trees_of ts) (trees_of (drop n ts)) r

pub next_taken : (version : Version) (ts : List parsed.Tree) (n : ℕ) (x : parsed.Tree) (old new : Restricting) → n < length ts → x ≡ get_or ts n x
    → IsTakenTo version ts n old → TakesTree (tree_of x) old new → IsTakenTo version ts (n + 1) new
next_taken version ts n x old new within is to takes =
    let left : trees_of (drop n ts) ≡ Then (tree_of x) (trees_of (drop (n + 1) ts)) =
    ap trees_of (drop_more ts n x within) ∙ ap (λ (y : parsed.Tree). Then (tree_of y) (trees_of (drop (n + 1) ts))) (sym is) in
    one_taken version (trees_of ts) (trees_of (drop (n + 1) ts)) (tree_of x) old new (subst (λ (us : Trees). IsTakenUpTo version (trees_of ts) us old) left to) takes

pub list_taken : (version : Version) (ts : List parsed.Tree) (n : ℕ) (r : Restricting) → length ts ≤ n → IsTakenTo version ts n r → IsWhole version (trees_of ts) r
list_taken version ts n r all to =
    all_taken version (trees_of ts) r (subst (λ (us : List parsed.Tree). IsTakenUpTo version (trees_of ts) (trees_of us) r) (drop_all n ts all) to)

-- ---- the trees of a text

-- these were taken, and those that are left now follow them
pub record IsTakenSoFar (version : Version) (start left : TextLeft) (r : Restricting) : Type 0 where
  pub trees : List Tree
  pub left_are : (more : List Tree) → AreLeft left more → AreLeft start (trees ++ more)
  pub taken : (more : List Tree) → IsTakenUpTo version (trees_from (trees ++ more)) (trees_from more) r

pub none_so_far : (version : Version) (left : TextLeft) (r : Restricting) → IsBegun version r → IsTakenSoFar version left left r
none_so_far version left r b = record { trees = []; left_are = λ more h. h; taken = λ more. begun version (trees_from more) r b }

pub one_more_so_far : (version : Version) (start left next : TextLeft) (tree : Tree) (old new : Restricting) → IsTakenSoFar version start left old → IsFirst left tree next
    → TakesTree tree old new → IsTakenSoFar version start next new
one_more_so_far version start left next tree old new h first takes =
    record {
      trees = h.trees ++ tree ∷ [];
      left_are = λ more k. subst (AreLeft start) (sym (append_assoc h.trees (tree ∷ []) more)) (h.left_are (tree ∷ more) (first.others more k));
      taken = λ more. subst (λ (ts : List Tree). IsTakenUpTo version (trees_from ts) (trees_from more) new) (sym (append_assoc h.trees (tree ∷ []) more))
          (one_taken version (trees_from (h.trees ++ tree ∷ more)) (trees_from more) tree old new (h.taken (tree ∷ more)) takes);
    }

pub all_so_far : (version : Version) (start left : TextLeft) (r : Restricting) → IsTakenSoFar version start left r → AreLeft left [] → TakesAll version start r
all_so_far version start left r h none =
    record {
      trees = h.trees;
      left_are = subst (AreLeft start) (append-nil h.trees) (h.left_are [] none);
      whole = all_taken version (trees_from h.trees) r (subst (λ (ts : List Tree). IsTakenUpTo version (trees_from ts) Empty r) (append-nil h.trees) (h.taken []));
    }

pub text_taken : (version : Version) (text : List ℕ) (left : TextLeft) (r : Restricting) → IsUtf8 text → IsStartOf text left → TakesAll version left r → IsWholeOf version text r
text_taken version text left r utf8 start h =
    let forms = start h.trees h.left_are in
    record {
      document = record { declared = left.declared; trees = trees_from h.trees };
      text = record { utf8 = utf8; tokens = forms.tokens; spelled = forms.spelled; written = forms.written };
      whole = h.whole;
    }
