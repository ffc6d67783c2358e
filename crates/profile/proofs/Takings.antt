-- Trees that are taken one by one.
use Rattle.std.proofs.Common.{◌≡◌, Bool, true, false, List, [], ◌∷◌, ◌++◌, Option, None, Some, Result, Ok, Err, IfErr, IfOk, OnErr, OnOk, ℕ, ◌+◌, ◌≤◌, length, ◌<◌, get_or, take, arith, refl, sym, ap, ◌∙◌, subst, append_assoc, map, option_map}
use Rattle.std.proofs.lemmas.List.{append-nil, map-append, take_all}
use Rattle.std.proofs.lemmas.Option.{slice_get-get_or}
use Rattle.lemmas.proofs.Places.{take_push}
use Rattle.axioms.specs.Growth.{IsBounded}
use Rattle.axioms.specs.Ontology.{Ontology}
use Rattle.axioms.specs.Numbering.{Statement}
use Rattle.axioms.specs.WellFormedness.{IsOntology}
use Rattle.fs_parser.specs.Tree.{Tree}
use Rattle.fs_parser.specs.View.{tree_of, trees_from, trees_of}
use Rattle.fs_parser.specs.declared.tree.Tree as parsed
use Rattle.shapes.specs.Faults.{Fault}
use Rattle.shapes.specs.Places.{faults_at, faults_from, place_behind}
use Rattle.shapes.specs.TreeStatements.{Stated, meaning, stated, statement_in}
use Rattle.shapes.specs.declared.statement.Statement.{Statement as Statement'}
use Rattle.shapes.specs.View.{faults_of}
use Rattle.shapes.specs.declared.fault.Fault as code
use Rattle.shapes.specs.declared.place.Place.{Place}
use Rattle.program.specs.declared.version.Version.{Version}
use Rattle.shapes.proofs.Places.{none_from, one_by_one}
use Rattle.profile.specs.Additions.{AddsStatements, HasFewNames, StatementsOverflow}
use Rattle.profile.specs.Operands.{IsFitting}
use Rattle.profile.specs.Growth.{AreAddedAs, RefusesStatements}
use Rattle.profile.specs.Reading.{AreReadAs, HaveTooManyNames, Refuses}
use Rattle.profile.specs.declared.acceptance.Refusal.{Refusal}
use Rattle.profile.specs.Statements.{statement_of, statements}
use Rattle.profile.specs.Intake.{AreStated, AreTaken, AreTakenBehind, Start, Taken, of_document, of_growth, taken}
use Rattle.profile.proofs.Adding.{adds_more, is_ontology_of, joined, none_read, overflows_later, overflows_with_more, too_many}
use Rattle.profile.proofs.Faultless.{none_first, none_second}
use Rattle.profile.proofs.Stated.{part_fits}

-- what is stated by a tree, where no fault was found before and none with it, has the operands that it takes
pub fits : (version : Version) (old new : List Fault) (place : Place) (t : Tree) (says : Option Stated) → says ≡ statement_in version t → new ≡ old ++ faults_at version None place t → new ≡ [] → IsFitting says
fits version old new place t says is told none = subst IsFitting (sym is) (part_fits version place t (none_second old (faults_at version None place t) (sym told ∙ none)))

-- the code's faults are some, or none
pub some_found : (found : List code.Fault) → 0 < length found → faults_of found ≡ [] → ⊥
some_found [] l none = absurd (omega arith)
some_found (f ∷ fs) l none = cc

pub none_found : (found : List code.Fault) → length found ≡ 0 → faults_of found ≡ []
none_found [] l = refl
none_found (f ∷ fs) l = absurd (omega arith)

statements_push : (version : Version) (ts : List Tree) (t : Tree) → statements version (trees_from ts) ++ statement_of version t ≡ statements version (trees_from (ts ++ t ∷ []))
statements_push version [] t = sym (append-nil (statement_of version t))
statements_push version (u ∷ us) t =
    append_assoc (statement_of version u) (statements version (trees_from us)) (statement_of version t) ∙ ap (λ (ss : List Statement). statement_of version u ++ ss) (statements_push version us t)

-- where nothing is stated, the ontology has grown by no statement
pub nothing_stated : (s : Option Statement') → ((x : Statement') → s ≡ Some x → ⊥) → (o : Ontology) → IsOntology o → AreStated o (meaning (option_map stated s)) false o
nothing_stated None other o whole = none_read o whole
nothing_stated (Some x) other o whole = absurd (other x refl)

more_stated : (start : Ontology) (ss us : List Statement) (b : Bool) (o p : Ontology) → AreStated start ss false o → AreStated o us b p → AreStated start (ss ++ us) b p
more_stated start ss us false o p h k = adds_more ss us start o p h k
more_stated start ss us true o p h k = overflows_later ss us start o h k

-- ---- the trees so far

pub none_taken : (start : Start) (found : List code.Fault) → found ≡ [] → (o : Ontology) → o ≡ start.ontology → IsOntology start.ontology → AreTaken start [] (taken start.version (faults_of found) start.place false o)
none_taken start found none o is whole =
    subst (λ (fs : List code.Fault). AreTaken start [] (taken start.version (faults_of fs) start.place false o)) (sym none)
    (record { version = refl; faults = λ more. refl; stated = λ empty. subst (AddsStatements [] start.ontology) (sym is) (none_read start.ontology whole) })

module _ (old : Taken) (t : Tree) (found : List Fault) (place : Place) (found_is : found ≡ old.found ++ faults_at old.version None old.place t) (place_is : place ≡ place_behind old.place t) (start : Start) (trees : List Tree) (h : AreTaken start trees old) where
  abbrev version : Version
  version = start.version

  found_now : found ≡ old.found ++ faults_at version None old.place t
  found_now = found_is ∙ ap (λ (v : Version). old.found ++ faults_at v None old.place t) h.version

  faults_more : (more : List Tree) → faults_from version None start.place (trees_from ((trees ++ t ∷ []) ++ more)) ≡ found ++ faults_from version None place (trees_from more)
  faults_more more =
      let here = faults_at version None old.place t in
      let later = faults_from version None (place_behind old.place t) (trees_from more) in
      ap (λ (ts : List Tree). faults_from version None start.place (trees_from ts)) (append_assoc trees (t ∷ []) more)
      ∙ h.faults (t ∷ more)
      ∙ ap (λ (fs : List Fault). old.found ++ fs) (one_by_one version None old.place t (trees_from more))
      ∙ sym (append_assoc old.found here later)
      ∙ ap (λ (fs : List Fault). fs ++ later) (sym found_now)
      ∙ ap (λ (p : Place). found ++ faults_from version None p (trees_from more)) (sym place_is)

  none_before : found ≡ [] → old.found ≡ []
  none_before none = none_first old.found (faults_at version None old.place t) (sym found_now ∙ none)

  -- with a fault, or with too many names
  pub taken_faulty : (is_full : Bool) (o : Ontology) → (found ≡ [] → ⊥) → AreTaken start (trees ++ t ∷ []) (taken old.version found place is_full o)
  taken_faulty is_full o some = record { version = h.version; faults = faults_more; stated = λ none. absurd (some none) }

  pub taken_full : (o : Ontology) → old.is_full ≡ true → AreTaken start (trees ++ t ∷ []) (taken old.version found place old.is_full o)
  taken_full o full = record { version = h.version; faults = faults_more; stated = λ none. go old.is_full full (h.stated (none_before none)) }
    where
      go : (b : Bool) → b ≡ true → AreStated start.ontology (statements version (trees_from trees)) b old.ontology → AreStated start.ontology (statements version (trees_from (trees ++ t ∷ []))) b o
      go false e k = absurd (let f : false ≡ true = e in cc)
      go true e k =
          subst (λ (ss : List Statement). StatementsOverflow ss start.ontology) (statements_push version trees t)
          (overflows_with_more (statements version (trees_from trees)) (statement_of version t) start.ontology k)

  -- with what it states
  pub taken_more : (stated : Option Stated) → stated ≡ statement_in old.version t → (is_full : Bool) (o : Ontology) → old.is_full ≡ false → AreStated old.ontology (meaning stated) is_full o
      → AreTaken start (trees ++ t ∷ []) (taken old.version found place is_full o)
  taken_more stated is is_full o room more =
      let says : meaning stated ≡ statement_of version t = ap meaning (is ∙ ap (λ (v : Version). statement_in v t) h.version) in
      record {
        version = h.version;
        faults = faults_more;
        stated = λ none.
            subst (λ (ss : List Statement). AreStated start.ontology ss is_full o)
            (ap (λ (us : List Statement). statements version (trees_from trees) ++ us) says ∙ statements_push version trees t)
            (more_stated start.ontology (statements version (trees_from trees)) (meaning stated) is_full old.ontology o
            (subst (λ (b : Bool). AreStated start.ontology (statements version (trees_from trees)) b old.ontology) room (h.stated (none_before none))) more);
      }

-- ---- the end

module _ (start : Start) (trees : List Tree) (t : Taken) (h : AreTaken start trees t) where
  pub all_faults : faults_from start.version None start.place (trees_from trees) ≡ t.found
  all_faults =
      ap (λ (ts : List Tree). faults_from start.version None start.place (trees_from ts)) (sym (append-nil trees))
      ∙ h.faults []
      ∙ ap (λ (fs : List Fault). t.found ++ fs) (none_from start.version None t.place)
      ∙ append-nil t.found

  pub stated_all : t.found ≡ [] → (b : Bool) → t.is_full ≡ b → AreStated start.ontology (statements start.version (trees_from trees)) b t.ontology
  stated_all none b is = subst (λ (c : Bool). AreStated start.ontology (statements start.version (trees_from trees)) c t.ontology) is (h.stated none)

few : (o : Ontology) → IsBounded o → HasFewNames o
few o bounded = record { classes = bounded.classes; properties = bounded.properties; individuals = bounded.individuals }

pub read_told : (version : Version) (trees : List Tree) (t : Taken) → AreTaken (of_document version) trees t → (o : Ontology) → o ≡ t.ontology → IsBounded o → t.found ≡ [] → t.is_full ≡ false → AreReadAs version (trees_from trees) o
read_told version trees t h o is bounded none room =
    let start = of_document version in
    let adds : AddsStatements (statements version (trees_from trees)) start.ontology o = subst (AddsStatements (statements version (trees_from trees)) start.ontology) (sym is) (stated_all start trees t h none false room) in
    record { faultless = all_faults start trees t h ∙ none; ontology = is_ontology_of (statements version (trees_from trees)) o adds; few_names = few o bounded }

pub names_told : (version : Version) (trees : List Tree) (t : Taken) → AreTaken (of_document version) trees t → t.found ≡ [] → t.is_full ≡ true → HaveTooManyNames (statements version (trees_from trees))
names_told version trees t h none full = too_many (statements version (trees_from trees)) (stated_all (of_document version) trees t h none true full)

pub growth_told : (version : Version) (old : Ontology) (trees : List Tree) (t : Taken) → AreTaken (of_growth version old) trees t → (o : Ontology) → o ≡ t.ontology → IsBounded o → t.found ≡ [] → t.is_full ≡ false →
    AreAddedAs version old (trees_from trees) o
growth_told version old trees t h o is bounded none room =
    let start = of_growth version old in
    let adds : AddsStatements (statements version (trees_from trees)) old o = subst (AddsStatements (statements version (trees_from trees)) old) (sym is) (stated_all start trees t h none false room) in
    record {
      faultless = all_faults start trees t h ∙ none;
      adds = adds;
      kept = adds.kept;
      few_names = few o bounded;
      ontology = λ ss k. joined ss (statements version (trees_from trees)) old o k adds;
    }

-- ---- a list of trees

pub none_behind : (old : Taken) → AreTakenBehind [] old old
none_behind old start before h = subst (λ (ts : List Tree). AreTaken start ts old) (sym (append-nil before)) h

pub one_behind : (ts : List parsed.Tree) (n : ℕ) (t : parsed.Tree) (old mid new : Taken) → n < length ts → t ≡ get_or ts n t → AreTakenBehind (map tree_of (take n ts)) old mid → AreTakenBehind (tree_of t ∷ []) mid new →
    AreTakenBehind (map tree_of (take (n + 1) ts)) old new
one_behind ts n t old mid new within is behind more start before h =
    let pushed : map tree_of (take (n + 1) ts) ≡ map tree_of (take n ts) ++ tree_of t ∷ [] =
    ap (map tree_of) (take_push ts n t (slice_get-get_or ts n t within ∙ ap Some (sym is))) ∙ map-append tree_of (take n ts) (t ∷ []) in
    subst (λ (us : List Tree). AreTaken start us new) (append_assoc before (map tree_of (take n ts)) (tree_of t ∷ []) ∙ ap (λ (us : List Tree). before ++ us) (sym pushed))
    (more start (before ++ map tree_of (take n ts)) (behind start before h))

pub all_behind : (ts : List parsed.Tree) (n : ℕ) (old new : Taken) → length ts ≤ n → AreTakenBehind (map tree_of (take n ts)) old new → AreTakenBehind (map tree_of ts) old new
all_behind ts n old new all behind = subst (λ (us : List parsed.Tree). AreTakenBehind (map tree_of us) old new) (take_all n ts all) behind

-- what is answered to trees that were taken from the start
module _ (version : Version) (ts us : List parsed.Tree) (same : ts ≡ us) (old new : Taken) (behind : AreTakenBehind (map tree_of ts) old new) where
  behind_all : AreTakenBehind (map tree_of us) old new
  behind_all = subst (λ (xs : List parsed.Tree). AreTakenBehind (map tree_of xs) old new) same behind

  module _ (none : AreTaken (of_document version) [] old) where
    pub accepted : (r : Result Ontology Refusal) → IfOk r (λ o. (v : Version) (trees : List Tree) → AreTaken (of_document v) trees new → AreReadAs v (trees_from trees) o) → IfOk r (AreReadAs version (trees_of us))
    accepted (Ok o) read = read version (map tree_of us) (behind_all (of_document version) [] none)
    accepted (Err r) read = tt

    pub not_accepted : (r : Result Ontology Refusal) → IfErr r (λ f. (v : Version) (trees : List Tree) → AreTaken (of_document v) trees new → Refuses v f (trees_from trees)) → IfErr r (λ f. Refuses version f (trees_of us))
    not_accepted (Ok o) refused = tt
    not_accepted (Err r) refused = refused version (map tree_of us) (behind_all (of_document version) [] none)

  module _ (o : Ontology) (none : AreTaken (of_growth version o) [] old) where
    pub grown : (r : Result (Unit {0}) Refusal) (p : Ontology) → OnOk r ((v : Version) (x : Ontology) (trees : List Tree) → AreTaken (of_growth v x) trees new → AreAddedAs v x (trees_from trees) p) → OnOk r (AreAddedAs version o (trees_of us) p)
    grown (Ok u) p added = added version o (map tree_of us) (behind_all (of_growth version o) [] none)
    grown (Err r) p added = tt

    pub not_grown : (r : Result (Unit {0}) Refusal) → IfErr r (λ f. (v : Version) (x : Ontology) (trees : List Tree) → AreTaken (of_growth v x) trees new → RefusesStatements v f x (trees_from trees)) →
        IfErr r (λ f. RefusesStatements version f o (trees_of us))
    not_grown (Ok u) refused = tt
    not_grown (Err r) refused = refused version o (map tree_of us) (behind_all (of_growth version o) [] none)

-- what holds holds of a refusal, too
pub on_err : (r : Result (Unit {0}) Refusal) (P : Type 0) → P → OnErr r P
on_err (Ok u) P h = tt
on_err (Err f) P h = h
