-- A certificate with a text comes line by line.
use Rattle.std.proofs.Common.{◌≡◌, ℕ, ◌+◌, ◌^◌, ◌≤◌, Bool, true, false, eqb, ltb, leb, ◌&&◌, if◌then◌else◌, List, [], ◌∷◌, ◌++◌, length, map, Option, Some, None, refl, sym, ap, ◌∙◌, arith, append_assoc}
use Rattle.std.specs.Prelude.{option_map}
use Rattle.std.specs.List.{list_all, enumerate_from}
use Rattle.std.proofs.lemmas.Bool.{and_parts, and_from, eqb-true, eq-eqb, lt-ltb, leb-true, false≢true}
use Rattle.std.proofs.lemmas.List.{append-nil, length-append}
use Rattle.axioms.specs.Ontology.{Ontology}
use Rattle.certificate.specs.Certificate.{Line, Listed, Certificate, Format, One, Two}
use Rattle.certificate.specs.Text.{written, written_from}
use Rattle.certificate.specs.Writability.{HasNumbers, HasText}
use Rattle.certificate.specs.Tests.{is_small, fits_line, fits_class, fits_pairs, fits_claim, fits_domain, fit_classes, fit_pairs, fit_individuals, fit_claims, fits_listed, fits_option, all_after}
use Rattle.certificate.specs.TextLines.{TextLine, FirstLine, DerivedLine, DomainLine, ClassLine, PairLine, IndividualLine, ClaimLine, LastLine, Empty, InLines, InRows, Complete, last_of, no_rows, has_individuals, fits_row, is_row_in, next_number, with_row, with_line, with_all}
use Rattle.certificate.proofs.Meaning.{text_tests}
use Rattle.certificate.proofs.Parts.{is_own, with_more, with_first, with_one}
use Rattle.certificate.proofs.WrittenLines.{HasNumbersFrom, all_numbers, numbers_behind, first_fits, first_written, written_again}

-- ---- the lines of a certificate

abbrev pub individual_line : ℕ × ℕ → TextLine
individual_line a = IndividualLine a.0 a.1

abbrev pub listed_lines : Format → Listed → List TextLine
listed_lines format l =
    DomainLine l.domain ∷ map (ClassLine format) l.classes ++ map (PairLine format) l.pairs ++ map individual_line (enumerate_from 0 l.individuals) ++ map ClaimLine l.claims

abbrev pub lines_of : Format → Certificate → List TextLine
lines_of format c = elim c.listed [
  | None ↦ FirstLine format false ∷ map DerivedLine (written_from format 1 c.lines) ++ LastLine ∷ []
  | Some l ↦ FirstLine format true ∷ map DerivedLine (written_from format 1 c.lines) ++ listed_lines format l ++ LastLine ∷ []
]

-- ---- the last of the rows so far

pub last_pushed : {A : Type 0} (xs : List A) (x : A) → last_of (xs ++ x ∷ []) ≡ Some x
last_pushed [] x = refl
last_pushed (y ∷ []) x = refl
last_pushed (y ∷ z ∷ zs) x = last_pushed (z ∷ zs) x

-- ---- rows of one kind

-- the lines of the derivation come one after another
lines_come : (o : Ontology) (format : Format) (is_consistent : Bool) (before lines : List Line) → list_all (fits_line o) lines ≡ true → HasNumbersFrom format before lines
    → with_all o (InLines format is_consistent before) (map DerivedLine (written_from format (next_number before) lines)) ≡ Some (InLines format is_consistent (before ++ lines))
lines_come o One is_consistent before [] t h = ap (λ (ls : List Line). Some (InLines One is_consistent ls)) (sym (append-nil before))
lines_come o Two is_consistent before [] t h = ap (λ (ls : List Line). Some (InLines Two is_consistent ls)) (sym (append-nil before))
lines_come o format is_consistent before (line ∷ lines) t h =
    let p = and_parts (fits_line o line) (list_all (fits_line o) lines) t in
    let q = numbers_behind format before line lines h in
    let n = next_number before in
    let next = InLines format is_consistent (before ++ line ∷ []) in
    let same : written format n (written format n line) ≡ line = written_again o format n line p.0 q.0 in
    let gives : with_line o (InLines format is_consistent before) (DerivedLine (written format n line)) ≡ Some next
    = rw (first_fits o format n line p.0 q.0) (ap (λ (l : Line). Some (InLines format is_consistent (before ++ l ∷ []))) same) in
    let more : next_number (before ++ line ∷ []) ≡ n + 1 = ap (λ m. m + 1) (length-append before (line ∷ [])) in
    ap (λ (ls : List Line). with_all o (InLines format is_consistent before) (map DerivedLine ls)) (first_written format n line lines)
    ∙ with_first o (InLines format is_consistent before) next (DerivedLine (written format n line)) (map DerivedLine (written_from format (n + 1) lines)) gives
    ∙ ap (λ m. with_all o next (map DerivedLine (written_from format m lines))) (sym more)
    ∙ lines_come o format is_consistent (before ++ line ∷ []) lines p.1 q.1
    ∙ ap (λ (ls : List Line). Some (InLines format is_consistent ls)) (append_assoc before (line ∷ []) lines)

-- The rows of one kind come one after another, each tested behind the one before it.
module _ (o : Ontology) (format : Format) (lines : List Line) {A K : Type 0} (of : A → K) (test : Option K → A → Bool) (line : A → TextLine) (rows : List A → Listed)
    (step : (before : List A) (x : A) → test (option_map of (last_of before)) x ≡ true → with_line o (InRows format lines (rows before)) (line x) ≡ Some (InRows format lines (rows (before ++ x ∷ [])))) where
  rows_come : (before xs : List A) → all_after of test (option_map of (last_of before)) xs ≡ true
      → with_all o (InRows format lines (rows before)) (map line xs) ≡ Some (InRows format lines (rows (before ++ xs)))
  rows_come before [] t = ap (λ (ys : List A). Some (InRows format lines (rows ys))) (sym (append-nil before))
  rows_come before (x ∷ xs) t =
      let p = and_parts (test (option_map of (last_of before)) x) (all_after of test (Some (of x)) xs) t in
      with_first o (InRows format lines (rows before)) (InRows format lines (rows (before ++ x ∷ []))) (line x) (map line xs) (step before x p.0)
      ∙ rows_come (before ++ x ∷ []) xs (ap (λ last. all_after of test (option_map of last) xs) (last_pushed before x) ∙ p.1)
      ∙ ap (λ (ys : List A). Some (InRows format lines (rows ys))) (append_assoc before (x ∷ []) xs)

-- the row fits, so the interpretation has it too
pub row_step : (o : Ontology) (format : Format) (lines : List Line) (l : Listed) (row : TextLine) → fits_row o l row ≡ true → is_row_in format row ≡ true → with_line o (InRows format lines l) row ≡ Some (InRows format lines (with_row l row))
row_step o format lines l LastLine t w = absurd (false≢true t)
row_step o format lines l row t w = ap (λ (fits : Bool). if fits then Some (InRows format lines (with_row l row)) else None) (and_from (fits_row o l row) (is_row_in format row) t w)

-- an interpretation with rows of the first kinds
abbrev with_classes : ℕ → List (ℕ × List ℕ) → Listed
with_classes domain classes = record (no_rows domain) { classes = classes }

abbrev with_pairs : ℕ → List (ℕ × List ℕ) → List (ℕ × ℕ × List ℕ) → Listed
with_pairs domain classes pairs = record (with_classes domain classes) { pairs = pairs }

abbrev with_individuals : ℕ → List (ℕ × List ℕ) → List (ℕ × ℕ × List ℕ) → List ℕ → Listed
with_individuals domain classes pairs individuals = record (with_pairs domain classes pairs) { individuals = individuals }

abbrev with_claims : ℕ → List (ℕ × List ℕ) → List (ℕ × ℕ × List ℕ) → List ℕ → List (ℕ × ℕ) → Listed
with_claims domain classes pairs individuals claims = record (with_individuals domain classes pairs individuals) { claims = claims }

module _ (o : Ontology) (format : Format) (lines : List Line) (domain : ℕ) where
  classes_come : (classes : List (ℕ × List ℕ)) → fit_classes o domain None classes ≡ true
      → with_all o (InRows format lines (no_rows domain)) (map (ClassLine format) classes) ≡ Some (InRows format lines (with_classes domain classes))
  classes_come classes t =
      rows_come o format lines (λ c. c.0) (fits_class o domain) (ClassLine format) (with_classes domain) (λ before x u. row_step o format lines (with_classes domain before) (ClassLine format x) u (is_own format)) [] classes t

  pairs_come : (classes : List (ℕ × List ℕ)) (pairs : List (ℕ × ℕ × List ℕ)) → fit_pairs o domain None pairs ≡ true
      → with_all o (InRows format lines (with_classes domain classes)) (map (PairLine format) pairs) ≡ Some (InRows format lines (with_pairs domain classes pairs))
  pairs_come classes pairs t =
      rows_come o format lines (λ p. (p.0, p.1)) (fits_pairs o domain) (PairLine format) (with_pairs domain classes) (λ before x u. row_step o format lines (with_pairs domain classes before) (PairLine format x) u (is_own format)) [] pairs t

  claims_come : (classes : List (ℕ × List ℕ)) (pairs : List (ℕ × ℕ × List ℕ)) (individuals : List ℕ) (claims : List (ℕ × ℕ)) → length individuals ≡ length o.names.individuals
      → fit_claims o domain None claims ≡ true
      → with_all o (InRows format lines (with_individuals domain classes pairs individuals)) (map ClaimLine claims) ≡ Some (InRows format lines (with_claims domain classes pairs individuals claims))
  claims_come classes pairs individuals claims all t =
      rows_come o format lines (λ c. c.0) (fits_claim o domain) ClaimLine (with_claims domain classes pairs individuals)
      (λ before x u. row_step o format lines (with_claims domain classes pairs individuals before) (ClaimLine x) (and_from (eqb (length individuals) (length o.names.individuals)) _ (eq-eqb _ _ all) u) refl) [] claims t

-- an element for each of the next individuals comes
pub individuals_come : (o : Ontology) (format : Format) (lines : List Line) (l : Listed) (xs : List ℕ) → l.claims ≡ [] → length l.individuals + length xs ≤ length o.names.individuals → length l.individuals + length xs ≤ 2 ^ 32
    → list_all (λ x. ltb x l.domain) xs ≡ true
    → with_all o (InRows format lines l) (map individual_line (enumerate_from (length l.individuals) xs)) ≡ Some (InRows format lines (record l { individuals = l.individuals ++ xs }))
individuals_come o format lines l [] none each few t = ap (λ (ys : List ℕ). Some (InRows format lines (record l { individuals = ys }))) (sym (append-nil l.individuals))
individuals_come o format lines l (x ∷ xs) none each few t =
    let number = length l.individuals in
    let next : Listed = with_row l (IndividualLine number x) in
    let p = and_parts (ltb x l.domain) (list_all (λ x. ltb x l.domain) xs) t in
    let longer : length next.individuals ≡ number + 1 = length-append l.individuals (x ∷ []) in
    let within : ltb number (length o.names.individuals) ≡ true = lt-ltb number (length o.names.individuals) (omega arith) in
    let small : is_small number ≡ true = lt-ltb number (2 ^ 32) (omega arith) in
    let same : eqb number number ≡ true = eq-eqb number number refl in
    let fits : fits_row o l (IndividualLine number x) ≡ true = rw (none, same, within, small, p.0) refl in
    with_first o (InRows format lines l) (InRows format lines next) (IndividualLine number x) (map individual_line (enumerate_from (number + 1) xs)) (row_step o format lines l (IndividualLine number x) fits refl)
    ∙ ap (λ (n : ℕ). with_all o (InRows format lines next) (map individual_line (enumerate_from n xs))) (sym longer)
    ∙ individuals_come o format lines next xs none (omega (arith, longer, each)) (omega (arith, longer, few)) p.1
    ∙ ap (λ (ys : List ℕ). Some (InRows format lines (record l { individuals = ys }))) (append_assoc l.individuals (x ∷ []) xs)

-- ---- whole certificates

listed_come : (o : Ontology) (format : Format) (lines : List Line) (l : Listed) → fits_listed o l ≡ true → with_all o (InLines format true lines) (listed_lines format l) ≡ Some (InRows format lines l)
listed_come o format lines l t =
    let d = l.domain in
    let classes = fit_classes o d None l.classes in
    let pairs = fit_pairs o d None l.pairs in
    let claims = fit_claims o d None l.claims in
    let names = length o.names.individuals in
    let p = and_parts (fits_domain d && classes && pairs && fit_individuals o d l.individuals) claims t in
    let q = and_parts (fits_domain d && classes && pairs) (fit_individuals o d l.individuals) p.0 in
    let r = and_parts (fits_domain d && classes) pairs q.0 in
    let s = and_parts (fits_domain d) classes r.0 in
    let u = and_parts (eqb (length l.individuals) names && leb (length l.individuals) (2 ^ 32)) (list_all (λ x. ltb x d) l.individuals) q.1 in
    let v = and_parts (eqb (length l.individuals) names) (leb (length l.individuals) (2 ^ 32)) u.0 in
    let all : length l.individuals ≡ names = eqb-true (length l.individuals) names v.0 in
    let few : length l.individuals ≤ 2 ^ 32 = leb-true (length l.individuals) (2 ^ 32) v.1 in
    let start = InLines format true lines in
    let class_lines = map (ClassLine format) l.classes in
    let pair_lines = map (PairLine format) l.pairs in
    let individual_lines = map individual_line (enumerate_from 0 l.individuals) in
    let behind_classes = InRows format lines (with_classes d l.classes) in
    let behind_pairs = InRows format lines (with_pairs d l.classes l.pairs) in
    let behind_individuals = InRows format lines (with_individuals d l.classes l.pairs l.individuals) in
    let a : with_all o start (DomainLine d ∷ class_lines) ≡ Some behind_classes =
    with_first o start (InRows format lines (no_rows d)) (DomainLine d) class_lines (rw s.0 refl) ∙ classes_come o format lines d l.classes s.1 in
    let b : with_all o start (DomainLine d ∷ class_lines ++ pair_lines) ≡ Some behind_pairs =
    with_more o start behind_classes (DomainLine d ∷ class_lines) pair_lines a ∙ pairs_come o format lines d l.classes l.pairs r.1 in
    let c : with_all o start (DomainLine d ∷ class_lines ++ pair_lines ++ individual_lines) ≡ Some behind_individuals =
    with_more o start behind_pairs (DomainLine d ∷ class_lines ++ pair_lines) individual_lines b
    ∙ individuals_come o format lines (with_pairs d l.classes l.pairs) l.individuals refl (omega (arith, all)) (omega (arith, few)) u.1 in
    with_more o start behind_individuals (DomainLine d ∷ class_lines ++ pair_lines ++ individual_lines) (map ClaimLine l.claims) c
    ∙ claims_come o format lines d l.classes l.pairs l.individuals l.claims all p.1

-- the individuals of a listed interpretation that fits are all there
all_there : (o : Ontology) (l : Listed) → fits_listed o l ≡ true → has_individuals o l ≡ true
all_there o l t =
    let d = l.domain in
    let front = fits_domain d && fit_classes o d None l.classes && fit_pairs o d None l.pairs in
    let same = eqb (length l.individuals) (length o.names.individuals) in
    let few = leb (length l.individuals) (2 ^ 32) in
    let p = and_parts (front && fit_individuals o d l.individuals) (fit_claims o d None l.claims) t in
    let q = and_parts front (fit_individuals o d l.individuals) p.0 in
    let r = and_parts (same && few) (list_all (λ x. ltb x d) l.individuals) q.1 in
    (and_parts same few r.0).0

option_lines : (o : Ontology) (format : Format) (lines : List Line) (listed : Option Listed) → list_all (fits_line o) lines ≡ true → HasNumbers format lines → fits_option o listed ≡ true
    → with_all o Empty (lines_of format (record { lines = lines; listed = listed })) ≡ Some (Complete format (record { lines = lines; listed = listed }))
option_lines o format lines None t h u =
    let derived = map DerivedLine (written_from format 1 lines) in
    with_first o Empty (InLines format false []) (FirstLine format false) (derived ++ LastLine ∷ []) refl
    ∙ with_more o (InLines format false []) (InLines format false lines) derived (LastLine ∷ []) (lines_come o format false [] lines t (all_numbers format lines h))
    ∙ with_one o (InLines format false lines) (Complete format (record { lines = lines; listed = None })) LastLine refl
option_lines o format lines (Some l) t h u =
    let derived = map DerivedLine (written_from format 1 lines) in
    let first = FirstLine format true ∷ derived in
    let a : with_all o Empty first ≡ Some (InLines format true lines) = with_first o Empty (InLines format true []) (FirstLine format true) derived refl ∙ lines_come o format true [] lines t (all_numbers format lines h) in
    let b : with_all o Empty (first ++ listed_lines format l) ≡ Some (InRows format lines l) = with_more o Empty (InLines format true lines) first (listed_lines format l) a ∙ listed_come o format lines l u in
    with_more o Empty (InRows format lines l) (first ++ listed_lines format l) (LastLine ∷ []) b
    ∙ with_one o (InRows format lines l) (Complete format (record { lines = lines; listed = Some l })) LastLine (rw (all_there o l u) refl)

pub certificate_lines : (o : Ontology) (format : Format) (c : Certificate) → HasText o format c → with_all o Empty (lines_of format c) ≡ Some (Complete format c)
certificate_lines o format c h =
    let p = and_parts (list_all (fits_line o) c.lines) (fits_option o c.listed) (text_tests o format c h) in
    option_lines o format c.lines c.listed p.0 h.written p.1
