-- Whatever lines were read, a certificate's text begins with them.
use Rattle.std.proofs.Common.{◌≡◌, ℕ, ◌+◌, ◌-◌, ◌^◌, ◌<◌, ◌≤◌, Bool, true, false, eqb, ltb, leb, ◌&&◌, if◌then◌else◌, List, [], ◌∷◌, ◌++◌, length, map, replicate, Option, Some, None, refl, sym, ap, subst, ◌∙◌, ◌⊎◌, inl, inr, arith, lit<}
use Rattle.std.specs.Prelude.{option_map}
use Rattle.std.specs.List.{list_all, flat_map, enumerate_from}
use Rattle.std.proofs.lemmas.Bool.{and_parts, and_from, eqb-true, eq-eqb, ltb-true, lt-ltb, leb-true, le-leb, false≢true}
use Rattle.std.proofs.lemmas.List.{length-append, length-replicate}
use Rattle.std.proofs.lemmas.List.Elements.{All-replicate, recursion_from_All}
use Rattle.std.proofs.lemmas.List.Folds.{list_all-append}
use Rattle.std.proofs.lemmas.Option.{none-some, same_Some}
use Rattle.lemmas.proofs.Choices.{passed}
use Rattle.axioms.specs.Ontology.{Ontology}
use Rattle.certificate.specs.Text.{written}
use Rattle.certificate.specs.Writability.{HasNumbers, HasText}
use Rattle.certificate.specs.Certificate.{Line, Listed, Certificate, Format, One, Two}
use Rattle.certificate.specs.Tests.{is_small, fits_line, fits_written, fits_class, fits_pairs, fits_claim, fits_domain, fit_classes, fit_pairs, fit_individuals, fit_claims, fits_listed, fits_certificate, key, pair_key, all_after}
use Rattle.certificate.specs.TextLines.{TextLine, FirstLine, DerivedLine, DomainLine, ClassLine, PairLine, IndividualLine, ClaimLine, LastLine, text_of, Part, Empty, InLines, InRows, Complete, part_text, is_empty, last_of, no_rows, has_individuals, fits_row, is_row_in, follows_in, next_number, with_row, with_line, with_all, IsPart}
use Rattle.certificate.specs.Prefixes.{GoesOn}
use Rattle.certificate.proofs.Every.{passes_every}
use Rattle.certificate.proofs.Meaning.{has_text}
use Rattle.certificate.proofs.Parts.{none_in, then_all, with_more, with_first, with_one, all_text}
use Rattle.certificate.proofs.WrittenLines.{read_fits, numbers_read}
use Rattle.certificate.proofs.Successors.{individual_line, individuals_come}

-- ---- one more at the end

all_pushed : {A : Type 0} (test : A → Bool) (xs : List A) (x : A) → list_all test xs ≡ true → test x ≡ true → list_all test (xs ++ x ∷ []) ≡ true
all_pushed test xs x t u = list_all-append test xs (x ∷ []) ∙ and_from (list_all test xs) (list_all test (x ∷ [])) t (and_from (test x) true u refl)

-- the last one, or the one before where there is none
abbrev last_behind : {A : Type 0} → Option A → List A → Option A
last_behind before [] = before
last_behind before (x ∷ xs) = last_behind (Some x) xs

last_from : {A : Type 0} (x : A) (xs : List A) → last_behind (Some x) xs ≡ last_of (x ∷ xs)
last_from x [] = refl
last_from x (y ∷ ys) = last_from y ys

last_behind_none : {A : Type 0} (xs : List A) → last_behind None xs ≡ last_of xs
last_behind_none [] = refl
last_behind_none (x ∷ xs) = last_from x xs

after_pushed : {A K : Type 0} (of : A → K) (test : Option K → A → Bool) (before : Option A) (xs : List A) (x : A) → all_after of test (option_map of before) xs ≡ true
    → test (option_map of (last_behind before xs)) x ≡ true → all_after of test (option_map of before) (xs ++ x ∷ []) ≡ true
after_pushed of test before [] x t u = and_from (test (option_map of before) x) true u refl
after_pushed of test before (y ∷ ys) x t u =
    let p = and_parts (test (option_map of before) y) (all_after of test (Some (of y)) ys) t in
    and_from (test (option_map of before) y) (all_after of test (Some (of y)) (ys ++ x ∷ [])) p.0 (after_pushed of test (Some y) ys x p.1 u)

row_pushed : {A K : Type 0} (of : A → K) (test : Option K → A → Bool) (xs : List A) (x : A) → all_after of test None xs ≡ true → test (option_map of (last_of xs)) x ≡ true → all_after of test None (xs ++ x ∷ []) ≡ true
row_pushed of test xs x t u = after_pushed of test None xs x t (ap (λ last. test (option_map of last) x) (last_behind_none xs) ∙ u)

-- ---- parts that fit

-- the rows fit, and where there are claims each individual has its element
record AreRows (o : Ontology) (l : Listed) : Type 0 where
  domain : fits_domain l.domain ≡ true
  classes : fit_classes o l.domain None l.classes ≡ true
  pairs : fit_pairs o l.domain None l.pairs ≡ true
  individuals : list_all (λ x. ltb x l.domain) l.individuals ≡ true
  within : length l.individuals ≤ length o.names.individuals
  few : length l.individuals ≤ 2 ^ 32
  claims : fit_claims o l.domain None l.claims ≡ true
  in_order : (l.claims ≡ []) ⊎ (length l.individuals ≡ length o.names.individuals)

-- the lines fit, and the format has numbers for their premises
abbrev AreLines : Ontology → Format → List Line → Type 0
AreLines o format lines = (list_all (fits_line o) lines ≡ true) × HasNumbers format lines

no_lines : (o : Ontology) (format : Format) → AreLines o format []
no_lines o One = (refl, tt)
no_lines o Two = (refl, (lit< tt, tt))

abbrev Fits : Ontology → Part → Type 0
Fits o Empty = Unit {0}
Fits o (InLines format is_consistent lines) = AreLines o format lines
Fits o (InRows format lines listed) = AreLines o format lines × AreRows o listed
Fits o (Complete format c) = (fits_certificate o c ≡ true) × HasNumbers format c.lines

none_yet : (o : Ontology) (domain : ℕ) → fits_domain domain ≡ true → AreRows o (no_rows domain)
none_yet o domain t = record {
  domain = t;
  classes = refl;
  pairs = refl;
  individuals = refl;
  within = omega arith;
  few = omega arith;
  claims = refl;
  in_order = inl refl;
}

row_fits : (o : Ontology) (l : Listed) (row : TextLine) → AreRows o l → fits_row o l row ≡ true → AreRows o (with_row l row)
row_fits o l (ClassLine format row) h t =
    let p = and_parts (is_empty l.pairs && is_empty l.individuals && is_empty l.claims) (fits_class o l.domain (key (last_of l.classes)) row) t in
    record {
      domain = h.domain;
      classes = row_pushed (λ c. c.0) (fits_class o l.domain) l.classes row h.classes p.1;
      pairs = h.pairs;
      individuals = h.individuals;
      within = h.within;
      few = h.few;
      claims = h.claims;
      in_order = h.in_order;
    }
row_fits o l (PairLine format row) h t =
    let p = and_parts (is_empty l.individuals && is_empty l.claims) (fits_pairs o l.domain (pair_key (last_of l.pairs)) row) t in
    record {
      domain = h.domain;
      classes = h.classes;
      pairs = row_pushed (λ p. (p.0, p.1)) (fits_pairs o l.domain) l.pairs row h.pairs p.1;
      individuals = h.individuals;
      within = h.within;
      few = h.few;
      claims = h.claims;
      in_order = h.in_order;
    }
row_fits o l (IndividualLine number element) h t =
    let before = length l.individuals in
    let names = length o.names.individuals in
    let first = is_empty l.claims && eqb number before in
    let p = and_parts (first && ltb number names && is_small number) (ltb element l.domain) t in
    let q = and_parts (first && ltb number names) (is_small number) p.0 in
    let r = and_parts first (ltb number names) q.0 in
    let s = and_parts (is_empty l.claims) (eqb number before) r.0 in
    let same : number ≡ before = eqb-true number before s.1 in
    let there : number < names = ltb-true number names r.1 in
    let small : number < 2 ^ 32 = ltb-true number (2 ^ 32) q.1 in
    let longer : length (l.individuals ++ element ∷ []) ≡ before + 1 = length-append l.individuals (element ∷ []) in
    record {
      domain = h.domain;
      classes = h.classes;
      pairs = h.pairs;
      individuals = all_pushed (λ x. ltb x l.domain) l.individuals element h.individuals p.1;
      within = omega (arith, longer, same, there);
      few = omega (arith, longer, same, small);
      claims = h.claims;
      in_order = inl (none_in l.claims s.0);
    }
row_fits o l (ClaimLine claim) h t =
    let p = and_parts (has_individuals o l) (fits_claim o l.domain (key (last_of l.claims)) claim) t in
    record {
      domain = h.domain;
      classes = h.classes;
      pairs = h.pairs;
      individuals = h.individuals;
      within = h.within;
      few = h.few;
      claims = row_pushed (λ c. c.0) (fits_claim o l.domain) l.claims claim h.claims p.1;
      in_order = inr (eqb-true (length l.individuals) (length o.names.individuals) p.0);
    }
row_fits o l _ h t = absurd (false≢true t)

-- an interpretation that has all its rows
listed_fits : (o : Ontology) (l : Listed) → AreRows o l → has_individuals o l ≡ true → fits_listed o l ≡ true
listed_fits o l h all =
    let d = l.domain in
    let front = fits_domain d && fit_classes o d None l.classes in
    let pairs = fit_pairs o d None l.pairs in
    let few = leb (length l.individuals) (2 ^ 32) in
    let individuals : fit_individuals o d l.individuals ≡ true =
    and_from (has_individuals o l && few) (list_all (λ x. ltb x d) l.individuals) (and_from (has_individuals o l) few all (le-leb (length l.individuals) (2 ^ 32) h.few)) h.individuals in
    and_from (front && pairs && fit_individuals o d l.individuals) (fit_claims o d None l.claims)
    (and_from (front && pairs) (fit_individuals o d l.individuals) (and_from front pairs (and_from (fits_domain d) (fit_classes o d None l.classes) h.domain h.classes) h.pairs) individuals) h.claims

line_fits : (o : Ontology) (part next : Part) (line : TextLine) → Fits o part → with_line o part line ≡ Some next → Fits o next
line_fits o Empty next (FirstLine format is_consistent) h e = subst (Fits o) (same_Some (InLines format is_consistent []) next e) (no_lines o format)
line_fits o Empty next _ h e = absurd (none-some next e)
line_fits o (InLines format is_consistent lines) next (DerivedLine line) h e =
    let n = next_number lines in
    let read = written format n line in
    let p = passed (fits_written o format n line) (Some (InLines format is_consistent (lines ++ read ∷ []))) next e in
    subst (Fits o) (same_Some (InLines format is_consistent (lines ++ read ∷ [])) next p.1)
    (all_pushed (fits_line o) lines read h.0 (read_fits o format n line p.0), numbers_read o format lines line h.1 p.0)
line_fits o (InLines format true lines) next (DomainLine domain) h e =
    let p = passed (fits_domain domain) (Some (InRows format lines (no_rows domain))) next e in
    subst (Fits o) (same_Some (InRows format lines (no_rows domain)) next p.1) (h, none_yet o domain p.0)
line_fits o (InLines format true lines) next _ h e = absurd (none-some next e)
line_fits o (InLines format false lines) next LastLine h e =
    subst (Fits o) (same_Some (Complete format (record { lines = lines; listed = None })) next e) (and_from (list_all (fits_line o) lines) true h.0 refl, h.1)
line_fits o (InLines format false lines) next _ h e = absurd (none-some next e)
line_fits o (InRows format lines l) next LastLine h e =
    let p = passed (has_individuals o l) (Some (Complete format (record { lines = lines; listed = Some l }))) next e in
    subst (Fits o) (same_Some (Complete format (record { lines = lines; listed = Some l })) next p.1)
    (and_from (list_all (fits_line o) lines) (fits_listed o l) h.0.0 (listed_fits o l h.1 p.0), h.0.1)
line_fits o (InRows format lines l) next line h e = one_row line e
  where
    one_row : (row : TextLine) → (if follows_in o format l row then Some (InRows format lines (with_row l row)) else None) ≡ Some next → Fits o next
    one_row row e =
        let p = passed (follows_in o format l row) (Some (InRows format lines (with_row l row))) next e in
        let q = and_parts (fits_row o l row) (is_row_in format row) p.0 in
        subst (Fits o) (same_Some (InRows format lines (with_row l row)) next p.1) (h.0, row_fits o l row h.1 q.0)
line_fits o (Complete format c) next line h e = absurd (none-some next e)

lines_fit : (o : Ontology) (part next : Part) (lines : List TextLine) → Fits o part → with_all o part lines ≡ Some next → Fits o next
lines_fit o part next [] h e = subst (Fits o) (same_Some part next e) h
lines_fit o part next (line ∷ lines) h e = go (with_line o part line) refl (λ step. lines_fit o step next lines) e
  where
    go : (step : Option Part) → with_line o part line ≡ step → ((p : Part) → Fits o p → with_all o p lines ≡ Some next → Fits o next) → then_all o lines step ≡ Some next → Fits o next
    go None is k e = absurd (none-some next e)
    go (Some p) is k e = k p (line_fits o part p line h is) e

-- ---- the lines that are missing

abbrev Completes : Ontology → Part → Type 0
Completes o part = (lines : List TextLine) × (format : Format) × (c : Certificate) × (with_all o part lines ≡ Some (Complete format c))

-- the rows are closed where each individual has its element
closed : (o : Ontology) (format : Format) (lines : List Line) (l : Listed) → length l.individuals ≡ length o.names.individuals
    → with_all o (InRows format lines l) (LastLine ∷ []) ≡ Some (Complete format (record { lines = lines; listed = Some l }))
closed o format lines l all = with_one o (InRows format lines l) (Complete format (record { lines = lines; listed = Some l })) LastLine (rw (eq-eqb (length l.individuals) (length o.names.individuals) all) refl)

rows_complete : (o : Ontology) (format : Format) (lines : List Line) (l : Listed) → length o.names.individuals ≤ 2 ^ 32 → AreRows o l → Completes o (InRows format lines l)
rows_complete o format lines l few h = elim h.in_order [
  | inl none ↦
      let names = length o.names.individuals in
      let missing = names - length l.individuals in
      let elements = replicate missing 0 in
      let full : Listed = record l { individuals = l.individuals ++ elements } in
      let rows = map individual_line (enumerate_from (length l.individuals) elements) in
      let long : length elements ≡ missing = length-replicate missing 0 in
      let some : 1 ≤ l.domain = leb-true 1 l.domain (and_parts (leb 1 l.domain) (is_small l.domain) h.domain).0 in
      let first : ltb 0 l.domain ≡ true = lt-ltb 0 l.domain (omega (arith, some)) in
      let within : list_all (λ x. ltb x l.domain) elements ≡ true =
      passes_every (λ x. ltb x l.domain) elements (recursion_from_All (λ x. ltb x l.domain ≡ true) elements (All-replicate (λ x. ltb x l.domain ≡ true) missing 0 first)) in
      let fits : length l.individuals ≤ names = h.within in
      let all : length full.individuals ≡ names = omega (arith, length-append l.individuals elements, long, fits) in
      let come = individuals_come o format lines l elements none (omega (arith, long, fits)) (omega (arith, long, fits, few)) within in
      (rows ++ LastLine ∷ [], format, record { lines = lines; listed = Some full }, with_more o (InRows format lines l) (InRows format lines full) rows (LastLine ∷ []) come ∙ closed o format lines full all)
  | inr all ↦ (LastLine ∷ [], format, record { lines = lines; listed = Some l }, closed o format lines l all)
]

completes : (o : Ontology) (part : Part) → length o.names.individuals ≤ 2 ^ 32 → Fits o part → Completes o part
completes o Empty few h = (FirstLine One false ∷ LastLine ∷ [], One, record { lines = []; listed = None }, refl)
completes o (InLines format true lines) few h =
    let rest = rows_complete o format lines (no_rows 1) few (none_yet o 1 refl) in
    (DomainLine 1 ∷ rest.0, rest.1, rest.2, with_first o (InLines format true lines) (InRows format lines (no_rows 1)) (DomainLine 1) rest.0 refl ∙ rest.3)
completes o (InLines format false lines) few h = (LastLine ∷ [], format, record { lines = lines; listed = None }, refl)
completes o (InRows format lines l) few h = rows_complete o format lines l few h.1
completes o (Complete format c) few h = ([], format, c, refl)

-- what was read is the beginning of a certificate's text
pub goes_on : (o : Ontology) (part : Part) → length o.names.individuals ≤ 2 ^ 32 → IsPart o part → GoesOn o (part_text part)
goes_on o part few h =
    let fits = lines_fit o Empty part h.0 tt h.1 in
    let rest = completes o part few fits in
    let format = rest.1 in
    let c = rest.2 in
    let all = lines_fit o part (Complete format c) rest.0 fits rest.3 in (
      flat_map text_of rest.0,
      c,
      (format, record { has_text = has_text o format c all.0 all.1; spelled = sym (all_text o part (Complete format c) rest.0 rest.3) }),
    )

-- a whole certificate that lines give has a text
pub complete_has_text : (o : Ontology) (format : Format) (c : Certificate) → IsPart o (Complete format c) → HasText o format c
complete_has_text o format c p = let all = lines_fit o Empty (Complete format c) p.0 tt p.1 in has_text o format c all.0 all.1
