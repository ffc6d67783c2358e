-- The tests of a certificate pass exactly where it has a text.
use Rattle.std.proofs.Common.{◌≡◌, ℕ, ◌+◌, ◌^◌, ◌<◌, ◌≤◌, Bool, true, eqb, ltb, leb, ◌&&◌, List, [], ◌∷◌, ◌++◌, length, map, Option, Some, None, refl, arith}
use Rattle.std.specs.Prelude.{IfSome}
use Rattle.std.specs.List.{AllByRecursion, list_all, flat_map, enumerate_from}
use Rattle.std.proofs.lemmas.Bool.{ltb-true, lt-ltb, leb-true, le-leb, eqb-true, eq-eqb, and_parts, and_from}
use Rattle.std.proofs.lemmas.List.Elements.{All-from_recursion, recursion_from_All}
use Rattle.axioms.specs.Ontology.{Ontology}
use Rattle.certificate.specs.Certificate.{Line, Listed, Certificate, Format, One}
use Rattle.certificate.specs.Writability.{IsLineOf, IsListedOf, line_numbers, listed_numbers, certificate_numbers, HasNumbers, HasText}
use Rattle.certificate.specs.Tests.{is_small, fits_line, fits_class, fits_pairs, fits_claim, fits_domain, fit_individuals, fits_listed, fits_option, fits_certificate, fit_classes, fit_pairs, fit_claims, key, pair_key}
use Rattle.certificate.proofs.Every.{every_append, every_left, every_right, every_flat, every_from_flat, every_map, every_from_map, every_both, every_weaker, every_passes, passes_every}
use Rattle.certificate.proofs.Ordered.{chain_from_test, test_from_chain, chain_each, chain_ascends, chain_made, first_made}
use Rattle.certificate.proofs.LineMeaning.{IsPremise, IsWritable, line_means, line_tests}
use Rattle.certificate.proofs.RowMeaning.{IsClassOf, class_parts, class_means, class_tests, IsClaimOf, claim_parts, claim_means, claim_tests, PairRow, IsPairOf, pair_parts, pair_means, before_means, pairs_ordered, pairs_made, first_pair, elements_numbered, elements_within, elements_few, elements_from}
use Rattle.certificate.proofs.Many.{Chain}
use Rattle.certificate.proofs.Derivations.{IsSmall}
use Rattle.certificate.proofs.RowLaws.{IsElementOf, AreElementsOfAll, FitsClassAfter, FitsPairsAfter, FitsClaimAfter}
use Rattle.certificate.proofs.Whole.{FitsLineOf, FitsListed, FitsCertificate}

-- ---- the listed interpretation

abbrev class_key : ℕ × List ℕ → ℕ
class_key c = c.0

abbrev pair_property : PairRow → ℕ
pair_property p = p.0

abbrev individual_key : ℕ × ℕ → ℕ
individual_key a = a.0

abbrev claim_key : ℕ × ℕ → ℕ
claim_key c = c.0

abbrev pair_place : PairRow → ℕ × ℕ
pair_place p = (p.0, p.1)

abbrev class_test : Ontology → ℕ → Option (ℕ × List ℕ) → ℕ × List ℕ → Bool
class_test o d last c = fits_class o d (key last) c

abbrev pair_test : Ontology → ℕ → Option PairRow → PairRow → Bool
pair_test o d last p = fits_pairs o d (pair_key last) p

abbrev claim_test : Ontology → ℕ → Option (ℕ × ℕ) → ℕ × ℕ → Bool
claim_test o d last c = fits_claim o d (key last) c

-- the tests of a listed interpretation
record Passes (o : Ontology) (l : Listed) : Type 0 where
  domain : fits_domain l.domain ≡ true
  classes : Chain (λ last c. class_test o l.domain last c ≡ true) None l.classes
  pairs : Chain (λ last p. pair_test o l.domain last p ≡ true) None l.pairs
  individuals : fit_individuals o l.domain l.individuals ≡ true
  claims : Chain (λ last c. claim_test o l.domain last c ≡ true) None l.claims

listed_passes : (o : Ontology) (l : Listed) → fits_listed o l ≡ true → Passes o l
listed_passes o l t =
    let d = l.domain in
    let classes = fit_classes o d None l.classes in
    let pairs = fit_pairs o d None l.pairs in
    let claims = fit_claims o d None l.claims in
    let p = and_parts (fits_domain d && classes && pairs && fit_individuals o d l.individuals) claims t in
    let q = and_parts (fits_domain d && classes && pairs) (fit_individuals o d l.individuals) p.0 in
    let r = and_parts (fits_domain d && classes) pairs q.0 in
    let s = and_parts (fits_domain d) classes r.0 in
    record {
      domain = s.0;
      classes = chain_from_test class_key (fits_class o d) None l.classes s.1;
      pairs = chain_from_test pair_place (fits_pairs o d) None l.pairs r.1;
      individuals = q.1;
      claims = chain_from_test claim_key (fits_claim o d) None l.claims p.1;
    }

-- what the test of the individuals says
record AreGiven (o : Ontology) (d : ℕ) (xs : List ℕ) : Type 0 where
  each : length xs ≡ length o.names.individuals
  within : AllByRecursion (λ x. x < d) xs
  numbered : AllByRecursion (IsElementOf d) (enumerate_from 0 xs)

individuals_mean : (o : Ontology) (d : ℕ) (xs : List ℕ) → fit_individuals o d xs ≡ true → AreGiven o d xs
individuals_mean o d xs t =
    let n = length o.names.individuals in
    let p = and_parts (eqb (length xs) n && leb (length xs) (2 ^ 32)) (list_all (λ x. ltb x d) xs) t in
    let q = and_parts (eqb (length xs) n) (leb (length xs) (2 ^ 32)) p.0 in
    let within : AllByRecursion (λ x. x < d) xs = every_weaker (λ x. ltb x d ≡ true) (λ x. x < d) (λ x u. ltb-true x d u) xs (every_passes (λ x. ltb x d) xs p.1) in
    record {
      each = eqb-true (length xs) n q.0;
      within = within;
      numbered = elements_numbered d 0 xs (omega (arith, leb-true (length xs) (2 ^ 32) q.1)) within;
    }

individuals_test : (o : Ontology) (d : ℕ) (xs : List ℕ) → AreElementsOfAll d 0 (length o.names.individuals) xs → fit_individuals o d xs ≡ true
individuals_test o d xs h =
    let n = length o.names.individuals in
    let few : 0 + length xs ≤ 2 ^ 32 = elements_few d 0 xs (omega arith) h.0 in
    let within = elements_within d 0 xs h.0 in
    and_from (eqb (length xs) n && leb (length xs) (2 ^ 32)) (list_all (λ x. ltb x d) xs)
    (and_from (eqb (length xs) n) (leb (length xs) (2 ^ 32)) (eq-eqb (length xs) n h.1) (le-leb (length xs) (2 ^ 32) (omega arith)))
    (passes_every (λ x. ltb x d) xs (every_weaker (λ x. x < d) (λ x. ltb x d ≡ true) (λ x u. lt-ltb x d u) xs within))

passed_of : (o : Ontology) (l : Listed) → Passes o l → AreGiven o l.domain l.individuals → IsListedOf o l
passed_of o l p i =
    let d = l.domain in
    record {
      domain = leb-true 1 d (and_parts (leb 1 d) (is_small d) p.domain).0;
      classes = All-from_recursion (IsClassOf o d) l.classes (chain_each _ (IsClassOf o d) (λ last c t. (class_means o d last c t).0) None l.classes p.classes);
      classes_ascend = chain_ascends _ class_key (λ x y t. ltb-true x.0 y.0 (class_parts o d (Some x.0) y t).2) None l.classes p.classes;
      pairs = All-from_recursion (IsPairOf o d) l.pairs (chain_each _ (IsPairOf o d) (λ last q t. (pair_means o d last q t).0) None l.pairs p.pairs);
      pairs_ascend = pairs_ordered _ (λ x y t. before_means x y (pair_parts o d (Some (x.0, x.1)) y t).2) None l.pairs p.pairs;
      individuals = All-from_recursion (λ x. x < d) l.individuals i.within;
      individuals_each = i.each;
      claims = All-from_recursion (IsClaimOf o d) l.claims (chain_each _ (IsClaimOf o d) (λ last c t. (claim_means o d last c t).0) None l.claims p.claims);
      claims_ascend = chain_ascends _ claim_key (λ x y t. ltb-true x.0 y.0 (claim_parts o d (Some x.0) y t).2) None l.claims p.claims;
    }

-- the numbers of the rows
abbrev pair_numbers : Listed → List ℕ
pair_numbers l = map pair_property l.pairs

abbrev individual_numbers : Listed → List ℕ
individual_numbers l = map individual_key (enumerate_from 0 l.individuals)

abbrev claim_numbers : Listed → List ℕ
claim_numbers l = map claim_key l.claims

abbrev class_numbers : Listed → List ℕ
class_numbers l = map class_key l.classes

passed_small : (o : Ontology) (l : Listed) → Passes o l → AreGiven o l.domain l.individuals → AllByRecursion IsSmall (listed_numbers (Some l))
passed_small o l p i =
    let d = l.domain in
    let classes = every_map IsSmall class_key l.classes (chain_each _ (λ c. IsSmall (class_key c)) (λ last c t. (class_means o d last c t).1) None l.classes p.classes) in
    let pairs = every_map IsSmall pair_property l.pairs (chain_each _ (λ q. IsSmall (pair_property q)) (λ last q t. (pair_means o d last q t).1) None l.pairs p.pairs) in
    let individuals = every_map IsSmall individual_key (enumerate_from 0 l.individuals) (every_weaker (IsElementOf d) (λ a. IsSmall (individual_key a)) (λ a h. h.0) (enumerate_from 0 l.individuals) i.numbered) in
    let claims = every_map IsSmall claim_key l.claims (chain_each _ (λ c. IsSmall (claim_key c)) (λ last c t. (claim_means o d last c t).1) None l.claims p.claims) in
    let front = every_append IsSmall (d ∷ class_numbers l) (pair_numbers l) (ltb-true d (2 ^ 32) (and_parts (leb 1 d) (is_small d) p.domain).1, classes) pairs in
    every_append IsSmall ((d ∷ class_numbers l) ++ pair_numbers l ++ individual_numbers l) (claim_numbers l)
    (every_append IsSmall ((d ∷ class_numbers l) ++ pair_numbers l) (individual_numbers l) front individuals) claims

listed_fits : (o : Ontology) (l : Listed) → IsListedOf o l → AllByRecursion IsSmall (listed_numbers (Some l)) → FitsListed o l
listed_fits o l i numbers =
    let d = l.domain in
    let some = every_left IsSmall ((d ∷ class_numbers l) ++ pair_numbers l ++ individual_numbers l) (claim_numbers l) numbers in
    let few = every_left IsSmall ((d ∷ class_numbers l) ++ pair_numbers l) (individual_numbers l) some in
    let first = every_left IsSmall (d ∷ class_numbers l) (pair_numbers l) few in
    let small : d ≤ 2 ^ 32 = omega (arith, first.0) in
    let class_small = every_from_map IsSmall class_key l.classes first.1 in
    let pair_small = every_from_map IsSmall pair_property l.pairs (every_right IsSmall (d ∷ class_numbers l) (pair_numbers l) few) in
    let individual_small = every_right IsSmall ((d ∷ class_numbers l) ++ pair_numbers l) (individual_numbers l) some in
    let claim_small = every_from_map IsSmall claim_key l.claims (every_right IsSmall ((d ∷ class_numbers l) ++ pair_numbers l ++ individual_numbers l) (claim_numbers l) numbers) in
    let classes = every_both (IsClassOf o d) (λ c. IsSmall (class_key c)) l.classes (recursion_from_All (IsClassOf o d) l.classes i.classes) class_small in
    let pairs = every_both (IsPairOf o d) (λ q. IsSmall (pair_property q)) l.pairs (recursion_from_All (IsPairOf o d) l.pairs i.pairs) pair_small in
    let claims = every_both (IsClaimOf o d) (λ c. IsSmall (claim_key c)) l.claims (recursion_from_All (IsClaimOf o d) l.claims i.claims) claim_small in
    let IsClass : ℕ × List ℕ → Type 0 = λ c. IsClassOf o d c × IsSmall c.0 in
    let IsClaim : ℕ × ℕ → Type 0 = λ c. IsClaimOf o d c × IsSmall c.0 in
    record {
      domain = (first.0, and_from (leb 1 d) (is_small d) (le-leb 1 d i.domain) (lt-ltb d (2 ^ 32) first.0));
      classes = chain_made (FitsClassAfter o d) IsClass class_key (λ x y v lt. class_tests o d (Some x) y small v (lt-ltb x.0 y.0 lt)) None l.classes
          (first_made (FitsClassAfter o d None) IsClass (λ x v. class_tests o d None x small v refl) l.classes classes) classes i.classes_ascend;
      pairs = pairs_made o d None l.pairs small pairs i.pairs_ascend (first_pair l.pairs);
      individuals = (elements_from d 0 l.individuals individual_small (recursion_from_All (λ x. x < d) l.individuals i.individuals), i.individuals_each);
      claims = chain_made (FitsClaimAfter o d) IsClaim claim_key (λ x y v lt. claim_tests o d (Some x) y small v (lt-ltb x.0 y.0 lt)) None l.claims
          (first_made (FitsClaimAfter o d None) IsClaim (λ x v. claim_tests o d None x small v refl) l.claims claims) claims i.claims_ascend;
    }

listed_tests : (o : Ontology) (l : Listed) → FitsListed o l → fits_listed o l ≡ true
listed_tests o l f =
    let d = l.domain in
    let classes = fit_classes o d None l.classes in
    let pairs = fit_pairs o d None l.pairs in
    let claims = fit_claims o d None l.claims in
    let a : classes ≡ true = test_from_chain (FitsClassAfter o d) class_key (fits_class o d) (λ last c v. v.1) None l.classes f.classes in
    let b : pairs ≡ true = test_from_chain (FitsPairsAfter o d) pair_place (fits_pairs o d) (λ last p v. v.1) None l.pairs f.pairs in
    let c : claims ≡ true = test_from_chain (FitsClaimAfter o d) claim_key (fits_claim o d) (λ last c v. v.1) None l.claims f.claims in
    and_from (fits_domain d && classes && pairs && fit_individuals o d l.individuals) claims
    (and_from (fits_domain d && classes && pairs) (fit_individuals o d l.individuals) (and_from (fits_domain d && classes) pairs (and_from (fits_domain d) classes f.domain.1 a) b) (individuals_test o d l.individuals f.individuals)) c

-- ---- certificates

option_means : (o : Ontology) (listed : Option Listed) → fits_option o listed ≡ true → IfSome listed (IsListedOf o) × AllByRecursion IsSmall (listed_numbers listed)
option_means o None t = (tt, tt)
option_means o (Some l) t =
    let p = listed_passes o l t in
    let i = individuals_mean o l.domain l.individuals p.individuals in
    (passed_of o l p i, passed_small o l p i)

option_fits : (o : Ontology) (listed : Option Listed) → IfSome listed (IsListedOf o) → AllByRecursion IsSmall (listed_numbers listed) → IfSome listed (FitsListed o)
option_fits o None i small = tt
option_fits o (Some l) i small = listed_fits o l i small

option_tests : (o : Ontology) (listed : Option Listed) → IfSome listed (FitsListed o) → fits_option o listed ≡ true
option_tests o None f = refl
option_tests o (Some l) f = listed_tests o l f

abbrev HasPremises : Line → Type 0
HasPremises line = AllByRecursion IsPremise line.premises

abbrev HasSmall : Line → Type 0
HasSmall line = AllByRecursion IsSmall (line_numbers line)

pub has_text : (o : Ontology) (format : Format) (c : Certificate) → fits_certificate o c ≡ true → HasNumbers format c.lines → HasText o format c
has_text o format c t written =
    let p = and_parts (list_all (fits_line o) c.lines) (fits_option o c.listed) t in
    let lines : AllByRecursion (IsWritable o) c.lines = every_weaker (λ line. fits_line o line ≡ true) (IsWritable o) (line_means o) c.lines (every_passes (fits_line o) c.lines p.0) in
    let listed = option_means o c.listed p.1 in
    record {
      lines = All-from_recursion (IsLineOf o) c.lines (every_weaker (IsWritable o) (IsLineOf o) (λ line w. w.within) c.lines lines);
      listed = listed.0;
      premises = All-from_recursion _ c.lines (every_weaker (IsWritable o) _ (λ line w. All-from_recursion IsPremise line.premises w.premises) c.lines lines);
      numbers = All-from_recursion IsSmall (certificate_numbers c)
          (every_append IsSmall (flat_map line_numbers c.lines) (listed_numbers c.listed) (every_flat IsSmall line_numbers c.lines (every_weaker (IsWritable o) HasSmall (λ line w. w.small) c.lines lines)) listed.1);
      written = written;
    }

writable : (o : Ontology) (lines : List Line) → AllByRecursion (IsLineOf o) lines → AllByRecursion HasPremises lines → AllByRecursion HasSmall lines → (last : Option Line) → Chain (FitsLineOf o) last lines
writable o [] within premises small last = tt
writable o (line ∷ lines) within premises small last = (
  line_tests o line (record { within = within.0; premises = premises.0; small = small.0 }),
  writable o lines within.1 premises.1 small.1 (Some line),
)

certificate_fits : (o : Ontology) (format : Format) (c : Certificate) → HasText o format c → FitsCertificate o c
certificate_fits o format c h =
    let numbers = recursion_from_All IsSmall (certificate_numbers c) h.numbers in
    let small = every_from_flat IsSmall line_numbers c.lines (every_left IsSmall (flat_map line_numbers c.lines) (listed_numbers c.listed) numbers) in
    let premises = every_weaker _ HasPremises (λ line p. recursion_from_All IsPremise line.premises p) c.lines (recursion_from_All _ c.lines h.premises) in
    record {
      lines = writable o c.lines (recursion_from_All (IsLineOf o) c.lines h.lines) premises small None;
      listed = option_fits o c.listed h.listed (every_right IsSmall (flat_map line_numbers c.lines) (listed_numbers c.listed) numbers);
    }

lines_pass : (o : Ontology) (last : Option Line) (lines : List Line) → Chain (FitsLineOf o) last lines → list_all (fits_line o) lines ≡ true
lines_pass o last [] c = refl
lines_pass o last (line ∷ lines) c = and_from (fits_line o line) (list_all (fits_line o) lines) c.0.1 (lines_pass o (Some line) lines c.1)

certificate_tests : (o : Ontology) (c : Certificate) → FitsCertificate o c → fits_certificate o c ≡ true
certificate_tests o c f = and_from (list_all (fits_line o) c.lines) (fits_option o c.listed) (lines_pass o None c.lines f.lines) (option_tests o c.listed f.listed)

pub text_tests : (o : Ontology) (format : Format) (c : Certificate) → HasText o format c → fits_certificate o c ≡ true
text_tests o format c h = certificate_tests o c (certificate_fits o format c h)

-- a text in a format is one in format 1 with numbers for the premises
pub in_one : (o : Ontology) (format : Format) (c : Certificate) → HasText o format c → HasText o One c
in_one o format c h = record { lines = h.lines; listed = h.listed; premises = h.premises; numbers = h.numbers; written = tt }

pub in_format : (o : Ontology) (format : Format) (c : Certificate) → HasText o One c → HasNumbers format c.lines → HasText o format c
in_format o format c h written = record { lines = h.lines; listed = h.listed; premises = h.premises; numbers = h.numbers; written = written }
