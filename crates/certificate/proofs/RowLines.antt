-- Bytes that are one row of a listed interpretation.
use Rattle.std.proofs.Common.{◌≡◌, ℕ, ◌^◌, ◌≤◌, List, length, Option, Some, None, Bool, true, false, eqb, ltb, ◌&&◌, refl, arith}
use Rattle.std.proofs.lemmas.Bool.{ltb-true, lt-ltb, and_parts, and_from}
use Rattle.axioms.specs.Ontology.{Ontology}
use Rattle.certificate.specs.Certificate.{Format}
use Rattle.certificate.specs.Text.{class_text, pairs_text, individual_text, claim_text}
use Rattle.certificate.specs.Tests.{is_small, fits_class, fits_pairs, fits_claim}
use Rattle.certificate.specs.Reading.{Reader}
use Rattle.certificate.specs.ListedReading.{class_row_at, fitting_class_at, pair_row_at, fitting_pairs_at, individual_at, claim_row_at, fitting_claim_at}
use Rattle.certificate.specs.SingleLines.{IsTextOfOne}
use Rattle.certificate.proofs.Laws.{Reads, Anything, restated, such_reads}
use Rattle.certificate.proofs.OneLine.{read_as, none_read_as, more_than_one}
use Rattle.certificate.proofs.Ordered.{elements_mean}
use Rattle.certificate.proofs.LineMeaning.{below_means}
use Rattle.certificate.proofs.RowMeaning.{named_means, class_parts, pair_parts, claim_parts}
use Rattle.certificate.proofs.RowLaws.{IsClassText, class_row_reads, IsPairText, pair_row_reads, elements_are_read, IsClaimRow, claim_row_reads, IsElementOf, individual_reads}

-- ---- a reader of just the texts of values that pass a test

pub record ReadsThose {A : Type 0} (text : A → List ℕ) (test : A → Bool) (read : Reader A) : Type 0 where
  pub reads : Reads Anything (λ x. test x ≡ true) text read

pub one_read : {A : Type 0} (text : A → List ℕ) (test : A → Bool) (read : Reader A) → ReadsThose text test read
    → (bytes : List ℕ) (x : A) (rest : List ℕ) → read bytes ≡ Some (x, rest) → eqb (length rest) 0 ≡ true → IsTextOfOne text test bytes (Some x)
one_read text test read h bytes x rest e left = read_as Anything (λ x. test x ≡ true) text read h.reads bytes x rest e left

pub none_read_at_all : {A : Type 0} (text : A → List ℕ) (test : A → Bool) (read : Reader A) → ReadsThose text test read
    → (bytes : List ℕ) → read bytes ≡ None → IsTextOfOne text test bytes None
none_read_at_all text test read h bytes none x e t = none_read_as Anything (λ x. test x ≡ true) text read h.reads tt bytes none x t e

pub more_than_that : {A : Type 0} (text : A → List ℕ) (test : A → Bool) (read : Reader A) → ReadsThose text test read
    → (bytes : List ℕ) (y : A) (rest : List ℕ) → read bytes ≡ Some (y, rest) → eqb (length rest) 0 ≡ false → IsTextOfOne text test bytes None
more_than_that text test read h bytes y rest some left x e t =
    more_than_one Anything (λ x. test x ≡ true) text read h.reads tt bytes y rest some left x t e

-- from the law of all rows
tested : {A : Type 0} (IsValid : A → Type 0) (text : A → List ℕ) (test : A → Bool) (read : Reader A) → Reads Anything (λ x. IsValid x × (test x ≡ true)) text read
    → ((x : A) → test x ≡ true → IsValid x) → ReadsThose text test read
tested IsValid text test read h valid = record {
  reads = restated Anything Anything (λ x. IsValid x × (test x ≡ true)) (λ x. test x ≡ true) text text read h (λ rest a. a) (λ x v. v.1) (λ x t. (valid x t, t)) (λ x. refl);
}

-- ---- the rows of each kind

class_valid : (o : Ontology) (format : Format) (d : ℕ) (last : Option ℕ) → d ≤ 2 ^ 32 → (c : ℕ × List ℕ) → fits_class o d last c ≡ true → IsClassText format d c
class_valid o format d last small c t =
    let p = class_parts o d last c t in
    ((named_means o c.0 p.0).1, elements_are_read format d c.1 small (elements_mean d c.1 p.3))

pub reads_classes : (o : Ontology) (format : Format) (d : ℕ) (last : Option ℕ) → d ≤ 2 ^ 32 → ReadsThose (class_text format) (fits_class o d last) (fitting_class_at o format d last)
unfolding fitting_class_at
reads_classes o format d last small =
    tested (IsClassText format d) (class_text format) (fits_class o d last) (fitting_class_at o format d last)
    (such_reads Anything (IsClassText format d) (class_text format) (class_row_at format d) (fits_class o d last) (class_row_reads format d)) (class_valid o format d last small)

pair_valid : (o : Ontology) (format : Format) (d : ℕ) (last : Option (ℕ × ℕ)) → d ≤ 2 ^ 32 → (p : ℕ × ℕ × List ℕ) → fits_pairs o d last p ≡ true → IsPairText format d p
pair_valid o format d last small p t =
    let a = pair_parts o d last p t in
    ((below_means p.0 (length o.names.properties) a.0).1, omega (arith, ltb-true p.1 d a.1), elements_are_read format d p.2 small (elements_mean d p.2 a.3))

pub reads_pairs : (o : Ontology) (format : Format) (d : ℕ) (last : Option (ℕ × ℕ)) → d ≤ 2 ^ 32 → ReadsThose (pairs_text format) (fits_pairs o d last) (fitting_pairs_at o format d last)
unfolding fitting_pairs_at
reads_pairs o format d last small =
    tested (IsPairText format d) (pairs_text format) (fits_pairs o d last) (fitting_pairs_at o format d last)
    (such_reads Anything (IsPairText format d) (pairs_text format) (pair_row_at format d) (fits_pairs o d last) (pair_row_reads format d)) (pair_valid o format d last small)

claim_valid : (o : Ontology) (d : ℕ) (last : Option ℕ) → d ≤ 2 ^ 32 → (c : ℕ × ℕ) → fits_claim o d last c ≡ true → IsClaimRow c
claim_valid o d last small c t =
    let p = claim_parts o d last c t in
    ((named_means o c.0 p.0).1, omega (arith, ltb-true c.1 d p.1))

pub reads_claims : (o : Ontology) (d : ℕ) (last : Option ℕ) → d ≤ 2 ^ 32 → ReadsThose claim_text (fits_claim o d last) (fitting_claim_at o d last)
unfolding fitting_claim_at
reads_claims o d last small =
    tested IsClaimRow claim_text (fits_claim o d last) (fitting_claim_at o d last)
    (such_reads Anything IsClaimRow claim_text claim_row_at (fits_claim o d last) claim_row_reads) (claim_valid o d last small)

pub reads_element : (d k : ℕ) → d ≤ 2 ^ 32 → ReadsThose (λ x. individual_text (k, x)) (λ x. is_small k && ltb x d) (individual_at d k)
reads_element d k small = record {
  reads = restated Anything Anything (λ x. IsElementOf d (k, x)) (λ x. (is_small k && ltb x d) ≡ true) (λ x. individual_text (k, x)) (λ x. individual_text (k, x)) (individual_at d k)
      (individual_reads d k small) (λ rest a. a) (λ x v. and_from (is_small k) (ltb x d) (lt-ltb k (2 ^ 32) v.0) (lt-ltb x d v.1))
      (λ x t. let p = and_parts (is_small k) (ltb x d) t in (ltb-true k (2 ^ 32) p.0, ltb-true x d p.1)) (λ x. refl);
}
