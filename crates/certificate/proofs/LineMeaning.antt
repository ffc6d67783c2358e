-- What the test of a line says.
use Rattle.std.proofs.Common.{◌≡◌, ℕ, ◌^◌, ◌<◌, ◌≤◌, true, ltb, leb, ◌&&◌, List, [], ◌∷◌, length, Option, Some, None, refl}
use Rattle.std.specs.List.{AllByRecursion, list_all}
use Rattle.std.proofs.lemmas.Bool.{ltb-true, lt-ltb, leb-true, le-leb, and_parts, and_from}
use Rattle.axioms.specs.Ontology.{Ontology}
use Rattle.certificate.specs.Certificate.{Subject, Expression, Individual, Conclusion, Sub, Edge, Same, Line}
use Rattle.certificate.specs.Writability.{IsSubjectOf, IsConclusionOf, IsAxiomNumberOf, IsLineOf, subject_number, conclusion_numbers, axiom_numbers, line_numbers}
use Rattle.certificate.specs.Tests.{is_small, fits_subject, fits_property, fits_conclusion, fits_axiom, is_premise, fits_line}
use Rattle.certificate.proofs.Every.{every_append, every_left, every_right, every_weaker, every_passes, passes_every}
use Rattle.certificate.proofs.Many.{Chain}
use Rattle.certificate.proofs.Derivations.{IsNumber, IsSmall, FitsSubject, FitsConclusion, FitsAxiom, FitsLine}

-- below a bound, and of 32 bits
pub below_means : (n bound : ℕ) → (ltb n bound && is_small n) ≡ true → (n < bound) × IsSmall n
below_means n bound t = let p = and_parts (ltb n bound) (is_small n) t in (ltb-true n bound p.0, ltb-true n (2 ^ 32) p.1)

pub below_tests : (n bound : ℕ) → n < bound → IsSmall n → (ltb n bound && is_small n) ≡ true
below_tests n bound lt small = and_from (ltb n bound) (is_small n) (lt-ltb n bound lt) (lt-ltb n (2 ^ 32) small)

subject_means : (o : Ontology) (x : Subject) → fits_subject o x ≡ true → IsSubjectOf o x × IsSmall (subject_number x)
subject_means o (Expression e) t = below_means e (length o.nodes) t
subject_means o (Individual a) t = below_means a (length o.names.individuals) t

subject_tests : (o : Ontology) (x : Subject) → IsSubjectOf o x → IsSmall (subject_number x) → FitsSubject x × (fits_subject o x ≡ true)
subject_tests o (Expression e) h small = (small, below_tests e (length o.nodes) h small)
subject_tests o (Individual a) h small = (small, below_tests a (length o.names.individuals) h small)

abbrev AllSmall : List ℕ → Type 0
AllSmall ns = AllByRecursion IsSmall ns

conclusion_means : (o : Ontology) (c : Conclusion) → fits_conclusion o c ≡ true → IsConclusionOf o c × AllSmall (conclusion_numbers c)
conclusion_means o (Sub x c) t =
    let p = and_parts (fits_subject o x) (fits_subject o (Expression c)) t in
    let a = subject_means o x p.0 in
    let b = subject_means o (Expression c) p.1 in
    ((a.0, b.0), (a.1, (b.1, tt)))
conclusion_means o (Edge x r y) t =
    let p = and_parts (fits_subject o x && fits_property o r) (fits_subject o y) t in
    let q = and_parts (fits_subject o x) (fits_property o r) p.0 in
    let a = subject_means o x q.0 in
    let b = below_means r (length o.names.properties) q.1 in
    let c = subject_means o y p.1 in
    ((a.0, b.0, c.0), (a.1, (b.1, (c.1, tt))))
conclusion_means o (Same a b) t =
    let p = and_parts (fits_subject o (Individual a)) (fits_subject o (Individual b)) t in
    let c = subject_means o (Individual a) p.0 in
    let d = subject_means o (Individual b) p.1 in
    ((c.0, d.0), (c.1, (d.1, tt)))

conclusion_tests : (o : Ontology) (c : Conclusion) → IsConclusionOf o c → AllSmall (conclusion_numbers c) → FitsConclusion c × (fits_conclusion o c ≡ true)
conclusion_tests o (Sub x c) h small =
    let a = subject_tests o x h.0 small.0 in
    let b = subject_tests o (Expression c) h.1 small.1.0 in
    ((a.0, b.0), and_from (fits_subject o x) (fits_subject o (Expression c)) a.1 b.1)
conclusion_tests o (Edge x r y) h small =
    let a = subject_tests o x h.0 small.0 in
    let b = below_tests r (length o.names.properties) h.1 small.1.0 in
    let c = subject_tests o y h.2 small.1.1.0 in
    ((a.0, (small.1.0, c.0)), and_from (fits_subject o x && fits_property o r) (fits_subject o y) (and_from (fits_subject o x) (fits_property o r) a.1 b) c.1)
conclusion_tests o (Same a b) h small =
    let c = subject_tests o (Individual a) h.0 small.0 in
    let d = subject_tests o (Individual b) h.1 small.1.0 in
    ((c.0, d.0), and_from (fits_subject o (Individual a)) (fits_subject o (Individual b)) c.1 d.1)

axiom_means : (o : Ontology) (a : Option ℕ) → fits_axiom o a ≡ true → IsAxiomNumberOf o a × AllSmall (axiom_numbers a)
axiom_means o None t = (tt, tt)
axiom_means o (Some n) t =
    let p = and_parts (leb 1 n && leb n (length o.axioms)) (is_small n) t in
    let q = and_parts (leb 1 n) (leb n (length o.axioms)) p.0 in
    ((leb-true 1 n q.0, leb-true n (length o.axioms) q.1), (ltb-true n (2 ^ 32) p.1, tt))

axiom_tests : (o : Ontology) (a : Option ℕ) → IsAxiomNumberOf o a → AllSmall (axiom_numbers a) → FitsAxiom a × (fits_axiom o a ≡ true)
axiom_tests o None h small = (tt, refl)
axiom_tests o (Some n) h small = (
  small.0,
  and_from (leb 1 n && leb n (length o.axioms)) (is_small n) (and_from (leb 1 n) (leb n (length o.axioms)) (le-leb 1 n h.0) (le-leb n (length o.axioms) h.1)) (lt-ltb n (2 ^ 32) small.0),
)

abbrev pub IsPremise : ℕ → Type 0
IsPremise n = (1 ≤ n) × (n < 2 ^ 64)

pub premise_means : (n : ℕ) → is_premise n ≡ true → IsPremise n
premise_means n t = let p = and_parts (leb 1 n) (ltb n (2 ^ 64)) t in (leb-true 1 n p.0, ltb-true n (2 ^ 64) p.1)

pub premise_tests : (n : ℕ) → IsPremise n → is_premise n ≡ true
premise_tests n h = and_from (leb 1 n) (ltb n (2 ^ 64)) (le-leb 1 n h.0) (lt-ltb n (2 ^ 64) h.1)

premises_fit : (last : Option ℕ) (ns : List ℕ) → AllByRecursion IsPremise ns → Chain (λ (last : Option ℕ). IsNumber) last ns
premises_fit last [] h = tt
premises_fit last (n ∷ ns) h = (h.0.1, premises_fit (Some n) ns h.1)

-- the line names what the ontology has, and its numbers fit
pub record IsWritable (o : Ontology) (line : Line) : Type 0 where
  pub within : IsLineOf o line
  pub premises : AllByRecursion IsPremise line.premises
  pub small : AllByRecursion IsSmall (line_numbers line)

pub line_means : (o : Ontology) (line : Line) → fits_line o line ≡ true → IsWritable o line
line_means o line t =
    let p = and_parts (fits_conclusion o line.conclusion && fits_axiom o line.axiom') (list_all is_premise line.premises) t in
    let q = and_parts (fits_conclusion o line.conclusion) (fits_axiom o line.axiom') p.0 in
    let a = conclusion_means o line.conclusion q.0 in
    let b = axiom_means o line.axiom' q.1 in
    record {
      within = record { conclusion = a.0; axiom' = b.0 };
      premises = every_weaker (λ n. is_premise n ≡ true) IsPremise premise_means line.premises (every_passes is_premise line.premises p.1);
      small = every_append IsSmall (conclusion_numbers line.conclusion) (axiom_numbers line.axiom') a.1 b.1;
    }

pub line_tests : (o : Ontology) (line : Line) → IsWritable o line → FitsLine line × (fits_line o line ≡ true)
line_tests o line h =
    let a = conclusion_tests o line.conclusion h.within.conclusion (every_left IsSmall (conclusion_numbers line.conclusion) (axiom_numbers line.axiom') h.small) in
    let b = axiom_tests o line.axiom' h.within.axiom' (every_right IsSmall (conclusion_numbers line.conclusion) (axiom_numbers line.axiom') h.small) in
    let c = passes_every is_premise line.premises (every_weaker IsPremise (λ n. is_premise n ≡ true) premise_tests line.premises h.premises) in (
      record { conclusion = a.0; axiom' = b.0; premises = premises_fit None line.premises h.premises },
      and_from (fits_conclusion o line.conclusion && fits_axiom o line.axiom') (list_all is_premise line.premises) (and_from (fits_conclusion o line.conclusion) (fits_axiom o line.axiom') a.1 b.1) c,
    )
