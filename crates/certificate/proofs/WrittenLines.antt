-- Lines with their premises as they are written.
use Rattle.std.proofs.Common.{◌≡◌, ℕ, ◌+◌, ◌-◌, ◌^◌, ◌<◌, ◌≤◌, true, ltb, ◌&&◌, List, [], ◌∷◌, ◌++◌, length, refl, sym, ap, ap₂, ◌∙◌, subst, arith}
use Rattle.std.specs.List.{All, AllByRecursion, list_all, flat_map}
use Rattle.std.proofs.lemmas.Bool.{ltb-true, lt-ltb, and_parts, and_from}
use Rattle.std.proofs.lemmas.List.{append-nil, length-append}
use Rattle.std.proofs.lemmas.List.Concat.{flat_map-append}
use Rattle.std.proofs.lemmas.List.Elements.{All-from_recursion, recursion_from_All}
use Rattle.axioms.specs.Ontology.{Ontology}
use Rattle.certificate.specs.Certificate.{Line, Format, One, Two}
use Rattle.certificate.specs.Text.{line_text, written_premises, written, written_from, lines_text}
use Rattle.certificate.specs.Runs.{distances}
use Rattle.certificate.specs.Tests.{is_premise, fits_conclusion, fits_axiom, fits_line, are_back, fits_written}
use Rattle.certificate.specs.TextLines.{next_number}
use Rattle.certificate.specs.Writability.{AreEarlier, HasNumbers}
use Rattle.certificate.proofs.Every.{every_weaker, every_both, every_passes, passes_every}
use Rattle.certificate.proofs.LineMeaning.{premise_means, premise_tests}

-- line n has numbers for its premises in the format
abbrev pub HasNumbersAt : Format → ℕ → Line → Type 0
HasNumbersAt One n line = Unit {0}
HasNumbersAt Two n line = (n < 2 ^ 64) × All (λ p. p < n) line.premises

-- ---- one line

pub with_premises : (format : Format) (n : ℕ) (line : Line) → written format n line ≡ record line { premises = written_premises format n line.premises }
with_premises One n line = refl
with_premises Two n line = refl

-- a premise of line n that is earlier, of a line that 64 bits count
abbrev pub IsBack : ℕ → ℕ → Type 0
IsBack n p = (1 ≤ p) × (p < n)

pub premises_back : (n : ℕ) (ps : List ℕ) → AllByRecursion (IsBack n) ps → distances n (distances n ps) ≡ ps
premises_back n [] h = refl
premises_back n (p ∷ ps) h =
    let e : n - (n - p) ≡ p = omega (arith, h.0.0, h.0.1) in
    ap₂ (λ a b. a ∷ b) e (premises_back n ps h.1)

pub distances_back : (n : ℕ) (ps : List ℕ) → AllByRecursion (IsBack n) ps → AllByRecursion (IsBack n) (distances n ps)
distances_back n [] h = tt
distances_back n (p ∷ ps) h =
    let a : 1 ≤ n - p = omega (arith, h.0.0, h.0.1) in
    let b : n - p < n = omega (arith, h.0.0, h.0.1) in
    ((a, b), distances_back n ps h.1)

-- what the test of a line as it is written says of format 2
record IsBackLine (n : ℕ) (line : Line) : Type 0 where
  counted : n < 2 ^ 64
  back : AllByRecursion (IsBack n) line.premises

line_parts : (o : Ontology) (line : Line) → fits_line o line ≡ true → ((fits_conclusion o line.conclusion && fits_axiom o line.axiom') ≡ true) × (list_all is_premise line.premises ≡ true)
line_parts o line t = and_parts (fits_conclusion o line.conclusion && fits_axiom o line.axiom') (list_all is_premise line.premises) t

back_means : (o : Ontology) (n : ℕ) (line : Line) → fits_written o Two n line ≡ true → IsBackLine n line
back_means o n line t =
    let p = and_parts (fits_line o line) (are_back Two n line.premises) t in
    let q = and_parts (ltb n (2 ^ 64)) (list_all (λ d. ltb d n) line.premises) p.1 in
    record {
      counted = ltb-true n (2 ^ 64) q.0;
      back = every_both (λ d. 1 ≤ d) (λ d. d < n) line.premises
          (every_weaker (λ d. is_premise d ≡ true) (λ d. 1 ≤ d) (λ d u. (premise_means d u).0) line.premises (every_passes is_premise line.premises (line_parts o line p.0).1))
          (every_weaker (λ d. ltb d n ≡ true) (λ d. d < n) (λ d u. ltb-true d n u) line.premises (every_passes (λ d. ltb d n) line.premises q.1));
    }

pub premises_pass : (n : ℕ) (ps : List ℕ) → n < 2 ^ 64 → AllByRecursion (IsBack n) ps → list_all is_premise ps ≡ true
premises_pass n ps counted h =
    passes_every is_premise ps (every_weaker (IsBack n) (λ p. is_premise p ≡ true) (λ p k. premise_tests p (k.0, omega (arith, k.1, counted))) ps h)

-- a line of format 2 is the same both ways
back_tests : (o : Ontology) (n : ℕ) (line : Line) → fits_line o line ≡ true → IsBackLine n line → fits_written o Two n (written Two n line) ≡ true
back_tests o n line t h =
    let back = distances_back n line.premises h.back in
    let below = passes_every (λ d. ltb d n) (distances n line.premises) (every_weaker (IsBack n) (λ d. ltb d n ≡ true) (λ d k. lt-ltb d n k.1) (distances n line.premises) back) in
    and_from (fits_line o (written Two n line)) (are_back Two n (distances n line.premises))
    (and_from (fits_conclusion o line.conclusion && fits_axiom o line.axiom') (list_all is_premise (distances n line.premises)) (line_parts o line t).0
    (premises_pass n (distances n line.premises) h.counted back))
    (and_from (ltb n (2 ^ 64)) (list_all (λ d. ltb d n) (distances n line.premises)) (lt-ltb n (2 ^ 64) h.counted) below)

-- what is read of a line is a line of the certificate
pub read_fits : (o : Ontology) (format : Format) (n : ℕ) (line : Line) → fits_written o format n line ≡ true → fits_line o (written format n line) ≡ true
read_fits o One n line t = (and_parts (fits_line o line) true t).0
read_fits o Two n line t =
    let h = back_means o n line t in
    (and_parts (fits_line o (written Two n line)) _ (back_tests o n line (and_parts (fits_line o line) (are_back Two n line.premises) t).0 h)).0

pub written_fits : (o : Ontology) (format : Format) (n : ℕ) (line : Line) → fits_written o format n line ≡ true → fits_line o line ≡ true
written_fits o format n line t = (and_parts (fits_line o line) (are_back format n line.premises) t).0

-- what was read is written so again
pub written_back : (o : Ontology) (format : Format) (n : ℕ) (line : Line) → fits_written o format n line ≡ true → written format n (written format n line) ≡ line
written_back o One n line t = refl
written_back o Two n line t = ap (λ (ps : List ℕ). record line { premises = ps }) (premises_back n line.premises (back_means o n line t).back)

-- lines behind others have numbers in the format
abbrev pub HasNumbersFrom : Format → List Line → List Line → Type 0
HasNumbersFrom One before lines = Unit {0}
HasNumbersFrom Two before lines = (length before + length lines < 2 ^ 64) × AreEarlier (next_number before) lines

-- ---- lines

pub from_append : (format : Format) (n : ℕ) (lines : List Line) (line : Line) → written_from format n (lines ++ line ∷ []) ≡ written_from format n lines ++ written format (n + length lines) line ∷ []
from_append One n lines line = refl
from_append Two n [] line = let e : n ≡ n + 0 = omega arith in ap (λ (m : ℕ). written Two m line ∷ []) e
from_append Two n (first ∷ lines) line =
    let e : (n + 1) + length lines ≡ n + length (first ∷ lines) = omega arith in
    ap (λ (ls : List Line). written Two n first ∷ ls) (from_append Two (n + 1) lines line)
    ∙ ap (λ (m : ℕ). written Two n first ∷ (written_from Two (n + 1) lines ++ written Two m line ∷ [])) e

pub with_next : (format : Format) (lines : List Line) (line : Line) → written_from format 1 (lines ++ line ∷ []) ≡ written_from format 1 lines ++ written format (next_number lines) line ∷ []
with_next format lines line =
    let e : 1 + length lines ≡ next_number lines = omega arith in
    from_append format 1 lines line ∙ ap (λ (m : ℕ). written_from format 1 lines ++ written format m line ∷ []) e

-- the text of one line more
pub next_text : (format : Format) (lines : List Line) (line : Line) → lines_text format 1 (lines ++ line ∷ []) ≡ lines_text format 1 lines ++ line_text (written format (next_number lines) line)
next_text format lines line =
    let next = written format (next_number lines) line in
    ap (flat_map line_text) (with_next format lines line) ∙ flat_map-append line_text (written_from format 1 lines) (next ∷ [])
    ∙ ap (λ (s : List ℕ). lines_text format 1 lines ++ s) (append-nil (line_text next))

pub earlier_more : (n : ℕ) (lines : List Line) (line : Line) → AreEarlier n lines → All (λ p. p < n + length lines) line.premises → AreEarlier n (lines ++ line ∷ [])
earlier_more n [] line h k = let e : n + 0 ≡ n = omega arith in (subst (λ (m : ℕ). All (λ p. p < m) line.premises) e k, tt)
earlier_more n (first ∷ lines) line h k =
    let e : n + length (first ∷ lines) ≡ (n + 1) + length lines = omega arith in
    (h.0, earlier_more (n + 1) lines line h.1 (subst (λ (m : ℕ). All (λ p. p < m) line.premises) e k))

pub numbers_more : (format : Format) (lines : List Line) (line : Line) → HasNumbers format lines → HasNumbersAt format (next_number lines) line → HasNumbers format (lines ++ line ∷ [])
numbers_more One lines line h k = tt
numbers_more Two lines line h k =
    let long : length (lines ++ line ∷ []) ≡ length lines + 1 = length-append lines (line ∷ []) in
    let same : next_number lines ≡ 1 + length lines = omega arith in
    (omega (arith, long, k.0), earlier_more 1 lines line h.1 (subst (λ (m : ℕ). All (λ p. p < m) line.premises) same k.1))

-- .. with one that was read
pub numbers_read : (o : Ontology) (format : Format) (lines : List Line) (line : Line) → HasNumbers format lines → fits_written o format (next_number lines) line ≡ true
    → HasNumbers format (lines ++ written format (next_number lines) line ∷ [])
numbers_read o One lines line h t = tt
numbers_read o Two lines line h t =
    let n = next_number lines in
    let b = back_means o n line t in
    let back = distances_back n line.premises b.back in
    numbers_more Two lines (written Two n line) h (b.counted, All-from_recursion (λ p. p < n) (distances n line.premises) (every_weaker (IsBack n) (λ p. p < n) (λ p k. k.1) (distances n line.premises) back))

premises_are_back : (o : Ontology) (n : ℕ) (line : Line) → fits_line o line ≡ true → HasNumbersAt Two n line → AllByRecursion (IsBack n) line.premises
premises_are_back o n line t h =
    every_both (λ p. 1 ≤ p) (λ p. p < n) line.premises
    (every_weaker (λ p. is_premise p ≡ true) (λ p. 1 ≤ p) (λ p u. (premise_means p u).0) line.premises (every_passes is_premise line.premises (line_parts o line t).1))
    (recursion_from_All (λ p. p < n) line.premises h.1)

-- the first of lines that have numbers fits as it is written
pub first_fits : (o : Ontology) (format : Format) (n : ℕ) (line : Line) → fits_line o line ≡ true → HasNumbersAt format n line → fits_written o format n (written format n line) ≡ true
first_fits o One n line t h = and_from (fits_line o line) true t refl
first_fits o Two n line t h =
    back_tests o n line t (record { counted = h.0; back = premises_are_back o n line t h })

-- the numbers of lines that are part of others
pub numbers_behind : (format : Format) (before : List Line) (line : Line) (lines : List Line) → HasNumbersFrom format before (line ∷ lines)
    → HasNumbersAt format (next_number before) line × HasNumbersFrom format (before ++ line ∷ []) lines
numbers_behind One before line lines h = (tt, tt)
numbers_behind Two before line lines h =
    let long : length (before ++ line ∷ []) ≡ length before + 1 = length-append before (line ∷ []) in
    let here : next_number before < 2 ^ 64 = omega (arith, h.0) in
    ((here, h.1.0), (omega (arith, h.0, long), subst (λ (m : ℕ). AreEarlier (m + 1) lines) (sym long) h.1.1))

pub all_numbers : (format : Format) (lines : List Line) → HasNumbers format lines → HasNumbersFrom format [] lines
all_numbers One lines h = tt
all_numbers Two lines h = (omega (arith, h.0), h.1)

pub first_written : (format : Format) (n : ℕ) (line : Line) (lines : List Line) → written_from format n (line ∷ lines) ≡ written format n line ∷ written_from format (n + 1) lines
first_written One n line lines = refl
first_written Two n line lines = refl

-- what is written is read so again
pub written_again : (o : Ontology) (format : Format) (n : ℕ) (line : Line) → fits_line o line ≡ true → HasNumbersAt format n line → written format n (written format n line) ≡ line
written_again o One n line t h = refl
written_again o Two n line t h =
    ap (λ (ps : List ℕ). record line { premises = ps }) (premises_back n line.premises (premises_are_back o n line t h))
