-- The text of lines, which is read again as it grows.
use Rattle.std.proofs.Common.{◌≡◌, ℕ, zero, suc, ◌+◌, ◌^◌, ◌<◌, arith, lit<, drop, ap₂, append_assoc, slice_get, true, ◌&&◌, List, [], ◌∷◌, ◌++◌, length, map, Option, Some, None, refl, sym, ap, subst, ◌∙◌}
use Rattle.std.specs.Prelude.{codes}
use Rattle.std.specs.List.{All, list_all, flat_map}
use Rattle.std.proofs.lemmas.Bool.{and_parts, and_from, ltb-true}
use Rattle.std.proofs.lemmas.List.{append-nil, length-append, length-map, map-append}
use Rattle.std.proofs.lemmas.List.Folds.{list_all-append}
use Rattle.std.proofs.lemmas.Option.{same_Some, slice_get-map}
use Rattle.std.specs.Option.{option_map}
use Rattle.lemmas.proofs.Mapped.{slice_get_map}
use Rattle.axioms.specs.View.{at_number}
use Rattle.certificate.specs.Certificate.{Subject, Expression, Individual, Conclusion, Sub, Edge, Same, Line, source_of}
use Rattle.certificate.specs.declared.format.Format.{Format}
use Rattle.certificate.specs.declared.format.Format.TheVariants.{One, Two}
use Rattle.certificate.specs.Tests.{is_small, is_premise}
use Rattle.certificate.specs.LineReading.{conclusion_at, line_at}
use Rattle.certificate_text.specs.LineText.{first_line, lines_in, is_small_subject, is_small_conclusion, is_small_axiom, fits_types, IsLineText, HasNumbersOf}
use Rattle.certificate.specs.Reading.{many_from, many}
use Rattle.certificate.specs.Runs.{distances}
use Rattle.certificate.specs.Text.{line_feed, line_text, written, written_from, lines_text}
use Rattle.certificate.specs.TextLines.{next_number}
use Rattle.certificate.specs.Writability.{HasNumbers}
use Rattle.certificate.specs.View.{subject_of}
use Rattle.certificate.specs.declared.line.Subject.{Subject as Subject2}
use Rattle.certificate.proofs.Derivations.{IsSmall, IsNumber, FitsSubject, FitsConclusion, FitsAxiom, FitsLine, line_front, line_reads}
use Rattle.certificate.proofs.Laws.{Reads, Anything}
use Rattle.certificate.proofs.LineMeaning.{premise_means}
use Rattle.certificate.proofs.Many.{Chain, ReadsEach, many_reads}
use Rattle.certificate.proofs.RowLaws.{NoWord}
use Rattle.certificate.proofs.WrittenLines.{HasNumbersAt, HasNumbersFrom, all_numbers, numbers_behind, numbers_more, next_text}
use Rattle.certificate_text.proofs.Distances.{distances_pass, distances_again}

-- ---- numbers that fit are read again

small_means : (n : ℕ) → is_small n ≡ true → IsSmall n
small_means n t = ltb-true n (2 ^ 32) t

subject_fits : (x : Subject) → is_small_subject x ≡ true → FitsSubject x
subject_fits (Expression e) t = small_means e t
subject_fits (Individual a) t = small_means a t

conclusion_fits : (c : Conclusion) → is_small_conclusion c ≡ true → FitsConclusion c
conclusion_fits (Sub x c) t =
    let p = and_parts (is_small_subject x) (is_small c) t in
    (subject_fits x p.0, small_means c p.1)
conclusion_fits (Edge x r y) t =
    let p = and_parts (is_small_subject x) (is_small r && is_small_subject y) t in
    let q = and_parts (is_small r) (is_small_subject y) p.1 in
    (subject_fits x p.0, (small_means r q.0, subject_fits y q.1))
conclusion_fits (Same a b) t =
    let p = and_parts (is_small a) (is_small b) t in
    (small_means a p.0, small_means b p.1)

axiom_fits : (a : Option ℕ) → is_small_axiom a ≡ true → FitsAxiom a
axiom_fits None t = tt
axiom_fits (Some n) t = small_means n t

premises_fit : (last : Option ℕ) (ns : List ℕ) → list_all is_premise ns ≡ true → Chain (λ (last : Option ℕ). IsNumber) last ns
premises_fit last [] t = tt
premises_fit last (n ∷ ns) t =
    let p = and_parts (is_premise n) (list_all is_premise ns) t in
    ((premise_means n p.0).1, premises_fit (Some n) ns p.1)

line_fits : (line : Line) → fits_types line ≡ true → FitsLine line
line_fits line t =
    let p = and_parts (is_small_conclusion line.conclusion) (is_small_axiom line.axiom' && list_all is_premise line.premises) t in
    let q = and_parts (is_small_axiom line.axiom') (list_all is_premise line.premises) p.1 in
    record { conclusion = conclusion_fits line.conclusion p.0; axiom' = axiom_fits line.axiom' q.0; premises = premises_fit None line.premises q.1 }

lines_fit : (last : Option Line) (lines : List Line) → list_all fits_types lines ≡ true → Chain (λ (last : Option Line). FitsLine) last lines
lines_fit last [] t = tt
lines_fit last (line ∷ lines) t =
    let p = and_parts (fits_types line) (list_all fits_types lines) t in
    (line_fits line p.0, lines_fit (Some line) lines p.1)

-- ---- lines one after another

abbrev pub NoLine : List ℕ → Type 0
NoLine rest = NoWord (codes "sub ") rest × NoWord (codes "same i") rest × NoWord (codes "edge ") rest

no_conclusion : (rest : List ℕ) → NoLine rest → conclusion_at rest ≡ None
unfolding conclusion_at
no_conclusion rest h = rw (h.0, h.1, h.2) refl

pub no_line : (rest : List ℕ) → NoLine rest → line_at rest ≡ None
unfolding line_at
no_line rest h = rw (no_conclusion rest h) refl

pub line_follows : (line : Line) → 0 < length (line_text line)
line_follows line = omega (arith, length-append (line_front line) line_feed)

each_line : ReadsEach Anything NoLine (λ (last : Option Line). FitsLine) line_text (λ last. line_at)
each_line = record {
  each = λ last. line_reads;
  ends = λ last rest h. no_line rest h;
  end_follows = λ rest h. tt;
  next_follows = λ last line rest v. tt;
  some = λ last line v. line_follows line;
}

read_lines : Reads NoLine (Chain (λ (last : Option Line). FitsLine) None) (flat_map line_text) (many (λ last. line_at))
read_lines = many_reads Anything NoLine (λ (last : Option Line). FitsLine) line_text (λ last. line_at) each_line

-- lines that fit fit as they are written
types_written : (format : Format) (n : ℕ) (line : Line) → fits_types line ≡ true → HasNumbersAt format n line → fits_types (written format n line) ≡ true
types_written One n line t h = t
types_written Two n line t h =
    let p = and_parts (is_small_conclusion line.conclusion) (is_small_axiom line.axiom' && list_all is_premise line.premises) t in
    let q = and_parts (is_small_axiom line.axiom') (list_all is_premise line.premises) p.1 in
    and_from (is_small_conclusion line.conclusion) (is_small_axiom line.axiom' && list_all is_premise (distances n line.premises)) p.0
    (and_from (is_small_axiom line.axiom') (list_all is_premise (distances n line.premises)) q.0 (distances_pass n line.premises q.1 h))

all_types_written : (format : Format) (before lines : List Line) → list_all fits_types lines ≡ true → HasNumbersFrom format before lines → list_all fits_types (written_from format (next_number before) lines) ≡ true
all_types_written One before lines t h = t
all_types_written Two before [] t h = refl
all_types_written Two before (line ∷ lines) t h =
    let p = and_parts (fits_types line) (list_all fits_types lines) t in
    let q = numbers_behind Two before line lines h in
    let n = next_number before in
    let more : next_number (before ++ line ∷ []) ≡ n + 1 = ap (λ m. m + 1) (length-append before (line ∷ [])) in
    and_from (fits_types (written Two n line)) (list_all fits_types (written_from Two (n + 1) lines)) (types_written Two n line p.0 q.0)
    (subst (λ m. list_all fits_types (written_from Two m lines) ≡ true) more (all_types_written Two (before ++ line ∷ []) lines p.1 q.1))

-- what is written is read so again
from_again : (format : Format) (before lines : List Line) → list_all fits_types lines ≡ true → HasNumbersFrom format before lines
    → written_from format (next_number before) (written_from format (next_number before) lines) ≡ lines
from_again One before lines t h = refl
from_again Two before [] t h = refl
from_again Two before (line ∷ lines) t h =
    let p = and_parts (fits_types line) (list_all fits_types lines) t in
    let q = numbers_behind Two before line lines h in
    let n = next_number before in
    let more : next_number (before ++ line ∷ []) ≡ n + 1 = ap (λ m. m + 1) (length-append before (line ∷ [])) in
    ap₂ (λ (l : Line) (ls : List Line). l ∷ ls) (typed_again n line p.0 q.0)
    (subst (λ m. written_from Two m (written_from Two m lines) ≡ lines) more (from_again Two (before ++ line ∷ []) lines p.1 q.1))
  where
    typed_again : (n : ℕ) (line : Line) → fits_types line ≡ true → HasNumbersAt Two n line → written Two n (written Two n line) ≡ line
    typed_again n line t h =
        let p = and_parts (is_small_conclusion line.conclusion) (is_small_axiom line.axiom' && list_all is_premise line.premises) t in
        let q = and_parts (is_small_axiom line.axiom') (list_all is_premise line.premises) p.1 in
        ap (λ (ps : List ℕ). record line { premises = ps }) (distances_again n line.premises q.1 h)

behind_first : (format : Format) (bytes : List ℕ) → drop 20 (first_line format ++ bytes) ≡ bytes
behind_first One bytes = refl
behind_first Two bytes = refl

pub lines_again : (format : Format) (lines : List Line) → list_all fits_types lines ≡ true → HasNumbers format lines → lines_in format (first_line format ++ lines_text format 1 lines) ≡ lines
unfolding lines_in many
lines_again format lines t h =
    let spelled = written_from format 1 lines in
    let from = all_numbers format lines h in
    let read = read_lines.again spelled [] (lines_fit None spelled (all_types_written format [] lines t from)) (refl, refl, refl) in
    ap (λ bytes. written_from format 1 (many_from (λ (last : Option Line). line_at) None (length bytes) bytes).0) (behind_first format (lines_text format 1 lines) ∙ sym (append-nil (flat_map line_text spelled)))
    ∙ ap (λ (p : List Line × List ℕ). written_from format 1 p.0) (same_Some _ _ read)
    ∙ from_again format [] lines t from

-- ---- a text that grows

no_text_yet : (format : Format) → first_line format ≡ first_line format ++ lines_text format 1 []
no_text_yet One = sym (append-nil (first_line One))
no_text_yet Two = sym (append-nil (first_line Two))

no_numbers_yet : (format : Format) → HasNumbers format []
no_numbers_yet One = tt
no_numbers_yet Two = (lit< tt, tt)

pub no_lines : (format : Format) → lines_in format (first_line format) ≡ []
no_lines format = ap (lines_in format) (no_text_yet format) ∙ lines_again format [] refl (no_numbers_yet format)

pub no_line_text : (format : Format) (sources : List Subject2) → sources ≡ [] → IsLineText format (first_line format) sources
no_line_text format sources e = record {
  spelled = no_text_yet format ∙ sym (ap (λ ls. first_line format ++ lines_text format 1 ls) (no_lines format));
  fit = ap (list_all fits_types) (no_lines format);
  numbers = subst (HasNumbers format) (sym (no_lines format)) (no_numbers_yet format);
  kept = ap (map subject_of) e ∙ sym (ap (map (λ (l : Line). source_of l.conclusion)) (no_lines format));
}

-- as many lines as sources
pub line_count : (format : Format) (text : List ℕ) (sources : List Subject2) → IsLineText format text sources → length sources ≡ length (lines_in format text)
line_count format text sources h =
    sym (length-map sources subject_of) ∙ ap length h.kept ∙ length-map (lines_in format text) (λ (l : Line). source_of l.conclusion)

-- the number of the next line has numbers for its premises
pub next_has_numbers : (format : Format) (lines : List Line) (n : ℕ) (line : Line) → n ≡ next_number lines → n < 2 ^ 64 → HasNumbersOf format n line.premises → HasNumbersAt format (next_number lines) line
next_has_numbers One lines n line e small h = tt
next_has_numbers Two lines n line e small h = subst (λ m. (m < 2 ^ 64) × All (λ p. p < m) line.premises) e (small, h)

module _ (format : Format) (text : List ℕ) (sources : List Subject2) (line : Line) (source : Subject2) (h : IsLineText format text sources) (fits : fits_types line ≡ true)
    (at : HasNumbersAt format (next_number (lines_in format text)) line) (same : subject_of source ≡ source_of line.conclusion) where
  abbrev lines : List Line
  lines = lines_in format text

  abbrev pub spelled_line : List ℕ
  spelled_line = line_text (written format (next_number lines) line)

  longer : text ++ spelled_line ≡ first_line format ++ lines_text format 1 (lines ++ line ∷ [])
  longer =
      ap (λ s. s ++ spelled_line) h.spelled ∙ append_assoc (first_line format) (lines_text format 1 lines) spelled_line
      ∙ ap (λ s. first_line format ++ s) (sym (next_text format lines line))

  all_fit : list_all fits_types (lines ++ line ∷ []) ≡ true
  all_fit = list_all-append fits_types lines (line ∷ []) ∙ and_from (list_all fits_types lines) (list_all fits_types (line ∷ [])) h.fit (and_from (fits_types line) true fits refl)

  all_have : HasNumbers format (lines ++ line ∷ [])
  all_have = numbers_more format lines line h.numbers at

  pub line_added : lines_in format (text ++ spelled_line) ≡ lines ++ line ∷ []
  line_added = ap (lines_in format) longer ∙ lines_again format (lines ++ line ∷ []) all_fit all_have

  pub text_added : IsLineText format (text ++ spelled_line) (sources ++ source ∷ [])
  text_added = record {
    spelled = longer ∙ sym (ap (λ ls. first_line format ++ lines_text format 1 ls) line_added);
    fit = ap (list_all fits_types) line_added ∙ all_fit;
    numbers = subst (HasNumbers format) (sym line_added) all_have;
    kept =
        map-append subject_of sources (source ∷ []) ∙ ap (λ s. map subject_of sources ++ s ∷ []) same
        ∙ ap (λ ss. ss ++ source_of line.conclusion ∷ []) h.kept ∙ sym (map-append (λ (l : Line). source_of l.conclusion) lines (line ∷ []))
        ∙ sym (ap (map (λ (l : Line). source_of l.conclusion)) line_added);
  }

-- ---- what a line speaks of

in_two_steps : (o : Option Line) → option_map (λ (l : Line). source_of l.conclusion) o ≡ option_map source_of (option_map (λ (l : Line). l.conclusion) o)
in_two_steps None = refl
in_two_steps (Some l) = refl

pub source_there : (format : Format) (text : List ℕ) (sources : List Subject2) (m n : ℕ) (source : Subject2) → IsLineText format text sources → slice_get sources m ≡ Some source → m + 1 ≡ n
    → Some (subject_of source) ≡ option_map source_of (at_number (map (λ (l : Line). l.conclusion) (lines_in format text)) n)
source_there format text sources m zero source h at e = absurd (omega arith)
source_there format text sources m (suc n) source h at e =
    let same : m ≡ n = omega arith in
    let lines = lines_in format text in
    subst (λ k. Some (subject_of source) ≡ option_map source_of (slice_get (map (λ (l : Line). l.conclusion) lines) k)) same
    (sym (slice_get_map subject_of sources m source at) ∙ ap (λ (ss : List Subject). slice_get ss m) h.kept
    ∙ slice_get-map (λ (l : Line). source_of l.conclusion) lines m ∙ in_two_steps (slice_get lines m)
    ∙ sym (ap (option_map source_of) (slice_get-map (λ (l : Line). l.conclusion) lines m)))
