-- What one more line adds to a part of a certificate: its text. So what is read is the text of its lines, each ended by a line feed.
use Rattle.std.proofs.Common.{◌≡◌, ℕ, zero, suc, ◌+◌, ◌/◌, ◌%◌, Bool, true, false, not, eqb, ltb, ◌&&◌, if◌then◌else◌, List, [], ◌∷◌, ◌++◌, length, Contains, Option, Some, None, refl, sym, ap, subst, ◌∙◌, inl, inr, arith, append_assoc, codes, decimal}
use Rattle.std.specs.List.{list_all, flat_map, enumerate_from}
use Rattle.std.proofs.lemmas.Bool.{and_parts, and_from, eqb-true, ne_eqb, false≢true}
use Rattle.std.proofs.lemmas.List.{append-nil, flat_map_more}
use Rattle.std.proofs.lemmas.List.Elements.{All-from_recursion}
use Rattle.std.proofs.lemmas.List.Folds.{list_all-append}
use Rattle.std.proofs.lemmas.Option.{none-some, same_Some}
use Rattle.std.specs.Fmt.{digits, digits_onto, digit_glyph}
use Rattle.lemmas.proofs.Choices.{passed}
use Rattle.lemmas.proofs.Ranges.{enumerate_push}
use Rattle.axioms.specs.Ontology.{Ontology}
use Rattle.source_lines.specs.Lines.{IsWholeLine}
use Rattle.certificate.specs.Certificate.{Subject, Expression, Individual, Conclusion, Sub, Edge, Same, Line, Listed, Format, One, Two}
use Rattle.certificate.specs.Runs.{Run, runs_of}
use Rattle.certificate.specs.Text.{line_feed, rule_number, lettered_number, spaced_numbers, subject_text, conclusion_text, axiom_text, line_text, lines_text, written, run_text, elements_text, first_text, class_text, pairs_text, individual_text, claim_text, listed_text}
use Rattle.certificate.specs.Tests.{is_small, fits_written, fits_domain, fits_class, fits_pairs, key, pair_key}
use Rattle.certificate.specs.TextLines.{TextLine, FirstLine, DerivedLine, DomainLine, ClassLine, PairLine, IndividualLine, ClaimLine, LastLine, text_of, Part, Empty, InLines, InRows, Complete, part_text, is_empty, last_of, no_rows, has_individuals, fits_row, is_format, is_row_in, follows_in, next_number, with_row, with_line, with_all, IsPart}
use Rattle.certificate.specs.Prefixes.{EndsLines}
use Rattle.certificate.proofs.Every.{every_passes}
use Rattle.certificate.proofs.WrittenLines.{next_text, written_back}

-- ---- one line more

pub none_in : {A : Type 0} (xs : List A) → is_empty xs ≡ true → xs ≡ []
none_in [] t = refl
none_in (x ∷ xs) t = absurd (false≢true t)

-- no text behind the rows so far
none_behind : (text row : List ℕ) → (text ++ row) ++ [] ≡ (text ++ []) ++ row
none_behind text row = append-nil (text ++ row) ∙ ap (λ (s : List ℕ). s ++ row) (sym (append-nil text))

none_behind_two : (text row : List ℕ) → (text ++ row) ++ [] ++ [] ≡ (text ++ [] ++ []) ++ row
none_behind_two text row = ap (λ (s : List ℕ). s ++ []) (none_behind text row) ∙ none_behind (text ++ []) row

none_behind_three : (text row : List ℕ) → (text ++ row) ++ [] ++ [] ++ [] ≡ (text ++ [] ++ [] ++ []) ++ row
none_behind_three text row = ap (λ (s : List ℕ). s ++ []) (none_behind_two text row) ∙ none_behind (text ++ [] ++ []) row

pub same_format : (f g : Format) → is_format f g ≡ true → f ≡ g
same_format One One e = refl
same_format Two Two e = refl
same_format One Two e = absurd (false≢true e)
same_format Two One e = absurd (false≢true e)

pub is_own : (f : Format) → is_format f f ≡ true
is_own One = refl
is_own Two = refl

class_grows : (o : Ontology) (format : Format) (l : Listed) (row : ℕ × List ℕ) → fits_row o l (ClassLine format row) ≡ true
    → listed_text format (Some (with_row l (ClassLine format row))) ≡ listed_text format (Some l) ++ class_text format row
class_grows o format l row t =
    let none = is_empty l.pairs && is_empty l.individuals in
    let p = and_parts (none && is_empty l.claims) (fits_class o l.domain (key (last_of l.classes)) row) t in
    let q = and_parts none (is_empty l.claims) p.0 in
    let r = and_parts (is_empty l.pairs) (is_empty l.individuals) q.0 in
    let before = lettered_number (codes "domain ") l.domain ++ line_feed in
    rw (none_in l.pairs r.0, none_in l.individuals r.1, none_in l.claims q.1)
    (ap (λ (s : List ℕ). s ++ [] ++ [] ++ []) (sym (flat_map_more (class_text format) before l.classes row)) ∙ none_behind_three (before ++ flat_map (class_text format) l.classes) (class_text format row))

pairs_grow : (o : Ontology) (format : Format) (l : Listed) (row : ℕ × ℕ × List ℕ) → fits_row o l (PairLine format row) ≡ true
    → listed_text format (Some (with_row l (PairLine format row))) ≡ listed_text format (Some l) ++ pairs_text format row
pairs_grow o format l row t =
    let p = and_parts (is_empty l.individuals && is_empty l.claims) (fits_pairs o l.domain (pair_key (last_of l.pairs)) row) t in
    let q = and_parts (is_empty l.individuals) (is_empty l.claims) p.0 in
    let before = lettered_number (codes "domain ") l.domain ++ line_feed ++ flat_map (class_text format) l.classes in
    rw (none_in l.individuals q.0, none_in l.claims q.1)
    (ap (λ (s : List ℕ). s ++ [] ++ []) (sym (flat_map_more (pairs_text format) before l.pairs row)) ∙ none_behind_two (before ++ flat_map (pairs_text format) l.pairs) (pairs_text format row))

-- the row's text comes behind that of the others
listed_grows : (o : Ontology) (format : Format) (l : Listed) (line : TextLine) → fits_row o l line ≡ true → is_row_in format line ≡ true
    → listed_text format (Some (with_row l line)) ≡ listed_text format (Some l) ++ text_of line
listed_grows o format l (ClassLine f row) t w = class_grows o format l row t ∙ ap (λ (f : Format). listed_text format (Some l) ++ class_text f row) (same_format format f w)
listed_grows o format l (PairLine f row) t w = pairs_grow o format l row t ∙ ap (λ (f : Format). listed_text format (Some l) ++ pairs_text f row) (same_format format f w)
listed_grows o format l (IndividualLine number element) t w =
    let none = is_empty l.claims in
    let first = none && eqb number (length l.individuals) in
    let within = ltb number (length o.names.individuals) in
    let p = and_parts (first && within && is_small number) (ltb element l.domain) t in
    let q = and_parts (first && within) (is_small number) p.0 in
    let r = and_parts first within q.0 in
    let s = and_parts none (eqb number (length l.individuals)) r.0 in
    let same : 0 + length l.individuals ≡ number = omega (arith, eqb-true number (length l.individuals) s.1) in
    let before = lettered_number (codes "domain ") l.domain ++ line_feed ++ flat_map (class_text format) l.classes ++ flat_map (pairs_text format) l.pairs in
    let numbered : enumerate_from 0 (l.individuals ++ element ∷ []) ≡ enumerate_from 0 l.individuals ++ (number, element) ∷ [] =
    enumerate_push 0 l.individuals element ∙ ap (λ (n : ℕ). enumerate_from 0 l.individuals ++ (n, element) ∷ []) same in
    rw (none_in l.claims s.0, numbered)
    (ap (λ (s : List ℕ). s ++ []) (sym (flat_map_more individual_text before (enumerate_from 0 l.individuals) (number, element))) ∙ none_behind (before ++ flat_map individual_text (enumerate_from 0 l.individuals)) (individual_text (number, element)))
listed_grows o format l (ClaimLine claim) t w =
    let before =
    lettered_number (codes "domain ") l.domain ++ line_feed ++ flat_map (class_text format) l.classes ++ flat_map (pairs_text format) l.pairs ++ flat_map individual_text (enumerate_from 0 l.individuals) in
    sym (flat_map_more claim_text before l.claims claim)
listed_grows o format l _ t w = absurd (false≢true t)

-- .. and behind the lines of the derivation
row_grows : (o : Ontology) (format : Format) (lines : List Line) (l : Listed) (next : Part) (line : TextLine)
    → (if follows_in o format l line then Some (InRows format lines (with_row l line)) else None) ≡ Some next → part_text next ≡ part_text (InRows format lines l) ++ text_of line
row_grows o format lines l next line e =
    let p = passed (follows_in o format l line) (Some (InRows format lines (with_row l line))) next e in
    let q = and_parts (fits_row o l line) (is_row_in format line) p.0 in
    let before = first_text format true ++ lines_text format 1 lines in
    sym (ap part_text (same_Some (InRows format lines (with_row l line)) next p.1)) ∙ ap (λ (s : List ℕ). before ++ s) (listed_grows o format l line q.0 q.1)
    ∙ sym (append_assoc before (listed_text format (Some l)) (text_of line))

-- no lines of the derivation yet
none_yet : (format : Format) (is_consistent : Bool) → first_text format is_consistent ++ lines_text format 1 [] ≡ first_text format is_consistent
none_yet One is_consistent = append-nil (first_text One is_consistent)
none_yet Two is_consistent = append-nil (first_text Two is_consistent)

pub part_grows : (o : Ontology) (part next : Part) (line : TextLine) → with_line o part line ≡ Some next → part_text next ≡ part_text part ++ text_of line
part_grows o Empty next (FirstLine format is_consistent) e = sym (ap part_text (same_Some (InLines format is_consistent []) next e)) ∙ none_yet format is_consistent
part_grows o Empty next _ e = absurd (none-some next e)
part_grows o (InLines format is_consistent lines) next (DerivedLine line) e =
    let n = next_number lines in
    let read = written format n line in
    let p = passed (fits_written o format n line) (Some (InLines format is_consistent (lines ++ read ∷ []))) next e in
    let first = first_text format is_consistent in
    let again : lines_text format 1 (lines ++ read ∷ []) ≡ lines_text format 1 lines ++ line_text line = next_text format lines read ∙ ap (λ (l : Line). lines_text format 1 lines ++ line_text l) (written_back o format n line p.0) in
    sym (ap part_text (same_Some _ next p.1)) ∙ ap (λ (s : List ℕ). first ++ s) again ∙ sym (append_assoc first (lines_text format 1 lines) (line_text line))
part_grows o (InLines format true lines) next (DomainLine domain) e =
    let p = passed (fits_domain domain) (Some (InRows format lines (no_rows domain))) next e in
    let row = lettered_number (codes "domain ") domain ++ line_feed in
    let same : row ++ [] ++ [] ++ [] ++ [] ≡ row = append-nil (row ++ [] ++ [] ++ []) ∙ append-nil (row ++ [] ++ []) ∙ append-nil (row ++ []) ∙ append-nil row in
    sym (ap part_text (same_Some _ next p.1)) ∙ ap (λ (s : List ℕ). first_text format true ++ lines_text format 1 lines ++ s) same
part_grows o (InLines format true lines) next _ e = absurd (none-some next e)
part_grows o (InLines format false lines) next LastLine e =
    let before = first_text format false ++ lines_text format 1 lines in
    sym (ap part_text (same_Some _ next e)) ∙ ap (λ (s : List ℕ). s ++ codes "end" ++ line_feed) (append-nil before) ∙ append_assoc before (codes "end") line_feed
part_grows o (InLines format false lines) next _ e = absurd (none-some next e)
part_grows o (InRows format lines listed) next LastLine e =
    let p = passed (has_individuals o listed) (Some (Complete format (record { lines = lines; listed = Some listed }))) next e in
    let before = first_text format true ++ lines_text format 1 lines ++ listed_text format (Some listed) in
    sym (ap part_text (same_Some _ next p.1)) ∙ append_assoc before (codes "end") line_feed
part_grows o (InRows format lines listed) next line e = row_grows o format lines listed next line e
part_grows o (Complete format c) next line e = absurd (none-some next e)

-- ---- all lines

-- the others behind a first step
abbrev pub then_all : Ontology → List TextLine → Option Part → Option Part
then_all o lines step = elim step [ None ↦ None | Some next ↦ with_all o next lines ]

pub with_more : (o : Ontology) (part next : Part) (lines more : List TextLine) → with_all o part lines ≡ Some next → with_all o part (lines ++ more) ≡ with_all o next more
with_more o part next [] more e = ap (λ (p : Part). with_all o p more) (same_Some part next e)
with_more o part next (line ∷ lines) more e = go (with_line o part line) (λ step. with_more o step next lines more) e
  where
    go : (step : Option Part) → ((p : Part) → with_all o p lines ≡ Some next → with_all o p (lines ++ more) ≡ with_all o next more)
        → then_all o lines step ≡ Some next → then_all o (lines ++ more) step ≡ with_all o next more
    go None k e = absurd (none-some next e)
    go (Some p) k e = k p e

pub with_first : (o : Ontology) (part next : Part) (line : TextLine) (lines : List TextLine) → with_line o part line ≡ Some next → with_all o part (line ∷ lines) ≡ with_all o next lines
with_first o part next line lines e = ap (then_all o lines) e

pub with_one : (o : Ontology) (part next : Part) (line : TextLine) → with_line o part line ≡ Some next → with_all o part (line ∷ []) ≡ Some next
with_one o part next line e = with_first o part next line [] e

pub part_with_all : (o : Ontology) (part next : Part) (lines : List TextLine) → IsPart o part → with_all o part lines ≡ Some next → IsPart o next
part_with_all o part next lines h e = (h.0 ++ lines, with_more o Empty part h.0 lines h.1 ∙ e)

pub part_with : (o : Ontology) (part next : Part) (line : TextLine) → IsPart o part → with_line o part line ≡ Some next → IsPart o next
part_with o part next line h e = part_with_all o part next (line ∷ []) h (with_one o part next line e)

pub empty_part : (o : Ontology) → IsPart o Empty
empty_part o = ([], refl)

pub all_text : (o : Ontology) (part next : Part) (lines : List TextLine) → with_all o part lines ≡ Some next → part_text next ≡ part_text part ++ flat_map text_of lines
all_text o part next [] e = sym (ap part_text (same_Some part next e)) ∙ sym (append-nil (part_text part))
all_text o part next (line ∷ lines) e = go (with_line o part line) refl (λ step. all_text o step next lines) e
  where
    go : (step : Option Part) → with_line o part line ≡ step → ((p : Part) → with_all o p lines ≡ Some next → part_text next ≡ part_text p ++ flat_map text_of lines)
        → then_all o lines step ≡ Some next → part_text next ≡ part_text part ++ (text_of line ++ flat_map text_of lines)
    go None is k e = absurd (none-some next e)
    go (Some p) is k e =
        k p e ∙ ap (λ (s : List ℕ). s ++ flat_map text_of lines) (part_grows o part p line is) ∙ append_assoc (part_text part) (text_of line) (flat_map text_of lines)

-- ---- lines end in their only line feed

abbrev no_feed : ℕ → Bool
no_feed b = not (eqb b 10)

abbrev Unended : List ℕ → Type 0
Unended bytes = list_all no_feed bytes ≡ true

unended_append : (xs ys : List ℕ) → Unended xs → Unended ys → Unended (xs ++ ys)
unended_append xs ys h k = list_all-append no_feed xs ys ∙ and_from (list_all no_feed xs) (list_all no_feed ys) h k

unended_flat : {A : Type 0} (f : A → List ℕ) (xs : List A) → ((x : A) → Unended (f x)) → Unended (flat_map f xs)
unended_flat f [] each = refl
unended_flat f (x ∷ xs) each = unended_append (f x) (flat_map f xs) (each x) (unended_flat f xs each)

glyph_no_feed : (d : ℕ) → no_feed (digit_glyph false d) ≡ true
glyph_no_feed d = go (ltb d 10)
  where
    go : (b : Bool) → no_feed (if b then 48 + d else 87 + d) ≡ true
    go true = ap not (ne_eqb (48 + d) 10 (λ e. omega (arith, e)))
    go false = ap not (ne_eqb (87 + d) 10 (λ e. omega (arith, e)))

unended_onto : (k n : ℕ) (acc : List ℕ) → Unended acc → Unended (digits_onto k 10 false n acc)
unended_onto zero n acc h = h
unended_onto (suc k) n acc h = go (eqb (n / 10) 0) (unended_onto k (n / 10) (digit_glyph false (n % 10) ∷ acc) last)
  where
    last : Unended (digit_glyph false (n % 10) ∷ acc)
    last = and_from (no_feed (digit_glyph false (n % 10))) (list_all no_feed acc) (glyph_no_feed (n % 10)) h

    go : (b : Bool) → Unended (digits_onto k 10 false (n / 10) (digit_glyph false (n % 10) ∷ acc))
        → Unended (if b then digit_glyph false (n % 10) ∷ acc else digits_onto k 10 false (n / 10) (digit_glyph false (n % 10) ∷ acc))
    go true more = last
    go false more = more

unended_decimal : (n : ℕ) → Unended (decimal n)
unfolding digits
unended_decimal n = unended_onto 64 n [] refl

unended_lettered : (letter : List ℕ) (n : ℕ) → Unended letter → Unended (lettered_number letter n)
unended_lettered letter n h = unended_append letter (decimal n) h (unended_decimal n)

unended_spaced : (ns : List ℕ) → Unended (spaced_numbers ns)
unended_spaced ns = unended_flat (λ n. codes " " ++ decimal n) ns (λ n. unended_append (codes " ") (decimal n) refl (unended_decimal n))

unended_subject : (x : Subject) → Unended (subject_text x)
unended_subject (Expression e) = unended_lettered (codes "e") e refl
unended_subject (Individual a) = unended_lettered (codes "i") a refl

unended_conclusion : (c : Conclusion) → Unended (conclusion_text c)
unended_conclusion (Sub x c) =
    unended_append (codes "sub " ++ subject_text x) (lettered_number (codes " e") c)
    (unended_append (codes "sub ") (subject_text x) refl (unended_subject x)) (unended_lettered (codes " e") c refl)
unended_conclusion (Edge x r y) =
    let start = codes "edge " ++ subject_text x in
    let property = lettered_number (codes " p") r in
    unended_append (start ++ property ++ codes " ") (subject_text y)
    (unended_append (start ++ property) (codes " ")
    (unended_append start property (unended_append (codes "edge ") (subject_text x) refl (unended_subject x)) (unended_lettered (codes " p") r refl)) refl)
    (unended_subject y)
unended_conclusion (Same a b) =
    unended_append (lettered_number (codes "same i") a) (lettered_number (codes " i") b) (unended_lettered (codes "same i") a refl) (unended_lettered (codes " i") b refl)

unended_axiom : (a : Option ℕ) → Unended (axiom_text a)
unended_axiom None = refl
unended_axiom (Some n) = unended_lettered (codes " a") n refl

-- a letter and a number, and numbers behind spaces
unended_row : (letter : List ℕ) (n : ℕ) (ns : List ℕ) → Unended letter → Unended (lettered_number letter n ++ spaced_numbers ns)
unended_row letter n ns h = unended_append (lettered_number letter n) (spaced_numbers ns) (unended_lettered letter n h) (unended_spaced ns)

unended_run : (run : Run) → Unended (run_text run)
unended_run run = unended_append (codes " ") (if eqb run.first run.last then decimal run.first else decimal run.first ++ codes "-" ++ decimal run.last) refl (go (eqb run.first run.last))
  where
    go : (one : Bool) → Unended (if one then decimal run.first else decimal run.first ++ codes "-" ++ decimal run.last)
    go true = unended_decimal run.first
    go false = unended_append (decimal run.first ++ codes "-") (decimal run.last) (unended_append (decimal run.first) (codes "-") (unended_decimal run.first) refl) (unended_decimal run.last)

unended_elements : (format : Format) (xs : List ℕ) → Unended (elements_text format xs)
unended_elements One xs = unended_spaced xs
unended_elements Two xs = unended_flat run_text (runs_of xs) unended_run

unended_has : (bytes : List ℕ) → Unended bytes → Contains bytes 10 → ⊥
unended_has bytes h c =
    let all = All-from_recursion (λ b. no_feed b ≡ true) bytes (every_passes no_feed bytes h) in
    false≢true (subst (λ (b : ℕ). no_feed b ≡ true) c.2 (all c.0 10 c.1))

whole_from : (front : List ℕ) → Unended front → IsWholeLine (front ++ line_feed)
whole_from front h = record { front = front; ended = refl; single = unended_has front h }

pub whole_line : (line : TextLine) → IsWholeLine (text_of line)
whole_line (FirstLine One true) = whole_from (codes "elcert 1 consistent") refl
whole_line (FirstLine One false) = whole_from (codes "elcert 1 inconsistent") refl
whole_line (FirstLine Two true) = whole_from (codes "elcert 2 consistent") refl
whole_line (FirstLine Two false) = whole_from (codes "elcert 2 inconsistent") refl
whole_line (DerivedLine line) =
    let conclusion = conclusion_text line.conclusion in
    let rule = lettered_number (codes " K") (rule_number line.rule) in
    whole_from (conclusion ++ rule ++ axiom_text line.axiom' ++ spaced_numbers line.premises)
    (unended_append (conclusion ++ rule ++ axiom_text line.axiom') (spaced_numbers line.premises)
    (unended_append (conclusion ++ rule) (axiom_text line.axiom')
    (unended_append conclusion rule (unended_conclusion line.conclusion) (unended_lettered (codes " K") (rule_number line.rule) refl))
    (unended_axiom line.axiom'))
    (unended_spaced line.premises))
whole_line (DomainLine domain) = whole_from (lettered_number (codes "domain ") domain) (unended_lettered (codes "domain ") domain refl)
whole_line (ClassLine format row) =
    let first = lettered_number (codes "class e") row.0 in
    whole_from (first ++ elements_text format row.1) (unended_append first (elements_text format row.1) (unended_lettered (codes "class e") row.0 refl) (unended_elements format row.1))
whole_line (PairLine format row) =
    let first = lettered_number (codes "succ p") row.0 in
    let second = lettered_number (codes " ") row.1 ++ elements_text format row.2 in
    whole_from (first ++ second) (unended_append first second (unended_lettered (codes "succ p") row.0 refl)
    (unended_append (lettered_number (codes " ") row.1) (elements_text format row.2) (unended_lettered (codes " ") row.1 refl) (unended_elements format row.2)))
whole_line (IndividualLine number element) = whole_from (lettered_number (codes "ind i") number ++ spaced_numbers (element ∷ [])) (unended_row (codes "ind i") number (element ∷ []) refl)
whole_line (ClaimLine claim) = whole_from (lettered_number (codes "claim e") claim.0 ++ spaced_numbers (claim.1 ∷ [])) (unended_row (codes "claim e") claim.0 (claim.1 ∷ []) refl)
whole_line LastLine = whole_from (codes "end") refl

pub lines_end : (lines : List TextLine) → EndsLines (flat_map text_of lines)
lines_end [] = inl refl
lines_end (line ∷ lines) = elim (lines_end lines) [
  | inl none ↦ (let w = whole_line line in inr (w.front, ap (λ (s : List ℕ). text_of line ++ s) none ∙ append-nil (text_of line) ∙ w.ended))
  | inr last ↦ inr (text_of line ++ last.0, ap (λ (s : List ℕ). text_of line ++ s) last.1 ∙ sym (append_assoc (text_of line) last.0 line_feed))
]

pub ends_lines : (o : Ontology) (part : Part) → IsPart o part → EndsLines (part_text part)
ends_lines o part h = subst EndsLines (sym (all_text o Empty part h.0 h.1)) (lines_end h.0)
