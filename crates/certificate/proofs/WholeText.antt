-- Certificates read from sources.
use Rattle.std.proofs.Common.{◌≡◌, ℕ, ◌+◌, ◌-◌, ◌<◌, ◌≤◌, List, [], ◌∷◌, ◌++◌, length, Option, Some, None, option_map, sym, ap, subst, ◌∙◌, arith, length-append}
use Rattle.std.specs.List.{flat_map}
use Rattle.std.proofs.lemmas.List.{map-append}
use Rattle.axioms.specs.Ontology.{Ontology}
use Rattle.source_lines.specs.Sources.{SourceState}
use Rattle.certificate.specs.Certificate.{Line, Listed}
use Rattle.certificate.specs.Certificate.{Format, One, Two}
use Rattle.certificate.specs.Text.{line_feed, line_text, first_text, written, lines_text}
use Rattle.certificate.specs.SourceReading.{Reading, HasLines, kept_line, IsNext, IsNextLine, IsStopped, IsReadAs, StopsNext, IsFinished}
use Rattle.certificate.specs.View.{line_of, lines_of}
use Rattle.certificate.specs.declared.line.Line.{Line as Written}
use Rattle.certificate.specs.declared.fault.TextFault.{TextFault}

-- ---- as many lines as bytes at most

ended : (front : List ℕ) → 0 < length (front ++ line_feed)
ended front = let e = length-append front line_feed in omega (arith, e)

lines_below : (format : Format) (n : ℕ) (lines : List Line) → length lines ≤ length (lines_text format n lines)
lines_below format n [] = omega arith
lines_below One n (line ∷ lines) =
    let e = length-append (line_text line) (flat_map line_text lines) in
    let some : 0 < length (line_text line) = ended _ in
    omega (arith, e, some, lines_below One n lines)
lines_below Two n (line ∷ lines) =
    let e = length-append (line_text (written Two n line)) (lines_text Two (n + 1) lines) in
    let some : 0 < length (line_text (written Two n line)) = ended _ in
    omega (arith, e, some, lines_below Two (n + 1) lines)

pub lines_within : (start now : SourceState) (lines : List Line) (reading : Reading) → HasLines start lines reading now → length lines ≤ start.most
lines_within start now lines reading h =
    let first = first_text reading.format reading.is_consistent in
    let text = lines_text reading.format 1 lines in
    let a : length h.part.read ≡ length (first ++ text ++ reading.hand.line) + length reading.hand.ahead
    = ap (λ (xs : List ℕ). length xs) h.part.in_order ∙ length-append (first ++ text ++ reading.hand.line) reading.hand.ahead in
    let b = length-append (first ++ text) reading.hand.line in
    let d = length-append first text in
    omega (arith, a, b, d, lines_below reading.format 1 lines, h.part.given.fell)

-- ---- one line more

pub whole_line : (start before after : SourceState) (old new : Reading) (lines : List Line) (line : Line) → old.most_premises ≡ None → HasLines start lines old before
    → IsNextLine old new before after line → HasLines start (lines ++ line ∷ []) new after
whole_line start before after old new lines line whole h n =
    let e : line ≡ n.full = n.kept ∙ ap (λ (most : Option ℕ). kept_line most n.full) whole in
    subst (λ (l : Line). HasLines start (lines ++ l ∷ []) new after) (sym e) (n.behind start lines h)

-- the reader gave a line, and it is put behind the others
pub next_lines : (start before after : SourceState) (old new : Reading) (lines longer : List Written) (line : Written) (read : Option Written) → old.most_premises ≡ None
    → HasLines start (lines_of lines) old before → read ≡ Some line → IsNext old new before after (option_map line_of read) → longer ≡ lines ++ line ∷ []
    → HasLines start (lines_of longer) new after
next_lines start before after old new lines longer line read whole h e n l =
    subst (λ (ls : List Line). HasLines start ls new after) (sym (ap (λ (ws : List Written). lines_of ws) l ∙ map-append line_of lines (line ∷ [])))
    (whole_line start before after old new (lines_of lines) (line_of line) whole h (subst (λ (r : Option Written). IsNext old new before after (option_map line_of r)) e n))

-- .. and it is still of that ontology, and keeps all premises
pub next_same : (before after : SourceState) (old new : Reading) (o : Ontology) (line : Written) (read : Option Written) → old.ontology ≡ o → old.most_premises ≡ None → read ≡ Some line
    → IsNext old new before after (option_map line_of read) → (new.ontology ≡ o) × (new.most_premises ≡ None)
next_same before after old new o line read for whole e n =
    let next : IsNextLine old new before after (line_of line) = subst (λ (r : Option Written). IsNext old new before after (option_map line_of r)) e n in
    (next.ontology ∙ for, next.most_premises ∙ whole)

-- a list that is longer by one leaves less room
pub less_room : {A : Type 0} (most : ℕ) (shorter longer : List A) (x : A) → longer ≡ shorter ++ x ∷ [] → length longer ≤ most → most - length longer < most - length shorter
less_room {A = A} most shorter longer x e within =
    let one : length longer ≡ length shorter + 1 = ap (λ (xs : List A). length xs) e ∙ length-append shorter (x ∷ []) in
    omega (arith, one, within)

-- ---- the end of the lines

pub lines_stopped : (start before after : SourceState) (old : Reading) (o : Ontology) (lines : List Line) (fault : TextFault) → old.ontology ≡ o → HasLines start lines old before
    → StopsNext fault old before after → IsStopped fault o start after
lines_stopped start before after old o lines fault for h s = subst (λ (p : Ontology). IsStopped fault p start after) for (s start lines h)

-- the reader gave no line
pub no_next : (start before after : SourceState) (old new : Reading) (o : Ontology) (lines : List Line) (read : Option Written) → old.ontology ≡ o → HasLines start lines old before → read ≡ None
    → IsNext old new before after (option_map line_of read) → (new.ontology ≡ o) × HasLines start lines new after
no_next start before after old new o lines read for h e n =
    let none : IsNext old new before after None = subst (λ (r : Option Written). IsNext old new before after (option_map line_of r)) e n in
    let same : HasLines start lines new before = subst (λ (r : Reading). HasLines start lines r before) (sym none.1) h in
    (ap (λ (r : Reading). r.ontology) none.1 ∙ for, subst (λ (s : SourceState). HasLines start lines new s) (sym none.2) same)

pub lines_read : (start before after : SourceState) (old : Reading) (o : Ontology) (lines : List Line) (listed : Option Listed) → old.ontology ≡ o → HasLines start lines old before
    → IsFinished old before after listed → IsReadAs o start after (record { lines = lines; listed = listed })
lines_read start before after old o lines listed for h f = subst (λ (p : Ontology). IsReadAs p start after (record { lines = lines; listed = listed })) for (f start lines h)

-- the certificate with what is listed as it is written out
pub as_written : (start now : SourceState) (o : Ontology) (lines : List Line) (written listed : Option Listed) → written ≡ listed
    → IsReadAs o start now (record { lines = lines; listed = listed }) → IsReadAs o start now (record { lines = lines; listed = written })
as_written start now o lines written listed e h = subst (λ (l : Option Listed). IsReadAs o start now (record { lines = lines; listed = l })) (sym e) h
