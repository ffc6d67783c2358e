-- Lines of a derivation that a reader gives one after another.
use Rattle.std.proofs.Common.{◌≡◌, ℕ, ◌+◌, ◌<◌, ◌≤◌, Bool, true, false, List, [], ◌∷◌, ◌++◌, length, Some, None, Option, option_map, refl, sym, ap, ◌∙◌, subst, arith, length-append}
use Rattle.std.specs.Prelude.{MatchOption, codes}
use Rattle.std.specs.Fmt.{decimal}
use Rattle.std.proofs.KnownBytes.{Consumes-nil}
use Rattle.axioms.specs.Ontology.{Ontology}
use Rattle.source_lines.specs.Sources.{SourceState, IsReadOn}
use Rattle.certificate.specs.Certificate.{Certificate, Conclusion, Sub, Edge, Same, Line}
use Rattle.certificate.specs.declared.format.Format.{Format}
use Rattle.certificate.specs.declared.format.Format.TheVariants.{One, Two}
use Rattle.certificate.specs.SourceReading.{Reading, HasLines, HasNoLine, IsFinished, IsNext, IsNextLine, IsStopped, StopsNext}
use Rattle.certificate.specs.Text.{axiom_text, conclusion_text, first_text, lettered_number, line_feed, line_text, lines_text, rule_number, spaced_numbers, subject_text, written}
use Rattle.certificate.specs.TextLines.{InLines, next_number, part_text}
use Rattle.certificate.specs.declared.fault.TextFault.{TextFault}
use Rattle.certificate.specs.Tests.{fits_line}
use Rattle.certificate.specs.View.{line_of, listing_of}
use Rattle.certificate.specs.Writability.{IsLineOf, IsSomeTextOf}
use Rattle.certificate.specs.declared.line.Line as code
use Rattle.certificate.specs.declared.listed_runs.ListedRuns.{ListedRuns}
use Rattle.certificate.proofs.SourceStates.{reads_on}
use Rattle.certificate.proofs.WrittenLines.{next_text}
use Rattle.cert_check.specs.Derivation.{IsDerivation}
use Rattle.cert_check.specs.Faults.{IsFirstBadLine}
use Rattle.cert_check.specs.Lists.{AreSuperclasses, AreTypes, said_by}
use Rattle.cert_check.specs.Premises.{RulesTakeAtMost}
use Rattle.cert_check.specs.Tests.{AllAreKept, HaveCome, IsTestedFrom, KeepsEnough, ShowsThose}
use Rattle.cert_check.specs.Verdict.{TellsContradiction}
use Rattle.cert_check.specs.declared.derivation.ShownLines.{ShownLines}
use Rattle.cert_check.specs.declared.derivation.TestedLines.{TestedLines}
use Rattle.cert_check.proofs.KeptLines.{AreKeptOf, kept_full, kept_within}

-- nothing was read
pub none_read : (source : SourceState) → IsReadOn source source
none_read source = record { lost = ([], Consumes-nil source.left, omega arith); unfailed = refl }

-- ---- one line after another

pub one_more_comes : (first old new : Reading) (source before after : SourceState) (lines : List Line) (kept : Line) → HaveCome first old source before lines
    → (n : IsNextLine old new before after kept) → HaveCome first new source after (lines ++ n.full ∷ [])
one_more_comes first old new source before after lines kept h n = record {
  ontology = n.ontology ∙ h.ontology;
  most_premises = n.most_premises ∙ h.most_premises;
  behind = λ start k. n.behind start lines (h.behind start k);
}

-- why no line more is read is why nothing is read
pub stops_reading : (fault : TextFault) (first old : Reading) (source before after : SourceState) (lines : List Line) → HaveCome first old source before lines
    → StopsNext fault old before after → (start : SourceState) → HasLines start [] first source → IsStopped fault first.ontology start after
stops_reading fault first old source before after lines h k start l =
    subst (λ (o : Ontology). IsStopped fault o start after) h.ontology (k start lines (h.behind start l))

-- no read has failed since the start
pub reads_since : (first old : Reading) (source before : SourceState) (lines : List Line) → HaveCome first old source before lines
    → (start : SourceState) → HasLines start [] first source → IsReadOn start before
reads_since first old source before lines h start l =
    reads_on start (InLines old.format old.is_consistent lines) old before before (h.behind start l).part (none_read before)

-- ---- each line takes bytes

-- how many bytes are at hand, or can still come
abbrev pub bytes_to_come : Reading → SourceState → ℕ
bytes_to_come reading source = source.most + length reading.hand.line + length reading.hand.ahead

first_least : (f : Format) (k : Bool) → 20 ≤ length (first_text f k)
first_least One true = omega arith
first_least One false = omega arith
first_least Two true = omega arith
first_least Two false = omega arith

first_most : (f : Format) (k : Bool) → length (first_text f k) ≤ 22
first_most One true = omega arith
first_most One false = omega arith
first_most Two true = omega arith
first_most Two false = omega arith

longer : (n : ℕ) (xs ys : List ℕ) → n ≤ length xs → n ≤ length (xs ++ ys)
longer n xs ys l = omega (arith, l, length-append xs ys)

conclusion_some : (conclusion : Conclusion) → 4 ≤ length (conclusion_text conclusion)
conclusion_some (Sub x c) = longer 4 (codes "sub " ++ subject_text x) (lettered_number (codes " e") c) (longer 4 (codes "sub ") (subject_text x) (omega arith))
conclusion_some (Edge x r y) =
    longer 4 (codes "edge " ++ subject_text x ++ lettered_number (codes " p") r ++ codes " ") (subject_text y)
    (longer 4 (codes "edge " ++ subject_text x ++ lettered_number (codes " p") r) (codes " ")
    (longer 4 (codes "edge " ++ subject_text x) (lettered_number (codes " p") r) (longer 4 (codes "edge ") (subject_text x) (omega arith))))
conclusion_some (Same a b) = longer 4 (lettered_number (codes "same i") a) (lettered_number (codes " i") b) (longer 4 (codes "same i") (decimal a) (omega arith))

line_some : (line : Line) → 4 ≤ length (line_text line)
line_some line =
    let conclusion = conclusion_text line.conclusion in
    let rule = lettered_number (codes " K") (rule_number line.rule) in
    let stated = axiom_text line.axiom' in
    let premises = spaced_numbers line.premises in
    longer 4 (conclusion ++ rule ++ stated ++ premises) line_feed
    (longer 4 (conclusion ++ rule ++ stated) premises (longer 4 (conclusion ++ rule) stated (longer 4 conclusion rule (conclusion_some line.conclusion))))

-- the text of what the reader named and of these lines
abbrev text_so_far : Reading → List Line → List ℕ
text_so_far reading lines = part_text (InLines reading.format reading.is_consistent lines)

lines_longer : (reading : Reading) (lines : List Line)
    → length (text_so_far reading lines) ≡ length (first_text reading.format reading.is_consistent) + length (lines_text reading.format 1 lines)
lines_longer reading lines = length-append (first_text reading.format reading.is_consistent) (lines_text reading.format 1 lines)

-- one line more is longer by at least its first word
more_text : (format : Format) (lines : List Line) (line : Line) → length (lines_text format 1 lines) + 4 ≤ length (lines_text format 1 (lines ++ line ∷ []))
more_text format lines line =
    let next = written format (next_number lines) line in
    let more = ap length (next_text format lines line) ∙ length-append (lines_text format 1 lines) (line_text next) in
    omega (arith, more, line_some next)

-- since the start, all that came is what was let go, and what is at hand
bytes_since : (start : SourceState) (lines : List Line) (reading : Reading) (now : SourceState) → HasLines start lines reading now
    → bytes_to_come reading now + length (text_so_far reading lines) ≡ start.most
bytes_since start lines reading now h =
    let text = text_so_far reading lines in
    let all : length h.part.read ≡ length text + length reading.hand.line + length reading.hand.ahead =
    ap length h.part.in_order ∙ length-append (text ++ reading.hand.line) reading.hand.ahead ∙ ap (λ n. n + length reading.hand.ahead) (length-append text reading.hand.line) in
    omega (arith, h.part.given.fell, all)

pub fewer_to_come : (start : SourceState) (lines : List Line) (full : Line) (old new : Reading) (before after : SourceState) → new.format ≡ old.format
    → HasLines start lines old before → HasLines start (lines ++ full ∷ []) new after → bytes_to_come new after < bytes_to_come old before
fewer_to_come start lines full old new before after same h k =
    omega (
      arith,
      bytes_since start lines old before h,
      bytes_since start (lines ++ full ∷ []) new after k,
      lines_longer old lines,
      lines_longer new (lines ++ full ∷ []),
      subst (λ (f : Format). length (lines_text old.format 1 lines) + 4 ≤ length (lines_text f 1 (lines ++ full ∷ []))) (sym same) (more_text old.format lines full),
      first_most old.format old.is_consistent,
      first_least new.format new.is_consistent,
    )

-- ---- what is found when all have come

-- the line that came, as the definitions have it
pub next_line : (old new : Reading) (before after : SourceState) (found : Option code.Line) (line : code.Line) → found ≡ Some line
    → IsNext old new before after (option_map line_of found) → IsNextLine old new before after (line_of line)
next_line old new before after found line e n = subst (λ (f : Option code.Line). IsNext old new before after (option_map line_of f)) e n

no_next : (old new : Reading) (before after : SourceState) (found : Option code.Line) → found ≡ None → IsNext old new before after (option_map line_of found) → HasNoLine old × (new ≡ old) × (after ≡ before)
no_next old new before after found e n = subst (λ (f : Option code.Line). IsNext old new before after (option_map line_of f)) e n

pub line_fits : (o : Ontology) (first old new : Reading) (source before after : SourceState) (lines : List Line) (kept : Line) → first.ontology ≡ o
    → HaveCome first old source before lines → IsNextLine old new before after kept → IsLineOf o kept
line_fits o first old new source before after lines kept e h n =
    kept_within o old.most_premises n.full kept (subst (λ (x : Ontology). fits_line x n.full ≡ true) (h.ontology ∙ e) n.fits) n.kept

pub all_are_kept : (o : Ontology) (first old new : Reading) (source before after : SourceState) (lines : List Line) (tested : TestedLines) (found : Option code.Line) → first.ontology ≡ o
    → KeepsEnough first → HaveCome first old source before lines → AreKeptOf first.most_premises tested o lines → found ≡ None → IsNext old new before after (option_map line_of found)
    → AllAreKept o first new source after tested
all_are_kept o first old new source before after lines tested found e (most, is, rules) h k none n =
    let (no_line, same, still) = no_next old new before after found none n in
    record {
      lines = lines;
      come = subst (λ (r : Reading). HaveCome first r source after lines) (sym same) (subst (λ (s : SourceState). HaveCome first old source s lines) (sym still) h);
      none = subst HasNoLine (sym same) no_line;
      kept = kept_full o most (subst (λ (x : Ontology). RulesTakeAtMost x most) e rules) lines _ _ _ _ _ (subst (λ (m : Option ℕ). AreKeptOf m tested o lines) is k);
    }

-- and with what is listed behind the lines this is kept of the certificate
pub is_tested : (o : Ontology) (first last : Reading) (start before after end : SourceState) (tested : TestedLines) (shown : ShownLines) (listed : Option ListedRuns) → first.ontology ≡ o
    → HasLines start [] first before → AllAreKept o first last before after tested → ShowsThose tested shown → IsFinished last after end (option_map listing_of listed)
    → IsTestedFrom o start end (record { lines = shown; listed = listed })
is_tested o first last start before after end tested shown listed e h k (bad, contradictory, above, types) finished =
    let lines = k.lines in
    let certificate : Certificate = record { lines = lines; listed = option_map listing_of listed } in
    let read = finished start lines (k.come.behind start h) in
    record {
      taken = read.taken;
      given = read.given;
      unfailed = read.unfailed;
      end = read.end;
      tested = record {
        certificate = certificate;
        text_is = subst (λ (x : Ontology). IsSomeTextOf x read.taken certificate) (k.come.ontology ∙ e) read.text_is;
        bad_is = subst (λ (b : Option ℕ). MatchOption b (IsDerivation o lines) (IsFirstBadLine o lines)) (sym bad) k.kept.tested.bad_is;
        shown = record {
          contradiction = subst (λ (b : Bool). TellsContradiction b lines) (sym contradictory) k.kept.shown.contradiction;
          superclasses = subst (AreSuperclasses o (said_by lines)) (sym above) k.kept.shown.superclasses;
          members = subst (AreTypes o (said_by lines)) (sym types) k.kept.shown.members;
        };
        listed_is = refl;
      };
    }

-- the next line leaves fewer bytes
pub next_fewer : (first old new : Reading) (source before after : SourceState) (lines : List Line) (kept : Line) (start : SourceState) → HasLines start [] first source
    → HaveCome first old source before lines → IsNextLine old new before after kept → bytes_to_come new after < bytes_to_come old before
next_fewer first old new source before after lines kept start l h n =
    fewer_to_come start lines n.full old new before after n.format (h.behind start l) (n.behind start lines (h.behind start l))
