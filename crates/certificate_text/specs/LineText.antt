-- The text of the lines of a derivation as it grows, behind the first line of a consistent certificate of a format.
use Rattle.std.specs.Prelude.{◌≡◌, ◌<◌, ℕ, ◌++◌, List, length, map, drop, Option, Some, None, Bool, true, ◌&&◌, codes}
use Rattle.std.specs.List.{All, list_all}
use Rattle.certificate.specs.Certificate.{Subject, Expression, Individual, Conclusion, Sub, Edge, Same, Line, source_of}
use Rattle.certificate.specs.declared.format.Format.{Format}
use Rattle.certificate.specs.declared.format.Format.TheVariants.{One, Two}
use Rattle.certificate.specs.Tests.{is_small, is_premise}
use Rattle.certificate.specs.LineReading.{line_at}
use Rattle.certificate.specs.Reading.{many_from}
use Rattle.certificate.specs.Text.{first_text, line_feed, lettered_number, written_from, lines_text}
use Rattle.certificate.specs.Writability.{HasNumbers}
use Rattle.certificate.specs.View.{subject_of}
use Rattle.certificate.specs.declared.line.Subject.{Subject as Subject2}

abbrev pub first_line : Format → List ℕ
first_line format = first_text format true

-- the lines behind the first line of a text of that format
unfoldable pub lines_in : Format → List ℕ → List Line
lines_in format text = written_from format 1 (many_from (λ last. line_at) None (length (drop 20 text)) (drop 20 text)).0

-- ---- numbers that are read again: of 32 bits, and premises from 1

abbrev pub is_small_subject : Subject → Bool
is_small_subject (Expression e) = is_small e
is_small_subject (Individual a) = is_small a

abbrev pub is_small_conclusion : Conclusion → Bool
is_small_conclusion (Sub x c) = is_small_subject x && is_small c
is_small_conclusion (Edge x r y) = is_small_subject x && (is_small r && is_small_subject y)
is_small_conclusion (Same a b) = is_small a && is_small b

abbrev pub is_small_axiom : Option ℕ → Bool
is_small_axiom None = true
is_small_axiom (Some n) = is_small n

abbrev pub fits_types : Line → Bool
fits_types line = is_small_conclusion line.conclusion && (is_small_axiom line.axiom' && list_all is_premise line.premises)

-- the format has numbers for premises of line n
abbrev pub HasNumbersOf : Format → ℕ → List ℕ → Type 0
HasNumbersOf One n premises = Unit {0}
HasNumbersOf Two n premises = All (λ p. p < n) premises

-- ---- the text of a certificate that lists an interpretation, as it grows

-- the first line, the lines of the derivation, and the line that counts the elements
abbrev pub text_to_domain : Format → List Line → ℕ → List ℕ
text_to_domain format lines domain = first_text format true ++ lines_text format 1 lines ++ (lettered_number (codes "domain ") domain ++ line_feed)

-- ---- a text with what is kept beside it

-- the text is that of its lines, whose numbers are read again, and the sources are theirs
pub record IsLineText (format : Format) (text : List ℕ) (sources : List Subject2) : Type 0 where
  pub spelled : text ≡ first_line format ++ lines_text format 1 (lines_in format text)
  pub fit : list_all fits_types (lines_in format text) ≡ true
  pub numbers : HasNumbers format (lines_in format text)
  pub kept : map subject_of sources ≡ map (λ l. source_of l.conclusion) (lines_in format text)
