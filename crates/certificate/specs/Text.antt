-- The text of a certificate, in either format: lines of ASCII, with single spaces and decimal numbers.
use Rattle.std.specs.Prelude.{ℕ, ◌+◌, List, [], ◌∷◌, ◌++◌, Some, None, Bool, true, false, if◌then◌else◌, ◌==◌, codes}
use Rattle.std.specs.declared.option.Option.{Option}
use Rattle.std.specs.List.{flat_map, enumerate_from}
use Rattle.std.specs.Fmt.{decimal}
use Rattle.certificate.specs.Certificate.{Subject, Expression, Individual, Conclusion, Sub, Edge, Same, Rule, K1, K2, K3, K4, K5, K6, K7, K8, K9, K10, K11, K12, K13, K14, K15, K16, K17, K18, K19, K20, Line, Listed, Certificate, Format, One, Two}
use Rattle.certificate.specs.Runs.{Run, runs_of, distances}

-- the end of a line
abbrev pub line_feed : List ℕ
line_feed = 10 ∷ []

abbrev pub rule_number : Rule → ℕ
rule_number K1 = 1
rule_number K2 = 2
rule_number K3 = 3
rule_number K4 = 4
rule_number K5 = 5
rule_number K6 = 6
rule_number K7 = 7
rule_number K8 = 8
rule_number K9 = 9
rule_number K10 = 10
rule_number K11 = 11
rule_number K12 = 12
rule_number K13 = 13
rule_number K14 = 14
rule_number K15 = 15
rule_number K16 = 16
rule_number K17 = 17
rule_number K18 = 18
rule_number K19 = 19
rule_number K20 = 20

-- a letter and a number, as e2
abbrev pub lettered_number : List ℕ → ℕ → List ℕ
lettered_number letter n = letter ++ decimal n

-- each number behind a space
abbrev pub spaced_numbers : List ℕ → List ℕ
spaced_numbers ns = flat_map (λ n. codes " " ++ decimal n) ns

-- as e2 or i0
abbrev pub subject_text : Subject → List ℕ
subject_text (Expression e) = lettered_number (codes "e") e
subject_text (Individual a) = lettered_number (codes "i") a

-- as sub e2 e3, edge e2 p0 e3 or same i0 i1
abbrev pub conclusion_text : Conclusion → List ℕ
conclusion_text (Sub x c) = codes "sub " ++ subject_text x ++ lettered_number (codes " e") c
conclusion_text (Edge x r y) = codes "edge " ++ subject_text x ++ lettered_number (codes " p") r ++ codes " " ++ subject_text y
conclusion_text (Same a b) = lettered_number (codes "same i") a ++ lettered_number (codes " i") b

abbrev pub axiom_text : Option ℕ → List ℕ
axiom_text None = []
axiom_text (Some n) = lettered_number (codes " a") n

-- a line with these premises, as sub e2 e3 K4 a1 3
abbrev pub line_text : Line → List ℕ
line_text line =
    conclusion_text line.conclusion ++ lettered_number (codes " K") (rule_number line.rule)
    ++ axiom_text line.axiom' ++ spaced_numbers line.premises ++ line_feed

-- the numbers that stand for the premises of line n: their own, or how far they stand before it. What is written so is read so, too
abbrev pub written_premises : Format → ℕ → List ℕ → List ℕ
written_premises One n premises = premises
written_premises Two n premises = distances n premises

-- line n with the premises that are written
abbrev pub written : Format → ℕ → Line → Line
written One n line = line
written Two n line = record line { premises = distances n line.premises }

-- .. lines from number n on
abbrev pub written_from : Format → ℕ → List Line → List Line
written_from One n lines = lines
written_from Two n [] = []
written_from Two n (line ∷ lines) = written Two n line ∷ written_from Two (n + 1) lines

-- the text of lines from number n on
abbrev pub lines_text : Format → ℕ → List Line → List ℕ
lines_text format n lines = flat_map line_text (written_from format n lines)

-- as 4, or as 4-7
abbrev pub run_text : Run → List ℕ
run_text run = codes " " ++ (if run.first == run.last then decimal run.first else decimal run.first ++ codes "-" ++ decimal run.last)

-- elements, each by itself or by runs
abbrev pub elements_text : Format → List ℕ → List ℕ
elements_text One xs = spaced_numbers xs
elements_text Two xs = flat_map run_text (runs_of xs)

-- as class e3 1 2, or class e3 1-2
abbrev pub class_text : Format → ℕ × List ℕ → List ℕ
class_text format c = lettered_number (codes "class e") c.0 ++ elements_text format c.1 ++ line_feed

-- as succ p0 1 2 3, or succ p0 1 2-3
abbrev pub pairs_text : Format → ℕ × ℕ × List ℕ → List ℕ
pairs_text format p = lettered_number (codes "succ p") p.0 ++ (lettered_number (codes " ") p.1 ++ elements_text format p.2) ++ line_feed

-- as ind i0 2
abbrev pub individual_text : ℕ × ℕ → List ℕ
individual_text a = lettered_number (codes "ind i") a.0 ++ spaced_numbers (a.1 ∷ []) ++ line_feed

-- as claim e3 2
abbrev pub claim_text : ℕ × ℕ → List ℕ
claim_text c = lettered_number (codes "claim e") c.0 ++ spaced_numbers (c.1 ∷ []) ++ line_feed

-- the lines of the listed interpretation, only of a consistent certificate
abbrev pub listed_text : Format → Option Listed → List ℕ
listed_text format None = []
listed_text format (Some l) =
    lettered_number (codes "domain ") l.domain ++ line_feed
    ++ flat_map (class_text format) l.classes
    ++ flat_map (pairs_text format) l.pairs
    ++ flat_map individual_text (enumerate_from 0 l.individuals)
    ++ flat_map claim_text l.claims

-- the first line, which names the format and whether an interpretation is listed
abbrev pub first_text : Format → Bool → List ℕ
first_text One true = codes "elcert 1 consistent" ++ line_feed
first_text One false = codes "elcert 1 inconsistent" ++ line_feed
first_text Two true = codes "elcert 2 consistent" ++ line_feed
first_text Two false = codes "elcert 2 inconsistent" ++ line_feed

abbrev pub is_listed : Option Listed → Bool
is_listed None = false
is_listed (Some l) = true

abbrev pub certificate_text : Format → Certificate → List ℕ
certificate_text format c = first_text format (is_listed c.listed) ++ lines_text format 1 c.lines ++ listed_text format c.listed ++ codes "end" ++ line_feed
