-- Reading derivation lines. Whether a line's numbers are those of an ontology is asked of the line, not of the text.
use Rattle.std.specs.Prelude.{ℕ, zero, suc, List, [], ◌∷◌, Option, Some, None, codes, slice_get}
use Rattle.certificate.specs.Certificate.{Subject, Expression, Individual, Conclusion, Sub, Edge, Same, Rule, K1, K2, K3, K4, K5, K6, K7, K8, K9, K10, K11, K12, K13, K14, K15, K16, K17, K18, K19, K20, Line}
use Rattle.certificate.specs.Text.{line_feed}
use Rattle.certificate.specs.Tests.{is_small}
use Rattle.certificate.specs.Reading.{Reader, ◌>>=◌, behind, both, such, made, by_word, ended, many, number_at}

-- a number below 2 ^ 32
abbrev pub small_at : Reader ℕ
small_at = such is_small number_at

unfoldable pub subject_at : Reader Subject
subject_at = by_word (codes "e") (made Expression small_at) (made Individual (behind (codes "i") small_at))

unfoldable pub conclusion_at : Reader Conclusion
conclusion_at =
    by_word (codes "sub ")
    (made (λ p. Sub p.0 p.1) (both subject_at (behind (codes " e") small_at)))
    (by_word (codes "same i")
    (made (λ p. Same p.0 p.1) (both small_at (behind (codes " i") small_at)))
    (made (λ p. Edge p.0 p.1.0 p.1.1) (behind (codes "edge ") (both subject_at (both (behind (codes " p") small_at) (behind (codes " ") subject_at))))))

abbrev pub all_rules : List Rule
all_rules = K1 ∷ K2 ∷ K3 ∷ K4 ∷ K5 ∷ K6 ∷ K7 ∷ K8 ∷ K9 ∷ K10 ∷ K11 ∷ K12 ∷ K13 ∷ K14 ∷ K15 ∷ K16 ∷ K17 ∷ K18 ∷ K19 ∷ K20 ∷ []

-- the rule of that number
unfoldable pub numbered_rule : ℕ → Option Rule
numbered_rule zero = None
numbered_rule (suc n) = slice_get all_rules n

unfoldable pub rule_at : Reader Rule
rule_at bytes = behind (codes " K") number_at bytes >>= λ n. numbered_rule n.0 >>= λ rule. Some (rule, n.1)

abbrev pub no_axiom_at : Reader (Unit {0})
no_axiom_at bytes = Some (tt, bytes)

unfoldable pub axiom_at : Reader (Option ℕ)
axiom_at = by_word (codes " a") (made Some small_at) (made (λ _. None) no_axiom_at)

unfoldable pub premise_at : Reader ℕ
premise_at = behind (codes " ") number_at

unfoldable pub premises_at : Reader (List ℕ)
premises_at = many (λ _. premise_at)

abbrev pub line_from : Conclusion × (Rule × (Option ℕ × List ℕ)) → Line
line_from p = record { conclusion = p.0; rule = p.1.0; axiom' = p.1.1.0; premises = p.1.1.1 }

-- a line of any numbers that fit the types
unfoldable pub line_at : Reader Line
line_at = ended (made line_from (both conclusion_at (both rule_at (both axiom_at premises_at)))) line_feed
