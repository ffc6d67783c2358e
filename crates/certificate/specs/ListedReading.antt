-- Reading single rows of a listed interpretation.
use Rattle.std.specs.Prelude.{ℕ, ◌+◌, List, Option, Some, None, Bool, ◌&&◌, ◌==◌, nat_lt, codes}
use Rattle.axioms.specs.Ontology.{Ontology}
use Rattle.certificate.specs.Certificate.{Format, One, Two}
use Rattle.certificate.specs.Runs.{Run, numbers_of}
use Rattle.certificate.specs.Text.{line_feed}
use Rattle.certificate.specs.Reading.{Reader, ◌>>=◌, behind, both, such, made, by_word, ended, many}
use Rattle.certificate.specs.LineReading.{small_at}
use Rattle.certificate.specs.Tests.{fits_class, fits_pairs, fits_claim, fits_domain}

-- a value, and then one that depends on it
abbrev pub in_turn : {A B : Type 0} → Reader A → (A → Reader B) → Reader (A × B)
in_turn first second bytes = first bytes >>= λ x. second x.0 x.1 >>= λ y. Some ((x.0, y.0), y.1)

unfoldable pub element_at : Reader ℕ
element_at = behind (codes " ") small_at

-- the end of a run that begins with x: behind a sign and above x, or x itself
unfoldable pub end_at : ℕ → Reader ℕ
end_at x = by_word (codes "-") (such (λ y. nat_lt x y) small_at) (λ bytes. Some (x, bytes))

unfoldable pub run_at : Reader Run
run_at = made (λ p. record { first = p.0; last = p.1 }) (in_turn element_at end_at)

-- the run lies below d, and begins at least 2 past the end of the one before
abbrev pub fits_run : ℕ → Option Run → Run → Bool
fits_run d None run = nat_lt run.last d
fits_run d (Some before) run = nat_lt run.last d && nat_lt (before.last + 1) run.first

-- the run behind another, if there was one
abbrev pub next_run_at : ℕ → Option Run → Reader Run
next_run_at d before = such (fits_run d before) run_at

unfoldable pub runs_at : ℕ → Reader (List Run)
runs_at d = many (next_run_at d)

-- elements below d where they are written by runs
unfoldable pub elements_at : Format → ℕ → Reader (List ℕ)
elements_at One d = many (λ _. element_at)
elements_at Two d = made numbers_of (runs_at d)

unfoldable pub class_row_at : Format → ℕ → Reader (ℕ × List ℕ)
class_row_at format d = ended (both (behind (codes "class e") small_at) (elements_at format d)) line_feed

unfoldable pub fitting_class_at : Ontology → Format → ℕ → Option ℕ → Reader (ℕ × List ℕ)
fitting_class_at o format d last = such (fits_class o d last) (class_row_at format d)

abbrev pub pair_row_from : ℕ × (ℕ × List ℕ) → ℕ × ℕ × List ℕ
pair_row_from p = (p.0, p.1.0, p.1.1)

unfoldable pub pair_row_at : Format → ℕ → Reader (ℕ × ℕ × List ℕ)
pair_row_at format d = ended (made pair_row_from (both (behind (codes "succ p") small_at) (both element_at (elements_at format d)))) line_feed

unfoldable pub fitting_pairs_at : Ontology → Format → ℕ → Option (ℕ × ℕ) → Reader (ℕ × ℕ × List ℕ)
fitting_pairs_at o format d last = such (fits_pairs o d last) (pair_row_at format d)

-- the line of that individual
unfoldable pub individual_at : ℕ → ℕ → Reader ℕ
individual_at d k = made (λ p. p.1) (such (λ p. p.0 == k && nat_lt p.1 d) (ended (both (behind (codes "ind i") small_at) element_at) line_feed))

unfoldable pub claim_row_at : Reader (ℕ × ℕ)
claim_row_at = ended (both (behind (codes "claim e") small_at) element_at) line_feed

unfoldable pub fitting_claim_at : Ontology → ℕ → Option ℕ → Reader (ℕ × ℕ)
fitting_claim_at o d last = such (fits_claim o d last) claim_row_at

unfoldable pub domain_at : Reader ℕ
domain_at = such fits_domain (ended (behind (codes "domain ") small_at) line_feed)
