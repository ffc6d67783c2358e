-- What the steps of judging a single line say.
use Rattle.std.specs.Prelude.{◌≡◌, ℕ, ◌-◌, nat_lt, List, Option, Some, None, Bool, true, false, ◌&&◌}
use Rattle.std.specs.List.{list_all}
use Rattle.axioms.specs.Ontology.{Ontology}
use Rattle.certificate.specs.Certificate.{Conclusion, Rule, Listed, Format, One, Two}
use Rattle.certificate.specs.Tests.{is_premise, are_back}
use Rattle.certificate.specs.Text.{written_premises}
use Rattle.certificate.specs.Reading.{Reader, both}
use Rattle.certificate.specs.LineReading.{conclusion_at, rule_at, axiom_at, premises_at}
use Rattle.certificate.specs.TextLines.{TextLine, IndividualLine, text_of, follows_in}
use Rattle.certificate.specs.LineValues.{TakesRow}
use Rattle.certificate.specs.SourceReading.{premises_kept}

-- ---- lines of the derivation

-- a line's conclusion, rule and axiom
unfoldable pub front_at : Reader (Conclusion × (Rule × Option ℕ))
front_at = both conclusion_at (both rule_at axiom_at)

-- the premise of line n that a number stands for
abbrev pub read_premise : Format → ℕ → ℕ → ℕ
read_premise One n premise = premise
read_premise Two n premise = n - premise

-- .. where there is one
abbrev pub is_back : Format → ℕ → ℕ → Bool
is_back One n premise = true
is_back Two n premise = nat_lt premise n

-- the premises of line n at the front are read; so many of them are kept, and it is known whether each is one
pub record AreKept (format : Format) (n : ℕ) (most : Option ℕ) (bytes kept : List ℕ) (fit : Bool) (rest : List ℕ) : Type 0 where
  pub all : List ℕ
  pub read : premises_at bytes ≡ Some (all, rest)
  pub kept_is : kept ≡ premises_kept most (written_premises format n all)
  pub fit_is : fit ≡ (list_all is_premise all && are_back format n all)

-- ---- rows

-- the bytes are the text of that value, which passes the test, or of none that does
abbrev pub IsTextOfOne : {A : Type 0} → (A → List ℕ) → (A → Bool) → List ℕ → Option A → Type 0
IsTextOfOne text test bytes (Some x) = (text x ≡ bytes) × (test x ≡ true)
IsTextOfOne {A} text test bytes None = (x : A) → text x ≡ bytes → test x ≡ true → ⊥

abbrev pub individual_line : ℕ × ℕ → TextLine
individual_line a = IndividualLine a.0 a.1

-- the bytes are a row that may follow those of the old interpretation, and the new one has it too; or they are none of that kind
abbrev pub TakesKind : {A : Type 0} → (A → TextLine) → Ontology → Format → (old : Listed) → List ℕ → Bool → (new : Listed) → Type 0
TakesKind line o format old bytes true new = TakesRow o format old bytes true new
TakesKind {A} line o format old bytes false new = ((row : A) → text_of (line row) ≡ bytes → follows_in o format old (line row) ≡ true → ⊥) × (new ≡ old)
