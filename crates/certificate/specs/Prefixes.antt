-- Beginnings of certificates' texts.
use Rattle.std.specs.Prelude.{◌≡◌, ℕ, List, [], ◌++◌, ◌⊎◌, length}
use Rattle.std.specs.List.{Contains}
use Rattle.axioms.specs.Ontology.{Ontology}
use Rattle.certificate.specs.Certificate.{Certificate}
use Rattle.certificate.specs.Text.{line_feed}
use Rattle.certificate.specs.Writability.{IsSomeTextOf}

-- the bytes are the beginning of a certificate's text
abbrev pub GoesOn : Ontology → List ℕ → Type 0
GoesOn o bytes = (rest : List ℕ) × (c : Certificate) × IsSomeTextOf o (bytes ++ rest) c

-- whole lines: none, or the last byte is a line feed
abbrev pub EndsLines : List ℕ → Type 0
EndsLines bytes = (bytes ≡ []) ⊎ ((front : List ℕ) × (bytes ≡ front ++ line_feed))

-- whole lines, and a piece of the next one
pub record AreLines (taken lines piece : List ℕ) : Type 0 where
  pub cut : taken ≡ lines ++ piece
  pub whole : EndsLines lines
  pub unended : Contains piece 10 → ⊥

-- the longest run of whole lines at the front that goes on has so many bytes
pub record IsLongestRun (o : Ontology) (taken : List ℕ) (long : ℕ) : Type 0 where
  pub lines : List ℕ
  pub others : List ℕ
  pub cut : taken ≡ lines ++ others
  pub length_is : length lines ≡ long
  pub whole : EndsLines lines
  pub go_on : GoesOn o lines
  pub longest : (more behind : List ℕ) → others ≡ more ++ behind → EndsLines (lines ++ more) → GoesOn o (lines ++ more) → more ≡ []

-- the bytes are the text of no certificate; the first line that cannot follow those before it begins at that place
pub record IsNoText (o : Ontology) (taken : List ℕ) (place : ℕ) : Type 0 where
  pub run : IsLongestRun o taken place
  pub none : (c : Certificate) → IsSomeTextOf o taken c → ⊥
