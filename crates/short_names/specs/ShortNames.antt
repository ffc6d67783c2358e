-- Names by prefixes, and texts in which names stand so (OWL 2 Structural Specification, sections 2.4 and 3.7).
use Rattle.std.specs.Prelude.{◌≡◌, ◌<◌, ◌≤◌, ◌⊎◌, ◌++◌, ◌∷◌, [], ℕ, List, true, codes, length}
use Rattle.std.specs.List.{Contains}
use Rattle.fs_lexer.specs.Spelling.{IsPrefixName, is_local_name}
use Rattle.fs_parser.specs.Name.{Prefixes}

-- ---- names

-- the text names the IRI by the prefix: its name, a colon and a local name, which stands in the IRI behind the prefix's own
pub record IsShortBy (prefix : List ℕ × List ℕ) (text iri : List ℕ) : Type 0 where
  pub local : List ℕ
  pub text_is : text ≡ prefix.0 ++ codes ":" ++ local
  pub iri_is : iri ≡ prefix.1 ++ local
  pub prefix_name : IsPrefixName (prefix.0 ++ codes ":")
  pub local_name : is_local_name local ≡ true

-- none of the prefixes names the IRI
abbrev pub HasNoShort : Prefixes → (iri : List ℕ) → Type 0
HasNoShort prefixes iri = (prefix : List ℕ × List ℕ) (text : List ℕ) → Contains prefixes prefix → IsShortBy prefix text iri → ⊥

-- the text names the IRI by one of the prefixes: of those by which it is named the first with the longest IRI
pub record IsShortForm (prefixes : Prefixes) (text iri : List ℕ) : Type 0 where
  pub before : Prefixes
  pub prefix : List ℕ × List ℕ
  pub behind : Prefixes
  pub prefixes_are : prefixes ≡ before ++ prefix ∷ behind
  pub short : IsShortBy prefix text iri
  pub longer : (other : List ℕ × List ℕ) (name : List ℕ) → Contains before other → IsShortBy other name iri → length other.1 < length prefix.1
  pub as_long : (other : List ℕ × List ℕ) (name : List ℕ) → Contains behind other → IsShortBy other name iri → length other.1 ≤ length prefix.1

-- ---- texts

-- what stands between angle brackets, as names are written there, is shown so: as the short form of its IRI, or as it is where there is none
abbrev pub IsShownName : Prefixes → (written : List ℕ → List ℕ) → (inside shown : List ℕ) → Type 0
IsShownName prefixes written inside shown =
    ((iri : List ℕ) × (inside ≡ written iri) × IsShortForm prefixes shown iri)
    ⊎ ((shown ≡ codes "<" ++ inside ++ codes ">") × ((iri : List ℕ) → inside ≡ written iri → HasNoShort prefixes iri))

-- the second text is the first with each name shown so, from < to the next >; all other bytes stay, and so does all behind a < that no >
-- follows
pub data IsShortened (prefixes : Prefixes) (written : List ℕ → List ℕ) : (full short : List ℕ) → Type 0 where
  ended : IsShortened prefixes written [] []
  other : {full short : List ℕ} (byte : ℕ) → (byte ≡ 60 → ⊥) → IsShortened prefixes written full short → IsShortened prefixes written (byte ∷ full) (byte ∷ short)
  named : {full short : List ℕ} (inside shown : List ℕ) → (Contains inside 62 → ⊥) → IsShownName prefixes written inside shown →
      IsShortened prefixes written full short → IsShortened prefixes written (codes "<" ++ inside ++ codes ">" ++ full) (shown ++ short)
  unclosed : (rest : List ℕ) → (Contains rest 62 → ⊥) → IsShortened prefixes written (codes "<" ++ rest) (codes "<" ++ rest)
