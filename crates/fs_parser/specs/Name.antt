-- Prefixes, and the IRI that a token names (OWL 2 Structural Specification, sections 2.4 and 3.7).
use Rattle.std.specs.Prelude.{◌≡◌, ℕ, List, [], ◌∷◌, ◌++◌, true, codes, ◌⊎◌}
use Rattle.std.specs.List.{Contains}
use Rattle.std.specs.Str.{IsUtf8}
use Rattle.fs_lexer.specs.declared.token.Kind.TheVariants.{FullIri, ShortName}
use Rattle.fs_lexer.specs.Spelling.{Token, is_iri_byte, is_run}

-- a name's bytes are those of some characters that may stand between < and >, of which there are some
pub record CanBeSpelled (iri : List ℕ) : Type 0 where
  pub spelled : is_run is_iri_byte iri ≡ true
  pub utf8 : IsUtf8 iri

-- names of prefixes, each without its colon, and the IRIs that they stand for
abbrev pub Prefixes : Type 0
Prefixes = List (List ℕ × List ℕ)

-- these are declared from the start
unfoldable pub standard_prefixes : Prefixes
standard_prefixes =
    (codes "rdf", codes "http://www.w3.org/1999/02/22-rdf-syntax-ns#")
    ∷ (codes "rdfs", codes "http://www.w3.org/2000/01/rdf-schema#")
    ∷ (codes "xsd", codes "http://www.w3.org/2001/XMLSchema#")
    ∷ (codes "owl", codes "http://www.w3.org/2002/07/owl#")
    ∷ []

-- each name stands for one IRI
abbrev pub StandForOne : Prefixes → Type 0
StandForOne prefixes = (name iri other : List ℕ) → Contains prefixes (name, iri) → Contains prefixes (name, other) → iri ≡ other

-- each IRI that a name stands for can be spelled
abbrev pub StandForSpelled : Prefixes → Type 0
StandForSpelled prefixes = (name iri : List ℕ) → Contains prefixes (name, iri) → CanBeSpelled iri

-- the text is the name of a prefix, which ends at the first colon, and a local name, which stands behind the IRI of the prefix
pub record IsShort (prefixes : Prefixes) (text iri : List ℕ) : Type 0 where
  pub prefix : List ℕ
  pub base : List ℕ
  pub local : List ℕ
  pub text_is : text ≡ prefix ++ codes ":" ++ local
  pub no_colon : Contains prefix 58 → ⊥
  pub declared : Contains prefixes (prefix, base)
  pub iri_is : iri ≡ base ++ local

-- the text is the IRI in angle brackets
abbrev pub IsBracketed : List ℕ → List ℕ → Type 0
IsBracketed iri text = text ≡ codes "<" ++ iri ++ codes ">"

-- the token is the name of this IRI
abbrev pub IsNameOf : Prefixes → Token → List ℕ → Type 0
IsNameOf prefixes token iri = ((token.kind ≡ FullIri) × IsBracketed iri token.text) ⊎ ((token.kind ≡ ShortName) × IsShort prefixes token.text iri)
