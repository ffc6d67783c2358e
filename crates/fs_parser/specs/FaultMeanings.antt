-- What a fault says of a part of a document's tokens, which end `here`.
use Rattle.std.specs.Prelude.{◌≡◌, ℕ, ◌≤◌, List, [], ◌++◌, Option, None, codes}
use Rattle.fs_lexer.specs.declared.token.Kind.TheVariants.{Opening, ShortName}
use Rattle.fs_lexer.specs.Spelling.{Token}
use Rattle.fs_parser.specs.declared.fault.ParseFault.{ParseFault}
use Rattle.fs_parser.specs.declared.fault.ParseFault.TheVariants.{Unexpected, UnexpectedEnd, UnknownPrefix, PrefixTwice, StandardPrefixChanged, TooDeep, Memory}
use Rattle.fs_parser.specs.Faults.{IsStart, IsTooMany, IsUnended, IsUnknown, IsUndeclared, IsTwice, IsChanged, opened, closed}
use Rattle.fs_parser.specs.Front.{IsTaken, IsChangedTo}
use Rattle.fs_parser.specs.Name.{Prefixes, IsBracketed}

-- a fault that says no more than its place: a token of these begins there, or it is where they end and there are none
abbrev pub IsPlain : ℕ → List Token → ParseFault → Type 0
IsPlain here tokens (Unexpected at) = IsStart at tokens
IsPlain here tokens (UnexpectedEnd at) = (here ≡ at) × (tokens ≡ [])
IsPlain here tokens Memory = Unit {0}
IsPlain here tokens _ = ⊥

-- a fault of the token that begins at this place: it is unexpected, or memory was refused
abbrev pub IsPlainAt : ℕ → ParseFault → Type 0
IsPlainAt place (Unexpected at) = place ≡ at
IsPlainAt place Memory = Unit {0}
IsPlainAt place _ = ⊥

-- a fault of the end: the tokens end here too early, or memory was refused
abbrev pub IsEnd : ℕ → ParseFault → Type 0
IsEnd here (UnexpectedEnd at) = here ≡ at
IsEnd here Memory = Unit {0}
IsEnd here _ = ⊥

abbrev pub IsMemory : ParseFault → Type 0
IsMemory Memory = Unit {0}
IsMemory _ = ⊥

-- what a fault says of the name in a declaration, where these prefixes were declared before
abbrev pub IsSaidOfName : Prefixes → Token → ParseFault → Type 0
IsSaidOfName declared t (PrefixTwice at) = (t.at ≡ at) × (prefix : List ℕ) × (t.text ≡ prefix ++ codes ":") × IsTaken declared prefix
IsSaidOfName declared t e = IsPlainAt t.at e

-- what a fault says of the IRI in a declaration, where the prefix has this name, which stands at this place
abbrev pub IsSaidOfIri : List ℕ → ℕ → Token → ParseFault → Type 0
IsSaidOfIri prefix place t (StandardPrefixChanged at) = (place ≡ at) × (iri : List ℕ) × IsBracketed iri t.text × IsChangedTo prefix iri
IsSaidOfIri prefix place t (Unexpected at) = (t.at ≡ at) × ((iri : List ℕ) → IsBracketed iri t.text → ⊥)
IsSaidOfIri prefix place t e = IsPlainAt t.at e

-- what a fault says of an open parenthesis at this place, where so many are open
abbrev pub IsTooDeepAt : ℕ → ℕ → ℕ → ParseFault → Type 0
IsTooDeepAt limit open' place (TooDeep at) = (place ≡ at) × (limit ≤ open')
IsTooDeepAt limit open' place e = IsMemory e

-- what a fault says of one more token, where so many parentheses are open and the token names the IRI, if any
abbrev pub IsSaidOfToken : ℕ → ℕ → Option (List ℕ) → Token → ParseFault → Type 0
IsSaidOfToken limit open' name t (UnknownPrefix at) = (t.at ≡ at) × (t.kind ≡ ShortName) × (name ≡ None)
IsSaidOfToken limit open' name t (TooDeep at) = (t.at ≡ at) × (t.kind ≡ Opening) × (limit ≤ open')
IsSaidOfToken limit open' name t e = IsPlainAt t.at e

-- what a fault says of trees. No more parentheses are closed than were opened where the end is told
abbrev pub IsSaidOfTrees : ℕ → ℕ → Prefixes → List Token → ParseFault → Type 0
IsSaidOfTrees limit here known tokens (UnknownPrefix at) = IsUnknown known at tokens
IsSaidOfTrees limit here known tokens (TooDeep at) = IsTooMany limit at tokens
IsSaidOfTrees limit here known tokens (UnexpectedEnd at) = (here ≡ at) × (closed tokens ≤ opened tokens)
IsSaidOfTrees limit here known tokens e = IsPlain here tokens e

-- what a fault says of a declaration or the ontology, behind these declarations
abbrev pub IsSaid : ℕ → Prefixes → List Token → ParseFault → Type 0
IsSaid here declared tokens (UnknownPrefix at) = IsUndeclared at declared tokens
IsSaid here declared tokens (PrefixTwice at) = IsTwice at declared tokens
IsSaid here declared tokens (StandardPrefixChanged at) = IsChanged at tokens
IsSaid here declared tokens (TooDeep at) = IsTooMany 65 at tokens
IsSaid here declared tokens (UnexpectedEnd at) = (here ≡ at) × IsUnended tokens
IsSaid here declared tokens e = IsPlain here tokens e
