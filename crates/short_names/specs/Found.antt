-- What the code finds of a name and of a text.
use Rattle.std.specs.Prelude.{◌≡◌, ◌++◌, ℕ, List, Option, Some, None, codes, if◌then◌else◌, length, map, nat_le}
use Rattle.std.specs.List.{Contains}
use Rattle.fs_parser.specs.Name.{Prefixes}
use Rattle.short_names.specs.ShortNames.{HasNoShort, IsShortBy, IsShortForm, IsShortened, IsShownName}
use Rattle.short_names.specs.declared.finding.ShortName.{ShortName}
use Rattle.short_names.specs.declared.finding.WrittenPrefix.{WrittenPrefix}

-- a prefix, its IRI as names are written in the text
abbrev pub pair_of : WrittenPrefix → List ℕ × List ℕ
pair_of p = (p.name.now, p.iri.items)

abbrev pub pairs_of : List WrittenPrefix → Prefixes
pairs_of ps = map pair_of ps

abbrev pub written_prefixes : (written : List ℕ → List ℕ) → Prefixes → Prefixes
written_prefixes written ps = map (λ p. (p.0, written p.1)) ps

abbrev pub short_text : ShortName → List ℕ
short_text s = s.prefix.now ++ codes ":" ++ s.local.now

-- a name as it is shown where this was found
abbrev pub shown_text : (inside : List ℕ) → Option ShortName → List ℕ
shown_text inside None = codes "<" ++ inside ++ codes ">"
shown_text inside (Some s) = short_text s

-- the one with the shorter local name, and of two as long the first
abbrev pub shortest : Option ShortName → ShortName → ShortName
shortest None found = found
shortest (Some best) found = if nat_le (length best.local.now) (length found.local.now) then best else found

-- the name is that of the prefix, with this local name
abbrev pub IsLocalIn : (prefix : List ℕ × List ℕ) → (inside local : List ℕ) → Type 0
IsLocalIn prefix inside local = (short : IsShortBy prefix (prefix.0 ++ codes ":" ++ local) inside) × (short.local ≡ local)

-- what was found with these prefixes
abbrev pub IsFound : Prefixes → (inside : List ℕ) → Option ShortName → Type 0
IsFound ps inside None = HasNoShort ps inside
IsFound ps inside (Some s) = (form : IsShortForm ps (short_text s) inside) × (form.short.local ≡ s.local.now)

-- the text begins with bytes without < and a name in angle brackets, and goes on so
pub record IsCut (text front inside behind : List ℕ) : Type 0 where
  pub is : text ≡ front ++ codes "<" ++ inside ++ codes ">" ++ behind
  pub plain : Contains front 60 → ⊥
  pub closed : Contains inside 62 → ⊥

-- with whatever prefixes it stays as it is
abbrev pub Stays : (text : List ℕ) → Type 0
Stays text = (prefixes : Prefixes) (written : List ℕ → List ℕ) → IsShortened prefixes written text text

-- the same bytes, and behind them what is shown of the name, where names are written as they are
abbrev pub AppendsShown : Prefixes → (inside old new : List ℕ) → Type 0
AppendsShown ps inside old new = (shown : List ℕ) × IsShownName ps (λ iri. iri) inside shown × (new ≡ old ++ shown)
