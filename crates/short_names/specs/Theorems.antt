-- What is proved of short forms: read back, each is its name.
use Rattle.std.specs.Prelude.{ℕ, List}
use Rattle.fs_lexer.specs.Spelling.{IsOfKind}
use Rattle.fs_lexer.specs.declared.token.Kind.TheVariants.{ShortName}
use Rattle.fs_parser.specs.Name.{Prefixes, IsNameOf}
use Rattle.short_names.specs.ShortNames.{IsShortForm}

-- a short form is one token, and with the prefixes that token is the name of the IRI, wherever it stands
abbrev pub ShortFormsReadBack : Type 0
ShortFormsReadBack =
    (prefixes : Prefixes) (text iri : List ℕ) (at : ℕ) → IsShortForm prefixes text iri →
    IsOfKind ShortName text × IsNameOf prefixes (record { kind = ShortName; text = text; at = at }) iri
