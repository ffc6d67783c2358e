-- How the names of a text for people are spelled.
use Rattle.std.specs.Prelude.{◌≡◌, ℕ, List, Bool, true, false}
use Rattle.answer_texts.specs.Graphs.{escaped}
use Rattle.fs_parser.specs.Name.{Prefixes}
use Rattle.program.specs.declared.question.Spelling.{Spelling}
use Rattle.program.specs.declared.question.Spelling.TheVariants.{Full, Short}
use Rattle.short_names.specs.ShortNames.{IsShortened}

-- what stands between the angle brackets of a name: its IRI; in a graph as bytes stand inside quotation marks
abbrev pub written_in : (graph : Bool) → List ℕ → List ℕ
written_in false iri = iri
written_in true iri = escaped iri

-- the text, with its names in full or in their short forms
abbrev pub IsSpelled : Spelling → Prefixes → (graph : Bool) → (full text : List ℕ) → Type 0
IsSpelled Full prefixes graph full text = text ≡ full
IsSpelled Short prefixes graph full text = IsShortened prefixes (written_in graph) full text
