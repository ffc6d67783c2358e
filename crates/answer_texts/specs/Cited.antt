-- The axioms that a derivation cites, in the text behind its lines.
use Rattle.std.specs.Prelude.{◌≡◌, ◌↔◌, ◌<◌, ◌++◌, ℕ, List, [], Some, None, codes}
use Rattle.std.specs.declared.option.Option.{Option}
use Rattle.std.specs.List.{AllPairs, Contains, flat_map}
use Rattle.std.specs.Fmt.{decimal}
use Rattle.axioms.specs.Ontology.{Axiom, Ontology}
use Rattle.axioms.specs.View.{at_number}
use Rattle.certificate.specs.Certificate.{Line}
use Rattle.certificate.specs.Writability.{axiom_numbers}
use Rattle.answer_texts.specs.Axioms.{axiom_line}

-- the numbers are exactly those of the axioms that the lines cite, ascending, each once
pub record AreCited (lines : List Line) (numbers : List ℕ) : Type 0 where
  pub exactly : (n : ℕ) → Contains numbers n ↔ Contains (flat_map (λ line. axiom_numbers line.axiom') lines) n
  pub ascend : AllPairs (λ m n. m < n) numbers

-- as axiom 1 SubClassOf(<x:A> <x:B>)
abbrev pub cited_line : Ontology → ℕ → Option Axiom → List ℕ
cited_line o n None = []
cited_line o n (Some stated) = codes "axiom " ++ decimal n ++ codes " " ++ axiom_line o stated

-- the lines of the axioms of these numbers
abbrev pub cited_lines : Ontology → List ℕ → List ℕ
cited_lines o numbers = flat_map (λ n. cited_line o n (at_number o.axioms n)) numbers

-- the text has a line for each axiom that the lines cite, and no other
abbrev pub IsCitedText : Ontology → List Line → (text : List ℕ) → Type 0
IsCitedText o lines text = (numbers : List ℕ) × AreCited lines numbers × (text ≡ cited_lines o numbers)
