-- What the checker's yes means: rules keep truth, derivations are true, and acceptable texts are those of what follows.
use Rattle.std.specs.Prelude.{◌≡◌, ◌↔◌, ℕ, List, slice_get, IfSome, Some}
use Rattle.std.specs.declared.option.Option.{Option}
use Rattle.std.specs.List.{Contains, AllByRecursion}
use Rattle.interpretation_spec.specs.Interpretation.{Interpretation, IsInterpretation, IsModel}
use Rattle.axioms.specs.Ontology.{Ontology, Axiom, axiom_trees}
use Rattle.interpretation_spec.specs.Agreement.{AgreeOn}
use Rattle.certificate.specs.Certificate.{Certificate, Conclusion, Line, Listed}
use Rattle.certificate.specs.declared.line.Rule.{Rule}
use Rattle.cert_check.specs.Lines.{IsTrueIn, Follows}
use Rattle.certificate.specs.Writability.{IsListedOf, IsSomeTextOf}
use Rattle.cert_check.specs.Derivation.{IsDerivation}
use Rattle.axioms.specs.WellFormedness.{IsOntology}
use Rattle.cert_check.specs.Acceptance.{IsAcceptable, Says}
use Rattle.listed_model.specs.Listing.{IsListing}

-- what follows by a rule from true premises and an axiom of the ontology, or none, is true
abbrev pub RulesKeepTruth : Type 0
RulesKeepTruth =
    (o : Ontology) → IsOntology o → (i : Interpretation) → IsModel i (axiom_trees o) →
    (rule : Rule) (premises : List Conclusion) (axiom' : Option Axiom) (conclusion : Conclusion) →
    IfSome axiom' (Contains o.axioms) → Follows o rule premises axiom' conclusion →
    AllByRecursion (IsTrueIn o i) premises → IsTrueIn o i conclusion

-- each line of a derivation is true wherever the axioms hold
abbrev pub LinesAreTrue : Type 0
LinesAreTrue =
    (o : Ontology) → IsOntology o → (lines : List Line) → IsDerivation o lines →
    (i : Interpretation) → IsModel i (axiom_trees o) →
    (n : ℕ) (line : Line) → slice_get lines n ≡ Some line → IsTrueIn o i line.conclusion

-- acceptable texts say what follows from the axioms
abbrev pub AcceptableSays : Type 0
AcceptableSays =
    (o : Ontology) → IsOntology o → (taxonomy instances text : List ℕ) (a : IsAcceptable o taxonomy instances text) →
    Says o taxonomy instances a.certificate

-- acceptable taxonomy texts of an ontology are the same, and so are acceptable instances texts
abbrev pub TextsAreDetermined : Type 0
TextsAreDetermined =
    (o : Ontology) → IsOntology o → (taxonomy instances text taxonomy' instances' text' : List ℕ) →
    IsAcceptable o taxonomy instances text → IsAcceptable o taxonomy' instances' text' →
    (taxonomy ≡ taxonomy') × (instances ≡ instances')

-- of two texts of one certificate, as of those in the two formats, both are acceptable or none
abbrev pub AcceptableInBothFormats : Type 0
AcceptableInBothFormats =
    (o : Ontology) (taxonomy instances text other : List ℕ) (certificate : Certificate) →
    IsSomeTextOf o text certificate → IsSomeTextOf o other certificate →
    IsAcceptable o taxonomy instances text ↔ IsAcceptable o taxonomy instances other

-- a list of members stands for one interpretation, as far as the names of the ontology go
abbrev pub ListingsAgree : Type 0
ListingsAgree =
    (o : Ontology) → IsOntology o → (listed : Listed) → IsListedOf o listed → (i j : Interpretation) →
    IsListing o listed i → IsListing o listed j → IsInterpretation i → IsInterpretation j → AgreeOn o i j
