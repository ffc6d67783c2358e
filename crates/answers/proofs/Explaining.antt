-- What a derivation that was found, and one that was not, say of what is asked.
use Rattle.std.proofs.Common.{◌≡◌, ℕ, ◌<◌, Option, Some, None, MatchOption, List, [], ◌∷◌, ◌++◌, length, sym, subst}
use Rattle.std.proofs.lemmas.List.{length-map}
use Rattle.classification.proofs.Following.{contradictory}
use Rattle.axioms.specs.Expression.{Iri}
use Rattle.axioms.specs.Ontology.{Ontology, nothing}
use Rattle.axioms.specs.WellFormedness.{IsOntology}
use Rattle.certificate.specs.Certificate.{Line, Subject, Sub}
use Rattle.certificate.specs.Writability.{IsSubjectOf}
use Rattle.certificate.specs.View.{line_of, lines_of}
use Rattle.certificate.specs.declared.line.Line as code_line
use Rattle.closure.specs.Closure.{Context, Expression, IsContextBy, IsRoot, AreFacts}
use Rattle.exactness.specs.ListedInterpretation.{IsConsistent, IsSatisfiable}
use Rattle.exactness.specs.Derivability.{subject_of}
use Rattle.engine.specs.Saturations.{Saturated, IsSaturated}
use Rattle.answers.specs.Explanations.{IsAbout, IsClassNamed, ShowsThatItFollows}
use Rattle.explain.specs.Needs.{Derives}
use Rattle.answers.specs.Findings.{IsRefutable, line_from_nothing}
use Rattle.program.specs.declared.question.Asked.{Asked}
use Rattle.answers.proofs.Deriving.{derived_follows, derives_class, root_subject}

-- ---- what there is, or is not

pub at_some : {A : Type 0} (P : Type 0) (Q : A → Type 0) (m : Option A) (x : A) → m ≡ Some x → MatchOption m P Q → Q x
at_some {A} P Q m x is h = subst (λ (k : Option A). MatchOption k P Q) is h

pub at_none : {A : Type 0} (P : Type 0) (Q : A → Type 0) (m : Option A) → m ≡ None → MatchOption m P Q → P
at_none {A} P Q m is h = subst (λ (k : Option A). MatchOption k P Q) is h

-- ---- derivations

class_within : (o : Ontology) (asked : List ℕ) (e : ℕ) → IsRoot o asked (Expression e) → e < length o.nodes
class_within o asked e root = root_subject o asked (Expression e) root

pub derives_with : (o : Ontology) (asked : List ℕ) → IsOntology o → (x : Context) (class : ℕ) (items : List code_line.Line) (more : List Line) (y : Subject)
    → y ≡ subject_of x → IsRoot o asked x → IsRoot o asked (Expression class) → Derives o (Sub y nothing) (lines_of items)
    → more ≡ lines_of items ++ line_from_nothing y class (length items) ∷ [] → Derives o (Sub (subject_of x) class) more
derives_with o asked w x class items more y same root class_root d is =
    let counted : length (lines_of items) ≡ length items = length-map items line_of in
    let derived : Derives o (Sub y class) (lines_of items ++ line_from_nothing y class (length (lines_of items)) ∷ []) =
    derives_class o w y class (lines_of items) (subst (IsSubjectOf o) (sym same) (root_subject o asked x root)) (class_within o asked class class_root) d in
    let by_length : Derives o (Sub y class) (lines_of items ++ line_from_nothing y class (length items) ∷ []) =
    subst (λ (n : ℕ). Derives o (Sub y class) (lines_of items ++ line_from_nothing y class n ∷ [])) counted derived in
    subst (λ (z : Subject). Derives o (Sub z class) more) same (subst (λ (ls : List Line). Derives o (Sub y class) ls) (sym is) by_length)

-- ---- explanations

pub yes_explains : (o : Ontology) → IsOntology o → (s : Saturated) → IsSaturated o s → IsConsistent o s.normal.asked → (x : Context) (class : ℕ) (lines : List Line) → Derives o (Sub (subject_of x) class) lines
    → (a : Asked) (name : Iri) → IsAbout o a x → IsClassNamed o name class → ShowsThatItFollows o a name lines
yes_explains o w s h consistent x class lines d a name about named = record {
  consistent = λ none. (contradictory o w s h).0 none consistent;
  follows = derived_follows o w a x about name class named lines d;
  subject = x;
  about = about;
  expression = class;
  named = named;
  derives = d;
}

pub is_satisfiable : (o : Ontology) (asked : List ℕ) (x : Context) (class : ℕ) → IsRoot o asked x → IsRefutable o asked x class → IsSatisfiable o asked x
is_satisfiable o asked x class root refutable = record { context = ([], IsContextBy.root root, AreFacts.none); without_nothing = refutable.0 }
