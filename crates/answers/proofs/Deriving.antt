-- Derivations that end in what is asked, and what they say.
use Rattle.std.proofs.Common.{◌≡◌, ℕ, suc, ◌<◌, inl, inr, List, [], ◌∷◌, ◌++◌, length, map, slice_get, Some, Option, unwrap_or, Contains, refl, sym, ap, ◌∙◌, subst, arith}
use Rattle.std.proofs.lemmas.Bool.{cases_eq}
use Rattle.std.proofs.lemmas.List.{length_push}
use Rattle.std.proofs.lemmas.Option.{slice_get_within}
use Rattle.lemmas.proofs.Mapped.{slice_get_map}
use Rattle.lemmas.proofs.Members.{Contains-first}
use Rattle.lemmas.proofs.Places.{slice_get_push, keeps_push}
use Rattle.axioms.specs.Expression.{Iri, ClassExpression, Named}
use Rattle.axioms.specs.Ontology.{Ontology, nothing, expression, individual_name}
use Rattle.axioms.specs.WellFormedness.{IsOntology}
use Rattle.axioms.proofs.Trees.{class_tree}
use Rattle.cert_check.specs.Derivation.{IsDerivation, at_numbers}
use Rattle.cert_check.proofs.Derivations.{line_true}
use Rattle.certificate.specs.Certificate.{Line, Subject, Sub}
use Rattle.certificate.specs.Writability.{IsSubjectOf}
use Rattle.closure.specs.Closure.{Context, Expression, IsRoot}
use Rattle.closure.specs.Closure as closure
use Rattle.exactness.specs.Derivability.{subject_of}
use Rattle.exactness.specs.Trimming.{EachServes}
use Rattle.exactness.proofs.Derivable.{derivation_push}
use Rattle.interpretation_spec.specs.Interpretation.{IsIn}
use Rattle.explain.proofs.Aiming.{has_last, lines_of_ontology}
use Rattle.explain.specs.Needs.{Derives}
use Rattle.answers.specs.Explanations.{IsAbout, IsClassNamed, FollowsFor}
use Rattle.answers.specs.Findings.{line_from_nothing}
use Rattle.program.specs.declared.question.Asked.{Asked}
use Rattle.program.specs.declared.question.Asked.TheVariants as asked

-- ---- lines

module _ (o : Ontology) (w : IsOntology o) (x : Subject) (class : ℕ) (lines : List Line) (subject : IsSubjectOf o x) (there : class < length o.nodes) (d : Derives o (Sub x nothing) lines) where
  abbrev More : List Line
  More = lines ++ line_from_nothing x class (length lines) ∷ []

  last_at : slice_get lines (length d.ends.front) ≡ Some d.ends.last
  last_at = subst (λ (ls : List Line). slice_get ls (length d.ends.front) ≡ Some d.ends.last) (sym d.ends.lines_are) (slice_get_push d.ends.front d.ends.last)

  long : length lines ≡ suc (length d.ends.front)
  long = omega (arith, ap length d.ends.lines_are, length_push d.ends.front d.ends.last)

  premise_at : at_numbers (map (λ l. l.conclusion) lines) (length lines ∷ []) ≡ Some (Sub x nothing ∷ [])
  premise_at =
      let at : slice_get (map (λ l. l.conclusion) lines) (length d.ends.front) ≡ Some (Sub x nothing) =
      slice_get_map (λ l. l.conclusion) lines (length d.ends.front) d.ends.last last_at ∙ ap Some d.ends.says in
      subst (λ (n : ℕ). at_numbers (map (λ l. l.conclusion) lines) (n ∷ []) ≡ Some (Sub x nothing ∷ [])) (sym long) (rw at refl)

  derivation : IsDerivation o More
  derivation = derivation_push lines (line_from_nothing x class (length lines)) d.derivation (record {
    within = record { conclusion = (subject, there); axiom' = tt };
    premises = Sub x nothing ∷ [];
    premises_at = premise_at;
    follows = (refl, refl);
  })

  each_serves : EachServes More
  each_serves n l = elim (cases_eq (suc n) (length lines)) [
    | inl e ↦ (length lines, line_from_nothing x class (length lines), omega (arith, e), slice_get_push lines (line_from_nothing x class (length lines)), subst (λ (k : ℕ). Contains (length lines ∷ []) k) (sym e) (Contains-first (length lines) []))
    | inr apart ↦
        (let (m, line, low, at, c) = d.serves n (omega (arith, l, apart, length_push lines (line_from_nothing x class (length lines)))) in
        (m, line, low, keeps_push lines (line_from_nothing x class (length lines)) m line at, c))
  ]

  pub derives_class : Derives o (Sub x class) More
  derives_class = record {
    derivation = derivation;
    ends = record { front = lines; last = line_from_nothing x class (length lines); lines_are = refl; says = refl };
    serves = each_serves;
    text = lines_of_ontology o More derivation;
  }

-- ---- what they say

pub named_tree : (o : Ontology) (name : Iri) (e : ℕ) → IsClassNamed o name e → expression o e ≡ Named name
named_tree o name e (c, at, g) = class_tree o c e at ∙ ap (λ (n : Option Iri). Named (unwrap_or n [])) g

-- what a derivation ends in follows
pub derived_follows : (o : Ontology) → IsOntology o → (a : Asked) (x : Context) → IsAbout o a x → (name : Iri) (e : ℕ) → IsClassNamed o name e
    → (lines : List Line) → Derives o (Sub (subject_of x) e) lines → FollowsFor o a name
derived_follows o w (asked.Class c) (Expression s) about name e named lines d = λ i m y l h.
    subst (λ (t : ClassExpression). IsIn i t y) (named_tree o name e named)
    (line_true o w lines d.derivation i m _ (has_last lines _ d.ends) y l (subst (λ (t : ClassExpression). IsIn i t y) (sym (named_tree o c.now s about)) h))
derived_follows o w (asked.Class c) (closure.Individual n) about name e named lines d = absurd about
derived_follows o w (asked.Individual a) (Expression s) about name e named lines d = absurd about
derived_follows o w (asked.Individual a) (closure.Individual n) about name e named lines d = λ i m.
    let same : individual_name o n ≡ a.now = ap (λ (k : Option Iri). unwrap_or k []) about in
    subst (λ (t : ClassExpression). IsIn i t (i.individual a.now)) (named_tree o name e named)
    (line_true o w lines d.derivation i m _ (has_last lines _ d.ends) (i.individual a.now) (m.interpretation.individuals a.now) (ap i.individual (sym same)))

-- ---- roots

-- whatever is asked about in the saturation
module _ (o : Ontology) (questions : List ℕ) where
  pub subject_root : (a : Asked) (x : Context) → IsAbout o a x → IsRoot o questions x
  subject_root (asked.Class c) (Expression s) about = IsRoot.named about.0 s about.1
  subject_root (asked.Class c) (closure.Individual n) about = absurd about
  subject_root (asked.Individual a) (Expression s) about = absurd about
  subject_root (asked.Individual a) (closure.Individual n) about = IsRoot.individual n (slice_get_within o.names.individuals n a.now about)

  pub class_root : (name : Iri) (e : ℕ) → IsClassNamed o name e → IsRoot o questions (Expression e)
  class_root name e (c, at, g) = IsRoot.named c e at

  pub root_subject : (x : Context) → IsRoot o questions x → IsSubjectOf o (subject_of x)
  root_subject _ (IsRoot.named c e at) = slice_get_within o.nodes e _ at
  root_subject _ (IsRoot.individual a l) = l
  root_subject _ (IsRoot.question e l h) = l
