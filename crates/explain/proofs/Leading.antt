-- What leads to a fact that the form of an axiom gave.
use Rattle.std.proofs.Common.{◌≡◌, ℕ, ◌<◌, List, length, map, slice_get, get_or, option_map, Some, sym, ap, ◌∙◌, subst}
use Rattle.std.proofs.lemmas.Option.{same_Some, slice_get-get_or}
use Rattle.lemmas.proofs.Mapped.{slice_get_map}
use Rattle.lemmas.proofs.Places.{slice_get_there}
use Rattle.axioms.specs.Ontology.{Ontology, Axiom}
use Rattle.axioms.specs.WellFormedness.{IsOntology}
use Rattle.axioms.specs.View.{at_number}
use Rattle.certificate.specs.Certificate.{Conclusion, Line}
use Rattle.cert_check.specs.Derivation.{IsDerived}
use Rattle.cert_check.specs.Lines.{Follows}
use Rattle.closure.specs.Denotations.{SaysForm}
use Rattle.engine.specs.Saturations.{Saturated, IsSaturated}
use Rattle.explain.proofs.Axioms.{axiom_leads, Lead}
use Rattle.explain.proofs.Births.{taken_by_axiom}
use Rattle.explain.proofs.Within.{fact_within, axiom_number_within, form_said, form_there}
use Rattle.explain.specs.FormRule.{axiom_rule}
use Rattle.explain.specs.OlderFacts.{rests_on}
use Rattle.explain.specs.Premises.{AreShowingEach, TakesNoSame, taken}
use Rattle.explain.specs.Step.{LeadTo, said_by}
use Rattle.explain.specs.Uses.{NamesForm}
use Rattle.facts.specs.Births.{Reason}
use Rattle.facts.specs.declared.contexts.Fact.{Fact}
use Rattle.normal_forms.specs.Forms as definition
use Rattle.normal_forms.specs.Origins.{AxiomGives, GivenBy}
use Rattle.normal_forms.specs.declared.forms.Form.{Form}
use Rattle.normal_forms.specs.declared.forms.Origin.{Origin}
use Rattle.normal_forms.specs.declared.forms.Origin.TheVariants as origins
use Rattle.normalise.specs.Entries.{form_in, origin_in}
use Rattle.normalise.specs.declared.entries.Entry.{Entry}
use Rattle.normalise.specs.Problem.{prefixes_of}

-- what is read in a list that is another
pub read_in : {X : Type 0} (xs ys : List X) (n : ℕ) (d : X) → ys ≡ xs → n < length xs → slice_get xs n ≡ Some (get_or ys n d)
read_in xs ys n d e l = slice_get-get_or xs n d l ∙ ap (λ zs. Some (get_or zs n d)) (sym e)

-- a form with an origin is there
form_at : (entries : List Entry) (m : ℕ) (origin : Origin) → option_map origin_in (slice_get entries m) ≡ Some origin → (form : Form) × (slice_get (map form_in entries) m ≡ Some form)
form_at entries m origin by =
    let (entry, at) = slice_get_there entries m (form_there entries m origin by) in
    (entry.form, slice_get_map form_in entries m entry at)

pub axiom_there : (o : Ontology) (s : Saturated) (m number : ℕ) → IsSaturated o s → option_map origin_in (slice_get s.normal.entries m) ≡ Some (origins.Axiom number) → (a : Axiom) × (at_number o.axioms number ≡ Some a)
axiom_there o s m number saturated by =
    let (form, at) = form_at s.normal.entries m (origins.Axiom number) by in
    let (g, says, (a, stated, gives)) = form_said o s.normal m form (origins.Axiom number) saturated.normal at by in
    (a, stated)

module _ (o : Ontology) (s : Saturated) (saturated : IsSaturated o s) (n : ℕ) (r : Reason) (born : slice_get s.state.births n ≡ Some r) (m : ℕ) (place : r.form ≡ Some m) (of_form : NamesForm r.condition)
    (number : ℕ) (origin : option_map origin_in (slice_get s.normal.entries m) ≡ Some (origins.Axiom number)) (form : Form) (at_form : slice_get s.state.problem.forms m ≡ Some form) where
  given : (g : definition.Form) × SaysForm (prefixes_of s.normal) form g × GivenBy o s.normal.asked (origins.Axiom number) g
  given = form_said o s.normal m form (origins.Axiom number) saturated.normal (ap (λ (fs : List Form). slice_get fs m) (sym saturated.forms) ∙ at_form) origin

  module _ (w : IsOntology o) (a : Axiom) (stated : at_number o.axioms number ≡ Some a) (f : Fact) (there : slice_get s.state.facts n ≡ Some f) (lines : List Line) (numbers : List ℕ)
      (free : TakesNoSame form) (showing : (fs : List Fact) → map (slice_get s.state.facts) (rests_on s.normal.entries r) ≡ map Some fs → AreShowingEach (prefixes_of s.normal) lines numbers (taken form fs)) where
    gives : AxiomGives a given.0
    gives = subst (λ b. AxiomGives b given.0) (same_Some given.2.0 a (sym given.2.1 ∙ stated)) given.2.2

    lead : Lead o (prefixes_of s.normal) s.state.problem lines numbers a (said_by f) f
    lead =
        let t = taken_by_axiom o s saturated n r born m place of_form number origin form f free at_form there in
        axiom_leads o (prefixes_of s.normal) s.state.problem lines numbers a form given.0 given.1 gives t.older f t.takes (showing t.older t.at)

    follows_by : (c : Conclusion) → said_by f ≡ Some c → Lead o (prefixes_of s.normal) s.state.problem lines numbers a (Some c) f → IsDerived o lines (record { conclusion = c; rule = axiom_rule a; axiom' = Some number; premises = numbers })
    follows_by c said (cs, at, follows) = record {
      within = record { conclusion = fact_within o s n f c w saturated there said; axiom' = axiom_number_within o number a stated };
      premises = cs;
      premises_at = at;
      follows = subst (λ x. Follows o (axiom_rule a) cs x c) (sym stated) follows;
    }

    pub leads_to : LeadTo o (prefixes_of s.normal) lines (axiom_rule a) (Some number) numbers f
    leads_to = record {
      line = λ c said. follows_by c said (subst (λ x. Lead o (prefixes_of s.normal) s.state.problem lines numbers a x f) said lead);
      prefix = λ said. subst (λ x. Lead o (prefixes_of s.normal) s.state.problem lines numbers a x f) said lead;
    }
