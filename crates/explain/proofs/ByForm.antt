-- What is known of a fact that a form gave.
use Rattle.std.proofs.Common.{◌≡◌, ℕ, ◌<◌, List, length, map, slice_get, option_map, Option, Some, Contains, sym, ap, ◌∙◌, subst}
use Rattle.lemmas.proofs.Mapped.{slice_get_map_from}
use Rattle.axioms.specs.Ontology.{Ontology, Axiom}
use Rattle.axioms.specs.WellFormedness.{IsOntology}
use Rattle.certificate.specs.Certificate.{Line}
use Rattle.certificate.specs.declared.line.Rule.{Rule}
use Rattle.engine.specs.Saturations.{Saturated, IsSaturated}
use Rattle.facts.specs.Births.{Reason}
use Rattle.facts.specs.declared.contexts.Fact.{Fact}
use Rattle.normal_forms.specs.declared.forms.Form.{Form}
use Rattle.normal_forms.specs.declared.forms.Origin.{Origin}
use Rattle.normal_forms.specs.declared.forms.Origin.TheVariants as origins
use Rattle.normalise.specs.Entries.{form_in, origin_in}
use Rattle.normalise.specs.Problem.{prefixes_of}
use Rattle.explain.specs.FormRule.{origin_rule, stated_rule}
use Rattle.explain.specs.OlderFacts.{rests_on}
use Rattle.explain.specs.Premises.{LeadUpAt, ShowsTaken, TakesNoSame}
use Rattle.explain.specs.Step.{LeadTo}
use Rattle.explain.specs.Uses.{NamesForm}
use Rattle.explain.proofs.Births.{rests_there, rests_lead_up}
use Rattle.explain.proofs.BornByExpression.{born_by_expression}
use Rattle.explain.proofs.Leading.{axiom_there, leads_to}

-- lines lead to the fact by a rule, and by an axiom, where there is one
abbrev pub LeadsBy : Ontology → Saturated → List Line → List ℕ → Fact → Rule × Option ℕ → Type 0
LeadsBy o s lines numbers f by = LeadTo o (prefixes_of s.normal) lines by.0 by.1 numbers f

-- what its line rests on is there and lifts to what the form names, and lines that show that lead to it
pub record IsLedTo (o : Ontology) (s : Saturated) (r : Reason) (m : ℕ) (form : Form) (f : Fact) : Type 0 where
  pub there : (p : ℕ) → Contains (rests_on s.normal.entries r) p → p < length s.state.facts
  pub lift : LeadUpAt s form (rests_on s.normal.entries r)
  pub lead_to : (lines : List Line) (numbers : List ℕ) → ShowsTaken s lines form (rests_on s.normal.entries r) numbers
      → LeadsBy o s lines numbers f (origin_rule o (option_map origin_in (slice_get s.normal.entries m)) form)

module _ (o : Ontology) (s : Saturated) (w : IsOntology o) (saturated : IsSaturated o s) (n : ℕ) (r : Reason) (born : slice_get s.state.births n ≡ Some r) (f : Fact) (there : slice_get s.state.facts n ≡ Some f)
    (m : ℕ) (place : r.form ≡ Some m) (of_form : NamesForm r.condition) (form : Form) (at_form : slice_get s.state.problem.forms m ≡ Some form) (free : TakesNoSame form) where
  at_entries : slice_get (map form_in s.normal.entries) m ≡ Some form
  at_entries = ap (λ (fs : List Form). slice_get fs m) (sym saturated.forms) ∙ at_form

  by_origin : (origin : Origin) → option_map origin_in (slice_get s.normal.entries m) ≡ Some origin → IsLedTo o s r m form f
  by_origin (origins.Axiom number) by =
      let (a, stated) = axiom_there o s m number saturated by in
      record {
        there = rests_there o s saturated n r born m place of_form number by form f free at_form there;
        lift = rests_lead_up o s saturated n r born m place of_form number by form f free at_form there;
        lead_to = λ lines numbers showing.
            subst (λ (x : Option Origin). LeadsBy o s lines numbers f (origin_rule o x form)) (sym by)
            (subst (λ (x : Option Axiom). LeadsBy o s lines numbers f (stated_rule x number form)) (sym stated)
            (leads_to o s saturated n r born m place of_form number by form at_form w a stated f there lines numbers free showing));
      }
  by_origin (origins.Expr e) by =
      let from = born_by_expression o s w saturated n r born f there m e form place of_form by at_entries in
      record {
        there = subst (λ (ms : List ℕ). (p : ℕ) → Contains ms p → p < length s.state.facts) (sym from.rests) from.there;
        lift = subst (λ (ms : List ℕ). LeadUpAt s form ms) (sym from.rests) from.lift;
        lead_to = λ lines numbers showing.
            subst (λ (x : Option Origin). LeadsBy o s lines numbers f (origin_rule o x form)) (sym by)
            (from.lead_to lines numbers (subst (λ (ms : List ℕ). ShowsTaken s lines form ms numbers) from.rests showing));
      }

  pub led_to : IsLedTo o s r m form f
  led_to =
      let (entry, at, is) = slice_get_map_from form_in s.normal.entries m form at_entries in
      by_origin entry.origin (ap (option_map origin_in) at)
