-- What lines of facts name is there, and what forms say by what gave them.
use Rattle.std.proofs.Common.{◌≡◌, ℕ, zero, suc, ◌<◌, List, length, map, slice_get, option_map, Option, Some, None, refl, sym, ap, ap₂, ◌∙◌, subst, arith}
use Rattle.std.proofs.lemmas.Option.{same_Some, none-some, slice_get_within}
use Rattle.lemmas.proofs.Mapped.{slice_get_map, slice_get_map_from}
use Rattle.lemmas.proofs.Members.{Contains-from_slice_get}
use Rattle.axioms.specs.Ontology.{Ontology, Axiom}
use Rattle.axioms.specs.WellFormedness.{IsOntology}
use Rattle.axioms.specs.View.{at_number}
use Rattle.certificate.specs.Certificate.{Conclusion, Sub}
use Rattle.certificate.specs.Certificate as line
use Rattle.certificate.specs.Writability.{IsConclusionOf, IsAxiomNumberOf}
use Rattle.closure.specs.Closure.{Fact}
use Rattle.closure.specs.Denotations.{Prefixes, whole, prefix, property, steps, SaysFact, in_context, edge, SaysForm}
use Rattle.exactness.specs.Derivability.{FactIsDerivable}
use Rattle.exactness.proofs.Facts.{fact_derivable}
use Rattle.exactness.proofs.Rules.{derivable_within}
use Rattle.engine.specs.Saturations.{Saturated, IsSaturated}
use Rattle.explain.proofs.Conclusions.{said_subject}
use Rattle.explain.specs.Step.{subject_in, said_by}
use Rattle.facts.specs.declared.contexts.Fact as code
use Rattle.normal_forms.specs.declared.forms.Form as code_form
use Rattle.normal_forms.specs.declared.forms.Origin.{Origin}
use Rattle.normal_forms.specs.Forms.{Form}
use Rattle.normal_forms.specs.Origins.{GivenBy}
use Rattle.normalise.specs.Entries.{form_in, origin_in}
use Rattle.normalise.specs.Growth.{IsNormalFor}
use Rattle.normalise.specs.Listing.{Listing}
use Rattle.normalise.specs.declared.entries.Entry.{Entry}
use Rattle.normalise.specs.Problem.{prefixes_of}
use Rattle.normalise.proofs.ProblemForms.{says_form}

-- ---- conclusions

said_within : (o : Ontology) (b : Prefixes) (f : code.Fact) (g : Fact) (c : Conclusion) → SaysFact b f g → FactIsDerivable o g → said_by f ≡ Some c → IsConclusionOf o c
said_within o b f g c (in_context (whole is) says_x) (source, derivable) said =
    subst (IsConclusionOf o) (ap₂ Sub (said_subject says_x) (sym is) ∙ same_Some _ c said) (derivable_within derivable)
said_within o b f g c (in_context (prefix at) says_x) derivable said = absurd (none-some c said)
said_within o b f g c (edge {x = x} {y = y} says_x (property {r = q} is) says_y) (source, target, derivable) said =
    subst (IsConclusionOf o) (ap₂ (λ s t. line.Edge s q t) (said_subject says_x) (said_subject says_y) ∙ ap (λ n. line.Edge (subject_in x) n (subject_in y)) (sym is) ∙ same_Some _ c said) (derivable_within derivable)
said_within o b f g c (edge says_x (steps at) says_y) derivable said = absurd (none-some c said)

-- what the line of a fact names is there
pub fact_within : (o : Ontology) (s : Saturated) (n : ℕ) (f : code.Fact) (c : Conclusion) → IsOntology o → IsSaturated o s → slice_get s.state.facts n ≡ Some f → said_by f ≡ Some c → IsConclusionOf o c
fact_within o s n f c w saturated there said =
    let (g, says, fact) = saturated.facts.each f (Contains-from_slice_get s.state.facts n f there) in
    said_within o (prefixes_of s.normal) f g c says (fact_derivable o s.normal.asked w fact) said

pub axiom_number_within : (o : Ontology) (n : ℕ) (a : Axiom) → at_number o.axioms n ≡ Some a → IsAxiomNumberOf o (Some n)
axiom_number_within o zero a at = absurd (none-some a at)
axiom_number_within o (suc n) a at = let l : n < length o.axioms = slice_get_within o.axioms n a at in (omega arith, omega arith)

-- ---- forms

-- where a form has an origin, it is there
pub form_there : (entries : List Entry) (n : ℕ) (origin : Origin) → option_map origin_in (slice_get entries n) ≡ Some origin → n < length entries
form_there entries n origin by = go (slice_get entries n) refl by
  where
    go : (e : Option Entry) → slice_get entries n ≡ e → option_map origin_in e ≡ Some origin → n < length entries
    go None at h = absurd (none-some origin h)
    go (Some e) at h = slice_get_within entries n e at

-- the form of that place says one that its origin gives
pub form_said : (o : Ontology) (v : Listing) (n : ℕ) (form : code_form.Form) (origin : Origin) → IsNormalFor o v → slice_get (map form_in v.entries) n ≡ Some form → option_map origin_in (slice_get v.entries n) ≡ Some origin
    → (g : Form) × SaysForm (prefixes_of v) form g × GivenBy o v.asked origin g
form_said o v n form origin normal at by =
    let (entry, at_entry, is) = slice_get_map_from form_in v.entries n form at in
    let (by', (g, (f, there, says), given)) = normal.each n (slice_get_within v.entries n entry at_entry) in
    let same : f ≡ form = same_Some f form (sym (slice_get_map form_in v.entries n _ there) ∙ at) in
    let same_origin : by' ≡ origin = same_Some by' origin (sym (ap (option_map origin_in) there) ∙ by) in
    (g, subst (λ (x : code_form.Form). SaysForm (prefixes_of v) x g) same (says_form (prefixes_of v) f g says), subst (λ (x : Origin). GivenBy o v.asked x g) same_origin given)
