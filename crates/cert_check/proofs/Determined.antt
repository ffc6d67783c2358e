-- The two texts are determined: where two pairs of texts are acceptable, they are the same.
use Rattle.std.proofs.Common.{◌≡◌, ℕ, ◌<◌, ◌↔◌, List, length, Bool, true, sym, ◌∙◌, MatchOption, Option, Some, None}
use Rattle.std.proofs.lemmas.Option.{slice_get_within}
use Rattle.std.specs.Cmp.{both_ways}
use Rattle.axioms.specs.Expression.{owl_nothing}
use Rattle.axioms.specs.Ontology.{Ontology}
use Rattle.certificate.specs.Certificate.{Line, Listed}
use Rattle.cert_check.specs.Acceptance.{AreDetermined, SaysConsistent, SaysContradictory, IsAcceptable, ClassBelow, HasType}
use Rattle.axioms.specs.WellFormedness.{IsOntology}
use Rattle.taxonomy.proofs.Agreement.{same_taxonomy, same_instances}
use Rattle.cert_check.proofs.Headline.{acceptable_says}

pub same_answer : (a b : Bool) (P : Type 0) → (a ≡ true) ↔ P → (b ≡ true) ↔ P → a ≡ b
same_answer a b P e f = both_ways a b (λ h. f.1 (e.0 h)) (λ h. e.1 (f.0 h))

pub determined_once : (o : Ontology) → IsOntology o → (taxonomy instances taxonomy' instances' : List ℕ) (r p s q : ℕ → ℕ → Bool) → AreDetermined o taxonomy instances r p → AreDetermined o taxonomy' instances' s q → (taxonomy ≡ taxonomy') × (instances ≡ instances')
determined_once o w taxonomy instances taxonomy' instances' r p s q a b =
    let agree : (c d : ℕ) → c < length o.names.classes → d < length o.names.classes → r c d ≡ s c d =
    λ c d lc ld. same_answer (r c d) (s c d) (ClassBelow o c d) (a.below c d lc ld) (b.below c d lc ld) in
    let same : (c d : ℕ) → c < length o.names.individuals → d < length o.names.classes → p c d ≡ q c d =
    λ c d lc ld. same_answer (p c d) (q c d) (HasType o c d) (a.types c d lc ld) (b.types c d lc ld) in (
      a.taxonomy_is ∙ same_taxonomy o.names.classes (slice_get_within o.names.classes 1 owl_nothing w.nothing_name) r s agree ∙ sym b.taxonomy_is,
      a.instances_is ∙ same_instances o.names.classes o.names.individuals r s p q agree same ∙ sym b.instances_is,
    )

said_once : (o : Ontology) → IsOntology o → (taxonomy instances taxonomy' instances' : List ℕ) (lines lines' : List Line) (listed listed' : Option Listed) →
    MatchOption listed (SaysContradictory o taxonomy instances lines) (SaysConsistent o taxonomy instances lines) →
    MatchOption listed' (SaysContradictory o taxonomy' instances' lines') (SaysConsistent o taxonomy' instances' lines') →
    (taxonomy ≡ taxonomy') × (instances ≡ instances')
said_once o w t i t' i' lines lines' None None a b = (a.shown.taxonomy_is ∙ sym b.shown.taxonomy_is, a.shown.instances_is ∙ sym b.shown.instances_is)
said_once o w t i t' i' lines lines' None (Some l) a b = absurd (b.consistent a.contradictory)
said_once o w t i t' i' lines lines' (Some k) None a b = absurd (a.consistent b.contradictory)
said_once o w t i t' i' lines lines' (Some k) (Some l) a b = determined_once o w t i t' i' a.lies_below a.belongs b.lies_below b.belongs a.determined b.determined

-- an ontology has one pair of acceptable texts
pub accepted_once : (o : Ontology) → IsOntology o → (taxonomy instances text taxonomy' instances' text' : List ℕ) → IsAcceptable o taxonomy instances text → IsAcceptable o taxonomy' instances' text' → (taxonomy ≡ taxonomy') × (instances ≡ instances')
accepted_once o w t i x t' i' x' a b =
    said_once o w t i t' i' a.certificate.lines b.certificate.lines a.certificate.listed b.certificate.listed (acceptable_says o w t i x a) (acceptable_says o w t' i' x' b)
