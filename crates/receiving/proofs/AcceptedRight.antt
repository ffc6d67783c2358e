-- Texts that are accepted are right.
use Rattle.std.proofs.Common.{◌≡◌, ◌∙◌, ℕ, List, sym, subst}
use Rattle.axioms.specs.Ontology.{Ontology}
use Rattle.cert_check.proofs.Determined.{accepted_once}
use Rattle.cert_check.specs.Acceptance.{AreRight}
use Rattle.receiving.specs.Theorems.{AcceptedTextsAreRight}
use Rattle.telling.proofs.OneOntology.{one_ontology}

-- texts that are the same are right, too
same_right : (o : Ontology) (t t' i i' c c' : List ℕ) → t ≡ t' → i ≡ i' → c ≡ c' → AreRight o t' i' c' → AreRight o t i c
same_right o t t' i i' c c' ts is cs right =
    subst (λ (x : List ℕ). AreRight o x i c) (sym ts) (subst (λ (x : List ℕ). AreRight o t' x c) (sym is) (subst (λ (x : List ℕ). AreRight o t' i' x) (sym cs) right))

pub accepted_right : AcceptedTextsAreRight
accepted_right version most document taxonomy instances certificate answer checked accepted = record {
  ontology = answer.ontology;
  reads = checked.reads.0;
  only = λ other p reads. one_ontology other version document p answer.ontology reads checked.reads.0;
  right = same_right answer.ontology taxonomy checked.taxonomy_text instances checked.instances_text certificate checked.certificate_text checked.taxonomy_is checked.instances_is checked.certificate_is (checked.right accepted);
  determined = λ others others' text a.
      let same = accepted_once answer.ontology checked.well_formed others others' text checked.taxonomy_text checked.instances_text checked.certificate_text a (checked.accepted.0 accepted) in
      (same.0 ∙ sym checked.taxonomy_is, same.1 ∙ sym checked.instances_is);
}
