-- The text of what is listed, part by part.
use Rattle.std.proofs.Common.{◌≡◌, ℕ, ◌<◌, ◌++◌, ◌^◌, List, length, map, sym, ap, ◌∙◌}
use Rattle.std.specs.Prelude.{codes}
use Rattle.std.specs.List.{flat_map, enumerate_from}
use Rattle.axioms.specs.Growth.{IsBounded}
use Rattle.axioms.specs.Ontology.{Ontology}
use Rattle.axioms.specs.WellFormedness.{IsOntology}
use Rattle.certificate.specs.Certificate.{Line, Listed}
use Rattle.certificate.specs.declared.format.Format.{Format}
use Rattle.certificate.specs.Text.{class_text, pairs_text, individual_text, claim_text}
use Rattle.certificate_text.specs.LineText.{text_to_domain}
use Rattle.closure.specs.Closure.{Context}
use Rattle.exactness.specs.ListedInterpretation.{AreSatisfiableContexts, IsConsistent}
use Rattle.certificate.specs.View.{class_row_of, pair_row_of}
use Rattle.certificate.specs.declared.listed.ClassRow.{ClassRow}
use Rattle.certificate.specs.declared.listed.PairRow.{PairRow}
use Rattle.countermodel.specs.Sinks.{Adds}
use Rattle.countermodel.proofs.SpelledParts.{in_parts}
use Rattle.countermodel.specs.PairRows.{ArePairRows}
use Rattle.countermodel.specs.MemberRows.{AreClassRows, AreIndividualElements, AreOwnClaims}
use Rattle.countermodel.specs.WholeText.{IsTextWithListed}
use Rattle.countermodel.proofs.Interpreted.{listed_for, listed_of, numbers_small}

-- a text of its parts, one behind the other
pub record HasParts (o : Ontology) (asked : List ℕ) (elements : List Context) (format : Format) (lines : List Line) (text : List ℕ) : Type 0 where
  pub begun : List ℕ
  pub prefix : begun ≡ text_to_domain format lines (length elements)
  pub with_classes : List ℕ
  pub classes : Adds {R = ClassRow} (λ rs. AreClassRows o asked elements (map class_row_of rs)) (λ rs. with_classes ≡ begun ++ flat_map (class_text format) (map class_row_of rs))
  pub with_pairs : List ℕ
  pub pairs : Adds {R = PairRow} (λ rs. ArePairRows o asked elements (map pair_row_of rs)) (λ rs. with_pairs ≡ with_classes ++ flat_map (pairs_text format) (map pair_row_of rs))
  pub numbers : List ℕ
  pub individuals : AreIndividualElements o elements numbers
  pub claims : List (ℕ × ℕ)
  pub own : AreOwnClaims o elements claims
  pub spelled : text ≡ with_pairs ++ flat_map individual_text (enumerate_from 0 numbers) ++ flat_map claim_text claims ++ codes "end\n"

module _ (o : Ontology) (asked : List ℕ) (w : IsOntology o) (bounded : IsBounded o) (consistent : IsConsistent o asked) (elements : List Context) (are : AreSatisfiableContexts o asked elements) (few : length elements < 2 ^ 32) where
  pub whole_text : (format : Format) (lines : List Line) (text : List ℕ) → HasParts o asked elements format lines text → IsTextWithListed o asked format lines text
  whole_text format lines text h =
      let rows = map class_row_of h.classes.rows in
      let pairs = map pair_row_of h.pairs.rows in
      let listed : Listed = record { domain = length elements; classes = rows; pairs = pairs; individuals = h.numbers; claims = h.claims } in
      let rest : List ℕ → List ℕ = λ s. s ++ flat_map individual_text (enumerate_from 0 h.numbers) ++ flat_map claim_text h.claims ++ codes "end\n" in
      let classes : h.with_classes ≡ text_to_domain format lines (length elements) ++ flat_map (class_text format) rows = h.classes.added ∙ ap (λ (s : List ℕ). s ++ flat_map (class_text format) rows) h.prefix in
      record {
        listed = listed;
        spelled = h.spelled ∙ ap rest (h.pairs.added ∙ ap (λ (s : List ℕ). s ++ flat_map (pairs_text format) pairs) classes) ∙ sym (in_parts format lines listed);
        is_listed = listed_for o asked w consistent elements are rows h.classes.are pairs h.pairs.are h.numbers h.individuals h.claims h.own;
        within = listed_of o asked w consistent elements are rows h.classes.are pairs h.pairs.are h.numbers h.individuals h.claims h.own;
        numbers = numbers_small o asked w consistent elements are rows h.classes.are pairs h.pairs.are h.numbers h.individuals h.claims h.own bounded few;
      }
