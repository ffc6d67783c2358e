-- Bytes that are one line of the derivation.
use Rattle.std.proofs.Common.{◌≡◌, ℕ, List, [], ◌++◌, Option, Some, None, Bool, true, false, ◌&&◌, refl, sym, ap, ◌∙◌, append_assoc}
use Rattle.std.specs.Prelude.{codes}
use Rattle.std.specs.List.{list_all}
use Rattle.std.proofs.lemmas.Bool.{and_parts, and_from, false≢true}
use Rattle.std.proofs.lemmas.Option.{none-some, same_Some}
use Rattle.axioms.specs.Ontology.{Ontology}
use Rattle.certificate.specs.Certificate.{Conclusion, Rule, Line, Format}
use Rattle.certificate.specs.Text.{rule_number, lettered_number, spaced_numbers, conclusion_text, axiom_text, line_text, line_feed}
use Rattle.certificate.specs.Tests.{fits_conclusion, fits_axiom, is_premise, fits_line, are_back, fits_written}
use Rattle.certificate.specs.LineReading.{conclusion_at, rule_at, axiom_at, premises_at}
use Rattle.certificate.specs.SourceReading.{IsDerivedLine, kept_line}
use Rattle.certificate.specs.SingleLines.{front_at, AreKept}
use Rattle.certificate.proofs.Decimals.{IsApart}
use Rattle.certificate.proofs.Laws.{Reads, both_reads}
use Rattle.certificate.proofs.Derivations.{FitsConclusion, FitsAxiom, AnyRule, FitsLine, NoAxiom, EndsLine, conclusion_reads, rule_reads, axiom_reads, premises_reads, axiom_follows, premises_follow_apart, premises_follow}
use Rattle.certificate.proofs.LineMeaning.{line_means, line_tests}
use Rattle.certificate.proofs.WrittenLines.{with_premises}

-- a line's conclusion, rule and axiom
abbrev Front : Type 0
Front = Conclusion × (Rule × Option ℕ)

abbrev FitsFront : Front → Type 0
FitsFront f = FitsConclusion f.0 × (AnyRule f.1.0 × FitsAxiom f.1.1)

abbrev rule_text : Rule → List ℕ
rule_text rule = lettered_number (codes " K") (rule_number rule)

abbrev front_text : Front → List ℕ
front_text f = conclusion_text f.0 ++ (rule_text f.1.0 ++ axiom_text f.1.1)

abbrev front_of : Line → Front
front_of line = (line.conclusion, (line.rule, line.axiom'))

front_reads : Reads NoAxiom FitsFront front_text front_at
unfolding front_at
front_reads =
    both_reads IsApart NoAxiom FitsConclusion _ conclusion_text _ conclusion_at _ conclusion_reads
    (both_reads IsApart NoAxiom AnyRule FitsAxiom rule_text axiom_text rule_at axiom_at rule_reads axiom_reads (λ a rest v h. axiom_follows a rest h.0))
    (λ p rest v h. refl)

line_is : (line : Line) → line_text line ≡ front_text (front_of line) ++ (spaced_numbers line.premises ++ line_feed)
line_is line = simp append_assoc

-- what is read of a line's text
record IsReadLine (bytes : List ℕ) (line : Line) : Type 0 where
  front : front_at bytes ≡ Some (front_of line, spaced_numbers line.premises ++ line_feed)
  premises : premises_at (spaced_numbers line.premises ++ line_feed) ≡ Some (line.premises, line_feed)

line_read : (bytes : List ℕ) (line : Line) → FitsLine line → line_text line ≡ bytes → IsReadLine bytes line
line_read bytes line v e =
    let ends : EndsLine line_feed = ([], refl) in
    record {
      front = ap front_at (sym e ∙ line_is line)
          ∙ front_reads.again (front_of line) (spaced_numbers line.premises ++ line_feed) (v.conclusion, (tt, v.axiom'))
          (premises_follow_apart line.premises line_feed ends, premises_follow None line.premises line_feed v.premises ends);
      premises = premises_reads.again line.premises line_feed v.premises ends;
    }

module _ (o : Ontology) (format : Format) (number : ℕ) (bytes : List ℕ) where
  -- a line of which the bytes would be the text
  module _ (line : Line) (e : line_text line ≡ bytes) (u : fits_written o format number line ≡ true) where
    t : fits_line o line ≡ true
    t = (and_parts (fits_line o line) (are_back format number line.premises) u).0

    back : are_back format number line.premises ≡ true
    back = (and_parts (fits_line o line) (are_back format number line.premises) u).1

    is_read : IsReadLine bytes line
    is_read = line_read bytes line (line_tests o line (line_means o line t)).0 e

    parts : ((fits_conclusion o line.conclusion && fits_axiom o line.axiom') ≡ true) × (list_all is_premise line.premises ≡ true)
    parts = and_parts (fits_conclusion o line.conclusion && fits_axiom o line.axiom') (list_all is_premise line.premises) t

    front_parts : (fits_conclusion o line.conclusion ≡ true) × (fits_axiom o line.axiom' ≡ true)
    front_parts = and_parts (fits_conclusion o line.conclusion) (fits_axiom o line.axiom') parts.0

    same_front : (f : Front) (rest : List ℕ) → front_at bytes ≡ Some (f, rest) → ◌≡◌ {A = Front × List ℕ} (f, rest) (front_of line, spaced_numbers line.premises ++ line_feed)
    same_front f rest h = same_Some _ _ (sym h ∙ is_read.front)

    same_premises : (f : Front) (rest all end : List ℕ) → front_at bytes ≡ Some (f, rest) → premises_at rest ≡ Some (all, end) → ◌≡◌ {A = List ℕ × List ℕ} (all, end) (line.premises, line_feed)
    same_premises f rest all end h k = same_Some _ _ (sym k ∙ ap (λ (p : Front × List ℕ). premises_at p.1) (same_front f rest h) ∙ is_read.premises)

  pub no_front : front_at bytes ≡ None → (line : Line) → line_text line ≡ bytes → fits_written o format number line ≡ true → ⊥
  no_front none line e t = none-some _ (sym none ∙ (is_read line e t).front)

  pub no_conclusion : (f : Front) (rest : List ℕ) → front_at bytes ≡ Some (f, rest) → fits_conclusion o f.0 ≡ false → (line : Line) → line_text line ≡ bytes → fits_written o format number line ≡ true → ⊥
  no_conclusion f rest h unfit line e t =
      false≢true (sym unfit ∙ ap (λ (p : Front × List ℕ). fits_conclusion o p.0.0) (same_front line e t f rest h) ∙ (front_parts line e t).0)

  pub no_axiom : (f : Front) (rest : List ℕ) → front_at bytes ≡ Some (f, rest) → fits_axiom o f.1.1 ≡ false → (line : Line) → line_text line ≡ bytes → fits_written o format number line ≡ true → ⊥
  no_axiom f rest h unfit line e t =
      false≢true (sym unfit ∙ ap (λ (p : Front × List ℕ). fits_axiom o p.0.1.1) (same_front line e t f rest h) ∙ (front_parts line e t).1)

  pub no_premises : (f : Front) (rest : List ℕ) (most : Option ℕ) (kept : List ℕ) (fit : Bool) (end : List ℕ) → front_at bytes ≡ Some (f, rest) → AreKept format number most rest kept fit end → fit ≡ false
      → (line : Line) → line_text line ≡ bytes → fits_written o format number line ≡ true → ⊥
  no_premises f rest most kept fit end h k unfit line e t =
      false≢true (sym unfit ∙ k.fit_is ∙ ap (λ (p : List ℕ × List ℕ). list_all is_premise p.0 && are_back format number p.0) (same_premises line e t f rest k.all end h k.read)
      ∙ and_from (list_all is_premise line.premises) (are_back format number line.premises) (parts line e t).1 (back line e t))

  pub no_end : (f : Front) (rest : List ℕ) (most : Option ℕ) (kept : List ℕ) (fit : Bool) (end : List ℕ) → front_at bytes ≡ Some (f, rest) → AreKept format number most rest kept fit end → (line_feed ≡ end → ⊥)
      → (line : Line) → line_text line ≡ bytes → fits_written o format number line ≡ true → ⊥
  no_end f rest most kept fit end h k more line e t = more (sym (ap (λ (p : List ℕ × List ℕ). p.1) (same_premises line e t f rest k.all end h k.read)))

  pub is_line : (f : Front) (rest : List ℕ) (most : Option ℕ) (kept : List ℕ) (fit : Bool) (end : List ℕ) → front_at bytes ≡ Some (f, rest) → fits_conclusion o f.0 ≡ true → fits_axiom o f.1.1 ≡ true
      → AreKept format number most rest kept fit end → fit ≡ true → line_feed ≡ end → IsDerivedLine o format number most bytes (record { conclusion = f.0; rule = f.1.0; axiom' = f.1.1; premises = kept })
  is_line f rest most kept fit end h conclusion_fits axiom_fits k all_fit ended =
      let full : Line = record { conclusion = f.0; rule = f.1.0; axiom' = f.1.1; premises = k.all } in
      let all = and_parts (list_all is_premise k.all) (are_back format number k.all) (sym k.fit_is ∙ all_fit) in
      let first : bytes ≡ front_text f ++ rest = (front_reads.takes bytes f rest h).0 in
      let second : rest ≡ spaced_numbers k.all ++ end = (premises_reads.takes rest k.all end k.read).0 in
      record {
        full = full;
        text_is = line_is full ∙ sym (first ∙ ap (λ (s : List ℕ). front_text f ++ s) (second ∙ ap (λ (s : List ℕ). spaced_numbers k.all ++ s) (sym ended)));
        fits =
            and_from (fits_line o full) (are_back format number k.all)
            (and_from (fits_conclusion o f.0 && fits_axiom o f.1.1) (list_all is_premise k.all) (and_from (fits_conclusion o f.0) (fits_axiom o f.1.1) conclusion_fits axiom_fits) all.0) all.1;
        kept = ap (λ (ps : List ℕ). record full { premises = ps }) k.kept_is ∙ ap (kept_line most) (sym (with_premises format number full));
      }
