use Rattle.std.proofs.Common.{◌≡◌, ◌-◌, ◌==◌, ◌++◌, ℕ, List, length, ap, ap₂, ◌∙◌, append_assoc}
use Rattle.std.specs.Prelude.{codes}
use Rattle.std.specs.List.{enumerate_from, flat_map, range_with_len}
use Rattle.axioms.specs.Ontology.{name_at}
use Rattle.interpretation_spec.specs.NumberedInterpretation.{members_of}
use Rattle.number_sets.specs.Members.{has}
use Rattle.answer_texts.specs.Graphs.{class_label, class_line, escaped_name, individual_label, individual_line}
use Rattle.answer_texts.proofs.Labelling.{told_numbers}
use Rattle.answer_texts.proofs.graph_of_refutation.push_labels.Goals as goal

pub returns : goal.returns
returns c = λ i made are.
    let names = c.args.ontology.now.names in
    let x = c.args.element in
    let out = c.args.out.now.items in
    let told : List ℕ → List (List ℕ) → List ℕ → List ℕ = λ before all numbers. flat_map (λ n. before ++ escaped_name (name_at all n)) numbers in
    let classes : told (codes "\\n") names.classes c.at.result.now ≡ flat_map (class_line names i x) (range_with_len 1 (length names.classes - 1)) =
    ap (told (codes "\\n") names.classes) (c.at.ensures ∙ are.classes x)
    ∙ told_numbers (class_label names) (λ k. has (members_of i k) x) (λ k. k) (range_with_len 1 (length i.classes - 1))
    ∙ ap (λ (n : ℕ). flat_map (class_line names i x) (range_with_len 1 (n - 1))) made.classes in
    let individuals : told (codes "\\nindividual ") names.individuals c.at-2.result.now ≡ flat_map (individual_line names x) (enumerate_from 0 i.individuals) =
    ap (told (codes "\\nindividual ") names.individuals) (c.at-2.ensures ∙ are.individuals x)
    ∙ told_numbers (individual_label names) (λ (a : ℕ × ℕ). a.1 == x) (λ (a : ℕ × ℕ). a.0) (enumerate_from 0 i.individuals) in
    c.in_ok-push_names-2.ensures
    ∙ ap₂ (λ (o : List ℕ) (all : List (List ℕ)). o ++ told (codes "\\nindividual ") all c.at-2.result.now)
    (c.in_ok-push_names.ensures ∙ ap (λ (all : List (List ℕ)). out ++ told (codes "\\n") all c.at.result.now) c.classes.ensures.names) c.individuals.ensures.names
    ∙ append_assoc out (told (codes "\\n") names.classes c.at.result.now) (told (codes "\\nindividual ") names.individuals c.at-2.result.now)
    ∙ ap (λ (s : List ℕ). out ++ s) (ap₂ (λ (a b : List ℕ). a ++ b) classes individuals)
