-- The axioms that are inferred say such lines.
use Rattle.std.proofs.Common.{◌≡◌, ℕ, ◌<◌, List, [], ◌∷◌, length, Bool, All, refl, ap₂, subst, arith}
use Rattle.std.specs.List.{filter}
use Rattle.std.proofs.lemmas.List.Elements.{All-filter}
use Rattle.axioms.specs.Expression.{Named, owl_nothing, owl_thing}
use Rattle.axioms.specs.Ontology.{Names, name_at}
use Rattle.axioms.specs.Axiom.{SubClassOf}
use Rattle.axioms.specs.Numbering.{States}
use Rattle.taxonomy.specs.Relation.{is_listed, lies_below}
use Rattle.taxonomy.specs.Superclasses.{AreOnce}
use Rattle.taxonomy.specs.Texts.{group, groups, in_byte_order, is_directly_above, is_no_bottom, is_same, least_among, least_groups, nothing_class}
use Rattle.taxonomy.specs.declared.outcome.Outcome.{Outcome}
use Rattle.taxonomy.specs.declared.outcome.Outcome.TheVariants.{Consistent, Inconsistent}
use Rattle.taxonomy.proofs.Agreement.{all_in_byte_order}
use Rattle.taxonomy.proofs.Once.{once_filter}
use Rattle.inferred_text.specs.Inferred.{axioms_of_order, group_axioms, inferred_axioms, individual_axioms, is_no_top, sameness, subclass_axiom, type_axiom, type_axioms}
use Rattle.inferred_text.proofs.Said.{HaveLines, Below, Member, Same, both_lines, each_line, lines_of_each, no_lines, one_line}
use Rattle.inferred_text.proofs.Orders.{once_in_order}
use Rattle.inferred_text.proofs.Distinct.{chosen_within, group_within}

module _ (names : Names) where
  same_lines : (cs : List ℕ) → AreOnce cs → All (λ c. c < length names.classes) cs → HaveLines names (sameness names cs)
  same_lines [] o l = no_lines names
  same_lines (c ∷ []) o l = no_lines names
  same_lines (c ∷ d ∷ cs) o l = one_line names (Same (c ∷ d ∷ cs)) (omega arith, o, l)

  module _ (r : ℕ → ℕ → Bool) where
    abbrev all : List ℕ
    all = in_byte_order names.classes

    -- of chosen groups, those that are not owl:Thing's are classes that are there
    shown : (p : ℕ → Bool) → All (λ c. c < length names.classes) (filter (is_no_top r) (filter p (groups r all)))
    shown p = All-filter (is_no_top r) (λ c. c < length names.classes) (filter p (groups r all)) (chosen_within p r names.classes (filter p (groups r all)) refl)

    group_lines : (g : ℕ) → HaveLines names (sameness names (group r all g))
    group_lines g = same_lines (group r all g) (once_filter (is_same r g) all (once_in_order names.classes)) (group_within r names.classes g (group r all g) refl)

    lines_above : (g : ℕ) → g < length names.classes → HaveLines names (group_axioms names r all g)
    lines_above g low =
        let above = filter (is_directly_above r (length names.classes) g) (groups r all) in
        both_lines names _ _ (group_lines g)
        (each_line names (subclass_axiom names g) (λ h. Below g h) (λ h. refl) (filter (is_no_top r) above) (λ k d i. (low, shown (is_directly_above r (length names.classes) g) k d i)))

    order_lines : HaveLines names (axioms_of_order names r all)
    order_lines =
        let leading = filter (is_no_bottom r) (groups r all) in
        both_lines names _ _
        (lines_of_each names (group_axioms names r all) leading (λ k d i. lines_above _ (chosen_within (is_no_bottom r) r names.classes leading refl k d i)))
        (group_lines nothing_class)

    type_lines : (belongs : ℕ → ℕ → Bool) (a : ℕ) → a < length names.individuals → HaveLines names (type_axioms names r belongs a)
    type_lines belongs a low =
        let least = least_groups names.classes r (belongs a) in
        each_line names (type_axiom names a) (λ c. Member a c) (λ c. refl) (filter (is_no_top r) least) (λ k d i. (low, shown (least_among (length names.classes) r (belongs a)) k d i))

    member_lines : (belongs : ℕ → ℕ → Bool) → HaveLines names (individual_axioms names r belongs)
    member_lines belongs = lines_of_each names (type_axioms names r belongs) (in_byte_order names.individuals) (λ k d i. type_lines belongs _ (all_in_byte_order names.individuals k d i))

  pub found_lines : 1 < length names.classes → name_at names.classes 0 ≡ owl_thing → name_at names.classes 1 ≡ owl_nothing → (outcome : Outcome) → HaveLines names (inferred_axioms names outcome)
  found_lines two thing nothing (Consistent taxonomy types) =
      both_lines names _ _
      (order_lines (lies_below taxonomy))
      (member_lines (lies_below taxonomy) (is_listed types))
  found_lines two thing nothing Inconsistent =
      subst (λ s. HaveLines names (s ∷ [])) (ap₂ (λ x y. States (SubClassOf (Named x) (Named y))) thing nothing)
      (one_line names (Below 0 1) (omega (arith, two), two))
