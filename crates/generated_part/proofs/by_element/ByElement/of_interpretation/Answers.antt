use Rattle.std.proofs.Common.{◌≡◌, ◌<◌, ◌+◌, ℕ, List, length, sym, ap, ◌∙◌, subst, arith}
use Rattle.std.proofs.lemmas.List.{length_push}
use Rattle.axioms.specs.declared.ids.ClassId.{ClassId}
use Rattle.axioms.specs.declared.ids.PropId.{PropId}
use Rattle.number_sets.specs.Pieces.{list_at}
use Rattle.generated_part.specs.Elements.{AreClassesAt, ArePairsAt}
use Rattle.number_sets.proofs.Members.{each_more}
use Rattle.generated_part.proofs.Rows.{by_element}
use Rattle.generated_part.proofs.by_element.ByElement.of_interpretation.Goals as goal

pub loop-element-preserved : goal.loop-element-preserved
loop-element-preserved c =
    let i = c.args.interpretation.now in
    let e = c.loop-element.element in
    let was = c.loop-element.invariant in
    let classes = c.loop-element.classes in
    let pairs = c.loop-element.pairs in
    let pair_list = c.deref-in-loop-element.result.now in
    let put_classes = c.in_ok-push_list.ensures.ok in
    let put_pairs = c.in_ok-push_list-2.ensures.ok in
    let named = length c.classes-named.result.now in
    let properties = length c.properties-properties.result.now in
    record {
      classes_long = omega (arith, ap length put_classes, length_push classes c.deref.result.now, was.classes_long);
      pairs_long = omega (arith, ap length put_pairs, length_push pairs pair_list, was.pairs_long);
      classes = subst (λ (ls : List (List ClassId)). (x : ℕ) → x < e + 1 → AreClassesAt i named x (list_at ls x)) (sym put_classes)
          (each_more (AreClassesAt i named) classes c.deref.result.now e was.classes_long was.classes (subst (AreClassesAt i named e) (sym c.deref.ensures.value) c.in_ok-classes_at.ensures));
      pairs = subst (λ (ls : List (List (PropId × ℕ))). (x : ℕ) → x < e + 1 → ArePairsAt i properties x (list_at ls x)) (sym put_pairs)
          (each_more (ArePairsAt i properties) pairs pair_list e was.pairs_long was.pairs (subst (ArePairsAt i properties e) (sym c.deref-in-loop-element.ensures.value) c.in_ok-pairs_at.ensures));
    }

pub returns : goal.returns
returns c =
    let i = c.args.interpretation.now in
    let was = c.loop-element.invariant in
    let end : c.loop-element.element ≡ i.size = omega (arith, c.loop-element-test.false, c.loop-element.auto.element-end, c.size-element-end.ensures.value) in
    by_element c.args.ontology.now c.well_formed-2.ensures i c.well_formed-3.ensures c.requires _ (was.classes_long ∙ end) (was.pairs_long ∙ end) (c.in_ok-individuals.ensures)
    (λ x l. subst (λ n. AreClassesAt i n x (list_at c.loop-element.classes x)) c.classes-named.ensures.count (was.classes x (omega (arith, end, l))))
    (λ x l. subst (λ n. ArePairsAt i n x (list_at c.loop-element.pairs x)) c.properties-properties.ensures.count (was.pairs x (omega (arith, end, l))))
