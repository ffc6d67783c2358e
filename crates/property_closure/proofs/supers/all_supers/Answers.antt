use Rattle.std.proofs.Common.{◌≡◌, ◌∷◌, [], ◌++◌, List, length, map, sym, ap, ◌∙◌, subst, arith}
use Rattle.std.proofs.lemmas.List.{length_push}
use Rattle.normal_forms.specs.declared.forms.PropId2.{PropId2}
use Rattle.number_sets.specs.Pieces.{list_at}
use Rattle.property_closure.specs.Relations.{AreAbove, as_property}
use Rattle.number_sets.proofs.Members.{each_more}
use Rattle.property_closure.proofs.Plain.{above, bounded}
use Rattle.property_closure.proofs.supers.all_supers.Goals as goal

pub run-requires-clause-bounded : goal.run-requires-clause-bounded
run-requires-clause-bounded c =
    bounded c.args.properties c.args.forms.now c.in_ok-told.told c.requires.within c.in_ok-told.ensures

pub loop-property-preserved : goal.loop-property-preserved
loop-property-preserved c =
    let forms = c.args.forms.now in
    let k = c.loop-property.property in
    let before = c.loop-property.invariant in
    let lists = c.loop-property.supers in
    let list = c.deref-in-loop-property.result.now in
    let sorted = c.sort_ascending.new.list.items in
    let list_is : list ≡ map as_property sorted =
    c.deref-in-loop-property.ensures.value ∙ c.in_ok-as_properties.ensures ∙ ap (map as_property) c.deref.ensures.value in
    let is : c.push_list.new.self ≡ lists ++ list ∷ [] = c.in_ok-push_list.ensures.ok in
    let new = above c.args.properties forms c.in_ok-told.told k c.run.new.self.found.items sorted list c.in_ok-told.ensures c.in_ok-run.ensures.found c.sort_ascending.ensures.ascending c.sort_ascending.ensures.same list_is in record {
      long = omega (arith, ap length is, length_push lists list, before.long);
      wide = c.in_ok-run.ensures.wide;
      each = λ p l. subst (λ (now : List (List PropId2)). AreAbove forms (as_property p) (list_at now p)) (sym is) (each_more (λ n. AreAbove forms (as_property n)) lists list k before.long before.each new p l);
    }
