use Rattle.std.proofs.Common.{◌≤◌, arith, length, sym, ◌∙◌, subst, subst₂}
use Rattle.std.specs.List.{All}
use Rattle.std.proofs.lemmas.List.Elements.{All-filter}
use Rattle.normal_forms.specs.declared.forms.Form.{Form}
use Rattle.normal_forms.specs.Properties.{IsPropertyFormOf, is_property_form}
use Rattle.property_closure.specs.declared.closure.PropertyClosure.TheInside.{Inside}
use Rattle.property_closure.specs.PropertyClosures.{Known, ArePrefixes, AreProperties, IsRelated}
use Rattle.property_closure.proofs.Keeping.{related_wider}
use Rattle.property_closure.proofs.closure.PropertyClosure.grow.Goals as goal
use Rattle.property_closure.proofs.closure.PropertyClosure.grow.Goals.{then-not-is_empty+in_ok-self-inside, else-not-is_empty}

pub with-requires-clause-added : goal.with-requires-clause-added
with-requires-clause-added c =
    let P : Form → Type 0 = IsPropertyFormOf c.args.properties c.args.partials in
    subst (All P) (sym (c.deref.ensures.value ∙ c.in_ok-added.ensures)) (All-filter is_property_form P c.args.forms.now c.requires.forms)

pub add_properties-requires-clause-before : goal.add_properties-requires-clause-before
add_properties-requires-clause-before c =
    let here = subst AreProperties (sym c.in_ok-make_room.ensures.same) c.self.invariant.properties in
    let P : Inside → Type 0 = λ s. AreProperties s.properties.items in
    elim c.if-not-is_empty.branch [
      | then-not-is_empty+in_ok-self-inside w ↦ subst P (sym w.self-inside-is) here
      | else-not-is_empty w ↦ subst P (sym w.self-inside-is) here
    ]

pub add_partials-requires-clause-before : goal.add_partials-requires-clause-before
add_partials-requires-clause-before c =
    let here = subst ArePrefixes (sym c.in_ok-make_room-2.ensures.same) c.self.invariant.partials in
    let P : Inside → Type 0 = λ s. ArePrefixes s.partials.items in
    elim c.if-not-is_empty.branch [
      | then-not-is_empty+in_ok-self-inside w ↦ subst P (sym w.self-inside-is) here
      | else-not-is_empty w ↦ subst P (sym w.self-inside-is) here
    ]

pub invariant_of-self-2 : goal.invariant_of-self-2
invariant_of-self-2 c =
    let n = c.args.properties in
    let m = c.args.partials in
    let old = c.self.inside in
    let P : Inside → Type 0 = λ s. IsRelated n m s.related in
    let more = subst (λ (k : Known). k.properties ≤ n) (sym c.self.view_is) c.requires.properties in
    let longer = subst (λ (k : Known). k.partials ≤ m) (sym c.self.view_is) c.requires.partials in
    let related : IsRelated n m c.if-not-is_empty.self-inside.related = elim c.if-not-is_empty.branch [
      | then-not-is_empty+in_ok-self-inside w ↦ subst P (sym w.self-inside-is) w.in_ok-self-inside.ensures.related
      | else-not-is_empty w ↦ subst P (sym w.self-inside-is) (related_wider (length old.properties.items) (length old.partials.items) n m old.related more longer c.self.invariant.related)
    ] in record {
      properties = c.add_properties.ensures.properties;
      partials = c.add_partials.ensures.partials;
      few_properties = omega (arith, c.requires.property_numbers, c.add_properties.ensures.length);
      few_partials = omega (arith, c.requires.partial_numbers, c.add_partials.ensures.length);
      related = subst₂ (λ a b. IsRelated a b c.if-not-is_empty.self-inside.related) (sym c.add_properties.ensures.length) (sym c.add_partials.ensures.length) related;
    }
