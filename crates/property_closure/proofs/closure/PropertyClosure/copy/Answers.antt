use Rattle.std.proofs.Common.{◌∙◌, arith, length, sym, ap, subst, subst₂}
use Rattle.property_closure.specs.PropertyClosures.{ArePrefixes, AreProperties, IsRelated}
use Rattle.property_closure.proofs.Keeping.{related_same}
use Rattle.property_closure.proofs.closure.PropertyClosure.copy.Goals as goal

pub invariant_of-result : goal.invariant_of-result
invariant_of-result c =
    let old = c.self.inside in
    let properties = sym (c.in_ok-copied.ensures ∙ c.deref.ensures.value) in
    let partials = sym (c.in_ok-copied-2.ensures ∙ c.deref-2.ensures.value) in
    let related = related_same (length old.properties.items) (length old.partials.items) old.related c.in_ok-copy.field-0 c.in_ok-copy.ensures c.self.invariant.related in record {
      properties = subst AreProperties properties c.self.invariant.properties;
      partials = subst ArePrefixes partials c.self.invariant.partials;
      few_properties = omega (arith, ap length properties, c.self.invariant.few_properties);
      few_partials = omega (arith, ap length partials, c.self.invariant.few_partials);
      related = subst₂ (λ n m. IsRelated n m c.in_ok-copy.field-0) (ap length properties) (ap length partials) related;
    }
