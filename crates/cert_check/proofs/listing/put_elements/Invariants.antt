use Rattle.std.proofs.Common.{take, Contains}
use Rattle.axioms.specs.Ontology.{IsClassAt}
use Rattle.cert_check.specs.Additions.{AddsMembers}
use Rattle.cert_check.proofs.listing.put_elements.Given as goal

abbrev pub invariant-loop-element : goal.invariant-loop-element
invariant-loop-element l = AddsMembers (λ c x. IsClassAt l.ontology c l.row.class.0 × Contains (take l.element-index l.row.elements.items) x) l.initial.interpretation l.interpretation
