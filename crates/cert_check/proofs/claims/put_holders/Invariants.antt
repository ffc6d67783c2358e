use Rattle.std.proofs.Common.{take, Contains}
use Rattle.axioms.specs.Ontology.{IsClassAt}
use Rattle.cert_check.specs.Lists.{AddsNumbers}
use Rattle.cert_check.proofs.claims.put_holders.Given as goal

abbrev pub invariant-loop-element : goal.invariant-loop-element
invariant-loop-element l = AddsNumbers (λ x c. IsClassAt l.ontology c l.listed.class.0 × Contains (take l.element-index l.listed.elements.items) x) l.initial.lists l.lists
