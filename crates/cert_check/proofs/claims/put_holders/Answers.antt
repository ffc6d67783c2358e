use Rattle.std.proofs.Common.{◌≡◌, ℕ, List, Some, Contains, get_or, length, slice_get, ap, subst, arith}
use Rattle.std.proofs.lemmas.List.{take_all}
use Rattle.std.proofs.lemmas.Option.{slice_get-get_or}
use Rattle.axioms.specs.Ontology.{IsClassAt}
use Rattle.cert_check.specs.Lists.{AddsNumbers}
use Rattle.cert_check.proofs.Listwise.{holder_step}
use Rattle.cert_check.proofs.claims.put_holders.Goals as goal

pub loop-element-preserved : goal.loop-element-preserved
loop-element-preserved c =
    let listed = c.args.listed.now in
    let items = c.deref-element-items.result.now in
    let k = c.loop-element.element-index in
    let x = get_or items k 0 in
    let there : slice_get listed.elements.items k ≡ Some x =
    subst (λ (xs : List ℕ). slice_get xs k ≡ Some x) c.deref-element-items.ensures.value (slice_get-get_or items k 0 c.loop-element-test.true) in
    holder_step c.args.ontology.now listed.class.0 c.in-Some.class.0 c.in-Some.ensures.0 listed.elements.items k x there c.args.lists.now c.loop-element.lists c.push.new.self
    c.in_ok-push.ensures.ok c.loop-element.invariant

pub returns-after-loop-element : goal.returns-after-loop-element
returns-after-loop-element c =
    let o = c.args.ontology.now in
    let listed = c.args.listed.now in
    let value = c.deref-element-items.ensures.value in
    let long : length c.deref-element-items.result.now ≡ length listed.elements.items = ap length value in
    subst (λ (xs : List ℕ). AddsNumbers (λ x d. IsClassAt o d listed.class.0 × Contains xs x) c.args.lists.now c.loop-element.lists)
    (take_all c.loop-element.element-index listed.elements.items (omega arith)) c.loop-element.invariant
