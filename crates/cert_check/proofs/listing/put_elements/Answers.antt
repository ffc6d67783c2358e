use Rattle.std.proofs.Common.{◌≡◌, get_or, length, Contains, List, ℕ, ap, subst, arith}
use Rattle.std.proofs.lemmas.List.{take_all}
use Rattle.axioms.specs.Ontology.{IsClassAt}
use Rattle.interpretation_spec.proofs.Steps.{slice_get_same}
use Rattle.cert_check.specs.Additions.{AddsMembers}
use Rattle.cert_check.proofs.Additions.{member_step, went_well}
use Rattle.cert_check.proofs.listing.put_elements.Goals as goal

pub loop-element-preserved : goal.loop-element-preserved
loop-element-preserved c =
    let o = c.args.ontology.now in
    let row = c.args.row.now in
    let items = c.deref-element-items.result.now in
    let k = c.loop-element.element-index in
    let there = slice_get_same items row.elements.items k 0 c.deref-element-items.ensures.value c.loop-element-test.true in
    let well = went_well c.put_class.result c.is_err.result c.is_err.ensures.negation c.if-is_err.false c.put_class.ensures.after in
    let taken = (went_well c.put_class.result c.is_err.result c.is_err.ensures.negation c.if-is_err.false c.put_class.ensures.taken).1 in
    member_step o row.class.0 c.in-Some.class.0 c.in-Some.ensures.0 row.elements.items k (get_or items k 0) there
    c.args.interpretation.now c.loop-element.interpretation c.put_class.new.self
    c.well_formed-in-loop-element.ensures taken.1 taken.2 well.1 c.loop-element.invariant

pub returns : goal.returns
returns c =
    let o = c.args.ontology.now in
    let row = c.args.row.now in
    let value = c.deref-element-items.ensures.value in
    let long : length c.deref-element-items.result.now ≡ length row.elements.items = ap length value in
    subst (λ (xs : List ℕ). AddsMembers (λ d x. IsClassAt o d row.class.0 × Contains xs x) c.args.interpretation.now c.loop-element.interpretation)
    (take_all c.loop-element.element-index row.elements.items (omega arith)) c.loop-element.invariant
