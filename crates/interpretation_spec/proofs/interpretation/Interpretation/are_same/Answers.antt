use Rattle.std.proofs.Common.{◌≡◌, ◌<◌, ℕ, List, AllPairs, Some, sym, ap, ◌∙◌, subst, length, get_or, slice_get, refl, true≢false, below_more, arith}
use Rattle.std.proofs.lemmas.Option.{get_or_from_slice_get}
use Rattle.lemmas.proofs.Mapped.{All-from_map}
use Rattle.axioms.specs.declared.ids.ExprId.{ExprId}
use Rattle.axioms.specs.Ontology.{Ontology, expression, expressions}
use Rattle.axioms.specs.View.{expr_numbers}
use Rattle.interpretation_spec.specs.Interpretation.{Interpretation, IsSame}
use Rattle.interpretation_spec.specs.NamedInterpretation.{interpretation_of}
use Rattle.interpretation_spec.proofs.Shapes.{first_and, rows_within, pairs_of_places_twice, places_of_pairs_twice}
use Rattle.interpretation_spec.proofs.interpretation.Interpretation.are_same.Goals as goal

pub extension-requires-in-loop-operand-clause-there : goal.extension-requires-in-loop-operand-clause-there
extension-requires-in-loop-operand-clause-there c =
    All-from_map (λ (e : ℕ). e < length c.args.ontology.now.nodes) (λ (e : ExprId). e.0) c.args.operands.now c.requires.there c.loop-operand.operand-index record { 0 = 0 } c.loop-operand-test.true

-- the first operand has the elements of one of them, where each two have the same
first_same : (o : Ontology) (i : Interpretation) (es : List ExprId) (first : ExprId) (at : ℕ) → slice_get es 0 ≡ Some first → at < length es
    → AllPairs (IsSame i) (expressions o (expr_numbers es)) → IsSame i (expression o first.0) (expression o (get_or es at record { 0 = 0 }).0)
first_same o i es first at e l h =
    let none : ExprId = record { 0 = 0 } in
    first_and (λ (a b : ExprId). IsSame i (expression o a.0) (expression o b.0)) (λ a. (λ x lx m. m, λ x lx m. m)) es first at none e l
    (places_of_pairs_twice (IsSame i) (expression o) (λ (a : ExprId). a.0) es none h)

pub returns-then-not-is_subset : goal.returns-then-not-is_subset
returns-then-not-is_subset c =
    let o = c.args.ontology.now in
    let i = interpretation_of o.names c.args.self.now in
    let es = c.args.operands.now in
    let at = c.loop-operand.operand-index in
    let first = expression o c.in-Some.first.now.0 in
    let this = expression o (get_or es at record { 0 = 0 }).0 in
    let rows = rows_within i first this c.in_ok-first.first c.in_ok-members.members c.in_ok-first.ensures c.in_ok-members.ensures in (
      λ f. absurd (true≢false (sym f)),
      λ h. sym c.if-not-is_subset.true ∙ c.is_subset.ensures.1 (rows.1 (first_same o i es c.in-Some.first.now at (sym c.in-Some.ensures.value) c.loop-operand-test.true h).0),
    )

pub returns-then-not-is_subset-2 : goal.returns-then-not-is_subset-2
returns-then-not-is_subset-2 c =
    let o = c.args.ontology.now in
    let i = interpretation_of o.names c.args.self.now in
    let es = c.args.operands.now in
    let at = c.loop-operand.operand-index in
    let first = expression o c.in-Some.first.now.0 in
    let this = expression o (get_or es at record { 0 = 0 }).0 in
    let rows = rows_within i this first c.in_ok-members.members c.in_ok-first.first c.in_ok-members.ensures c.in_ok-first.ensures in (
      λ f. absurd (true≢false (sym f)),
      λ h. sym c.if-not-is_subset-2.true ∙ c.is_subset-in-loop-operand.ensures.1 (rows.1 (first_same o i es c.in-Some.first.now at (sym c.in-Some.ensures.value) c.loop-operand-test.true h).1),
    )

pub loop-operand-preserved : goal.loop-operand-preserved
loop-operand-preserved c =
    let o = c.args.ontology.now in
    let i = interpretation_of o.names c.args.self.now in
    let es = c.args.operands.now in
    let none : ExprId = record { 0 = 0 } in
    let at = c.loop-operand.operand-index in
    let first = expression o c.in-Some.first.now.0 in
    let this = expression o (get_or es at none).0 in
    let e = ap (λ (d : ExprId). expression o d.0) (get_or_from_slice_get es 0 c.in-Some.first.now none (sym c.in-Some.ensures.value)) in
    let up = rows_within i first this c.in_ok-first.first c.in_ok-members.members c.in_ok-first.ensures c.in_ok-members.ensures in
    let down = rows_within i this first c.in_ok-members.members c.in_ok-first.first c.in_ok-members.ensures c.in_ok-first.ensures in
    let same : IsSame i first this = (up.0 (c.is_subset.ensures.0 c.if-not-is_subset.false), down.0 (c.is_subset-in-loop-operand.ensures.0 c.if-not-is_subset-2.false)) in
    below_more _ at c.loop-operand.invariant (subst (λ d. IsSame i d this) (sym e) same)

pub returns : goal.returns
returns c =
    let o = c.args.ontology.now in
    let i = interpretation_of o.names c.args.self.now in
    let es = c.args.operands.now in (
      λ _. pairs_of_places_twice (IsSame i) (expression o) (λ (d : ExprId). d.0) es record { 0 = 0 } (λ m k l lk.
          let (a, a') = c.loop-operand.invariant m (omega arith) in
          let (b, b') = c.loop-operand.invariant k (omega arith) in
          (λ x lx h. b x lx (a' x lx h), λ x lx h. a x lx (b' x lx h))),
      λ _. refl,
    )
