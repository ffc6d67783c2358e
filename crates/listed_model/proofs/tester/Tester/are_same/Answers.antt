use Rattle.std.proofs.Common.{◌≡◌, ◌↔◌, inl, inr, ℕ, ◌<◌, length, get_or, refl, sym, ◌∙◌, subst, arith, true≢false}
use Rattle.std.specs.List.Sorted.{IsStrictlyIncreasing}
use Rattle.std.proofs.lemmas.Bool.{cases_lt}
use Rattle.std.proofs.lemmas.Option.{get_or_from_slice_get}
use Rattle.axioms.specs.declared.ids.ExprId.{ExprId}
use Rattle.certificate.specs.View.{listed_of}
use Rattle.interpretation_spec.proofs.Shapes.{pairs_of_places, places_of_pairs}
use Rattle.listed_model.specs.Extensions.{IsElement, IsExtension}
use Rattle.listed_model.proofs.Passed.{each_place}
use Rattle.listed_model.proofs.tester.Tester.are_same.Goals as goal

pub are_all_of-requires-clause-there : goal.are_all_of-requires-clause-there
are_all_of-requires-clause-there c = (each_place (λ d. d < length c.args.self.now.ontology.now.nodes) c.args.operands.now).1 c.requires.there c.loop-operand.operand-index c.loop-operand-test.true

pub are_all_of-requires-clause-elements : goal.are_all_of-requires-clause-elements
are_all_of-requires-clause-elements c = subst IsStrictlyIncreasing (sym c.deref.ensures.value) c.in_ok-elements.ensures.ascending

pub returns-then-not-branch : goal.returns-then-not-branch
returns-then-not-branch c =
    let o = c.args.self.now.ontology.now in
    let l = listed_of c.args.self.now.listed.now in
    let operands = c.args.operands.now in
    let none : ExprId = record { 0 = 0 } in
    let at = c.loop-operand.operand-index in
    let R : ℕ → ℕ → Type 0 = λ d e. (x : ℕ) → IsElement o l d x ↔ IsElement o l e x in
    let At : ℕ → ℕ = λ (k : ℕ). (get_or operands k none).0 in
    let first : get_or operands 0 none ≡ c.in-Some.first.now = get_or_from_slice_get operands 0 c.in-Some.first.now none (sym c.in-Some.ensures.value) in
    let xs = c.deref.result.now in
    let one : IsExtension o l (At 0) xs = subst (λ (e : ExprId). IsExtension o l e.0 xs) (sym first) (subst (IsExtension o l c.in-Some.first.now.0) (sym c.deref.ensures.value) c.in_ok-elements.ensures) in (
      λ e. absurd (true≢false (sym e)),
      λ h.
          let same : R (At 0) (At at) = elim (cases_lt 0 at) [
            | inl b ↦ places_of_pairs R (λ (e : ExprId). e.0) operands none h 0 at b c.loop-operand-test.true
            | inr b ↦ (let z : 0 ≡ at = omega arith in subst (λ (k : ℕ). R (At 0) (At k)) z (λ x. (λ m. m, λ m. m)))
          ] in
          let all = c.in_ok-are_all_of.ensures.1 (λ x. (λ m. (same x).0 ((one.members x).0 m), λ m. (one.members x).1 ((same x).1 m))) in
          absurd (true≢false (sym all ∙ c.if-not-branch.true)),
    )

pub loop-operand-preserved : goal.loop-operand-preserved
loop-operand-preserved c =
    let o = c.args.self.now.ontology.now in
    let l = listed_of c.args.self.now.listed.now in
    let operands = c.args.operands.now in
    let none : ExprId = record { 0 = 0 } in
    let at = c.loop-operand.operand-index in
    let At : ℕ → ℕ = λ (k : ℕ). (get_or operands k none).0 in
    let first : get_or operands 0 none ≡ c.in-Some.first.now = get_or_from_slice_get operands 0 c.in-Some.first.now none (sym c.in-Some.ensures.value) in
    let xs = c.deref.result.now in
    let one : IsExtension o l (At 0) xs = subst (λ (e : ExprId). IsExtension o l e.0 xs) (sym first) (subst (IsExtension o l c.in-Some.first.now.0) (sym c.deref.ensures.value) c.in_ok-elements.ensures) in
    let all = c.in_ok-are_all_of.ensures.0 c.if-not-branch.false in
    λ k b. elim (cases_lt k at) [
      | inl lk ↦ c.loop-operand.invariant k lk
      | inr lk ↦
          (let e : at ≡ k = omega arith in
          subst (λ (j : ℕ). (x : ℕ) → IsElement o l (At 0) x ↔ IsElement o l (At j) x) e
          (λ x. (λ m. (all x).0 ((one.members x).1 m), λ m. (one.members x).0 ((all x).1 m))))
    ]

pub returns : goal.returns
returns c =
    let o = c.args.self.now.ontology.now in
    let l = listed_of c.args.self.now.listed.now in
    let none : ExprId = record { 0 = 0 } in (
      λ _. pairs_of_places (λ d e. (x : ℕ) → IsElement o l d x ↔ IsElement o l e x) (λ (e : ExprId). e.0) c.args.operands.now none
          (λ m k b lk x.
          let to_m = c.loop-operand.invariant m (omega (arith, c.loop-operand-test.false)) x in
          let to_k = c.loop-operand.invariant k (omega (arith, c.loop-operand-test.false)) x in
          (λ h. to_k.0 (to_m.1 h), λ h. to_m.0 (to_k.1 h))),
      λ _. refl,
    )
