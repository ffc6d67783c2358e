use Rattle.std.proofs.Common.{◌≡◌, inl, inr, ℕ, ◌<◌, List, Bool, length, get_or, false, refl, sym, ap, ◌∙◌, subst, arith, true≢false}
use Rattle.std.proofs.lemmas.Bool.{cases_lt}
use Rattle.std.proofs.lemmas.List.{length-replicate}
use Rattle.axioms.specs.declared.ids.ExprId.{ExprId}
use Rattle.certificate.specs.View.{listed_of}
use Rattle.interpretation_spec.proofs.Shapes.{pairs_of_places, places_of_pairs, empty_row}
use Rattle.number_sets.specs.Members.{has}
use Rattle.listed_model.specs.Extensions.{IsElement}
use Rattle.listed_model.proofs.Passed.{each_place}
use Rattle.listed_model.proofs.tester.Tester.are_apart.Goals as goal

pub loop-operand-init : goal.loop-operand-init
loop-operand-init c = record {
  len = ap length c.clear.ensures ∙ length-replicate (length c.args.seen.now) false;
  seen = λ x l. (
    λ h. absurd (true≢false (sym h ∙ ap (λ (row : List Bool). has row x) c.clear.ensures ∙ empty_row (length c.args.seen.now) x)),
    λ (k, b, m). absurd (omega arith),
  );
  apart = λ k m l b. absurd (omega arith);
}

pub put_apart_of-requires-clause-there : goal.put_apart_of-requires-clause-there
put_apart_of-requires-clause-there c = (each_place (λ d. d < length c.args.self.now.ontology.now.nodes) c.args.operands.now).1 c.requires.there c.loop-operand.operand-index c.loop-operand-test.true

pub returns-then-not-branch-clause-apart : goal.returns-then-not-branch-clause-apart
returns-then-not-branch-clause-apart c =
    let o = c.args.self.now.ontology.now in
    let l = listed_of c.args.self.now.listed.now in
    let operands = c.args.operands.now in
    let none : ExprId = record { 0 = 0 } in
    let at = c.loop-operand.operand-index in
    let R : ℕ → ℕ → Type 0 = λ d e. (x : ℕ) → IsElement o l d x → IsElement o l e x → ⊥ in (
      λ e. absurd (true≢false (sym e)),
      λ h.
          let apart = c.in_ok-put_apart_of.ensures.apart.1 (λ x s here.
          let within : x < length c.args.seen.now = subst (λ (n : ℕ). x < n) (sym c.requires.room) here.0 in
          let (k, b, p) = (c.loop-operand.invariant.seen x within).0 s in
          places_of_pairs R (λ (e : ExprId). e.0) operands none h k at b c.loop-operand-test.true x p here) in
          absurd (true≢false (sym apart ∙ c.if-not-branch.true)),
    )

pub loop-operand-preserved : goal.loop-operand-preserved
loop-operand-preserved c =
    let o = c.args.self.now.ontology.now in
    let l = listed_of c.args.self.now.listed.now in
    let operands = c.args.operands.now in
    let none : ExprId = record { 0 = 0 } in
    let at = c.loop-operand.operand-index in
    let InAt : ℕ → ℕ → Type 0 = λ (x k : ℕ). IsElement o l (get_or operands k none).0 x in
    let said = c.in_ok-put_apart_of.ensures in
    let old = c.loop-operand.invariant in
    record {
      len = said.len ∙ old.len;
      seen = λ x b.
          let put = said.put c.if-not-branch.false x (omega (arith, b, old.len)) in (
            λ h. elim (put.0 h) [
              | inl s ↦ (let (k, lk, p) = (old.seen x b).0 s in (k, omega arith, p))
              | inr m ↦ (at, omega arith, m)
            ],
            λ (k, lk, p). put.1 (elim (cases_lt k at) [
              | inl lk' ↦ inl ((old.seen x b).1 (k, lk', p))
              | inr lk' ↦ (let e : k ≡ at = omega arith in inr (subst (InAt x) e p))
            ]),
          );
      apart = λ k m b lm. elim (cases_lt m at) [
        | inl lm' ↦ old.apart k m b lm'
        | inr lm' ↦
            (let e : at ≡ m = omega arith in
            let lk : k < at = omega arith in
            λ x p q.
            let here : InAt x at = subst (InAt x) (sym e) q in
            let within : x < length c.args.seen.now = subst (λ (n : ℕ). x < n) (sym c.requires.room) here.0 in
            said.apart.0 c.if-not-branch.false x ((old.seen x within).1 (k, lk, p)) here)
      ];
    }

pub returns-clause-apart : goal.returns-clause-apart
returns-clause-apart c =
    let o = c.args.self.now.ontology.now in
    let l = listed_of c.args.self.now.listed.now in (
      λ _. pairs_of_places (λ d e. (x : ℕ) → IsElement o l d x → IsElement o l e x → ⊥) (λ (e : ExprId). e.0) c.args.operands.now record { 0 = 0 }
          (λ m k b lk. c.loop-operand.invariant.apart m k b (omega (arith, c.loop-operand-test.false))),
      λ _. refl,
    )
