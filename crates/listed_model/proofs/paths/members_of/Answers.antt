use Rattle.std.proofs.Common.{◌≡◌, ℕ, true, true≢false, sym, ap, ◌∙◌, subst, inl, inr, arith}
use Rattle.std.specs.Cmp.{both_ways}
use Rattle.std.proofs.lemmas.Bool.{cases_lt}
use Rattle.number_sets.specs.Members.{has}
use Rattle.number_sets.proofs.Members.{has_within}
use Rattle.listed_model.specs.Members.{holds}
use Rattle.listed_model.proofs.Extensions.{holds_push}
use Rattle.listed_model.proofs.paths.members_of.Goals as goal
use Rattle.listed_model.proofs.paths.members_of.Goals.{then-contains+in_ok-push, else-contains}

pub loop-number-preserved : goal.loop-number-preserved
loop-number-preserved c = λ y.
    let set = c.args.set.now in
    let number = c.loop-number.number in
    let old = c.loop-number.invariant y in
    elim c.if-contains.branch [
      | then-contains+in_ok-push w ↦
          (let is = ap (λ v. v.items) w.members-is ∙ w.in_ok-push.ensures.items in
          let push = holds_push c.loop-number.members.items number y in
          let here : has set number ≡ true = sym c.contains.ensures ∙ w.if-contains.true in (
            λ h. elim (push.0 (sym (ap (λ xs. holds xs y) is) ∙ h)) [
              | inl m ↦ (let (l, t) = old.0 m in (omega arith, t))
              | inr e ↦ (omega arith, subst (λ (v : ℕ). has set v ≡ true) e here)
            ],
            λ (l, t). ap (λ xs. holds xs y) is ∙ push.1 (elim (cases_lt y number) [
              | inl b ↦ inl (old.1 (b, t))
              | inr b ↦ inr (omega arith)
            ]),
          ))
      | else-contains w ↦
          (let is = ap (λ v. v.items) w.members-is in (
            λ h. (let (l, t) = old.0 (sym (ap (λ xs. holds xs y) is) ∙ h) in (omega arith, t)),
            λ (l, t). ap (λ xs. holds xs y) is ∙ elim (cases_lt y number) [
              | inl b ↦ old.1 (b, t)
              | inr b ↦
                  (let e : y ≡ number = omega arith in
                  absurd (true≢false (sym t ∙ ap (has set) e ∙ sym c.contains.ensures ∙ w.if-contains.false)))
            ],
          ))
    ]

pub returns : goal.returns
returns c = λ y.
    let set = c.args.set.now in
    let all = c.loop-number.invariant y in
    both_ways (holds c.loop-number.members.items y) (has set y) (λ h. (all.0 h).1) (λ t. all.1 (let b = has_within set y t in omega (arith, b), t))
