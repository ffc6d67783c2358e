use Rattle.std.proofs.Common.{◌-◌, ℕ, suc, ◌↔◌, ◌⊎◌, List, Contains, subst, ◌∙◌, arith}
use Rattle.std.proofs.lemmas.List.{take_all}
use Rattle.std.proofs.lemmas.Option.{slice_get-get_or}
use Rattle.std.specs.Prelude.{slice_index_or}
use Rattle.explain.specs.Marks.{IsMarked}
use Rattle.explain.proofs.HandedOn.{next_marked}
use Rattle.explain.proofs.resting.mark_each.Goals as goal

pub loop-number-preserved : goal.loop-number-preserved
loop-number-preserved c =
    let number = slice_index_or c.args.numbers.now c.loop-number.number-index 0 in (
      c.mark.ensures.long ∙ c.loop-number.invariant.0,
      next_marked c.args.marks.now c.loop-number.marks c.mark.new.marks c.args.numbers.now c.loop-number.number-index number (number - 1)
          (slice_get-get_or c.args.numbers.now c.loop-number.number-index 0 c.loop-number-test.true)
          (omega (arith, (c.requires c.loop-number.number-index 0 c.loop-number-test.true).0))
          c.loop-number.invariant.1 c.mark.ensures.exact,
    )

pub returns-clause-exact : goal.returns-clause-exact
returns-clause-exact c =
    subst (λ (ns : List ℕ). (n : ℕ) → IsMarked c.loop-number.marks n ↔ (IsMarked c.args.marks.now n ⊎ Contains ns (suc n)))
    (take_all c.loop-number.number-index c.args.numbers.now c.loop-number-test.false) c.loop-number.invariant.1
