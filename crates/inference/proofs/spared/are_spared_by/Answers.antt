use Rattle.std.proofs.Common.{◌≡◌, ℕ, refl, slice_get, Some}
use Rattle.normal_forms.specs.declared.forms.Form.{Form}
use Rattle.inference.specs.Completeness.{IsSparedBy}
use Rattle.inference.proofs.Drawing.{each_more, each}
use Rattle.inference.proofs.spared.are_spared_by.Goals as goal

pub loop-number-preserved : goal.loop-number-preserved
loop-number-preserved c =
    let forms = c.args.problem.now.forms in
    let Spared : ℕ → Type 0 = λ n. (form : Form) → slice_get forms n ≡ Some form → IsSparedBy forms c.args.older.0 c.args.older.1 form in
    let numbers = c.args.numbers.now in
    each_more Spared Spared numbers numbers c.loop-number.number-index 0 refl c.loop-number-test.true c.loop-number.invariant (λ n s. s) (c.is_spared_by.ensures c.if-not-is_spared_by.false)

pub returns : goal.returns
returns c = λ _.
    let forms = c.args.problem.now.forms in
    let numbers = c.args.numbers.now in
    each (λ n. (form : Form) → slice_get forms n ≡ Some form → IsSparedBy forms c.args.older.0 c.args.older.1 form) numbers numbers c.loop-number.number-index refl c.loop-number-test.false c.loop-number.invariant
