use Rattle.std.proofs.Common.{ℕ, List, length, slice_get, sym, ap, ◌∙◌}
use Rattle.std.proofs.lemmas.Option.{none-some}
use Rattle.normal_forms.specs.declared.forms.Class2.TheVariants.{Expr}
use Rattle.inference.specs.Marks.{HasFilled}
use Rattle.inference.proofs.Marking.{masks_more}
use Rattle.inference.proofs.fillers.all_filled.Goals as goal

pub loop-number-init : goal.loop-number-init
loop-number-init c = record {
  are = λ n mask at. absurd (none-some mask (ap (λ (masks : List ℕ). slice_get masks n) (sym c.in_ok-masks.ensures.items) ∙ at));
  long = ap length c.in_ok-masks.ensures.items;
}

pub loop-number-preserved : goal.loop-number-preserved
loop-number-preserved c =
    let forms = c.args.problem.now.forms in
    let before = c.loop-number.invariant in
    let more = masks_more (λ (n m : ℕ). HasFilled forms m (Expr (record { 0 = n }))) _ _ _ c.loop-number.number c.in_ok-push.ensures.items before.long before.are c.filled_by.ensures in
    record { are = more.0; long = more.1 }

pub returns : goal.returns
returns c = c.loop-number.invariant.are
