use Rattle.std.proofs.Common.{sym, ◌∙◌, arith, get_or}
use Rattle.std.proofs.lemmas.Bool.{true≢false}
use Rattle.std.proofs.lemmas.Bool.Decides.{Decides-eqb}
use Rattle.std.proofs.lemmas.List.{length-map}
use Rattle.std.proofs.lemmas.Option.{slice_get-get_or}
use Rattle.axioms.specs.View.{expr_numbers}
use Rattle.normalise.proofs.Asking.{not_yet, not_among}
use Rattle.normalise.proofs.growth.is_among.Goals as goal

pub loop-other-preserved : goal.loop-other-preserved
loop-other-preserved c =
    not_yet c.args.asked.now c.args.expr.0 c.loop-other.other-index _ (slice_get-get_or c.args.asked.now c.loop-other.other-index (record { 0 = 0 }) c.loop-other-test.true)
    (λ e. true≢false (sym ((Decides-eqb (get_or c.args.asked.now c.loop-other.other-index (record { 0 = 0 })).0 c.args.expr.0).1 e) ∙ sym c.eq.ensures ∙ c.if-eq.false))
    c.loop-other.invariant

pub returns : goal.returns
returns c = (
  (λ h. absurd (true≢false (sym h))),
  (λ h. absurd (not_among (expr_numbers c.args.asked.now) c.args.expr.0 (λ n l g. c.loop-other.invariant n (omega (arith, l, length-map c.args.asked.now (λ e. e.0), c.loop-other-test.false)) g) h)),
)
