use Rattle.std.proofs.Common.{below_more, sym, ◌∙◌, arith}
use Rattle.std.proofs.lemmas.Bool.{eqb-false}
use Rattle.std.proofs.lemmas.Option.{slice_get_within}
use Rattle.std.proofs.lemmas.List.{length-map}
use Rattle.axioms.specs.View.{ind_numbers}
use Rattle.cert_check.proofs.Places.{number_at, neither}
use Rattle.cert_check.proofs.operands.individual_stands_beside.Goals as goal
use Rattle.cert_check.proofs.operands.individual_stands_beside.Goals.{else-i-place-via-then-i-place+else-eq, else-i-place-via-else-i-place}

pub loop-i-preserved : goal.loop-i-preserved
loop-i-preserved c = below_more _ _ c.loop-i.invariant (λ ne g.
    elim c.else-i-place.branch [
      | else-i-place-via-then-i-place+else-eq w ↦ eqb-false _ _ (sym w.eq.ensures ∙ w.if-eq.false) (number_at (λ e. e.0) c.args.operands.now c.loop-i.i c.args.individual.0 (record { 0 = 0 }) g)
      | else-i-place-via-else-i-place w ↦ ne (sym w.if-i-place.false)
    ])

pub returns : goal.returns
returns c = neither (λ (k, ne, g). c.loop-i.invariant k (omega (arith, slice_get_within (ind_numbers c.args.operands.now) k c.args.individual.0 g, length-map c.args.operands.now (λ e. e.0))) ne g)
