use Rattle.std.proofs.Common.{below_more, sym, ◌∙◌, arith}
use Rattle.std.proofs.lemmas.Bool.{eqb-false, false≢true}
use Rattle.std.proofs.lemmas.Option.{slice_get_within}
use Rattle.std.proofs.lemmas.List.{length-map}
use Rattle.axioms.specs.View.{ind_numbers}
use Rattle.cert_check.proofs.Places.{number_at, neither}
use Rattle.cert_check.proofs.operands.individuals_at_two_places.Goals as goal
use Rattle.cert_check.proofs.operands.individuals_at_two_places.Goals.{else-eq-via-then-eq+else-individual_stands_beside, else-eq-via-else-eq}

pub loop-i-preserved : goal.loop-i-preserved
loop-i-preserved c = below_more _ _ c.loop-i.invariant (λ g s.
    elim c.else-eq.branch [
      | else-eq-via-then-eq+else-individual_stands_beside w ↦ false≢true (sym w.if-individual_stands_beside.false ∙ w.individual_stands_beside.ensures.1 s)
      | else-eq-via-else-eq w ↦ eqb-false _ _ (sym c.eq.ensures ∙ w.if-eq.false) (number_at (λ e. e.0) c.args.operands.now c.loop-i.i c.args.first.0 (record { 0 = 0 }) g)
    ])

pub returns : goal.returns
returns c = neither (λ (m, n, ne, g, h). c.loop-i.invariant m (omega (arith, slice_get_within (ind_numbers c.args.operands.now) m c.args.first.0 g, length-map c.args.operands.now (λ e. e.0))) g (n, ne, h))
