use Rattle.std.proofs.Common.{ℕ, [], ◌∷◌, ◌++◌, ap, sym, ◌∙◌}
use Rattle.certificate.specs.SourceReading.{premises_kept}
use Rattle.certificate.proofs.KeptPremises.{one_more_fit, one_more_unfit, less_left, all_kept}
use Rattle.certificate.proofs.single_lines.kept_premises.Goals as goal

pub loop-premise-smaller-then-fit : goal.loop-premise-smaller-then-fit
loop-premise-smaller-then-fit c = less_left c.loop-premise.rest.now c.in-Some.premise c.in-Some.others.now (sym c.in-Some.ensures)

pub loop-premise-preserved-then-fit : goal.loop-premise-preserved-then-fit
loop-premise-preserved-then-fit c =
    one_more_fit c.args.format c.args.number c.args.most c.args.bytes.now c.loop-premise.kept.items c.keep.new.kept.items c.loop-premise.fit c.loop-premise.rest.now c.in-Some.premise c.in-Some.others.now c.is_read-fit.result
    c.loop-premise.invariant (sym c.in-Some.ensures) (λ all k. c.in_ok-keep.ensures all k ∙ ap (λ (p : ℕ). premises_kept c.args.most (all ++ p ∷ [])) c.read_premise.ensures) c.if-fit.true c.is_read-fit.ensures

pub loop-premise-smaller : goal.loop-premise-smaller
loop-premise-smaller c = less_left c.loop-premise.rest.now c.in-Some.premise c.in-Some.others.now (sym c.in-Some.ensures)

pub loop-premise-preserved : goal.loop-premise-preserved
loop-premise-preserved c =
    one_more_unfit c.args.format c.args.number c.args.most c.args.bytes.now c.loop-premise.kept.items c.keep.new.kept.items c.loop-premise.fit c.loop-premise.rest.now c.in-Some.premise c.in-Some.others.now
    c.loop-premise.invariant (sym c.in-Some.ensures) (λ all k. c.in_ok-keep.ensures all k ∙ ap (λ (p : ℕ). premises_kept c.args.most (all ++ p ∷ [])) c.read_premise.ensures) c.if-fit.false

pub returns : goal.returns
returns c =
    all_kept c.args.format c.args.number c.args.most c.args.bytes.now c.loop-premise.kept.items c.loop-premise.fit c.loop-premise.rest.now c.loop-premise.invariant (sym c.in_default.ensures)
