use Rattle.std.proofs.Common.{◌≡◌, [], ◌∙◌, ◌+◌, map, take, get_or, Some, sym, ap, subst, arith}
use Rattle.std.proofs.lemmas.List.{take_all}
use Rattle.axioms.specs.View.{expr_numbers}
use Rattle.axioms.specs.declared.ids.ExprId.{ExprId}
use Rattle.certificate.specs.Certificate.{Sub}
use Rattle.certificate.specs.Certificate as line
use Rattle.cert_check.specs.Derivation.{at_numbers}
use Rattle.exactness.proofs.Derivable.{conclusions}
use Rattle.explain.proofs.Exchanging.{class_follows, used_exchanged, used_next}
use Rattle.explain.proofs.Growing.{lengthened_twice, showing_grown}
use Rattle.explain.proofs.MovedClasses.{class_moved, class_more, operand_at, operand_read, operands_there}
use Rattle.explain.specs.Step.{subject_in}
use Rattle.explain.specs.Uses.{IsAmong, Uses}
use Rattle.facts.specs.declared.contexts.Context.TheVariants.{Individual}
use Rattle.explain.proofs.exchange.class_exchanged.Goals as goal

pub index-requires : goal.index-requires
index-requires g c =
    let long = operands_there c.normal.result.now c.args.basis.now.closed.now.saturation.normal c.normal.ensures c.args.derivation.now c.args.known.now c.args.class c.in_ok-operands.operands.items c.in_ok-operands.ensures (Individual c.args.exchange.old) c.requires.shown in
    omega (arith, long, c.loop-place-test.true, c.in_ok-operands.operands.ok)

pub loop-place-preserved : goal.loop-place-preserved
loop-place-preserved g c =
    let before = c.loop-place.invariant in
    let mid = c.same_line.new.derivation in
    let k = c.loop-place.place in
    let d : ExprId = c.index.result.now in
    let longer = lengthened_twice c.in_ok-same.ensures.longer c.in_ok-number.ensures.longer in
    let says = operand_at c.normal.result.now c.args.basis.now.closed.now.saturation.normal c.normal.ensures mid c.args.known.now c.args.class c.in_ok-operands.operands.items c.in_ok-operands.ensures (Individual c.args.exchange.old)
    (showing_grown (lengthened_twice before.longer c.in_ok-same.ensures.longer) c.requires.shown) k d (omega (arith, c.loop-place-test.true)) in record {
      derivation = c.in_ok-number.ensures.derivation c.args.basis.now.closed.now.ontology c.in_ok-same.ensures.derivation
          (class_follows c.args.basis.now.closed.now.ontology mid c.in_ok-same.same _ c.args.exchange.new c.args.exchange.old c.in_ok-same.ensures.derivation c.in_ok-same.ensures.says _ (says ∙ ap (λ (e : ExprId). Some (Sub (subject_in (Individual c.args.exchange.old)) e.0)) (sym c.index.ensures)));
      longer = lengthened_twice before.longer longer;
      at = subst (λ ns. at_numbers (conclusions c.followed.new.derivation) ns ≡ Some (map (Sub (line.Individual c.args.exchange.new.0)) (take (k + 1) (expr_numbers c.in_ok-operands.operands.items)))) (sym c.in_ok-push.ensures.ok)
          (class_more c.loop-place.derivation c.followed.new.derivation c.loop-place.numbers.items c.in_ok-number.number (line.Individual c.args.exchange.new.0) (expr_numbers c.in_ok-operands.operands.items) k (get_or c.in_ok-operands.operands.items k d).0
          (operand_read c.normal.result.now c.args.basis.now.closed.now.saturation.normal c.normal.ensures c.args.derivation.now c.args.known.now c.args.class c.in_ok-operands.operands.items c.in_ok-operands.ensures (Individual c.args.exchange.old) c.requires.shown k d (omega (arith, c.loop-place-test.true)))
          longer before.at (c.in_ok-number.ensures.says ∙ ap (λ (e : ExprId). Some (Sub (line.Individual c.args.exchange.new.0) e.0)) c.index.ensures));
      used = subst (Uses c.args.derivation.now c.followed.new.derivation (IsAmong (take (k + 1) c.args.known.now))) (sym c.in_ok-push.ensures.ok)
          (used_next c.args.derivation.now c.loop-place.derivation c.followed.new.derivation c.args.known.now c.loop-place.numbers.items k 0 c.in_ok-number.number (omega (arith, c.loop-place-test.true)) longer before.used
          (used_exchanged c.loop-place.derivation mid c.followed.new.derivation c.in_ok-same.same (get_or c.args.known.now k 0) c.in_ok-number.number [] [] c.in_ok-number.ensures.longer c.in_ok-same.ensures.used c.in_ok-number.ensures.used));
    }

pub returns-clause-shown : goal.returns-clause-shown
returns-clause-shown g c =
    class_moved c.normal.result.now c.args.basis.now.closed.now.saturation.normal c.normal.ensures c.args.derivation.now c.args.known.now c.args.class c.in_ok-operands.operands.items c.in_ok-operands.ensures (Individual c.args.exchange.old) c.requires.shown
    c.loop-place.derivation c.loop-place.numbers.items (Individual c.args.exchange.new) c.loop-place.place (omega (arith, c.loop-place-test.false)) c.loop-place.invariant.at

pub returns-clause-used : goal.returns-clause-used
returns-clause-used g c =
    subst (λ ns. Uses c.args.derivation.now c.loop-place.derivation (IsAmong ns) c.loop-place.numbers.items) (take_all c.loop-place.place c.args.known.now (omega (arith, c.loop-place-test.false))) c.loop-place.invariant.used
