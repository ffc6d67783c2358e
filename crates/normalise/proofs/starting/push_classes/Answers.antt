use Rattle.std.proofs.Common.{◌+◌, subst, sym, arith}
use Rattle.std.specs.Global.{Vec}
use Rattle.facts.specs.declared.contexts.Context.{Context}
use Rattle.normalise.specs.Roots.{AddsThose, IsNamedWithin}
use Rattle.normalise.proofs.AddingRoots.{adds_class, adds_none, all_classes}
use Rattle.normalise.proofs.starting.push_classes.Goals as goal
use Rattle.normalise.proofs.starting.push_classes.Goals.{in-Some+in_ok-push, in_default}

pub loop-number-init : goal.loop-number-init
loop-number-init c = adds_none _ _ (λ x (k, e, m, l, at, is). omega (arith, m, l))

pub returns : goal.returns
returns c = all_classes c.args.ontology.now c.args.from c.loop-number.number _ _ c.well_formed-2.ensures (omega (arith, c.classes-number-end.ensures.count, c.loop-number-test.false)) c.loop-number.invariant

pub loop-number-preserved : goal.loop-number-preserved
loop-number-preserved c =
    elim c.match-class_expr.branch [
      | in-Some+in_ok-push w ↦
          let from = c.args.from in let k = c.loop-number.number in
          subst (λ (v : Vec Context). AddsThose (IsNamedWithin c.args.ontology.now from (k + 1)) c.args.roots.now.items v.items) (sym w.roots-is)
          (subst (AddsThose (IsNamedWithin c.args.ontology.now from (k + 1)) c.args.roots.now.items) (sym w.in_ok-push.ensures.items)
          (adds_class c.args.ontology.now from k w.in-Some.expression c.args.roots.now.items c.loop-number.roots.items c.well_formed-2.ensures c.loop-number.auto.number w.in-Some.ensures.found c.loop-number.invariant))
      | in_default w ↦ let bad = w.in_default.ensures.only.1 (omega (arith, c.classes-number-end.ensures.count, c.loop-number-test.true)) in cc
    ]
