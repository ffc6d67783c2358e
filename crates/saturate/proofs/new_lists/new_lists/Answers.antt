use Rattle.std.proofs.Common.{List, true≢false, refl, sym, ap, subst, arith}
use Rattle.axioms.specs.declared.ids.ExprId.{ExprId}
use Rattle.normal_forms.specs.declared.apart.ApartLists.{ApartLists}
use Rattle.saturate.proofs.NewLists.{AreNewBefore, all_new, at_place, new_pushed, none_new, old_passed}
use Rattle.saturate.proofs.new_lists.new_lists.Goals as goal
use Rattle.saturate.proofs.new_lists.new_lists.Goals.{then-not-has_list+in_ok-push_list, else-not-has_list}

pub loop-number-init : goal.loop-number-init
loop-number-init c = record {
  classes = subst (λ (lists : List (List ExprId)). AreNewBefore c.args.earlier.now.classes c.args.lists.now.classes c.len-number.result lists) (sym (ap (λ (ls : ApartLists). ls.classes) c.new-new.ensures))
      (none_new c.args.earlier.now.classes c.requires.0.classes c.args.lists.now.classes c.len-number.result (ap (λ (ls : ApartLists). ls.classes) c.requires.1) c.len-number.ensures);
  individuals = ap (λ (ls : ApartLists). ls.individuals) c.new-new.ensures;
}

pub loop-number-preserved : goal.loop-number-preserved
loop-number-preserved c =
    let before = c.args.earlier.now.classes in
    let now = c.args.lists.now.classes in
    let n = c.loop-number.number in
    let list = c.at-list.result.now in
    let at = at_place now n list c.at-list.ensures (omega (arith, c.loop-number-test.true, c.len-number-end.ensures)) in
    elim c.if-not-has_list.branch [
      | then-not-has_list+in_ok-push_list w ↦ rw w.new-is (record {
        classes = rw w.in_ok-push_list.ensures.ok (new_pushed before now c.loop-number.new.classes n list at (λ there. true≢false (sym (w.if-not-has_list.ensures.1 there))) c.loop-number.invariant.classes);
        individuals = c.loop-number.invariant.individuals;
      })
      | else-not-has_list w ↦ rw w.new-is (record {
        classes = old_passed before now c.loop-number.new.classes n list at (w.if-not-has_list.ensures.0 refl) c.loop-number.invariant.classes;
        individuals = c.loop-number.invariant.individuals;
      })
    ]

pub returns-clause-classes : goal.returns-clause-classes
returns-clause-classes c = all_new c.args.earlier.now.classes c.args.lists.now.classes c.loop-number.new.classes c.loop-number.number (omega (arith, c.loop-number-test.false, c.len-number-end.ensures)) c.loop-number.invariant.classes
