use Rattle.std.proofs.Common.{◌+◌, List, Contains, sym, ◌∙◌, subst, arith}
use Rattle.std.proofs.lemmas.Bool.{both_ways}
use Rattle.normal_forms.specs.declared.forms.PropId2.{PropId2}
use Rattle.number_sets.specs.Pieces.{list_at}
use Rattle.property_closure.specs.Growth.{AreRaised}
use Rattle.property_closure.proofs.Growing.{raised_more, raised_same}
use Rattle.property_closure.proofs.shared_lists.SharedLists.raise.Goals as goal
use Rattle.property_closure.proofs.shared_lists.SharedLists.raise.Goals.{then-is_listed+then-not-is_listed+in_ok-widen, else-is_listed, else-is_listed-via-then-is_listed+else-not-is_listed, else-is_listed-via-else-is_listed}

pub loop-k-preserved : goal.loop-k-preserved
loop-k-preserved c =
    let sub = c.args.sub in
    let sup = c.args.sup in
    let above = c.args.above.now in
    let start = c.args.self.now in
    let now = c.loop-k.self in
    let k = c.loop-k.k in
    let before = c.loop-k.invariant in
    let at = c.at-list.ensures in
    let Raised = AreRaised sub sup above (k + 1) start in
    elim c.if-is_listed.branch [
      | then-is_listed+then-not-is_listed+in_ok-widen w ↦
          let (list, union, is) = w.in_ok-widen.ensures in
          let listed : Contains (list_at now k) sub = subst (λ (l : List PropId2). Contains l sub) at (c.is_listed.ensures.0 w.if-is_listed.true) in
          subst Raised (sym (w.self-is ∙ is)) (raised_more sub sup above k start now list (omega (arith, c.loop-k-test.true, c.len-k-end.ensures, before.long)) before listed union)
      | else-is_listed w ↦
          let has : Contains (list_at now k) sub → Contains (list_at now k) sup = subst (λ (l : List PropId2). Contains l sub → Contains l sup) at (elim w.else-is_listed.branch [
            | else-is_listed-via-then-is_listed+else-not-is_listed v ↦ λ h. v.is_listed-then-is_listed.ensures.0 v.if-not-is_listed.false
            | else-is_listed-via-else-is_listed v ↦ λ h. absurd (both_ways c.is_listed.result v.if-is_listed.false (c.is_listed.ensures.1 h))
          ]) in
          subst Raised (sym w.self-is) (raised_same sub sup above k start now before has)
    ]
