use Rattle.std.proofs.Common.{◌↔◌, ◌+◌, List, Contains, sym, subst, subst₂}
use Rattle.std.specs.List.{AllPairs}
use Rattle.normal_forms.specs.Properties.{ChainComesBefore}
use Rattle.property_closure.specs.Chains.{ArePacked}
use Rattle.property_closure.proofs.ChainLists.{Chain, packed_more}
use Rattle.property_closure.proofs.chains.packed.Goals as goal

pub loop-number-preserved : goal.loop-number-preserved
loop-number-preserved c =
    let lists = c.args.lists.now in
    let n = c.loop-number.number in
    let list = c.deref.result.now in
    let is = c.deref.ensures.value in
    let up = subst (AllPairs ChainComesBefore) (sym is) c.in_ok-ascending.ensures.ascending in
    let like = λ (x : Chain). subst₂ (λ (now from : List Chain). Contains now x ↔ Contains from x) (sym is) c.at.ensures (c.in_ok-ascending.ensures.same x) in
    subst (ArePacked lists (n + 1)) (sym c.in_ok-push_list.ensures.ok) (packed_more lists c.loop-number.packed n list c.loop-number.invariant up like)
