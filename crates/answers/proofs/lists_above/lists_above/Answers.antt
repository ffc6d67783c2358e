use Rattle.std.proofs.Common.{◌≡◌, ℕ, length, sym, subst, arith}
use Rattle.answers.proofs.Listing.{AreFirstLists, IsListOf, all_listed, one_more_list}
use Rattle.answers.proofs.lists_above.lists_above.Goals as goal

pub loop-class-preserved : goal.loop-class-preserved
loop-class-preserved c =
    let o = c.args.indexed.now.ontology in
    let facts = c.args.indexed.now.saturation.state.facts in
    one_more_list o c.args.marks.now facts c.loop-class.class c.loop-class.lists c.push_list.new.self c.deref.result.now c.loop-class.invariant c.in_ok-push_list.ensures.ok
    (subst (IsListOf o c.args.marks.now facts c.loop-class.class) (sym c.deref.ensures.value) c.in_ok-list.ensures)

pub returns : goal.returns
returns c =
    let o = c.args.indexed.now.ontology in
    let marks = c.args.marks.now in
    let facts = c.args.indexed.now.saturation.state.facts in
    let end : c.loop-class.class ≡ length marks = omega (arith, c.loop-class-test.false, c.loop-class.auto.class-end, c.len-class-end.ensures) in
    all_listed o marks facts (length o.names.classes) c.requires c.loop-class.lists (subst (λ (k : ℕ). AreFirstLists o marks facts k c.loop-class.lists) end c.loop-class.invariant)
