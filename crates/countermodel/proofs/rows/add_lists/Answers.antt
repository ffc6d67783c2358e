use Rattle.std.proofs.Common.{◌↔◌, ℕ, List, Contains, map, subst, arith}
use Rattle.number_sets.specs.Pieces.{list_at}
use Rattle.countermodel.specs.Keys.{pair_at}
use Rattle.countermodel.specs.LastRows.{GroupsMore}
use Rattle.countermodel.proofs.KeyedRows.{all_lists, no_list, one_list}
use Rattle.countermodel.proofs.rows.add_lists.Goals as goal

pub loop-number-init : goal.loop-number-init
loop-number-init g c = no_list g.S.RowSink.adds c.args.keys.now c.args.rows.now c.args.last

pub loop-number-preserved : goal.loop-number-preserved
loop-number-preserved g c =
    let same : (n : ℕ) → Contains c.in_ok-list.list.items n ↔ Contains (list_at c.args.keys.now c.loop-number.number) n =
    subst (λ (l : List ℕ). (n : ℕ) → Contains c.in_ok-list.list.items n ↔ Contains l n) c.at.ensures c.in_ok-list.ensures.same in
    one_list g.S.RowSink.adds c.args.keys.now c.loop-number.number c.in_ok-list.list.items c.args.rows.now c.loop-number.rows c.add_grouped.new.rows c.args.last c.loop-number.last c.in_ok-last.last
    c.in_ok-list.ensures.ascends same
    (subst (λ (l : List ℕ). GroupsMore g.S.RowSink.adds (map (pair_at c.loop-number.number) l) c.loop-number.rows c.loop-number.last c.add_grouped.new.rows c.in_ok-last.last) c.deref.ensures.value c.in_ok-last.ensures)
    c.loop-number.invariant

pub returns : goal.returns
returns g c = all_lists g.S.RowSink.adds c.args.keys.now c.loop-number.number c.args.rows.now c.loop-number.rows c.args.last c.loop-number.last (omega (arith, c.len-number-end.ensures, c.loop-number-test.false)) c.loop-number.invariant
