use Rattle.narrowing.proofs.Gathering.{all_gathered, are_starts}
use Rattle.narrowing.proofs.Ordered.{Ascends-from_pairs}
use Rattle.narrowing.proofs.starts.starts_of.Goals as goal

pub returns : goal.returns
returns c =
    let l = c.args.rows.now in
    let starts = c.sort_ascending.new.list.items in
    let gathered = all_gathered l c.new-starts.result.items c.add_class_points.new.starts.items c.add_pair_points.new.starts.items c.add_single_points.new.starts.items c.add_claim_points.new.starts.items
    c.deref.result.now c.deref-2.result.now c.deref-3.result.now c.deref-4.result.now
    c.new-starts.ensures.items c.deref.ensures.value c.deref-2.ensures.value c.deref-3.ensures.value c.deref-4.ensures.value
    c.in_ok-add_class_points.ensures c.in_ok-add_pair_points.ensures c.in_ok-add_single_points.ensures c.in_ok-add_claim_points.ensures in
    are_starts l starts c.add_claim_points.new.starts.items (Ascends-from_pairs starts c.sort_ascending.ensures.ascending) c.sort_ascending.ensures.same gathered
