use Rattle.std.proofs.Common.{Some, ℕ, sym, subst}
use Rattle.std.specs.BTreeMap.{Updates}
use Rattle.std.specs.Ordering.{nat_cmp}
use Rattle.explain.specs.Search.{AreKept}
use Rattle.explain.proofs.WalkingUp.{kept_longer, kept_still, one_kept}
use Rattle.explain.proofs.paths.keep.Goals as goal

pub returns-in-Ok : goal.returns-in-Ok
returns-in-Ok c forms kept reached =
    let places = c.insert.new.self in
    let updates = subst (λ (n : ℕ). Updates nat_cmp c.args.places.now places c.args.property.0 (Some n)) c.len-place.ensures c.in-Ok.ensures.updates in
    subst (AreKept forms places) (sym c.in_ok-push_list.ensures.ok)
    (one_kept forms c.args.places.now places c.args.kept.now c.args.ways.now c.args.property.0 updates kept reached)

pub returns-in-Err : goal.returns-in-Err
returns-in-Err c forms kept reached =
    let places = c.insert.new.self in
    subst (AreKept forms places) (sym c.in_ok-push_list.ensures.ok)
    (kept_longer forms places c.args.kept.now c.args.ways.now (kept_still forms c.args.places.now places c.args.kept.now c.in-Err.ensures.err kept))
