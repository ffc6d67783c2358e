use Rattle.std.proofs.Common.{refl}
use Rattle.inference.proofs.Listing.{is_before}
use Rattle.inference.proofs.predicate_lists.PredicateLists.before.Goals as goal

pub returns : goal.returns
returns c = rw (← c.self.view_is) (λ facts are. is_before facts _ c.args.number _ are (rw (c.last_before.ensures, c.end_in.ensures, c.deref.ensures.value) refl))
