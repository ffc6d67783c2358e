use Rattle.std.proofs.Common.{length}
use Rattle.std.proofs.lemmas.Option.{slice_get_within}
use Rattle.saturate.proofs.Runs.{each_served}
use Rattle.saturate.proofs.state.State.all_edges_from.Goals as goal

pub returns : goal.returns
returns g c =
    let s = c.args.self.now in
    let state = c.well_formed-2.ensures.state in
    λ n. (
      λ there. (let w = (c.edges_from.ensures.each n).0 there in (w.1, w.2, w.3)),
      λ w. (c.edges_from.ensures.each n).1 (each_served s.served (length s.facts) state.once state.within c.requires n (slice_get_within s.facts n w.0 w.1), w.0, w.1, w.2),
    )
