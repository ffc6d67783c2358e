use Rattle.std.proofs.Common.{map, arith}
use Rattle.std.proofs.lemmas.Result.{err_from_is_err_and}
use Rattle.fs_parser.specs.KnownPrefixes.{known_of}
use Rattle.fs_parser.specs.View.{tree_of, tokens_of}
use Rattle.fs_parser.specs.State.{state_of}
use Rattle.fs_parser.specs.Machine.{start}
use Rattle.fs_parser.proofs.Run.{run}
use Rattle.fs_parser.proofs.ToEnd.{trees_found, trees_only, run_goes_on, trees_stop, run_ends}
use Rattle.fs_parser.proofs.Faults.{balanced, reads_on, token_trees, end_said}
use Rattle.std.proofs.lemmas.Result.{IfErr-weaker}
use Rattle.fs_parser.proofs.trees.trees_to_end.Goals as goal

pub loop-rest-preserved : goal.loop-rest-preserved
loop-rest-preserved c =
    let prefixes = known_of c.args.known.now in (
      run_goes_on c.args.limit prefixes c.requires c.loop-rest.rest.now c.token-item.result (state_of c.loop-rest.state) (state_of c.take.new.state) c.expand.result
          (run c.args.limit prefixes (tokens_of c.args.tokens.now) start) (c.token-item.is, c.in-len1-up.len_at_least) c.expand.ensures.some c.expand.ensures.none
          c.in_ok-take.ensures.given c.loop-rest.invariant.0,
      reads_on c.args.limit prefixes (tokens_of c.args.tokens.now) c.loop-rest.rest.now c.token-item.result (state_of c.loop-rest.state) (state_of c.take.new.state) c.expand.result
          (c.token-item.is, c.in-len1-up.len_at_least) c.expand.ensures.some c.in_ok-take.ensures.given c.loop-rest.invariant.1,
    )

pub returns-in_err-take-clause-only : goal.returns-in_err-take-clause-only
returns-in_err-take-clause-only c =
    let prefixes = known_of c.args.known.now in
    let p = err_from_is_err_and c.from_residual.result c.from_residual.ensures.1 in
    λ ts h. rw (p.1, p.2) (trees_stop c.args.limit prefixes c.requires c.loop-rest.rest.now c.token-item.result (state_of c.loop-rest.state) c.expand.result
    (tokens_of c.args.tokens.now) c.in_err-take.field-0.0 (c.token-item.is, c.in-len1-up.len_at_least) c.expand.ensures.some c.expand.ensures.none
    c.in_err-take.ensures.given c.loop-rest.invariant.0 ts h)

pub returns-in_err-take-clause-said : goal.returns-in_err-take-clause-said
returns-in_err-take-clause-said c =
    let prefixes = known_of c.args.known.now in
    let p = err_from_is_err_and c.from_residual.result c.from_residual.ensures.1 in
    rw (p.1, p.2) (token_trees c.args.limit c.args.here prefixes (tokens_of c.args.tokens.now) c.loop-rest.rest.now c.token-item.result c.loop-rest.state.frames.items c.expand.result
    c.in_err-take.field-0.0 (c.token-item.is, c.in-len1-up.len_at_least) c.expand.ensures.none c.loop-rest.invariant.1 c.in_err-take.ensures.said)

pub returns-clause-found : goal.returns-clause-found
returns-clause-found c =
    let prefixes = known_of c.args.known.now in
    let e = run_ends c.args.limit prefixes c.loop-rest.rest.now (state_of c.loop-rest.state) (run c.args.limit prefixes (tokens_of c.args.tokens.now) start) (omega arith) c.loop-rest.invariant.0 in
    let h = c.end.ensures.given in
    trees_found (λ v. map tree_of v.items) c.end.result c.args.limit prefixes (tokens_of c.args.tokens.now) (rw (← e) h)

pub returns-clause-only : goal.returns-clause-only
returns-clause-only c =
    let prefixes = known_of c.args.known.now in
    let e = run_ends c.args.limit prefixes c.loop-rest.rest.now (state_of c.loop-rest.state) (run c.args.limit prefixes (tokens_of c.args.tokens.now) start) (omega arith) c.loop-rest.invariant.0 in
    let h = c.end.ensures.given in
    trees_only (λ v. map tree_of v.items) c.end.result c.args.limit prefixes c.requires (tokens_of c.args.tokens.now) (rw (← e) h)

pub returns-clause-said : goal.returns-clause-said
returns-clause-said c =
    IfErr-weaker c.end.result _ _ (λ e s. end_said c.args.limit c.args.here (known_of c.args.known.now) (tokens_of c.args.tokens.now) e (balanced (tokens_of c.args.tokens.now) c.loop-rest.rest.now _ c.loop-rest.invariant.1 (omega arith)) s) c.end.ensures.said
