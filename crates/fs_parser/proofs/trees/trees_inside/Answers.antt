use Rattle.std.proofs.Common.{map, refl, sym, ◌∙◌, arith}
use Rattle.std.proofs.lemmas.Result.{err_from_is_err_and}
use Rattle.fs_parser.specs.KnownPrefixes.{known_of}
use Rattle.fs_parser.specs.View.{tree_of, tokens_of}
use Rattle.fs_parser.specs.State.{state_of}
use Rattle.fs_parser.specs.Machine.{start}
use Rattle.fs_parser.proofs.Run.{inside}
use Rattle.fs_parser.proofs.Inside.{found_by, only_by}
use Rattle.fs_parser.proofs.Faults.{balanced, reads_on, token_trees, end_trees}
use Rattle.fs_parser.proofs.Steps.{loop_goes_on, loop_stops, loop_ends, loop_none}
use Rattle.fs_parser.proofs.trees.trees_inside.Goals as goal

pub loop-rest-preserved : goal.loop-rest-preserved
loop-rest-preserved c =
    let prefixes = known_of c.args.known.now in (
      loop_goes_on c.args.limit prefixes c.requires c.loop-rest.rest.now c.token-item.result (state_of c.loop-rest.state) (state_of c.take.new.state) c.expand.result
          (inside c.args.limit prefixes (tokens_of c.args.tokens.now) start) (c.token-item.is, c.in-len1-up.len_at_least) c.expand.ensures.some c.expand.ensures.none
          (sym c.is_ended_by.ensures ∙ c.if-is_ended_by.false) c.in_ok-take.ensures.given c.loop-rest.invariant.0,
      reads_on c.args.limit prefixes (tokens_of c.args.tokens.now) c.loop-rest.rest.now c.token-item.result (state_of c.loop-rest.state) (state_of c.take.new.state) c.expand.result
          (c.token-item.is, c.in-len1-up.len_at_least) c.expand.ensures.some c.in_ok-take.ensures.given c.loop-rest.invariant.1,
    )

pub returns-in_err-take-clause-only : goal.returns-in_err-take-clause-only
returns-in_err-take-clause-only c =
    let prefixes = known_of c.args.known.now in
    let p = err_from_is_err_and c.from_residual.result c.from_residual.ensures.1 in
    λ ts h. rw (p.1, p.2) (loop_stops c.args.limit prefixes c.requires c.loop-rest.rest.now c.token-item.result (state_of c.loop-rest.state) c.expand.result
    (tokens_of c.args.tokens.now) c.in_err-take.field-0.0 (c.token-item.is, c.in-len1-up.len_at_least) c.expand.ensures.some c.expand.ensures.none
    (sym c.is_ended_by.ensures ∙ c.if-is_ended_by.false) c.in_err-take.ensures.given c.loop-rest.invariant.0 ts h)

pub returns-then-is_ended_by-clause-found : goal.returns-then-is_ended_by-clause-found
returns-then-is_ended_by-clause-found c =
    let prefixes = known_of c.args.known.now in
    let e = loop_ends c.args.limit prefixes c.loop-rest.rest.now c.token-item.result (state_of c.loop-rest.state) (inside c.args.limit prefixes (tokens_of c.args.tokens.now) start)
    (c.token-item.is, c.in-len1-up.len_at_least) (sym c.is_ended_by.ensures ∙ c.if-is_ended_by.true) c.loop-rest.invariant.0 in
    let h = c.end_before.ensures.given in
    found_by (λ v. map tree_of v.items) c.end_before.result c.args.limit prefixes (tokens_of c.args.tokens.now) (rw (← e) h)

pub returns-then-is_ended_by-clause-only : goal.returns-then-is_ended_by-clause-only
returns-then-is_ended_by-clause-only c =
    let prefixes = known_of c.args.known.now in
    let e = loop_ends c.args.limit prefixes c.loop-rest.rest.now c.token-item.result (state_of c.loop-rest.state) (inside c.args.limit prefixes (tokens_of c.args.tokens.now) start)
    (c.token-item.is, c.in-len1-up.len_at_least) (sym c.is_ended_by.ensures ∙ c.if-is_ended_by.true) c.loop-rest.invariant.0 in
    let h = c.end_before.ensures.given in
    only_by (λ v. map tree_of v.items) c.end_before.result c.args.limit prefixes c.requires (tokens_of c.args.tokens.now) (rw (← e) h)

pub returns-clause-only : goal.returns-clause-only
returns-clause-only c =
    let prefixes = known_of c.args.known.now in
    λ ts h. absurd (loop_none c.args.limit prefixes c.requires c.loop-rest.rest.now (state_of c.loop-rest.state) (tokens_of c.args.tokens.now) (omega arith) c.loop-rest.invariant.0 ts h)

pub returns-in_err-take-clause-said : goal.returns-in_err-take-clause-said
returns-in_err-take-clause-said c =
    let prefixes = known_of c.args.known.now in
    let p = err_from_is_err_and c.from_residual.result c.from_residual.ensures.1 in
    rw (p.1, p.2) (token_trees c.args.limit c.args.here prefixes (tokens_of c.args.tokens.now) c.loop-rest.rest.now c.token-item.result c.loop-rest.state.frames.items c.expand.result
    c.in_err-take.field-0.0 (c.token-item.is, c.in-len1-up.len_at_least) c.expand.ensures.none c.loop-rest.invariant.1 c.in_err-take.ensures.said)

pub returns-then-is_ended_by-clause-said : goal.returns-then-is_ended_by-clause-said
returns-then-is_ended_by-clause-said c =
    end_trees (λ v. map tree_of v.items) c.end_before.result c.args.limit c.args.here (known_of c.args.known.now) (tokens_of c.args.tokens.now) c.loop-rest.rest.now c.token-item.result (state_of c.loop-rest.state)
    (c.token-item.is, c.in-len1-up.len_at_least) c.loop-rest.invariant.1 (sym c.is_ended_by.ensures ∙ c.if-is_ended_by.true) c.end_before.ensures.given c.end_before.ensures.said

pub returns-clause-said : goal.returns-clause-said
returns-clause-said c = (refl, balanced (tokens_of c.args.tokens.now) c.loop-rest.rest.now _ c.loop-rest.invariant.1 (omega arith))
