use Rattle.std.proofs.Common.{ℕ, List, sym, subst}
use Rattle.indexes.specs.declared.index.Index.{Index}
use Rattle.std.proofs.lemmas.Result.{on_err_weaker, on_ok_weaker}
use Rattle.saturate.specs.Flags.{kept}
use Rattle.saturate.specs.NewSeconds.{ListsMoreSeconds}
use Rattle.saturate.proofs.Flagging.{keeps_served, keeps_served_then}
use Rattle.saturate.proofs.Listed.{listed_below}
use Rattle.saturate.proofs.NewSeconds.{listed_with_more, same_seconds}
use Rattle.saturate.proofs.Staying.{entered_then, listed_then}
use Rattle.saturate.proofs.extension.carry_on.Goals as goal

pub flags_of-requires-clause-below : goal.flags_of-requires-clause-below
flags_of-requires-clause-below g c = listed_below c.args.facts.now.facts c.args.queue.now.served _ c.args.index.now c.requires.listed.by_context

pub listed_still-requires-clause-listed : goal.listed_still-requires-clause-listed
listed_still-requires-clause-listed g c =
    let served : List ℕ = c.args.queue.now.served in
    let flags = c.in_ok-flags.flags in
    listed_then c.args.from c.requires.grown c.in_ok-list_seconds.ensures.listed (kept flags served)
    (keeps_served c.args.earlier.now c.args.ground.now c.args.facts.now.facts flags served (c.in_ok-flags.ensures.flags served _ c.requires.turns.served c.requires.listed.by_context))
    (listed_with_more c.in_ok-list_seconds.ensures.more c.requires.listed)

pub returns-then-looked_at-few-clause-served : goal.returns-then-looked_at-few-clause-served
returns-then-looked_at-few-clause-served g c =
    on_ok_weaker c.listed_still.result
    (λ is. keeps_served_then c.args.earlier.now c.args.ground.now c.args.facts.now.facts c.in_ok-flags.flags c.args.queue.now.served c.listed_still.new.queue.served is
    (c.in_ok-flags.ensures.flags c.args.queue.now.served _ c.requires.turns.served c.requires.listed.by_context))
    c.listed_still.ensures.served

pub returns-clause-served : goal.returns-clause-served
returns-clause-served g c =
    on_ok_weaker c.listed_anew.result
    (λ is. keeps_served_then c.args.earlier.now c.args.ground.now c.args.facts.now.facts c.in_ok-flags.flags c.args.queue.now.served c.listed_anew.new.queue.served is
    (c.in_ok-flags.ensures.flags c.args.queue.now.served _ c.requires.turns.served c.requires.listed.by_context))
    c.listed_anew.ensures.served

pub listed_still-requires-clause-entered : goal.listed_still-requires-clause-entered
listed_still-requires-clause-entered g c = λ many is.
    let w = c.entered_roots-entered.ensures.some many is in
    rw (w.0, c.problem-2.ensures) (entered_then c.args.from c.requires.grown (rw (c.forms-all.ensures, c.problem.ensures) at w.1) c.requires.complete)

pub listed_anew-requires-clause-entered : goal.listed_anew-requires-clause-entered
listed_anew-requires-clause-entered g c = λ many is.
    let w = c.entered_roots-entered.ensures.some many is in
    rw (w.0, c.problem-2.ensures) (entered_then c.args.from c.requires.grown (rw (c.forms-all.ensures, c.problem.ensures) at w.1) c.requires.complete)

pub returns-then-looked_at-few-clause-index : goal.returns-then-looked_at-few-clause-index
returns-then-looked_at-few-clause-index g c =
    on_err_weaker c.listed_still.result
    (λ is. subst (λ (i : Index). ListsMoreSeconds c.args.facts.now.facts c.args.index.now i) (sym is) c.in_ok-list_seconds.ensures.more)
    c.listed_still.ensures.index

pub returns-clause-index : goal.returns-clause-index
returns-clause-index g c =
    on_err_weaker c.listed_anew.result
    (λ is. subst (λ (i : Index). ListsMoreSeconds c.args.facts.now.facts c.args.index.now i) (sym is) (same_seconds c.args.facts.now.facts c.args.index.now))
    c.listed_anew.ensures.index
