use Rattle.std.proofs.Common.{ℕ, ◌/◌, ◌++◌, ◌∷◌, [], List, ap, ◌∙◌, refl, arith}
use Rattle.explain.specs.LinesByFact.{numbers_by_fact}
use Rattle.explain.proofs.Entries.{entries_kept, numbers_kept, numbers_more, on_failure}
use Rattle.explain.proofs.lines_by_fact.LinesByFact.push_list.Goals as goal

pub returns-in_err-entry-clause-err : goal.returns-in_err-entry-clause-err
returns-in_err-entry-clause-err c =
    let old = c.self.inside in
    on_failure c.from_residual.result (numbers_kept old.lists c.entry_in.new.lists old.blocks old.facts c.in_err-entry.ensures.grown c.self.invariant ∙ c.self.view_is)

pub returns-in_err-push-clause-err : goal.returns-in_err-push-clause-err
returns-in_err-push-clause-err c =
    let old = c.self.inside in
    on_failure c.from_residual-in_err-push.result
    (ap (λ (bs : List (List ℕ)). numbers_by_fact c.entry_in.new.lists bs old.facts) c.in_err-push.ensures.err
    ∙ numbers_kept old.lists c.entry_in.new.lists old.blocks old.facts c.in_ok-entry.ensures.grown c.self.invariant ∙ c.self.view_is)

pub returns-clause-ok : goal.returns-clause-ok
returns-clause-ok c =
    let old = c.self.inside in
    let lists = c.entry_in.new.lists in
    let grown = c.in_ok-entry.ensures.grown in
    numbers_more lists old.blocks c.push.new.self old.facts (old.facts / 256) c.in_ok-entry.entry (entries_kept old.lists lists old.blocks old.facts grown c.self.invariant) refl
    (omega (arith, c.if-block-len.false, c.len.ensures)) c.in_ok-push.ensures.ok c.args.numbers.now c.in_ok-entry.ensures.numbers
    ∙ ap (λ ns. ns ++ c.args.numbers.now ∷ []) (numbers_kept old.lists lists old.blocks old.facts grown c.self.invariant ∙ c.self.view_is)
