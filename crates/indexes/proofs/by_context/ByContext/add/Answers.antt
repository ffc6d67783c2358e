use Rattle.std.proofs.Common.{List, ℕ, subst}
use Rattle.std.proofs.lemmas.Result.{on_ok_weaker}
use Rattle.indexes.specs.Contexts.{IsLast}
use Rattle.indexes.proofs.Adding.{adds_last, ends_here}
use Rattle.indexes.proofs.by_context.ByContext.add.Goals as goal

pub returns-then-is_last-clause-ok : goal.returns-then-is_last-clause-ok
returns-then-is_last-clause-ok c = adds_last c.args.self.now c.args.context c.args.number (subst (λ (ns : List ℕ). IsLast ns c.args.number) c.of.ensures (c.is_last.ensures.yes c.if-is_last.true))

pub returns-clause-last : goal.returns-clause-last
returns-clause-last c =
    on_ok_weaker c.put.result
    (λ puts. ends_here c.args.self.now c.put.new.self c.args.context c.args.number puts (λ last. c.is_last.ensures.no c.if-is_last.false (rw c.of.ensures last)))
    c.put.ensures.last
