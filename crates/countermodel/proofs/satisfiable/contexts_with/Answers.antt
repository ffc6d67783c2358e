use Rattle.std.proofs.Common.{◌+◌, sym, ◌∙◌, subst}
use Rattle.countermodel.proofs.Sets.{HasMarked, one_marked, other_marked, all_marked}
use Rattle.countermodel.proofs.satisfiable.contexts_with.Goals as goal
use Rattle.countermodel.proofs.satisfiable.contexts_with.Goals.{in-Some, in_default}

pub loop-fact-preserved : goal.loop-fact-preserved
loop-fact-preserved c =
    let facts = c.args.facts.now in
    let o = c.args.ontology.now in
    let k = c.loop-fact.fact-index in
    elim c.match-context_with.branch [
      | in-Some w ↦
          subst (HasMarked o facts c.args.class (k + 1)) (sym (w.set-is ∙ w.put.ensures))
          (one_marked o facts c.args.class k _ c.loop-fact.set w.in-Some.context c.loop-fact-test.true c.requires ((rw c.fact-item.is at c.context_with.ensures w.in-Some.context).0 w.in-Some.is) c.loop-fact.invariant)
      | in_default w ↦
          subst (HasMarked o facts c.args.class (k + 1)) (sym w.set-is)
          (other_marked o facts c.args.class k _ c.loop-fact.set c.loop-fact-test.true (λ x is. w.in_default.not-Some x ((rw c.fact-item.is at c.context_with.ensures x).1 is)) c.loop-fact.invariant)
    ]

pub returns : goal.returns
returns c = all_marked c.args.ontology.now c.args.facts.now c.args.class c.loop-fact.fact-index c.loop-fact.set c.loop-fact-test.false c.loop-fact.invariant
