use Rattle.std.proofs.Common.{ℕ, replicate, true, false, ap, sym, ◌∙◌, arith}
use Rattle.std.proofs.lemmas.Bool.{false≢true}
use Rattle.std.proofs.lemmas.List.{length-set}
use Rattle.answers.specs.Names.{IsMarked}
use Rattle.answers.specs.Selections.{Answers}
use Rattle.answers.specs.declared.selection.Selection.TheVariants.{Below}
use Rattle.answers.proofs.MarkedFacts.{by_search, no_step, none_found, one_found}
use Rattle.answers.proofs.marks.found_below.Goals as goal
use Rattle.answers.proofs.marks.found_below.Goals.{then-contains+then-is_found_below, else-contains, else-contains-via-then-contains+else-is_found_below, else-contains-via-else-contains}

pub loop-n-init : goal.loop-n-init
loop-n-init c = no_step _ _ _ (c.in_ok-found.ensures ∙ ap (λ (n : ℕ). replicate n false) c.len.ensures)

pub loop-n-preserved : goal.loop-n-preserved
loop-n-preserved c =
    let gives = Answers c.args.indexed.now.ontology (Below c.args.expression) in
    let facts = c.args.indexed.now.saturation.state.facts in
    let marks = c.args.marks.now in
    let n = c.loop-n.n in
    let found = c.loop-n.found in
    elim c.if-contains.branch [
      | then-contains+then-is_found_below w ↦
          let mark : IsMarked marks n = sym c.contains.ensures ∙ w.if-contains.true in
          let is = w.found-is ∙ w.put.ensures.after in
          one_found gives facts marks found n c.loop-n.invariant c.if-contains.found is mark (w.is_found_below.ensures.0 w.if-is_found_below.true) (rw is (length-set found n true))
      | else-contains w ↦
          rw w.found-is (none_found gives facts marks found n c.loop-n.invariant (λ mark given. elim w.else-contains.branch [
            | else-contains-via-then-contains+else-is_found_below w' ↦ false≢true (sym w'.if-is_found_below.false ∙ w'.is_found_below.ensures.1 given)
            | else-contains-via-else-contains w' ↦ false≢true (sym w'.if-contains.false ∙ c.contains.ensures ∙ mark)
          ]))
    ]

pub returns : goal.returns
returns c =
    by_search (Answers c.args.indexed.now.ontology (Below c.args.expression)) c.args.indexed.now.saturation.state.facts c.args.marks.now c.loop-n.found c.loop-n.n c.loop-n.invariant (omega (arith, c.loop-n-test.false, c.len-n-end.ensures))
