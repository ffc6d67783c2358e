use Rattle.std.proofs.Common.{ℕ, List, length, replicate, false, slice_index_or, ap, ◌∙◌, subst₂}
use Rattle.std.proofs.lemmas.Option.{slice_get-get_or, slice_get_within}
use Rattle.lemmas.proofs.Members.{Contains-from_slice_get}
use Rattle.axioms.specs.Ontology.{Ontology}
use Rattle.facts.specs.declared.contexts.Fact.{Fact}
use Rattle.indexes.specs.FactIndex.{IsIn}
use Rattle.answers.specs.Selections.{AreGiven, PutsInClass}
use Rattle.answers.proofs.Lent.{same_facts, same_numbers, same_ontology}
use Rattle.answers.proofs.MarkedFacts.{At, by_some, is_in, no_step, one_mark, only_at}
use Rattle.answers.proofs.marks.marked_above.Goals as goal

pub loop-number-init : goal.loop-number-init
loop-number-init c = no_step _ _ _ (c.in_ok-found.ensures ∙ ap (λ (n : ℕ). replicate n false) c.len.ensures)

pub bounds-facts-number : goal.bounds-facts-number
bounds-facts-number c =
    let numbers = c.classes_in-number-items.result.now in
    let i = c.loop-number.number-index in
    let m = slice_index_or numbers i 0 in
    let w = (same_numbers (IsIn c.args.context) numbers c.facts-facts.ensures c.closed-closed.ensures c.classes_in-number-items.ensures m).0 (Contains-from_slice_get numbers i m (slice_get-get_or numbers i 0 c.loop-number-test.true)) in
    slice_get_within c.facts-facts.result.now m w.0 w.1

pub loop-number-preserved : goal.loop-number-preserved
loop-number-preserved c =
    let gives = PutsInClass c.ontology-ontology.result.now c.args.context in
    let facts = c.facts-facts.result.now in
    let numbers = c.classes_in-number-items.result.now in
    let i = c.loop-number.number-index in
    let m = slice_index_or numbers i 0 in
    let at = slice_get-get_or numbers i 0 c.loop-number-test.true in
    let w = (same_numbers (IsIn c.args.context) numbers c.facts-facts.ensures c.closed-closed.ensures c.classes_in-number-items.ensures m).0 (Contains-from_slice_get numbers i m at) in
    let there = slice_get-get_or facts m _ (slice_get_within facts m w.0 w.1) in
    let only = only_at numbers (At facts gives) i m at c.above.result (only_at facts gives m _ there c.above.result (rw c.index-facts-number.is at c.above.ensures)) in
    one_mark (At numbers (At facts gives)) (replicate (length c.args.marks.now) false) i c.loop-number.found c.mark.new.marks c.above.result c.loop-number.invariant only c.mark.ensures.long c.mark.ensures.exact

pub returns : goal.returns
returns c =
    let o = c.ontology-ontology.result.now in
    let x = c.args.context in
    let numbers = c.classes_in-number-items.result.now in
    let given = by_some (PutsInClass o x) c.facts-facts.result.now c.args.marks.now c.loop-number.found c.loop-number.number-index numbers c.loop-number.invariant c.loop-number-test.false
    (λ n m f is puts. (same_numbers (IsIn c.args.context) numbers c.facts-facts.ensures c.closed-closed.ensures c.classes_in-number-items.ensures m).1 (f, is, is_in o x f n puts)) in
    subst₂ (λ (o : Ontology) (facts : List Fact). AreGiven (PutsInClass o x) facts c.args.marks.now c.loop-number.found)
    (same_ontology c.ontology-ontology.ensures c.closed-closed.ensures) (same_facts c.facts-facts.ensures c.closed-closed.ensures) given
