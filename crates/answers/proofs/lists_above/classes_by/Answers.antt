use Rattle.std.proofs.Common.{◌↔◌, ℕ, List, Contains, slice_index_or, subst}
use Rattle.std.proofs.lemmas.List.{take_all}
use Rattle.std.proofs.lemmas.Option.{slice_get-get_or}
use Rattle.lemmas.proofs.Members.{Contains-from_slice_get}
use Rattle.answers.specs.Neighbours.{PutsOneBelow}
use Rattle.answers.proofs.Listing.{none_found, one_found}
use Rattle.answers.proofs.lists_above.classes_by.Goals as goal
use Rattle.answers.proofs.lists_above.classes_by.Goals.{in-Some+in_ok-push, in_default}

pub bounds-facts-number : goal.bounds-facts-number
bounds-facts-number c =
    let numbers = c.args.numbers.now in
    let i = c.loop-number.number-index in
    let m = slice_index_or numbers i 0 in
    c.requires m (Contains-from_slice_get numbers i m (slice_get-get_or numbers i 0 c.loop-number-test.true))

pub loop-number-preserved : goal.loop-number-preserved
loop-number-preserved c =
    let facts = c.args.facts.now in
    let numbers = c.args.numbers.now in
    let i = c.loop-number.number-index in
    let m = slice_index_or numbers i 0 in
    let at = slice_get-get_or numbers i 0 c.loop-number-test.true in
    let there = slice_get-get_or facts m _ (c.requires m (Contains-from_slice_get numbers i m at)) in
    let found = c.loop-number.found.items in
    elim c.match-class_pair.branch [
      | in-Some+in_ok-push w ↦ one_found c.args.ontology.now facts numbers i m _ at there found c.loop-number.invariant _ w.in-Some.above.0 (rw c.index-facts-number.is at w.in-Some.ensures.pair) c.match-class_pair.found.items (rw w.found-is w.in_ok-push.ensures.items)
      | in_default w ↦ rw w.found-is (none_found c.args.ontology.now facts numbers i m _ at there found c.loop-number.invariant (rw c.index-facts-number.is at w.in_default.ensures.pair))
    ]

pub returns : goal.returns
returns c =
    subst (λ (ns : List ℕ). (d : ℕ) → Contains c.loop-number.found.items d ↔ PutsOneBelow c.args.ontology.now c.args.facts.now ns d)
    (take_all c.loop-number.number-index c.args.numbers.now c.loop-number-test.false) c.loop-number.invariant
