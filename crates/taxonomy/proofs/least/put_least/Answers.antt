use Rattle.std.proofs.Common.{◌≡◌, ℕ, false, filter, not, get_or, length, sym, ap, subst, ◌∙◌, arith, ⊎_elim}
use Rattle.std.proofs.lemmas.Bool.{cases_lt}
use Rattle.std.specs.List.{list_any}
use Rattle.std.specs.List.Sorted.{IsPermutation}
use Rattle.number_sets.specs.Members.{has}
use Rattle.number_sets.proofs.Members.{has_none}
use Rattle.taxonomy.specs.declared.least.Marks.{Marks}
use Rattle.taxonomy.specs.Texts.{is_strictly_above}
use Rattle.taxonomy.specs.Relation.{is_listed}
use Rattle.taxonomy.proofs.Agreement.{same_filter}
use Rattle.taxonomy.proofs.Marked.{any_unmarked, some_none, some_one, AreSome}
use Rattle.taxonomy.proofs.Sizes.{none_beyond}
use Rattle.taxonomy.proofs.Told.{has_beyond}
use Rattle.taxonomy.proofs.least.put_least.Goals as goal
use Rattle.taxonomy.proofs.least.put_least.Goals.{in-Some, in_default, After-put_unmarked}

first_marked : (c : After-put_unmarked) → AreSome c.args.classes.now c.args.numbers.now c.match-largest.marks
first_marked c =
    let lists = c.args.classes.now in
    let numbers = c.args.numbers.now in
    let no_above : (k : ℕ) → has c.clear.new.self k ≡ false = λ k. ap (λ row. has row k) c.clear.ensures ∙ has_none (length c.args.marks.now.above) k in
    let no_strictly : (k : ℕ) → has c.clear-2.new.self k ≡ false = λ k. ap (λ row. has row k) c.clear-2.ensures ∙ has_none (length c.args.marks.now.strictly) k in
    let cleared : Marks = record { above = c.clear.new.self; strictly = c.clear-2.new.self } in
    elim c.match-largest.branch [
      | in-Some w ↦ rw w.marks-is
          (some_one lists c.requires.superclasses numbers w.in-Some.number cleared w.mark.new.marks w.in-Some.ensures.among no_above no_strictly w.mark.ensures.above w.mark.ensures.strictly)
      | in_default w ↦ rw w.marks-is (some_none lists numbers cleared no_above no_strictly)
    ]

pub mark_each-requires-clause-closed : goal.mark_each-requires-clause-closed
mark_each-requires-clause-closed c = (first_marked (goal.at.mark_each-requires-clause-closed c).After-put_unmarked).closed

pub returns-clause-least : goal.returns-clause-least
returns-clause-least c =
    let lists = c.args.classes.now in
    let numbers = c.args.numbers.now in
    let first = first_marked (goal.at.returns-clause-least c).After-put_unmarked in
    let marked = c.match-largest.marks in
    let strictly = c.mark_each.new.marks.strictly in
    let room = c.mark_each.ensures.room.strictly in
    c.in_ok-put_missing.ensures
    ∙ ap (filter (has c.args.leading.now))
    (same_filter (λ h. not (has strictly h)) (λ h. not (list_any (λ k. is_strictly_above (is_listed lists) k h) numbers)) numbers
    (λ i d l.
    let h = get_or numbers i d in
    ap not (⊎_elim
    (λ m. c.mark_each.ensures.strictly h m
    ∙ any_unmarked (λ k. is_strictly_above (is_listed lists) k h) (has marked.above) (has marked.strictly h) numbers c.deref.result.now
    (subst (IsPermutation (filter (λ k. not (has marked.above k)) numbers)) (sym c.deref.ensures.value) c.in_ok-put_unmarked.ensures)
    (first.only h m) (λ k b. first.closed.strictly k h b))
    (λ m. has_beyond strictly h (omega (arith, room)) ∙ sym (none_beyond lists c.requires.superclasses h numbers m))
    (cases_lt h (length lists)))))
