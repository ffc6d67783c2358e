use Rattle.std.proofs.Common.{◌≡◌, ◌≤◌, ◌∙◌, ℕ, List, Contains, get_or, length, slice_get, Some, sym, subst, true}
use Rattle.std.proofs.lemmas.Bool.{false≢true}
use Rattle.std.proofs.lemmas.List.{take_all}
use Rattle.std.proofs.lemmas.Option.{slice_get-get_or}
use Rattle.number_sets.specs.Pieces.{list_at}
use Rattle.taxonomy.specs.Relation.{is_listed}
use Rattle.answers.proofs.Grouping.{failed, listed_is, passed}
use Rattle.answers.proofs.groups.mutual.Goals as goal
use Rattle.answers.proofs.groups.mutual.Goals.{then-has+in_ok-push, else-has}

pub loop-other-preserved : goal.loop-other-preserved
loop-other-preserved c =
    let xs = list_at c.args.lists.now c.args.class in
    let k = c.loop-other.other-index in
    let x = get_or c.at-other-items.result.now k 0 in
    let at = subst (λ (l : List ℕ). slice_get l k ≡ Some x) c.at-other-items.ensures (slice_get-get_or c.at-other-items.result.now k 0 c.loop-other-test.true) in
    let passes = λ (d : ℕ). is_listed c.args.lists.now d c.args.class ≡ true in
    elim c.if-has.branch [
      | then-has+in_ok-push w ↦ passed xs k x at passes c.loop-other.found.items c.loop-other.invariant c.if-has.found.items (rw w.found-is w.in_ok-push.ensures.items) (sym c.has.ensures ∙ w.if-has.true)
      | else-has w ↦ rw w.found-is (failed xs k x at passes c.loop-other.found.items c.loop-other.invariant (λ t. false≢true (sym w.if-has.false ∙ c.has.ensures ∙ t)))
    ]

pub returns : goal.returns
returns c = λ d.
    let xs = list_at c.args.lists.now c.args.class in
    let end = take_all c.loop-other.other-index xs (subst (λ (l : List ℕ). length l ≤ c.loop-other.other-index) c.at-other-items.ensures c.loop-other-test.false) in
    let was = c.loop-other.invariant d in
    let is = listed_is xs d in (
      λ there. (let (a, b) = was.0 there in (is.1 (subst (λ (l : List ℕ). Contains l d) end a), b)),
      λ h. was.1 (subst (λ (l : List ℕ). Contains l d) (sym end) (is.0 h.0), h.1),
    )
