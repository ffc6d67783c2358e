use Rattle.std.proofs.Common.{◌≡◌, ◌∙◌, Bool, true, false, not, refl, sym, ap}
use Rattle.std.proofs.lemmas.Bool.{true≢false}
use Rattle.normalise.proofs.Marking.{has_mark}
use Rattle.normalise.proofs.new_marks.Change.is_fresh.Goals as goal

pub returns-then-contains : goal.returns-then-contains
returns-then-contains c =
    let now = has_mark c.args.self.marks.now c.args.number in
    let before = has_mark c.args.self.before.now c.args.number in (
      λ yes. (now.0 (sym c.contains.ensures ∙ c.if-contains.true), λ old. lacks yes (c.contains-then-contains.ensures ∙ before.1 old)),
      λ fresh. has_not c.contains-then-contains.result (λ yes. fresh.1 (before.0 (sym c.contains-then-contains.ensures ∙ yes))),
    )
  where
    lacks : {b : Bool} → not b ≡ true → b ≡ true → ⊥
    lacks {b} n h = true≢false (sym n ∙ ap not h)

    has_not : (b : Bool) → (b ≡ true → ⊥) → not b ≡ true
    has_not true n = absurd (n refl)
    has_not false n = refl

pub returns-else-contains : goal.returns-else-contains
returns-else-contains c =
    let now = has_mark c.args.self.marks.now c.args.number in (
      λ yes. absurd (true≢false (sym yes ∙ c.if-contains.false)),
      λ fresh. c.contains.ensures ∙ now.1 fresh.0,
    )
