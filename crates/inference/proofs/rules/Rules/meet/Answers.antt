use Rattle.std.proofs.Common.{◌≡◌, ℕ, List, [], ◌∷◌, slice_get, Some, sym, ap₂, subst}
use Rattle.facts.specs.declared.contexts.Fact.{Fact}
use Rattle.inference.specs.Completeness.{Drawn}
use Rattle.inference.proofs.Lists.{one_value}
use Rattle.inference.proofs.Growth.{grows_trans}
use Rattle.inference.proofs.Drawing.{drawn_still, draws}
use Rattle.inference.proofs.Redundancy.{all_drawn}
use Rattle.inference.proofs.rules.Rules.meet.Goals as goal

pub returns-then-first-second : goal.returns-then-first-second
returns-then-first-second c =
    let k = c.args.self.now.problem.now in
    let f = c.args.first.fact in
    let g = c.args.second.fact in
    let new = c.draw_if.new.facts in
    let same : f ≡ g = one_value _ f g c.requires.first (subst (λ (n : ℕ). slice_get c.args.facts.now.facts n ≡ Some g) (sym c.if-first-second.true) c.requires.second) in
    let turned : f ∷ g ∷ [] ≡ g ∷ f ∷ [] = ap₂ (λ (x y : Fact). x ∷ y ∷ []) same (sym same) in
    let drawn = c.in_ok-draw_if.ensures.drawn in
    draws c.draw_if.ensures.grows (record {
      first = all_drawn k (f ∷ g ∷ []) new drawn;
      second = all_drawn k (g ∷ f ∷ []) new (subst (λ (older : List Fact). Drawn k older new.facts) turned drawn);
    })

pub returns : goal.returns
returns c =
    let k = c.args.self.now.problem.now in
    let new = c.draw_if-2.new.facts in
    draws (grows_trans c.draw_if.ensures.grows c.draw_if-2.ensures.grows) (record {
      first = all_drawn k (c.args.first.fact ∷ c.args.second.fact ∷ []) new (drawn_still c.draw_if-2.ensures.grows _ c.in_ok-draw_if.ensures.drawn);
      second = all_drawn k (c.args.second.fact ∷ c.args.first.fact ∷ []) new c.in_ok-draw_if-2.ensures.drawn;
    })
