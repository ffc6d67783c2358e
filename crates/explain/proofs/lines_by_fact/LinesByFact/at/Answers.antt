use Rattle.std.proofs.Common.{◌≡◌, ℕ, ◌%◌, List, IfOk, sym, ap, ◌∙◌, subst}
use Rattle.std.specs.Prelude.{slice_index_or}
use Rattle.std.proofs.lemmas.List.{get_or_past}
use Rattle.number_sets.specs.Pieces.{list_at}
use Rattle.explain.specs.LinesByFact as spec
use Rattle.explain.proofs.Entries.{numbers_of_entry}
use Rattle.explain.proofs.lines_by_fact.LinesByFact.at.Goals as goal

pub returns-then-place-block : goal.returns-then-place-block
returns-then-place-block c =
    let kept = c.self.inside in
    let place = c.args.fact % 256 in
    let none : spec.entry_at kept.blocks c.args.fact ≡ 0 = ap (λ (b : List ℕ). slice_index_or b place 0) (sym c.at-block.ensures) ∙ get_or_past c.at-block.result.now place 0 c.if-place-block.true in
    c.new.ensures.items ∙ sym (numbers_of_entry kept.lists kept.blocks kept.facts c.args.fact c.self.invariant ∙ ap (spec.numbers_at kept.lists) none) ∙ ap (λ (ls : List (List ℕ)). list_at ls c.args.fact) c.self.view_is

pub returns : goal.returns
returns c =
    let kept = c.self.inside in
    let place = c.args.fact % 256 in
    let some : spec.entry_at kept.blocks c.args.fact ≡ slice_index_or c.at-block.result.now place 0 = ap (λ (b : List ℕ). slice_index_or b place 0) (sym c.at-block.ensures) in
    let is = sym (numbers_of_entry kept.lists kept.blocks kept.facts c.args.fact c.self.invariant ∙ ap (spec.numbers_at kept.lists) some) ∙ ap (λ (ls : List (List ℕ)). list_at ls c.args.fact) c.self.view_is in
    subst (λ ns. IfOk c.numbers_at.result (λ v. v.items ≡ ns)) is c.numbers_at.ensures
