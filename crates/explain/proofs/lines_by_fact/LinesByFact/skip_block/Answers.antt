use Rattle.std.proofs.Common.{◌≡◌, ℕ, ◌+◌, List, length, sym, ap, ◌∙◌, subst, arith}
use Rattle.number_sets.specs.Pieces.{list_at}
use Rattle.explain.specs.LinesByFact.{AreEntries, numbers_by_fact}
use Rattle.explain.proofs.Entries.{entries_skipped, length_numbers, numbers_skipped}
use Rattle.explain.proofs.lines_by_fact.LinesByFact.skip_block.Goals as goal

pub invariant_of-self : goal.invariant_of-self
invariant_of-self c =
    let old = c.self.inside in
    let long : length c.args.self.now ≡ old.facts = sym (ap length c.self.view_is) ∙ length_numbers old.lists old.blocks old.facts in
    subst (AreEntries (length old.lists) old.blocks) (let e : old.facts + 256 ≡ c.in-Some.facts = omega (arith, c.in-Some.ensures) in e)
    (entries_skipped (length old.lists) old.blocks old.facts c.self.invariant (omega (arith, long, c.requires)))

pub returns-clause-longer : goal.returns-clause-longer
returns-clause-longer c =
    let old = c.self.inside in
    let long : length c.args.self.now ≡ old.facts = sym (ap length c.self.view_is) ∙ length_numbers old.lists old.blocks old.facts in
    length_numbers old.lists old.blocks c.in-Some.facts ∙ omega (arith, long, c.in-Some.ensures)

pub returns-clause-none : goal.returns-clause-none
returns-clause-none c fact =
    let old = c.self.inside in
    let long : length c.args.self.now ≡ old.facts = sym (ap length c.self.view_is) ∙ length_numbers old.lists old.blocks old.facts in
    let facts : c.in-Some.facts ≡ old.facts + 256 = omega (arith, c.in-Some.ensures) in
    ap (λ n. list_at (numbers_by_fact old.lists old.blocks n) fact) facts
    ∙ numbers_skipped old.lists old.blocks old.facts fact c.self.invariant (omega (arith, long, c.requires))
    ∙ ap (λ (ls : List (List ℕ)). list_at ls fact) c.self.view_is
