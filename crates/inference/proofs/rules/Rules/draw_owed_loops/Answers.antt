use Rattle.std.proofs.Common.{◌≡◌, Some, slice_get, sym, ap, subst, ◌∙◌}
use Rattle.std.proofs.lemmas.Bool.{false≢true}
use Rattle.facts.specs.Closure.{IsLoop, thing}
use Rattle.facts.specs.declared.contexts.Context.{Context}
use Rattle.facts.specs.declared.contexts.Fact.TheVariants.{In}
use Rattle.normal_forms.specs.declared.forms.Class2.{Class2}
use Rattle.inference.specs.Completeness.{AllDrawn}
use Rattle.inference.proofs.Drawing.{draws}
use Rattle.inference.proofs.Growth.{grows_same}
use Rattle.inference.proofs.Owing.{context_by_birth, entry_here}
use Rattle.inference.proofs.rules.Rules.draw_owed_loops.Goals as goal

-- another class is no entry
pub returns-then-not-is_thing : goal.returns-then-not-is_thing
returns-then-not-is_thing c = draws (grows_same c.requires.derived) (λ x entry.
    absurd (false≢true (sym c.if-not-is_thing.true ∙ c.is_thing.ensures.1 (entry_here x c.args.hand.context c.args.hand.number c.args.hand.class c.requires.hand entry).0)))

pub returns-then-not-is_entry : goal.returns-then-not-is_entry
returns-then-not-is_entry c = draws (grows_same c.requires.derived) (λ x entry.
    absurd (false≢true (sym c.if-not-is_entry.true ∙ (c.is_entry.ensures x entry.there).1 entry)))

pub draw_loops_by-requires-clause-context : goal.draw_loops_by-requires-clause-context
draw_loops_by-requires-clause-context c =
    let top : slice_get c.args.facts.now.facts c.args.hand.number ≡ Some (In thing c.args.hand.context) = c.requires.hand ∙ ap (λ (a : Class2). Some (In a c.args.hand.context)) (c.is_thing.ensures.0 c.if-not-is_thing.false) in
    rw c.older-older.ensures (context_by_birth c.requires.derived c.args.hand.context c.args.hand.number _ c.birth.ensures ((c.is_entry.ensures c.args.hand.context top).0 c.if-not-is_entry.false))

pub returns : goal.returns
returns c = draws c.draw_loops_by.ensures.grows (λ x entry.
    let same : c.args.hand.context ≡ x = (entry_here x c.args.hand.context c.args.hand.number c.args.hand.class c.requires.hand entry).1 in
    subst (λ (y : Context). AllDrawn (IsLoop y) c.args.self.now.problem.now.forms c.draw_loops_by.new.facts.facts) same c.in_ok-draw_loops_by.ensures.drawn)
