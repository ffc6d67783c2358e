use Rattle.std.proofs.Common.{◌≡◌, ◌∙◌, Some, sym, subst, slice_get, arith}
use Rattle.lemmas.proofs.Places.{slice_get_there}
use Rattle.explain.specs.Marks.{IsMarked}
use Rattle.explain.specs.Uses.{EachIsUsed}
use Rattle.explain.proofs.Adding.{older_shown, showing_not, showing_more}
use Rattle.explain.proofs.MarkBits.{is_marked, not_marked}
use Rattle.explain.proofs.shown.show_next.Goals as goal

pub returns-then-not-contains-clause-showing : goal.returns-then-not-contains-clause-showing
returns-then-not-contains-clause-showing g c =
    let marks = c.args.marks.now in
    rw (c.in_ok-push_list.ensures.ok)
    (showing_not c.args.basis.now.closed.now.ontology c.args.basis.now.closed.now.saturation marks c.args.derivation.now c.args.shown.now
    (subst (λ k. IsMarked marks k → ⊥) c.requires.next (not_marked marks c.args.fact.0 (sym c.contains.ensures ∙ c.if-not-contains.true))) c.requires.showing)

pub show-requires-clause-older : goal.show-requires-clause-older
show-requires-clause-older g c =
    let marked = is_marked c.args.marks.now c.args.fact.0 (sym c.contains.ensures ∙ c.if-not-contains.false) in
    older_shown c.args.basis.now.closed.now.ontology c.args.basis.now.closed.now.saturation c.args.marks.now c.args.derivation.now c.args.shown.now c.args.fact.0
    c.well_formed-2.ensures.saturated c.requires.ready.closed marked c.requires.next (omega (arith, c.requires.there, c.requires.ready.within)) c.requires.showing

pub returns-clause-showing : goal.returns-clause-showing
returns-clause-showing g c =
    let s = c.args.basis.now.closed.now.saturation in
    let marks = c.args.marks.now in
    let next = c.requires.next in
    let marked = is_marked marks c.args.fact.0 (sym c.contains.ensures ∙ c.if-not-contains.false) in
    let fact = slice_get_there s.state.facts c.args.fact.0 (omega (arith, c.requires.there, c.requires.ready.within)) in
    let numbers = c.in_ok-numbers.numbers.items in
    let more = showing_more c.args.basis.now.closed.now.ontology s marks c.args.derivation.now c.show.new.derivation c.args.shown.now numbers fact.0
    (subst (λ k. slice_get s.state.facts k ≡ Some fact.0) next fact.1) (subst (IsMarked marks) next marked) c.well_formed-2.ensures.saturated c.requires.ready.within
    c.requires.showing c.in_ok-numbers.ensures.shown.derivation c.in_ok-numbers.ensures.shown.longer (c.in_ok-numbers.ensures.shown.shown fact.0 fact.1)
    (subst (λ k. EachIsUsed s c.args.shown.now k c.args.derivation.now c.show.new.derivation numbers) next c.in_ok-numbers.ensures.shown.used) in
    rw (c.in_ok-push_list-2.ensures.ok, c.as_slice.ensures) more
