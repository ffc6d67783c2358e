use Rattle.std.proofs.Common.{◌≡◌, ap₂, sym, ◌∙◌, subst, Some, slice_get}
use Rattle.std.proofs.lemmas.Bool.{both_ways}
use Rattle.std.proofs.lemmas.Option.{same_Some}
use Rattle.lemmas.proofs.Mapped.{slice_get_map}
use Rattle.closure.specs.Denotations.{context_of}
use Rattle.countermodel.specs.ContextLists.{place_in}
use Rattle.countermodel.proofs.Listing.{nowhere}
use Rattle.countermodel.proofs.elements.Elements.element.Goals as goal

pub returns-in_default : goal.returns-in_default
returns-in_default c =
    nowhere c.self.inside.contexts.items c.self.inside.expressions.items c.self.inside.individuals.items c.self.invariant.expressions c.self.invariant.individuals c.args.self.now c.args.context (sym c.self.view_is)
    (λ m h at. c.in_default.not-Some m (c.place_of.ensures ∙ (ap₂ (λ es is. place_in es is c.args.context) c.deref.ensures.value c.deref-2.ensures.value ∙ h)))

pub returns-then-stands_at : goal.returns-then-stands_at
returns-then-stands_at c =
    rw (← c.self.view_is) (slice_get_map context_of c.self.inside.contexts.items c.in-Some.place c.args.context (rw (← c.deref-3.ensures.value) (c.stands_at.ensures.0 c.if-stands_at.true)))

pub returns-else-stands_at : goal.returns-else-stands_at
returns-else-stands_at c =
    nowhere c.self.inside.contexts.items c.self.inside.expressions.items c.self.inside.individuals.items c.self.invariant.expressions c.self.invariant.individuals c.args.self.now c.args.context (sym c.self.view_is)
    (λ m h at.
    let found = c.place_of.ensures ∙ (ap₂ (λ es is. place_in es is c.args.context) c.deref.ensures.value c.deref-2.ensures.value ∙ h) in
    let here : m ≡ c.in-Some.place = same_Some m c.in-Some.place (sym found ∙ c.in-Some.is) in
    both_ways c.stands_at.result c.if-stands_at.false
    (c.stands_at.ensures.1 (rw c.deref-3.ensures.value (subst (λ n. slice_get c.self.inside.contexts.items n ≡ Some c.args.context) here at))))
