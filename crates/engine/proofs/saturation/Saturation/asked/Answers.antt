use Rattle.std.proofs.Common.{◌≡◌, ◌∷◌, ◌++◌, [], ℕ, length, map, drop, ap, ◌∙◌, sym, subst, arith}
use Rattle.std.proofs.lemmas.List.{length-map}
use Rattle.axioms.specs.Growth.{Numbers}
use Rattle.axioms.specs.Ontology.{Ontology}
use Rattle.axioms.specs.View.{axiom_of}
use Rattle.facts.specs.declared.contexts.Context.TheVariants as contexts
use Rattle.normalise.specs.Entries.{form_in}
use Rattle.normalise.specs.Growth.{Grown, Grows, IsNormalFor}
use Rattle.normalise.specs.Listing.{Listing}
use Rattle.normalise.specs.Roots.{HasMoreNames}
use Rattle.normalise.proofs.Adding.{keeps_long}
use Rattle.saturate.specs.Growth.{HasGrown}
use Rattle.engine.specs.Saturations.{IsSound, Saturating}
use Rattle.engine.proofs.NothingNew.{as_many_served, still_finished}
use Rattle.engine.proofs.GrownSaturations.{asked_sound, old_first, old_lists_first}
use Rattle.engine.proofs.saturation.Saturation.asked.Goals as goal

pub grown_with-requires : goal.grown_with-requires
grown_with-requires c = omega (arith, keeps_long c.args.old.now.axioms c.args.new.now.axioms c.requires.grows.axioms, length-map c.axioms.result.now axiom_of, ap length c.axioms.ensures)

pub grown-requires-clause-forms : goal.grown-requires-clause-forms
grown-requires-clause-forms c =
    let old : Saturating = record { normal = c.self.inside.normal; state = c.self.inside.state } in
    let sound : IsSound c.args.old.now old = subst (IsSound c.args.old.now) (sym c.self.view_is) c.requires.sound in
    let kept : Grown c.self.inside.normal c.share-normal.result = rw c.share-normal.ensures c.in_ok-grown_with.ensures.kept in
    rw (c.len-from.ensures ∙ ap length c.forms.ensures) (rw c.forms-2.ensures (old_first c.args.old.now old c.share-normal.result sound kept))

pub grown-requires-clause-lists : goal.grown-requires-clause-lists
grown-requires-clause-lists c =
    let old : Saturating = record { normal = c.self.inside.normal; state = c.self.inside.state } in
    let sound : IsSound c.args.old.now old = subst (IsSound c.args.old.now) (sym c.self.view_is) c.requires.sound in
    let kept : Grown c.self.inside.normal c.share-normal.result = rw c.share-normal.ensures c.in_ok-grown_with.ensures.kept in
    rw c.apart.ensures (old_lists_first c.args.old.now old c.share-normal.result sound kept)

pub returns-clause-sound : goal.returns-clause-sound
returns-clause-sound c =
    let o : Ontology = c.args.old.now in let p : Ontology = c.args.new.now in let v : Listing = c.share-normal.result in
    let old : Saturating = record { normal = c.self.inside.normal; state = c.self.inside.state } in
    let sound : IsSound o old = subst (IsSound o) (sym c.self.view_is) c.requires.sound in
    let kept : Grown c.self.inside.normal v = rw c.share-normal.ensures c.in_ok-grown_with.ensures.kept in
    let many : length o.axioms ≡ length c.axioms.result.now = ap length (sym c.axioms.ensures) ∙ length-map c.axioms.result.now axiom_of in
    let normal : IsNormalFor p v = rw c.share-normal.ensures (c.in_ok-grown_with.ensures.forms o sound.normal (subst (Grows o p) many c.requires.grows)) in
    let n : ℕ = c.in_ok-grown_with.ensures.asked.0 in
    let numbers : Numbers c.self.inside.normal.asked c.args.expr.0 v.asked n = rw c.share-normal.ensures c.in_ok-grown_with.ensures.asked.1 in
    let count : c.len-from.result ≡ length (map form_in c.self.inside.normal.entries) = c.len-from.ensures ∙ ap length c.forms.ensures in
    let roots = c.in_ok-roots.roots.items in
    let has : HasGrown (drop (length (map form_in c.self.inside.normal.entries)) (map form_in v.entries)) v.apart (roots ++ contexts.Expr c.args.expr ∷ []) c.self.inside.state c.in_ok-state.state =
    rw (← count) (rw (← c.forms-2.ensures) (rw (← c.apart.ensures) (rw (← c.in_ok-push.ensures.items) (rw (← c.deref.ensures.value) c.in_ok-state.ensures.grown)))) in
    let classes = length c.classes.result.now in let individuals = length c.individuals.result.now in
    let names : HasMoreNames o p classes individuals = record { nodes = c.requires.grows.nodes; names = c.requires.names; new_classes = c.classes.ensures.count; new_individuals = c.individuals.ensures.count } in
    asked_sound o p c.well_formed-2.ensures old v c.in_ok-state.state classes individuals roots sound normal kept names c.in_ok-roots.ensures.again c.in_ok-state.ensures.state
    c.args.expr n numbers c.requires.there has

pub returns-clause-kept : goal.returns-clause-kept
returns-clause-kept c = rw (← c.self.view_is) (record {
  forms = rw c.share-normal.ensures c.in_ok-grown_with.ensures.kept;
  facts = c.in_ok-state.ensures.grown.facts;
  births = c.in_ok-state.ensures.grown.births;
  served = c.in_ok-state.ensures.served;
  stay = as_many_served c.self.inside.state c.in_ok-state.state c.well_formed-3.ensures.state c.in_ok-state.ensures.state c.in_ok-state.ensures.served;
  idle = λ nothing all. still_finished c.self.inside.state c.in_ok-state.state nothing c.well_formed-3.ensures.state c.in_ok-state.ensures.state all c.in_ok-state.ensures.served;
})

pub returns-clause-asked : goal.returns-clause-asked
returns-clause-asked c = rw (← c.self.view_is) (c.in_ok-grown_with.ensures.asked.0, rw c.share-normal.ensures c.in_ok-grown_with.ensures.asked.1)
