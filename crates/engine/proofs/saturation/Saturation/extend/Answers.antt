use Rattle.std.proofs.Common.{◌≡◌, length, map, drop, ap, ◌∙◌, sym, subst, arith}
use Rattle.axioms.specs.Ontology.{Ontology}
use Rattle.normalise.specs.Entries.{form_in}
use Rattle.normalise.specs.Growth.{Grown, IsNormalFor}
use Rattle.normalise.specs.Listing.{Listing}
use Rattle.normalise.proofs.Adding.{keeps_long}
use Rattle.saturate.specs.Growth.{HasGrown}
use Rattle.engine.specs.Saturations.{IsSound, Saturating}
use Rattle.engine.proofs.NothingNew.{as_many_served, still_finished}
use Rattle.engine.proofs.GrownSaturations.{extended_sound, old_first, old_lists_first}
use Rattle.engine.proofs.saturation.Saturation.extend.Goals as goal

pub grown-requires : goal.grown-requires
grown-requires c = let of = c.requires.grown in omega (arith, keeps_long of.old.axioms c.args.new.now.axioms of.grows.axioms, of.grows.new_from)

pub extend-requires-clause-forms : goal.extend-requires-clause-forms
extend-requires-clause-forms c =
    let of = c.requires.grown in
    let old : Saturating = record { normal = c.self.inside.normal; state = c.self.inside.state } in
    let sound : IsSound of.old old = subst (IsSound of.old) (sym c.self.view_is) of.sound in
    let kept : Grown c.self.inside.normal c.share-normal.result = rw c.share-normal.ensures c.in_ok-grown.ensures.kept in
    rw (c.len-from.ensures ∙ ap length c.forms.ensures) (rw c.forms-2.ensures (old_first of.old old c.share-normal.result sound kept))

pub extend-requires-clause-lists : goal.extend-requires-clause-lists
extend-requires-clause-lists c =
    let of = c.requires.grown in
    let old : Saturating = record { normal = c.self.inside.normal; state = c.self.inside.state } in
    let sound : IsSound of.old old = subst (IsSound of.old) (sym c.self.view_is) of.sound in
    let kept : Grown c.self.inside.normal c.share-normal.result = rw c.share-normal.ensures c.in_ok-grown.ensures.kept in
    rw c.apart.ensures (old_lists_first of.old old c.share-normal.result sound kept)

pub returns-clause-sound : goal.returns-clause-sound
returns-clause-sound c =
    let of = c.requires.grown in
    let o : Ontology = of.old in let p : Ontology = c.args.new.now in let v : Listing = c.share-normal.result in
    let old : Saturating = record { normal = c.self.inside.normal; state = c.self.inside.state } in
    let sound : IsSound o old = subst (IsSound o) (sym c.self.view_is) of.sound in
    let kept : Grown c.self.inside.normal v = rw c.share-normal.ensures c.in_ok-grown.ensures.kept in
    let normal : IsNormalFor p v = rw c.share-normal.ensures (c.in_ok-grown.ensures.forms o sound.normal of.grows) in
    let asked : v.asked ≡ c.self.inside.normal.asked = rw c.share-normal.ensures c.in_ok-grown.ensures.asked in
    let count : c.len-from.result ≡ length (map form_in c.self.inside.normal.entries) = c.len-from.ensures ∙ ap length c.forms.ensures in
    let has : HasGrown (drop (length (map form_in c.self.inside.normal.entries)) (map form_in v.entries)) v.apart c.in_ok-roots.roots.items c.self.inside.state c.extend.new.self =
    rw (← count) (rw (← c.forms-2.ensures) (rw (← c.apart.ensures) (rw (← c.deref.ensures.value) c.in_ok-extend.ensures.grown))) in
    extended_sound o p of.whole old v c.extend.new.self c.args.old.classes c.args.old.individuals c.in_ok-roots.roots.items sound normal kept of.names c.in_ok-roots.ensures.again c.in_ok-extend.ensures.state
    asked has

pub returns-clause-kept : goal.returns-clause-kept
returns-clause-kept c = rw (← c.self.view_is) (record {
  forms = rw c.share-normal.ensures c.in_ok-grown.ensures.kept;
  facts = c.in_ok-extend.ensures.grown.facts;
  births = c.in_ok-extend.ensures.grown.births;
  served = c.in_ok-extend.ensures.served;
  stay = as_many_served c.self.inside.state c.extend.new.self c.well_formed-2.ensures.state c.in_ok-extend.ensures.state c.in_ok-extend.ensures.served;
  idle = λ nothing all. still_finished c.self.inside.state c.extend.new.self nothing c.well_formed-2.ensures.state c.in_ok-extend.ensures.state all c.in_ok-extend.ensures.served;
})
