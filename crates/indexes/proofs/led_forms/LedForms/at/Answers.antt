use Rattle.std.proofs.Common.{ap₂, subst, ◌≡◌, ◌∙◌, List, ℕ, None}
use Rattle.indexes.specs.ChangedLists.{changed_at, HasKeyFirst}
use Rattle.indexes.specs.ListedForms.{forms_at_key}
use Rattle.indexes.specs.declared.key_lists.KeyLists.{KeyLists}
use Rattle.indexes.specs.declared.keys.Key.{Key}
use Rattle.indexes.specs.declared.listed_forms.ListedForms.{ListedForms}
use Rattle.indexes.proofs.Led.{at_place, at_shared}
use Rattle.indexes.proofs.led_forms.LedForms.at.Goals as goal

pub returns-in-Some : goal.returns-in-Some
returns-in-Some c =
    let h = subst (λ (cs : List (Key × List ℕ)). HasKeyFirst cs c.args.key c.in-Some.place) c.deref.ensures.value c.in-Some.ensures.some in
    c.at.ensures ∙ at_place c.args.lists.now c.args.self.now c.args.key c.in-Some.place c.requires.changed h

pub returns-in-None : goal.returns-in-None
returns-in-None c =
    let none = subst (λ (cs : List (Key × List ℕ)). changed_at cs c.args.key ≡ None) c.deref.ensures.value c.in-None.ensures.none in
    c.at-in-None.ensures ∙ ap₂ (λ (l : KeyLists) (f : ListedForms). forms_at_key l f c.args.key) c.as_ref-in-None.ensures c.as_ref.ensures ∙ at_shared c.args.lists.now c.args.self.now c.args.key none
