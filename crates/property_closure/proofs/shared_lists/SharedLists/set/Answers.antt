use Rattle.std.proofs.Common.{List, map, ap, ◌∙◌}
use Rattle.std.specs.Prelude.{slice_set}
use Rattle.std.proofs.lemmas.List.{map-set}
use Rattle.normal_forms.specs.declared.forms.PropId2.{PropId2}
use Rattle.property_closure.proofs.shared_lists.SharedLists.set.Goals as goal

pub returns : goal.returns
returns c =
    let k = c.args.k in
    map-set (λ list. list.value.items) c.self.inside.lists.items k c.in_ok-self-inside.field-0
    ∙ ap (λ list. slice_set (map (λ list. list.value.items) c.self.inside.lists.items) k list.items) c.in_ok-self-inside.ensures.ok
    ∙ ap (λ (lists : List (List PropId2)). slice_set lists k c.args.list.items) c.self.view_is
