use Rattle.std.proofs.Common.{map, ◌++◌, ap, ap₂, ◌∙◌}
use Rattle.std.proofs.lemmas.List.{map-append}
use Rattle.normal_forms.specs.StoredForms.{origin_of}
use Rattle.normalise.specs.Entries.{paired}
use Rattle.normalise.proofs.Pairing.{as_many, paired_append}
use Rattle.normalise.proofs.entries.Entries.joined.Goals as goal

pub returns : goal.returns
returns c =
    let forms = c.self.inside.forms in
    let origins = c.self.inside.origins.items in
    let more = c.more.inside.origins.items in
    ap₂ paired c.in_ok-forms.ensures
    (ap (map origin_of) c.in_ok-origins.ensures ∙ map-append origin_of origins more)
    ∙ paired_append forms c.more.inside.forms (map origin_of origins) (map origin_of more) (as_many forms origins c.self.invariant) ∙ ap₂ (λ x y. x ++ y) c.self.view_is c.more.view_is
