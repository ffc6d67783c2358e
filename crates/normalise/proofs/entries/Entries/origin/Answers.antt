use Rattle.std.proofs.Common.{map, sym, ap, ◌∙◌, slice_get}
use Rattle.std.specs.Option.{option_map}
use Rattle.normal_forms.specs.StoredForms.{origin_of}
use Rattle.normalise.specs.Entries.{origin_in}
use Rattle.normalise.proofs.Pairing.{as_many, origin_paired}
use Rattle.normalise.proofs.entries.Entries.origin.Goals as goal

pub returns : goal.returns
returns c = c.origin_at.ensures
    ∙ sym (origin_paired c.self.inside.forms (map origin_of c.self.inside.origins.items) c.args.place (as_many _ _ c.self.invariant)) ∙ ap (λ xs. option_map origin_in (slice_get xs c.args.place)) c.self.view_is
