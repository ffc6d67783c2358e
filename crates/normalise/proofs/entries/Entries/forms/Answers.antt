use Rattle.std.proofs.Common.{map, sym, ap, ◌∙◌}
use Rattle.normal_forms.specs.StoredForms.{origin_of}
use Rattle.normalise.specs.Entries.{form_in}
use Rattle.normalise.proofs.Pairing.{as_many, forms_paired}
use Rattle.normalise.proofs.entries.Entries.forms.Goals as goal

pub returns : goal.returns
returns c = sym (forms_paired c.self.inside.forms (map origin_of c.self.inside.origins.items) (as_many _ _ c.self.invariant)) ∙ ap (map form_in) c.self.view_is
