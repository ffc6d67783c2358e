use Rattle.std.proofs.Common.{◌∙◌, [], map, get_or, sym}
use Rattle.std.proofs.lemmas.List.{get_or-map}
use Rattle.std.proofs.lemmas.Option.{unwrap_or-slice_get}
use Rattle.std.proofs.lemmas.Slice.Eq.{bytes_eq-Decides}
use Rattle.answers.proofs.groups.leads.Goals as goal

pub returns : goal.returns
returns c =
    let group = c.args.group.now in
    let first = unwrap_or-slice_get (map (λ s. s.now) group) 0 [] ∙ get_or-map (λ s. s.now) group 0 _ [] c.requires in
    let decides = bytes_eq-Decides (get_or group 0 _).now c.args.name.now in
    (λ t. first ∙ decides.0 (sym c.eq.ensures ∙ t), λ e. c.eq.ensures ∙ decides.1 (sym first ∙ e))
