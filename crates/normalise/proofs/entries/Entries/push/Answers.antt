use Rattle.std.proofs.Common.{map, ◌∷◌, [], ◌++◌, ap, ap₂, ◌∙◌}
use Rattle.normal_forms.specs.StoredForms.{origin_of}
use Rattle.normalise.specs.Entries.{paired}
use Rattle.normalise.proofs.Pairing.{as_many, origins_push, paired_push}
use Rattle.normalise.proofs.entries.Entries.push.Goals as goal

pub returns-clause-ok : goal.returns-clause-ok
returns-clause-ok c =
    let forms = c.self.inside.forms in
    let origins = c.self.inside.origins.items in
    ap₂ paired c.in_ok-push.ensures.ok
    (ap (map origin_of) (c.push_reserved.ensures ∙ ap (λ xs. xs ++ c.in-Some.origin ∷ []) c.reserve.ensures.same)
    ∙ origins_push origins c.in-Some.origin c.args.entry.origin c.in-Some.ensures.some)
    ∙ paired_push forms (map origin_of origins) c.args.entry.form c.args.entry.origin (as_many forms origins c.self.invariant) ∙ ap (λ xs. xs ++ c.args.entry ∷ []) c.self.view_is
