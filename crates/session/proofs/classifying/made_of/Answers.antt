use Rattle.std.proofs.Common.{◌≡◌, subst}
use Rattle.engine.specs.Saturations.{Saturated, as_ended}
use Rattle.session.specs.Sessions.{Opened}
use Rattle.session.proofs.AtEnd.{is_made}
use Rattle.session.proofs.classifying.made_of.Goals as goal

pub returns : goal.returns
returns c =
    let P : Saturated → Type 0 = λ s. c.closed.result ≡ record { ontology = c.session.inside.ontology; saturation = s } in
    let Q : Opened → Type 0 = λ s. c.closed.result ≡ record { ontology = s.ontology; saturation = as_ended s.saturation } in
    let same = subst Q c.session.view_is (subst P c.finish-finished.ensures c.closed.ensures) in
    let is = c.classified.ensures in
    is_made c.args.session c.closed.result c.args.format c.classified.result same c.requires is.counts is.facts is.texts is.acceptable is.right is.written
