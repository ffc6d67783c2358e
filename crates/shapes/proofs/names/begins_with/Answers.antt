use Rattle.std.proofs.Common.{◌∙◌, sym, ap, nat_eq, List, ℕ}
use Rattle.std.specs.List.{starts_with}
use Rattle.fs_parser.specs.View.{iri_of}
use Rattle.shapes.proofs.Pieces.{begins_behind, begins_before}
use Rattle.shapes.proofs.names.begins_with.Goals as goal

pub returns-in-Some : goal.returns-in-Some
returns-in-Some c =
    let iri = c.args.iri.now in
    c.text_begins_with.ensures ∙ sym (ap (λ (front : List ℕ). starts_with nat_eq (iri_of iri) front) c.in-Some.ensures.some ∙ begins_behind iri.base.now c.in-Some.rest.now iri.local.now)

pub returns-in-None : goal.returns-in-None
returns-in-None c =
    let iri = c.args.iri.now in
    c.text_begins_with-in-None.ensures ∙ sym (begins_before iri.base.now c.args.front.now iri.local.now c.in-None.ensures.none)
