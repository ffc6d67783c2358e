use Rattle.std.proofs.Common.{◌∙◌, ◌++◌, sym, ap, List, ℕ}
use Rattle.std.specs.Str.{bytes_eq}
use Rattle.fs_parser.specs.View.{iri_of}
use Rattle.shapes.proofs.Pieces.{bytes_eq-sym, same_behind, other_before}
use Rattle.shapes.proofs.names.same_iri.Goals as goal

pub returns-in-Some : goal.returns-in-Some
returns-in-Some c =
    let a = c.args.a.now in
    let b = c.args.b.now in
    c.is_joined.ensures ∙ same_behind b.base.now c.in-Some.rest.now a.local.now b.local.now
    ∙ sym (ap (λ (t : List ℕ). bytes_eq (t ++ a.local.now) (iri_of b)) c.in-Some.ensures.some)

pub returns-in-Some-behind : goal.returns-in-Some-behind
returns-in-Some-behind c =
    let a = c.args.a.now in
    let b = c.args.b.now in
    c.is_joined-in-Some-behind.ensures ∙ same_behind a.base.now c.in-Some-behind.rest.now b.local.now a.local.now
    ∙ sym (ap (λ (t : List ℕ). bytes_eq (t ++ b.local.now) (iri_of a)) c.in-Some-behind.ensures.some) ∙ bytes_eq-sym (iri_of b) (iri_of a)

pub returns-in-None-behind : goal.returns-in-None-behind
returns-in-None-behind c =
    let a = c.args.a.now in
    let b = c.args.b.now in
    sym (other_before a.base.now b.base.now a.local.now b.local.now c.in-None.ensures.none c.in-None-behind.ensures.none)
