use Rattle.std.proofs.Common.{◌≡◌, ◌∙◌, ◌++◌, List, ℕ, ap, sym, length, arith}
use Rattle.std.proofs.lemmas.Bool.Decides.{nat_tests}
use Rattle.axioms.specs.Growth.{IsFull, names_of}
use Rattle.fs_parser.specs.View.{iri_of}
use Rattle.axioms.proofs.Fronts.{extends_self}
use Rattle.profile.proofs.Extending.{declared_extends}
use Rattle.profile.proofs.Named.{full_of, has_room, one_piece}
use Rattle.profile.proofs.name_builder.NameBuilder.declare.Goals as goal

pub returns-then-is_empty-clause-room : goal.returns-then-is_empty-clause-room
returns-then-is_empty-clause-room c =
    let i = c.args.iri.now in
    let none : length i.local.now ≡ 0 = grind (arith, nat_tests, c.is_empty.ensures) in
    has_room c.declare.result (IsFull (names_of c.args.self.now.names c.args.kind) (iri_of i))
    (λ is. c.declare.ensures.full.1 (full_of c.self.inside.builder c.args.self.now c.args.kind i.base.now (iri_of i) c.self.view_is (one_piece i.base.now i.local.now none) is))

pub returns-then-is_empty-clause-full : goal.returns-then-is_empty-clause-full
returns-then-is_empty-clause-full c = λ full.
    let i = c.args.iri.now in
    let none : length i.local.now ≡ 0 = grind (arith, nat_tests, c.is_empty.ensures) in
    full_of c.args.self.now c.self.inside.builder c.args.kind (iri_of i) i.base.now (sym c.self.view_is) (sym (one_piece i.base.now i.local.now none)) (c.declare.ensures.full.0 full)

pub returns-in-Ok-clause-room : goal.returns-in-Ok-clause-room
returns-in-Ok-clause-room c =
    let iri = iri_of c.args.iri.now in
    let joined : c.as_str.result.now ≡ iri = c.as_str.ensures.value ∙ c.in-Ok.ensures ∙ ap (λ (t : List ℕ). t ++ iri) c.clear.ensures.bytes in
    has_room c.declare-in-Ok.result (IsFull (names_of c.args.self.now.names c.args.kind) iri)
    (λ is. c.declare-in-Ok.ensures.full.1 (full_of c.self.inside.builder c.args.self.now c.args.kind c.as_str.result.now iri c.self.view_is joined is))

pub returns-then-is_empty-clause-kept : goal.returns-then-is_empty-clause-kept
returns-then-is_empty-clause-kept c =
    rw (← c.self.view_is) (declared_extends c.self.inside.builder c.declare.new.self c.args.kind _ c.declare.result c.declare.ensures.ok c.declare.ensures.err)

pub returns-in-Ok-clause-kept : goal.returns-in-Ok-clause-kept
returns-in-Ok-clause-kept c =
    rw (← c.self.view_is) (declared_extends c.self.inside.builder c.declare-in-Ok.new.self c.args.kind _ c.declare-in-Ok.result c.declare-in-Ok.ensures.ok c.declare-in-Ok.ensures.err)

pub returns-in-Err-clause-kept : goal.returns-in-Err-clause-kept
returns-in-Err-clause-kept c = rw (← c.self.view_is) (extends_self c.self.inside.builder)
