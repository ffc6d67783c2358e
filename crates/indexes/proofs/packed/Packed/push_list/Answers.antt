use Rattle.std.proofs.Common.{◌∷◌, [], ◌++◌, ap, ◌∙◌, arith}
use Rattle.indexes.proofs.Packing.{pushed}
use Rattle.indexes.specs.declared.packed.Span.{Span}
use Rattle.indexes.proofs.packed.Packed.push_list.Goals as goal

pub invariant_of-self-2 : goal.invariant_of-self-2
invariant_of-self-2 c =
    let numbers = c.extend_from_slice.new.self in
    let last : Span = record { start = c.len-start.result; end = c.len-end.result } in
    (pushed c.self.inside.spans.items c.self.inside.numbers.items c.args.list.now c.push_reserved.new.self.items numbers.items c.len-start.result c.len-end.result
    c.self.invariant c.in_ok-extend_from_slice.ensures.items (omega (arith, c.len-start.ensures, c.self.inside.numbers.ok)) (omega (arith, c.len-end.ensures, numbers.ok))
    (c.push_reserved.ensures.items ∙ ap (λ v. v ++ last ∷ []) c.reserve.ensures.items)).0

pub returns : goal.returns
returns c =
    let numbers = c.extend_from_slice.new.self in
    let last : Span = record { start = c.len-start.result; end = c.len-end.result } in
    (pushed c.self.inside.spans.items c.self.inside.numbers.items c.args.list.now c.push_reserved.new.self.items numbers.items c.len-start.result c.len-end.result
    c.self.invariant c.in_ok-extend_from_slice.ensures.items (omega (arith, c.len-start.ensures, c.self.inside.numbers.ok)) (omega (arith, c.len-end.ensures, numbers.ok))
    (c.push_reserved.ensures.items ∙ ap (λ v. v ++ last ∷ []) c.reserve.ensures.items)).1
    ∙ ap (λ v. v ++ c.args.list.now ∷ []) c.self.view_is
