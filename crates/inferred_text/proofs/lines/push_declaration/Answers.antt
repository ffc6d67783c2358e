use Rattle.std.proofs.Common.{ap, ◌++◌, ◌∙◌}
use Rattle.inferred_text.proofs.Pieces.{declared}
use Rattle.inferred_text.proofs.lines.push_declaration.Goals as goal

pub returns : goal.returns
returns c =
    declared c.args.out.now.items c.args.kind.now c.args.name.now
    c.extend_from_slice.new.self.items c.extend_from_slice-2.new.self.items c.extend_from_slice-3.new.self.items c.extend_from_slice-4.new.self.items c.extend_from_slice-5.new.self.items
    c.in_ok-extend_from_slice.ensures.items c.in_ok-extend_from_slice-2.ensures.items c.in_ok-extend_from_slice-3.ensures.items
    (c.in_ok-extend_from_slice-4.ensures.items ∙ ap (λ t. c.extend_from_slice-3.new.self.items ++ t) c.as_bytes.ensures.value) c.in_ok-extend_from_slice-5.ensures.items
