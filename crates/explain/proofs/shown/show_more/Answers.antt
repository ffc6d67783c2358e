use Rattle.std.proofs.Common.{refl, arith}
use Rattle.explain.proofs.Adding.{showing_past}
use Rattle.explain.proofs.MarkBits.{not_marked}
use Rattle.explain.proofs.shown.show_more.Goals as goal

pub returns-then-is_blank_block-clause-showing : goal.returns-then-is_blank_block-clause-showing
returns-then-is_blank_block-clause-showing g c =
    showing_past c.args.basis.now.closed.now.ontology c.args.basis.now.closed.now.saturation c.args.marks.now c.args.derivation.now c.args.shown.now c.skip_block.new.self
    (omega (arith, c.in_ok-skip_block.ensures.longer)) c.in_ok-skip_block.ensures.none
    (λ n low high m. not_marked c.args.marks.now n (c.if-is_blank_block.ensures refl n (omega (arith, low, c.len-number.ensures)) (omega (arith, high, c.in_ok-skip_block.ensures.longer, c.len-number.ensures))) m) c.requires.showing
