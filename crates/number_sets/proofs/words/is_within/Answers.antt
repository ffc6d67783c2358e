use Rattle.std.proofs.Common.{true≢false, sym, refl, arith}
use Rattle.number_sets.proofs.Bits.{within_bits, within_words}
use Rattle.number_sets.proofs.words.is_within.Goals as goal

pub returns-then-a-i : goal.returns-then-a-i
returns-then-a-i c =
    let fits = (c.type_inv.a c.loop-i.i).fits in
    (λ f. absurd (true≢false (sym f)), λ h. absurd (c.if-a-i.true (within_words c.args.a.now c.args.b.now c.loop-i.i fits h)))

pub returns : goal.returns
returns c = (λ _. within_bits c.args.a.now c.args.b.now c.requires (λ k l. c.loop-i.invariant k (omega arith)), λ _. refl)
