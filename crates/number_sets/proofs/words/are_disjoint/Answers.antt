use Rattle.std.proofs.Common.{true≢false, sym, refl, arith}
use Rattle.number_sets.proofs.Bits.{disjoint_bits, disjoint_words}
use Rattle.number_sets.proofs.words.are_disjoint.Goals as goal

pub returns-then-a-i-ne0 : goal.returns-then-a-i-ne0
returns-then-a-i-ne0 c =
    let fits = (c.type_inv.a c.loop-i.i).fits in
    (λ f. absurd (true≢false (sym f)), λ h. absurd (c.if-a-i-ne0.true (disjoint_words c.args.a.now c.args.b.now c.loop-i.i fits h)))

pub returns : goal.returns
returns c = (λ _. disjoint_bits c.args.a.now c.args.b.now c.requires (λ k l. c.loop-i.invariant k (omega arith)), λ _. refl)
