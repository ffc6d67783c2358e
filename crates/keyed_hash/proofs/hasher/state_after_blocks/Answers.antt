use Rattle.std.proofs.Common.{◌≡◌, ℕ, suc, ◌+◌, ◌-◌, ◌*◌, ◌/◌, length, refl, arith}
use Rattle.keyed_hash.specs.Hasher.{mixed_blocks, state_after_blocks}
use Rattle.keyed_hash.proofs.hasher.state_after_blocks.Goals as goal

pub loop-at-init : goal.loop-at-init
unfolding mixed_blocks
loop-at-init c = (refl, omega arith, refl)

pub loop-at-preserved : goal.loop-at-preserved
unfolding mixed_blocks
loop-at-preserved c =
    let at : ℕ = c.loop-at.at in
    let whole : at ≡ 16 * (at / 16) = omega (arith, c.loop-at.invariant.0) in
    let more : (at + 16) / 16 ≡ suc (at / 16) = omega arith in (
      omega arith,
      omega arith,
      rw (more, c.folded_product-state.ensures, c.eight_bytes.ensures, c.eight_bytes-in-loop-at.ensures, ← c.loop-at.invariant.2, ← whole),
    )

pub returns : goal.returns
unfolding state_after_blocks
returns c =
    let n : ℕ = length c.args.bytes.now in
    let count : (n - 1) / 16 ≡ c.loop-at.at / 16 = omega (arith, c.loop-at.invariant.0, c.loop-at.invariant.1, c.loop-at-test.false) in
    rw (count, ← c.loop-at.invariant.2, c.folded_product.ensures, c.eight_bytes-2.ensures, c.eight_bytes-3.ensures, c.saturating_sub.ensures)
