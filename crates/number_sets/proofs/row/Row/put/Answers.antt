use Rattle.std.proofs.Common.{◌≡◌, ◌<◌, ◌≤◌, ◌*◌, ◌/◌, ◌%◌, ◌^◌, ℕ, List, Bool, true, true≢false, nat_eq, bit_or, length, get_or, set, w64, refl, sym, ap, ◌∙◌, arith}
use Rattle.std.specs.Int.{bit_at}
use Rattle.std.proofs.lemmas.List.{set_past}
use Rattle.std.proofs.lemmas.Nat.Bits.{bit_at_set_same, bit_at_set_other}
use Rattle.number_sets.specs.RowWords.{words_of}
use Rattle.number_sets.specs.Words.{bits_of, IsRow}
use Rattle.number_sets.proofs.Bits.{length_bits, put_bits}
use Rattle.number_sets.proofs.row.Row.put.Goals as goal

put_word : (n : ℕ) (words : List ℕ) (i w : ℕ) → IsRow n words → i < n → i / 64 < length words → w ≡ get_or words (i / 64) 0
    → IsRow n (set words (i / 64) (bit_or w (1 * 2 ^ (i % 64) % 18446744073709551616))) × (bits_of n (set words (i / 64) (bit_or w (1 * 2 ^ (i % 64) % 18446744073709551616))) ≡ set (bits_of n words) i true)
put_word n words i w r l within read =
    let small : i % 64 < 64 = omega arith in
    put_bits n words i (bit_or w (1 * 2 ^ (i % 64) % 18446744073709551616)) r l within
    (ap (λ (v : ℕ). nat_eq v 1) (bit_at_set_same w64 w (i % 64) small))
    (λ j lj ne. ap (λ (v : ℕ). nat_eq v 1) (bit_at_set_other w64 w (i % 64) small j ne ∙ ap (λ (v : ℕ). bit_at v j) read))

pub returns-then-i-self : goal.returns-then-i-self
returns-then-i-self c =
    let n = c.self.inside.len in
    let long = ap length c.self.view_is in
    let past : length c.args.self.now ≤ c.args.i = omega (arith, long, length_bits n (words_of c.self.inside.words)) in
    record {
      in_range = (λ f. absurd (true≢false (sym f)), λ l. absurd (omega arith));
      after = sym (set_past c.args.self.now c.args.i true past);
    }

pub invariant_of-self : goal.invariant_of-self
invariant_of-self c =
    let words = (words_of c.self.inside.words) in
    let i = c.args.i in
    let within : i / 64 < length words = omega (arith, c.self.invariant.long) in
    rw c.set.ensures (put_word c.self.inside.len words i c.word-word.result c.self.invariant c.if-i-self.false within c.word-word.ensures).0

pub returns : goal.returns
returns c =
    let n = c.self.inside.len in
    let words = (words_of c.self.inside.words) in
    let i = c.args.i in
    let within : i / 64 < length words = omega (arith, c.self.invariant.long) in
    let long = ap length c.self.view_is in
    record {
      in_range = (λ _. omega (arith, long, length_bits n words), λ _. refl);
      after = rw c.set.ensures (put_word n words i c.word-word.result c.self.invariant c.if-i-self.false within c.word-word.ensures).1 ∙ ap (λ (row : List Bool). set row i true) c.self.view_is;
    }
