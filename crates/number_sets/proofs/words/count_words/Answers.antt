use Rattle.std.proofs.Common.{◌≡◌, ℕ, suc, ◌+◌, ◌≤◌, count_ones, [], ◌∷◌, get_or, length, take, sym, ap, ◌∙◌, arith, take-suc}
use Rattle.std.proofs.lemmas.List.{take_all}
use Rattle.number_sets.proofs.Counts.{count_bits, ones_of, ones_append, ones_fit, ones_take}
use Rattle.number_sets.proofs.words.count_words.Goals as goal

pub count_fours-count-requires-clause-fits : goal.count_fours-count-requires-clause-fits
count_fours-count-requires-clause-fits c = ones_fit c.args.n c.args.words.now c.requires c.ranges.n.fits c.type_inv.words

pub overflow_add-count : goal.overflow_add-count
overflow_add-count c =
    let words = c.args.words.now in
    let i = c.loop-i.i in
    let word = get_or words i 0 in
    let next : i + 1 ≡ suc i = omega arith in
    let parts : ones_of (take (i + 1) words) ≡ ones_of (take i words) + ones_of (word ∷ []) =
    ap (λ (n : ℕ). ones_of (take n words)) next ∙ ap ones_of (take-suc words i 0 (omega (arith, c.loop-i-test.true))) ∙ ones_append (take i words) (word ∷ []) in
    let one : ones_of (word ∷ []) ≡ count_ones word = omega arith in
    let fits = ones_fit c.args.n words c.requires c.ranges.n.fits c.type_inv.words in
    record {
      fits = omega (arith, parts, one, ones_take (i + 1) words, c.loop-i.invariant, fits);
    }

pub loop-i-preserved : goal.loop-i-preserved
loop-i-preserved c =
    let words = c.args.words.now in
    let i = c.loop-i.i in
    let word = get_or words i 0 in
    let next : i + 1 ≡ suc i = omega arith in
    let parts : ones_of (take (i + 1) words) ≡ ones_of (take i words) + ones_of (word ∷ []) =
    ap (λ (n : ℕ). ones_of (take n words)) next ∙ ap ones_of (take-suc words i 0 (omega (arith, c.loop-i-test.true))) ∙ ones_append (take i words) (word ∷ []) in
    let one : ones_of (word ∷ []) ≡ count_ones word = omega arith in
    omega (arith, parts, one, c.loop-i.invariant)

pub returns : goal.returns
returns c =
    let words = c.args.words.now in
    let all : length words ≤ c.loop-i.i = omega arith in
    c.loop-i.invariant ∙ ap ones_of (take_all c.loop-i.i words all) ∙ sym (count_bits c.args.n words c.requires c.type_inv.words)
