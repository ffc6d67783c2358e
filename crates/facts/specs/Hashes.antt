-- The hash of a fact among those of its context: two facts that are equal have the same, and no more is needed of it.
use Rattle.std.specs.Prelude.{ℕ, ◌+◌, ◌*◌, ◌/◌, ◌%◌, ◌^◌, bit_or, bit_xor}
use Rattle.std.specs.Hash as fed
use Rattle.std.specs.Hash.DefaultHasher as sip
use Rattle.std.specs.List.{fold}
use Rattle.std.specs.RandomState.{initial_hasher}
use Rattle.std.specs.declared.hash.RandomState.{RandomState}
use Rattle.facts.specs.HashInput.{class_word, context_word, property_word}
use Rattle.facts.specs.declared.contexts.Fact.{Fact}
use Rattle.facts.specs.declared.contexts.Fact.TheVariants as facts
use Rattle.facts.specs.declared.seeds.Seeds.{Seeds}

-- what the state makes of a word of 8 bytes
abbrev pub word_hash : RandomState → ℕ → ℕ
word_hash state word = sip.finish (fold sip.write (initial_hasher state) (fed.u64 word))

-- the number, or the next where it is even
abbrev pub odd : ℕ → ℕ
odd n = bit_or n 1

abbrev pub product : ℕ → ℕ → ℕ
product m n = (m * n) % 2 ^ 64

abbrev pub sum_of : Seeds → Fact → ℕ
sum_of seeds (facts.In c x) = product (class_word c) seeds.first
sum_of seeds (facts.Edge x p y) = (product (property_word p) seeds.first + product (context_word y) seeds.second) % 2 ^ 64

abbrev pub mixed_of : ℕ → ℕ → ℕ
mixed_of sum factor = product (bit_xor sum (sum / 2 ^ 32)) factor / 2 ^ 32

unfoldable pub hash_of : Seeds → Fact → ℕ
hash_of seeds fact = mixed_of (sum_of seeds fact) seeds.third
