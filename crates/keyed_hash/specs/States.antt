-- The two secret numbers, and the hasher that begins with them.
use Rattle.std.specs.Prelude.{ℕ, bit_or}
use Rattle.std.specs.Hash as fed
use Rattle.std.specs.Hash.DefaultHasher as sip
use Rattle.std.specs.List.{fold}
use Rattle.std.specs.RandomState.{initial_hasher}
use Rattle.std.specs.declared.hash.RandomState.{RandomState}
use Rattle.keyed_hash.specs.declared.hasher.KeyedHasher.{KeyedHasher}
use Rattle.keyed_hash.specs.declared.state.KeyedState.{KeyedState}

-- what the caller's state makes of a number of 8 bytes
abbrev pub word_hash : RandomState → ℕ → ℕ
word_hash state word = sip.finish (fold sip.write (initial_hasher state) (fed.u64 word))

-- the numbers that it makes of 1 and of 2, the second with its lowest bit set
abbrev pub taken_from : RandomState → KeyedState
taken_from state = record { state = word_hash state 1; key = bit_or (word_hash state 2) 1 }

-- the hasher that has read nothing
abbrev pub first_hasher : KeyedState → KeyedHasher
first_hasher s = record { state = s.state; key = s.key }
