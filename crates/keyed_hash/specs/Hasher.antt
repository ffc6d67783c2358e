-- What a `KeyedHasher` computes.
use Rattle.std.specs.Prelude.{ℕ, zero, suc, ◌+◌, ◌-◌, ◌*◌, ◌/◌, ◌%◌, ◌^◌, List, length, if◌then◌else◌, nat_le, nat_lt, slice_index, bit_and, bit_or, bit_xor}
use Rattle.keyed_hash.specs.declared.hasher.KeyedHasher.{KeyedHasher}

-- the two halves of the 128 bits of a * b, joined by exclusive or
unfoldable pub folded_product : ℕ → ℕ → ℕ
folded_product a b = bit_xor (bit_and (a * b) (2 ^ 64 - 1)) (a * b / 2 ^ 64)

-- the four bytes from i on, the lowest first
unfoldable pub four_bytes : List ℕ → ℕ → ℕ
four_bytes bytes i = slice_index bytes i + slice_index bytes (i + 1) * 2 ^ 8 + slice_index bytes (i + 2) * 2 ^ 16 + slice_index bytes (i + 3) * 2 ^ 24

-- the eight bytes from i on, the lowest first
unfoldable pub eight_bytes : List ℕ → ℕ → ℕ
eight_bytes bytes i =
    slice_index bytes i + slice_index bytes (i + 1) * 2 ^ 8 + slice_index bytes (i + 2) * 2 ^ 16 + slice_index bytes (i + 3) * 2 ^ 24
    + slice_index bytes (i + 4) * 2 ^ 32 + slice_index bytes (i + 5) * 2 ^ 40 + slice_index bytes (i + 6) * 2 ^ 48 + slice_index bytes (i + 7) * 2 ^ 56

-- `x << by` at `u64`
abbrev pub shifted : ℕ → ℕ → ℕ
shifted x by = (x * 2 ^ by) % 2 ^ 64

-- up to eight bytes as one number
unfoldable pub few_bytes : List ℕ → ℕ
few_bytes bytes =
    let n = length bytes in
    if nat_le 4 n then bit_or (four_bytes bytes 0) (shifted (four_bytes bytes (n - 4)) 32)
    else (if nat_lt 0 n then bit_or (bit_or (slice_index bytes 0) (shifted (slice_index bytes (n / 2)) 8)) (shifted (slice_index bytes (n - 1)) 16) else 0)

-- the state after the words at i and at j
abbrev pub mixed : List ℕ → ℕ → ℕ → ℕ → ℕ → ℕ
mixed bytes key state i j = folded_product (bit_xor (eight_bytes bytes i) state) (bit_xor (eight_bytes bytes j) key)

-- the state after the first n blocks of 16 bytes
unfoldable pub mixed_blocks : List ℕ → ℕ → ℕ → ℕ → ℕ
mixed_blocks bytes key state zero = state
mixed_blocks bytes key state (suc n) = mixed bytes key (mixed_blocks bytes key state n) (16 * n) (16 * n + 8)

-- the state after more than eight bytes, from the state before and the key
unfoldable pub state_after_blocks : List ℕ → ℕ → ℕ → ℕ
state_after_blocks bytes start key =
    let n = length bytes in
    mixed bytes key (mixed_blocks bytes key ((start + n) % 2 ^ 64) ((n - 1) / 16)) (n - 16) (n - 8)

-- the hasher after `write(bytes)`
unfoldable pub write : KeyedHasher → List ℕ → KeyedHasher
write hasher bytes =
    let n = length bytes in
    let few = folded_product (bit_xor hasher.state (few_bytes bytes)) (bit_xor hasher.key (2 * n)) in
    record hasher { state = if nat_le n 8 then few else state_after_blocks bytes hasher.state hasher.key }

-- what `finish` returns
abbrev pub finish : KeyedHasher → ℕ
finish hasher = hasher.state
