-- Pieces that are read or written one after another.
use Rattle.std.proofs.Common.{◌≡◌, ℕ, ◌+◌, ◌-◌, ◌≤◌, List, ◌++◌, length, take, drop, arith, length-append, length-drop, Option}
use Rattle.std.proofs.lemmas.List.{length-take-le, take_rest}
use Rattle.std.proofs.Math.Seq.{take-add}
use Rattle.std.specs.Io.KnownBytes.{Appends, Consumes}
use Rattle.std.proofs.KnownBytes.{Consumes-trans, Appends-trans}
use Rattle.device.specs.Device.{LosesFront, Reads}

-- one read more
pub read_more : (a b c : Option (List ℕ)) (old now new : ℕ) (xs buffer : List ℕ) (n : ℕ) → Consumes a b xs → now + length xs ≡ old → Reads b c now new buffer n → LosesFront a c old new
read_more a b c old now new xs buffer n h fell read =
    let front = xs ++ take n buffer in
    (front, Consumes-trans a b c xs (take n buffer) h read.bytes, omega (arith, length-append xs (take n buffer), length-take-le n buffer read.within, fell, read.most))

-- what a write takes of the rest of a text is the text's next piece
pub Appends-next : (a b c : Option (List ℕ)) (t : List ℕ) (at n : ℕ) → Appends a b (take at t) → Appends b c (take n (take (length t - at) (drop at t))) → Appends a c (take (at + n) t)
Appends-next a b c t at n h k =
    let next : Appends b c (take n (drop at t)) = rw (← take_rest t at) k in
    rw (take-add at n t) (Appends-trans a b c _ _ h next)

pub at_most_rest : (t : List ℕ) (at n : ℕ) → at ≤ length t → n ≤ length (take (length t - at) (drop at t)) → at + n ≤ length t
at_most_rest t at n h k = omega (arith, simp (take_rest, length-drop) at k)
