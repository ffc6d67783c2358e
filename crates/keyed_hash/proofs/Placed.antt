-- Where a search for a member ends.
use Rattle.std.proofs.Common.{◌≡◌, ℕ, Bool, true, List, [], ◌∷◌, position, slice_get, Some}
use Rattle.std.proofs.lemmas.List.Quantifiers.{position-Some}
use Rattle.std.proofs.lemmas.Option.{slice_get-get_or}

-- the place that is found has a member that passes
pub placed : {K : Type 0} (test : K → Bool) (ks : List K) (n : ℕ) → position test ks ≡ Some n → (k : K) × (slice_get ks n ≡ Some k) × (test k ≡ true)
placed test [] n h = cc
placed test (d ∷ ks) n h = let p = position-Some test (d ∷ ks) n d h in (_, slice_get-get_or (d ∷ ks) n d p.0, p.1)
