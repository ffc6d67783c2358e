-- A listing that is cut into intervals: neighbours of which its rows say the same are one element.
use Rattle.std.specs.Prelude.{ℕ, suc, ◌+◌, ◌<◌, ◌↔◌, List, [], ◌∷◌, ◌++◌, length, map, max, nat_le, nat_lt, if◌then◌else◌}
use Rattle.std.specs.List.{Contains, flat_map}
use Rattle.certificate.specs.Certificate.{Listed}
use Rattle.certificate.specs.Writability.{Ascends}

-- where single elements begin, and where they have ended
abbrev pub single_points : List ℕ → List ℕ
single_points [] = []
single_points (x ∷ xs) = x ∷ suc x ∷ single_points xs

-- .. and runs, whose last and first numbers these are
abbrev pub run_points : List ℕ → List ℕ
run_points (last ∷ first ∷ ends) = first ∷ suc (max last first) ∷ run_points ends
run_points _ = []

-- .. and what a list holds
abbrev pub points_in : List ℕ → List ℕ
points_in (x ∷ y ∷ xs) = if nat_lt x y then single_points (x ∷ y ∷ xs) else run_points (x ∷ y ∷ xs)
points_in xs = single_points xs

-- where something that stands in a line begins, or has ended
abbrev pub points_of : Listed → List ℕ
points_of l =
    flat_map (λ row. points_in row.1) l.classes ++ flat_map (λ row. row.1 ∷ suc row.1 ∷ points_in row.2) l.pairs
    ++ single_points l.individuals ++ single_points (map (λ claim. claim.1) l.claims)

-- the interval that the number lies in, by the beginnings of all but the first
abbrev pub interval_of : List ℕ → ℕ → ℕ
interval_of [] x = 0
interval_of (start ∷ starts) x = if nat_le start x then suc (interval_of starts x) else 0

-- each number by its interval
abbrev pub cut_at : List ℕ → Listed → Listed
cut_at starts l = record {
  domain = length starts + 1;
  classes = map (λ row. (row.0, map (interval_of starts) row.1)) l.classes;
  pairs = map (λ row. (row.0, interval_of starts row.1, map (interval_of starts) row.2)) l.pairs;
  individuals = map (interval_of starts) l.individuals;
  claims = map (λ claim. (claim.0, interval_of starts claim.1)) l.claims;
}

-- the beginnings of all intervals but the first: the points within the domain
pub record AreStarts (l : Listed) (starts : List ℕ) : Type 0 where
  pub ascend : Ascends starts
  pub exact : (x : ℕ) → Contains starts x ↔ (Contains (points_of l) x × (0 < x) × (x < l.domain))
