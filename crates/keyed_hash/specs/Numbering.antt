-- Members in order, with their places as their numbers.
use Rattle.std.specs.Prelude.{ℕ, ◌-◌, ◌^◌, Bool, List, [], ◌∷◌, ◌++◌, if◌then◌else◌, min}
use Rattle.std.specs.List.{list_any}
use base.Stored.{Coded, coded×, coded_list, coded_ℕ, coded_via}

-- the members, and how many more there is room for
pub record Numbered (T : Type 0) : Type 0 where
  pub keys : List T
  pub room : ℕ

abbrev pub numbered_code : {T : Type 0} → Coded T → Coded (Numbered T)
numbered_code t = coded_via (coded× (coded_list t) coded_ℕ) (λ s. (s.keys, s.room)) (λ a b e i. record { keys = (e i).0; room = (e i).1 })

-- how many more members fit
abbrev pub room_in : ℕ → ℕ → ℕ
room_in spare members = min spare (2 ^ 32 - 1 - members)

-- the members after an insertion: they stay if one is equal to k, and else k goes last
abbrev pub insert_key : {T : Type 0} → (T → T → Bool) → List T → T → List T
insert_key eq ks k = if list_any (eq k) ks then ks else ks ++ k ∷ []
