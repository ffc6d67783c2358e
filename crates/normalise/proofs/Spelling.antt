-- A number of a table and the list that it spells determine one another.
use Rattle.std.proofs.Common.{◌≡◌, ℕ, ◌≤◌, List, [], ◌∷◌, ◌++◌, length, slice_get, Some, refl, sym, ap, ap₂, ◌∙◌, subst, arith}
use Rattle.std.proofs.lemmas.List.{length-append}
use Rattle.axioms.specs.WellFormedness.{AreDistinct}
use Rattle.lemmas.proofs.Choices.{one_value}
use Rattle.lemmas.proofs.Places.{Keeps}
use Rattle.normalise.specs.declared.start.Start.{Start}
use Rattle.normalise.specs.declared.start.Start.TheVariants.{One, Longer}
use Rattle.normalise.specs.Tables.{Table, Spells, two, longer, Starts}

pub spells_more : (t u : Table) → Keeps t u → (n : ℕ) (ds : List ℕ) → Spells t n ds → Spells u n ds
spells_more t u k n _ (two c d g) = two c d (k n _ g)
spells_more t u k n _ (longer m d ds g s) = longer m d ds (k n _ g) (spells_more t u k m ds s)

pub starts_more : (t u : Table) → Keeps t u → (s : Start) (ds : List ℕ) → Starts t s ds → Starts u s ds
starts_more t u k (One c) ds h = h
starts_more t u k (Longer n) ds h = spells_more t u k n ds h

-- the list of an entry
pub spells_entry : (t : Table) (s : Start) (xs : List ℕ) (d n : ℕ) → slice_get t n ≡ Some (s, d) → Starts t s xs → Spells t n (xs ++ d ∷ [])
spells_entry t (One c) xs d n g e = subst (λ ys. Spells t n (ys ++ d ∷ [])) (sym e) (two c d g)
spells_entry t (Longer m) xs d n g h = longer m d xs g h

-- a list that is spelled is the list of an entry
pub entry_spells : (t : Table) (n : ℕ) (ys : List ℕ) → Spells t n ys → (s : Start) × ((d : ℕ) × ((zs : List ℕ) × (slice_get t n ≡ Some (s, d)) × Starts t s zs × (ys ≡ zs ++ d ∷ [])))
entry_spells t n _ (two c d g) = (One c, (d, (c ∷ [], g, refl, refl)))
entry_spells t n _ (longer m d ds g s) = (Longer m, (d, (ds, g, s, refl)))

pub spells_long : (t : Table) (n : ℕ) (ds : List ℕ) → Spells t n ds → 2 ≤ length ds
spells_long t n _ (two c d g) = omega arith
spells_long t n _ (longer m d ds g s) = omega (arith, length-append ds (d ∷ []), spells_long t m ds s)

pub last_same : (xs ys : List ℕ) (x y : ℕ) → xs ++ x ∷ [] ≡ ys ++ y ∷ [] → (xs ≡ ys) × (x ≡ y)
last_same [] [] x y e = (refl, (let k : x ≡ y = cc in k))
last_same [] (b ∷ ys) x y e = absurd (omega (arith, ap length e, length-append ys (y ∷ [])))
last_same (a ∷ xs) [] x y e = absurd (omega (arith, ap length e, length-append xs (x ∷ [])))
last_same (a ∷ xs) (b ∷ ys) x y e =
    let h : a ≡ b = cc in let t : xs ++ x ∷ [] ≡ ys ++ y ∷ [] = cc in let r = last_same xs ys x y t in (ap₂ (λ z zs. z ∷ zs) h r.0, r.1)

-- one list for a number
pub spells_one : (t : Table) (n : ℕ) (xs ys : List ℕ) → Spells t n xs → Spells t n ys → xs ≡ ys
spells_one t n _ _ (two c d g) (two a b h) = let e : (One c, d) ≡ (One a, b) = one_value _ _ _ g h in let k : One c ≡ One a = ap (λ p. p.0) e in let i : c ≡ a = cc in ap₂ (λ x y. x ∷ y ∷ []) i (ap (λ p. p.1) e)
spells_one t n _ _ (two c d g) (longer m b ys h s) = let e : (One c, d) ≡ (Longer m, b) = one_value _ _ _ g h in let k : One c ≡ Longer m = ap (λ p. p.0) e in absurd cc
spells_one t n _ _ (longer m d xs g s) (two a b h) = let e : (Longer m, d) ≡ (One a, b) = one_value _ _ _ g h in let k : Longer m ≡ One a = ap (λ p. p.0) e in absurd cc
spells_one t n _ _ (longer m d xs g s) (longer k b ys h r) =
    let e : (Longer m, d) ≡ (Longer k, b) = one_value _ _ _ g h in let l : Longer m ≡ Longer k = ap (λ p. p.0) e in let i : k ≡ m = cc in
    ap₂ (λ zs z. zs ++ z ∷ []) (spells_one t m xs ys s (subst (λ z. Spells t z ys) i r)) (ap (λ p. p.1) e)

pub starts_one : (t : Table) (s : Start) (xs ys : List ℕ) → Starts t s xs → Starts t s ys → xs ≡ ys
starts_one t (One c) xs ys h i = h ∙ sym i
starts_one t (Longer n) xs ys h i = spells_one t n xs ys h i

-- one number for a list
pub spells_number : (t : Table) → AreDistinct t → (m n : ℕ) (xs ys : List ℕ) → Spells t m xs → Spells t n ys → xs ≡ ys → m ≡ n
spells_number t one m n _ _ (two c d g) (two a b h) e = let i : a ≡ c = cc in let j : b ≡ d = cc in one m n (One c, d) g (h ∙ ap₂ (λ x y. Some (One x, y)) i j)
spells_number t one m n _ _ (two c d g) (longer k b ys h s) e = absurd (omega (arith, ap length e, length-append ys (b ∷ []), spells_long t k ys s))
spells_number t one m n _ _ (longer k d xs g s) (two a b h) e = absurd (omega (arith, ap length e, length-append xs (d ∷ []), spells_long t k xs s))
spells_number t one m n _ _ (longer k d xs g s) (longer l b ys h r) e =
    let same = last_same xs ys d b e in
    let i : k ≡ l = spells_number t one k l xs ys s r same.0 in
    one m n (Longer k, d) g (h ∙ ap₂ (λ x y. Some (Longer x, y)) (sym i) (sym same.1))

pub starts_number : (t : Table) → AreDistinct t → (s r : Start) (xs ys : List ℕ) → Starts t s xs → Starts t r ys → xs ≡ ys → s ≡ r
starts_number t one (One c) (One d) xs ys h i e = let k : c ∷ [] ≡ d ∷ [] = sym h ∙ e ∙ i in let l : c ≡ d = cc in ap One l
starts_number t one (One c) (Longer n) xs ys h i e = absurd (omega (arith, ap length h, ap length e, spells_long t n ys i))
starts_number t one (Longer m) (One d) xs ys h i e = absurd (omega (arith, ap length i, ap length e, spells_long t m xs h))
starts_number t one (Longer m) (Longer n) xs ys h i e = ap Longer (spells_number t one m n xs ys h i e)
