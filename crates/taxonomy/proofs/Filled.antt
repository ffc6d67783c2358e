-- Lists with those that are kept apart.
use Rattle.std.proofs.Common.{◌≡◌, ℕ, zero, suc, Bool, true, false, cond, ltb, List, [], ◌∷◌, length, map, get_or, refl, sym, ap, ◌∙◌, ⊎_elim, arith}
use Rattle.std.proofs.lemmas.Bool.{cases_lt, false≢true, le-ltb, lt-ltb}
use Rattle.std.proofs.lemmas.List.{get_or-map, length-map}
use Rattle.number_sets.specs.Pieces.{list_at}
use Rattle.number_sets.specs.Members.{has}
use Rattle.taxonomy.specs.Texts.{numbers_below}
use Rattle.taxonomy.specs.Superclasses.{filled}
use Rattle.taxonomy.proofs.Told.{at_beyond}

pub length-filled : (n : ℕ) (apart : List Bool) (lists : List (List ℕ)) → length apart ≡ length lists → length (filled n apart lists) ≡ length lists
length-filled n [] lists e = e
length-filled n (b ∷ apart) [] e = absurd (omega (arith, e))
length-filled n (b ∷ apart) (list ∷ lists) e = ap suc (length-filled n apart lists (omega (arith, e)))

pub list_at-filled : (n : ℕ) (apart : List Bool) (lists : List (List ℕ)) (c : ℕ) → length apart ≡ length lists → list_at (filled n apart lists) c ≡ cond (has apart c) (numbers_below n) (list_at lists c)
list_at-filled n [] [] c e = refl
list_at-filled n [] (list ∷ lists) c e = absurd (omega (arith, e))
list_at-filled n (b ∷ apart) [] c e = absurd (omega (arith, e))
list_at-filled n (b ∷ apart) (list ∷ lists) zero e = refl
list_at-filled n (b ∷ apart) (list ∷ lists) (suc c) e = list_at-filled n apart lists c (omega (arith, e))

-- the list of a number that is kept apart, and of one that is not
pub apart_at : (n : ℕ) (apart : List Bool) (lists now : List (List ℕ)) (c : ℕ) (b : Bool) → length apart ≡ length lists → now ≡ filled n apart lists → b ≡ has apart c → list_at now c ≡ cond b (numbers_below n) (list_at lists c)
apart_at n apart lists now c b long is e =
    ap (λ ls. list_at ls c) is ∙ list_at-filled n apart lists c long ∙ ap (λ t. cond t (numbers_below n) (list_at lists c)) (sym e)

-- the length of a list by the lengths of all, and of one that is not there
pub size_found : (whole now : List (List ℕ)) (sizes : List ℕ) (c x : ℕ) → now ≡ whole → sizes ≡ map length whole → true ≡ ltb c (length sizes) → x ≡ get_or sizes c x → x ≡ length (list_at now c)
size_found whole now sizes c x en es t ex =
    let long : length sizes ≡ length whole = ap length es ∙ length-map whole length in
    ⊎_elim
    (λ l. ex ∙ ap (λ xs. get_or xs c x) es ∙ get_or-map length whole c [] x (omega (arith, long, l)) ∙ ap (λ ls. length (list_at ls c)) (sym en))
    (λ l. absurd (false≢true (sym (le-ltb c (length sizes) l) ∙ sym t)))
    (cases_lt c (length sizes))

pub size_beyond : (whole now : List (List ℕ)) (sizes : List ℕ) (c : ℕ) → now ≡ whole → sizes ≡ map length whole → false ≡ ltb c (length sizes) → 0 ≡ length (list_at now c)
size_beyond whole now sizes c en es t =
    let long : length sizes ≡ length whole = ap length es ∙ length-map whole length in
    ⊎_elim
    (λ l. absurd (false≢true (t ∙ lt-ltb c (length sizes) l)))
    (λ l. sym (ap length (ap (λ ls. list_at ls c) en ∙ at_beyond whole c (omega (arith, long, l)))))
    (cases_lt c (length sizes))
