-- What the rows of lists say.
use Rattle.std.proofs.Common.{◌≡◌, ℕ, zero, suc, ◌<◌, ◌≤◌, Bool, true, false, List, [], ◌∷◌, length, map, refl, sym, ap, ap₂, ◌∙◌, arith, ⊎_elim, zero-add, not, ◌&&◌}
use Rattle.std.proofs.lemmas.Bool.{cases_lt, false_from_ne_true}
use Rattle.std.proofs.lemmas.List.{length-map, get_or-map}
use Rattle.std.proofs.lemmas.List.FromFn.{length-range_with_len, get_or-range_with_len}
use Rattle.std.proofs.Math.Path.{fun_ext}
use Rattle.number_sets.specs.Pieces.{list_at}
use Rattle.number_sets.specs.Members.{has}
use Rattle.taxonomy.specs.Texts.{numbers_below, is_same, is_strictly_above}
use Rattle.taxonomy.specs.Relation.{row_at, lies_below, is_listed}
use Rattle.taxonomy.specs.Superclasses.{is_among, rows_of, AreSets}

pub at_beyond : {X : Type 0} (lists : List (List X)) (c : ℕ) → length lists ≤ c → list_at lists c ≡ []
at_beyond [] c l = refl
at_beyond (list ∷ lists) zero l = absurd (omega arith)
at_beyond (list ∷ lists) (suc c) l = at_beyond lists c (omega arith)

pub has_beyond : (row : List Bool) (k : ℕ) → length row ≤ k → has row k ≡ false
has_beyond [] k l = refl
has_beyond (b ∷ row) zero l = absurd (omega arith)
has_beyond (b ∷ row) (suc k) l = has_beyond row k (omega arith)

pub length-numbers : (n : ℕ) → length (numbers_below n) ≡ n
length-numbers n = length-range_with_len 0 n

-- the row of a test
pub has_test : (p : ℕ → Bool) (n d : ℕ) → d < n → has (map p (numbers_below n)) d ≡ p d
has_test p n d l =
    let long = length-numbers n in
    get_or-map p (numbers_below n) d 0 false (omega arith) ∙ ap p (get_or-range_with_len 0 n d 0 l ∙ zero-add d)

pub length-rows : (lists : List (List ℕ)) → length (rows_of lists) ≡ length lists
length-rows lists = length-map lists (λ list. map (is_among list) (numbers_below (length lists)))

pub told : (lists : List (List ℕ)) → ((c d : ℕ) → is_listed lists c d ≡ true → d < length lists) → (c d : ℕ) → lies_below (rows_of lists) c d ≡ is_listed lists c d
told lists within c d =
    let n = length lists in
    let row : List ℕ → List Bool = λ list. map (is_among list) (numbers_below n) in
    ⊎_elim
    (λ l.
    let at : row_at (rows_of lists) c ≡ row (list_at lists c) = get_or-map row lists c [] [] l in
    ap (λ r. has r d) at
    ∙ ⊎_elim
    (λ m. has_test (is_among (list_at lists c)) n d m)
    (λ m.
    let long : length (row (list_at lists c)) ≡ n = length-map (numbers_below n) (is_among (list_at lists c)) ∙ length-numbers n in
    has_beyond (row (list_at lists c)) d (omega arith) ∙ sym (false_from_ne_true (is_listed lists c d) (λ t. absurd (omega (arith, m, within c d t)))))
    (cases_lt d n))
    (λ l.
    let long : length (rows_of lists) ≡ n = length-rows lists in
    ap (λ r. has r d) (at_beyond (rows_of lists) c (omega arith)) ∙ sym (ap (λ xs. is_among xs d) (at_beyond lists c l)))
    (cases_lt c n)

pub told_same : (lists : List (List ℕ)) → AreSets lists → (c d : ℕ) → is_same (lies_below (rows_of lists)) c d ≡ is_same (is_listed lists) c d
told_same lists s c d = ap₂ (λ a b. a && b) (told lists s.within c d) (told lists s.within d c)

pub told_strictly : (lists : List (List ℕ)) → AreSets lists → (c d : ℕ) → is_strictly_above (lies_below (rows_of lists)) c d ≡ is_strictly_above (is_listed lists) c d
told_strictly lists s c d = ap₂ (λ a b. a && not b) (told lists s.within c d) (told lists s.within d c)

-- the rows say what the lists say
pub told_as : (lists : List (List ℕ)) (rows : List (List Bool)) → AreSets lists → rows_of lists ≡ rows → lies_below rows ≡ is_listed lists
told_as lists rows s e = ap lies_below (sym e) ∙ fun_ext (λ c. fun_ext (λ d. told lists s.within c d))
