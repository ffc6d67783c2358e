-- What is left of a derivation for a goal is a derivation that ends in the goal, and every other line in it serves a later one.
use Rattle.std.proofs.Common.{◌≡◌, ℕ, unwrap_or, zero, suc, ◌+◌, ◌<◌, ◌≤◌, ◌⊎◌, inl, inr, List, [], ◌∷◌, ◌++◌, map, length, slice_get, take, Option, Some, None, Contains, Bool, true, false, ◌==◌, ◌||◌, if◌then◌else◌, refl, sym, ap, ◌∙◌, subst, arith, eqb-true, eq-eqb}
use Rattle.std.proofs.lemmas.Option.{slice_get_within, same_Some, none-some}
use Rattle.std.proofs.lemmas.Bool.{eqb-false, cases_order, cases_lt, false≢true}
use Rattle.std.proofs.lemmas.List.{take_all, length-map}
use Rattle.std.proofs.lemmas.List.Elements.{Contains-append_left, Contains-append_right, Contains-append_cases, Contains-push, Contains-push_cases}
use Rattle.std.specs.List.{list_any}
use Rattle.axioms.specs.Ontology.{Ontology}
use Rattle.lemmas.proofs.Choices.{one_value}
use Rattle.lemmas.proofs.Mapped.{slice_get_map, slice_get_map_from, Contains-map}
use Rattle.lemmas.proofs.Members.{Contains-from_slice_get, slice_get-from_Contains, Contains-first, Contains-one}
use Rattle.lemmas.proofs.Places.{slice_get_there, slice_get_push_cases, take_push, slice_get_take, take_slice_get}
use Rattle.certificate.specs.Certificate.{Conclusion}
use Rattle.certificate.specs.Certificate.{Line}
use Rattle.cert_check.specs.Derivation.{IsDerived, IsDerivation, at_numbers}
use Rattle.exactness.specs.Trimming.{EndsWith}
use Rattle.certificate.specs.Writability.{Ascends}
use Rattle.axioms.specs.View.{at_number}
use Rattle.exactness.specs.Trimming.{RestsOn, itself, premise, place, renumbered_line, IsTrimmed, EachServes, premises_of, wanted_below, trimmed_numbers, trimmed}
use Rattle.exactness.proofs.Derivable.{prepended_list_parts, at_conclusion, conclusion_at, conclusions}

-- ---- ascending numbers

above_head : (x : ℕ) (xs : List ℕ) → Ascends (x ∷ xs) → (j n : ℕ) → slice_get xs j ≡ Some n → x < n
above_head x [] a j n e = absurd (none-some n e)
above_head x (y ∷ ys) a zero n e = let k : y ≡ n = same_Some y n e in omega (arith, a.0)
above_head x (y ∷ ys) a (suc j) n e = let k : y < n = above_head y ys a.1 j n e in omega (arith, a.0)

Ascends-tail : (x : ℕ) (xs : List ℕ) → Ascends (x ∷ xs) → Ascends xs
Ascends-tail x [] a = tt
Ascends-tail x (y ∷ ys) a = a.1

Ascends-get : (ns : List ℕ) → Ascends ns → (i j m n : ℕ) → slice_get ns i ≡ Some m → slice_get ns j ≡ Some n → i < j → m < n
Ascends-get [] a i j m n e f l = absurd (none-some m e)
Ascends-get (x ∷ xs) a i zero m n e f l = absurd (omega arith)
Ascends-get (x ∷ xs) a zero (suc j) m n e f l = let k : x ≡ m = same_Some x m e in let g : x < n = above_head x xs a j n f in omega arith
Ascends-get (x ∷ xs) a (suc i) (suc j) m n e f l = Ascends-get xs (Ascends-tail x xs a) i j m n e f (omega arith)

-- a smaller number stands earlier
earlier : (ns : List ℕ) → Ascends ns → (i j m n : ℕ) → slice_get ns i ≡ Some m → slice_get ns j ≡ Some n → m < n → i < j
earlier ns a i j m n e f l =
    elim (cases_order i j) [
      | inl k ↦ (let g : m ≡ n = same_Some m n (sym e ∙ ap (slice_get ns) k ∙ f) in absurd (omega arith))
      | inr (inl k) ↦ k
      | inr (inr k) ↦ (let g : n < m = Ascends-get ns a j i n m f e k in absurd (omega arith))
    ]

same_place : (ns : List ℕ) → Ascends ns → (i j m : ℕ) → slice_get ns i ≡ Some m → slice_get ns j ≡ Some m → i ≡ j
same_place ns a i j m e f =
    elim (cases_order i j) [
      | inl k ↦ k
      | inr (inl k) ↦ (let g : m < m = Ascends-get ns a i j m m e f k in absurd (omega arith))
      | inr (inr k) ↦ (let g : m < m = Ascends-get ns a j i m m f e k in absurd (omega arith))
    ]

pub Ascends-push : (ns : List ℕ) (n : ℕ) → Ascends ns → ((i m : ℕ) → slice_get ns i ≡ Some m → m < n) → Ascends (ns ++ n ∷ [])
Ascends-push [] n a h = tt
Ascends-push (x ∷ []) n a h = (h 0 x refl, tt)
Ascends-push (x ∷ y ∷ ys) n a h = (a.0, Ascends-push (y ∷ ys) n a.1 (λ i. h (suc i)))

-- ---- what stands at numbers

place_at : (ns : List ℕ) (k m : ℕ) → slice_get ns k ≡ Some m → (q : ℕ) × (slice_get ns q ≡ Some m) × (place ns m ≡ suc q)
place_at [] k m e = absurd (none-some m e)
place_at (n ∷ ns) k m e = go (λ k e. place_at ns k m e) (n == m) refl k e
  where
    go : ((k : ℕ) → slice_get ns k ≡ Some m → (q : ℕ) × (slice_get ns q ≡ Some m) × (place ns m ≡ suc q)) → (b : Bool) → (n == m) ≡ b → (k : ℕ) → slice_get (n ∷ ns) k ≡ Some m → (q : ℕ) × (slice_get (n ∷ ns) q ≡ Some m) × (place (n ∷ ns) m ≡ suc q)
    go rest true p k e = (0, ap Some (eqb-true n m p), rw p)
    go rest false p zero e = absurd (eqb-false n m p (same_Some n m e))
    go rest false p (suc k) e = let q = rest k e in (suc q.0, q.1, rw p (ap suc q.2))

at_numbers_parts : {A : Type 0} (xs : List A) (ns : List ℕ) (ys : List A) → at_numbers xs ns ≡ Some ys → (k n : ℕ) → slice_get ns k ≡ Some n → (y : A) × (at_number xs n ≡ Some y) × (slice_get ys k ≡ Some y)
at_numbers_parts xs [] ys e k n h = absurd (none-some n h)
at_numbers_parts {A} xs (m ∷ ns) ys e zero n h =
    let p = prepended_list_parts (at_number xs m) (at_numbers xs ns) ys e in
    (p.0, ap (at_number xs) (sym (same_Some m n h)) ∙ p.2, ap (λ (zs : List A). slice_get zs 0) (sym p.4))
at_numbers_parts {A} xs (m ∷ ns) ys e (suc k) n h =
    let p = prepended_list_parts (at_number xs m) (at_numbers xs ns) ys e in
    let q = at_numbers_parts xs ns p.1 p.3 k n h in
    (q.0, q.1, ap (λ (zs : List A). slice_get zs (suc k)) (sym p.4) ∙ q.2)

at_numbers_length : {A : Type 0} (xs : List A) (ns : List ℕ) (ys : List A) → at_numbers xs ns ≡ Some ys → length ys ≡ length ns
at_numbers_length {A} xs [] ys e = ap length (sym (same_Some [] ys e))
at_numbers_length {A} xs (m ∷ ns) ys e =
    let p = prepended_list_parts (at_number xs m) (at_numbers xs ns) ys e in
    ap length (sym p.4) ∙ ap suc (at_numbers_length xs ns p.1 p.3)

-- other numbers in another list, at which the same stands
at_numbers_map : {A : Type 0} (f : ℕ → ℕ) (xs zs : List A) (ns : List ℕ) (ys : List A) → ((k n : ℕ) (y : A) → slice_get ns k ≡ Some n → at_number xs n ≡ Some y → at_number zs (f n) ≡ Some y) → at_numbers xs ns ≡ Some ys → at_numbers zs (map f ns) ≡ Some ys
at_numbers_map f xs zs [] ys h e = e
at_numbers_map f xs zs (n ∷ ns) ys h e =
    let p = prepended_list_parts (at_number xs n) (at_numbers xs ns) ys e in
    rw (h 0 n p.0 refl p.2, at_numbers_map f xs zs ns p.1 (λ k. h (suc k)) p.3) (ap Some p.4)

-- ---- premises stand before

number_taken : (lines : List Line) (k m : ℕ) (c : Conclusion) → at_number (conclusions (take k lines)) m ≡ Some c → (l : Line) × (0 < m) × (m ≤ k) × (at_number lines m ≡ Some l) × (l.conclusion ≡ c)
number_taken lines k zero c e = absurd (none-some c e)
number_taken lines k (suc m) c e =
    let a = at_conclusion (take k lines) m c e in
    let b = slice_get_take k lines m a.0 a.1 in
    (a.0, omega arith, b.0, b.1, a.2)

-- a premise of a line of a derivation is a line before it
pub premise_before : {o : Ontology} (lines : List Line) → IsDerivation o lines → (n m : ℕ) (line : Line) → at_number lines n ≡ Some line → Contains line.premises m → (l : Line) × (0 < m) × (m < n) × (at_number lines m ≡ Some l)
premise_before lines d zero m line e c = absurd (none-some line e)
premise_before lines d (suc n) m line e c =
    let h = d n line e in
    let p = slice_get-from_Contains line.premises m c in
    let a = at_numbers_parts (conclusions (take n lines)) line.premises h.premises h.premises_at p.0 m p.1 in
    let b = number_taken lines n m a.0 a.1 in
    (b.0, b.1, omega (arith, b.2), b.3)

rests_within : {o : Ontology} (lines : List Line) (goal : ℕ) (g : Line) → IsDerivation o lines → at_number lines goal ≡ Some g → {n : ℕ} → RestsOn lines goal n → (l : Line) × (n ≤ goal) × (at_number lines n ≡ Some l)
rests_within lines goal g d e itself = (g, omega arith, e)
rests_within lines goal g d e (premise {m = m} n line r at c) =
    let h = rests_within lines goal g d e r in
    let p = premise_before lines d n m line at c in
    (p.0, omega (arith, h.1, p.2), p.3)

-- ---- what is left of a derivation

module _ (o : Ontology) (lines : List Line) (goal : ℕ) (g : Line) (d : IsDerivation o lines) (goal_at : at_number lines goal ≡ Some g) (left : List Line) (t : IsTrimmed lines goal left) where
  -- a number that the goal rests on, with its place among the numbers and its line
  row : (n : ℕ) → RestsOn lines goal n → (q : ℕ) × (l : Line) × (slice_get t.numbers q ≡ Some n) × (place t.numbers n ≡ suc q) × (at_number lines n ≡ Some l) × (slice_get left q ≡ Some (renumbered_line t.numbers l))
  row n r =
      let c = slice_get-from_Contains t.numbers n ((t.exact n).1 r) in
      let p = place_at t.numbers c.0 n c.1 in
      let l = at_numbers_parts lines t.numbers t.kept t.kept_at p.0 n p.1 in
      (p.0, l.0, p.1, p.2, l.1, ap (λ (ls : List Line). slice_get ls p.0) t.trimmed_is ∙ slice_get_map (renumbered_line t.numbers) t.kept p.0 l.0 l.2)

  length_left : length left ≡ length t.numbers
  length_left = ap length t.trimmed_is ∙ (length-map t.kept (renumbered_line t.numbers) ∙ at_numbers_length lines t.numbers t.kept t.kept_at)

  -- and what stands at a place
  at_place : (q : ℕ) (line : Line) → slice_get left q ≡ Some line → (n : ℕ) × (l : Line) × RestsOn lines goal n × (slice_get t.numbers q ≡ Some n) × (at_number lines n ≡ Some l) × (renumbered_line t.numbers l ≡ line)
  at_place q line e =
      let a = slice_get_map_from (renumbered_line t.numbers) t.kept q line (ap (λ (ls : List Line). slice_get ls q) (sym t.trimmed_is) ∙ e) in
      let k : length t.kept ≡ length t.numbers = at_numbers_length lines t.numbers t.kept t.kept_at in
      let n = slice_get_there t.numbers q (omega (arith, slice_get_within t.kept q a.0 a.1)) in
      let b = at_numbers_parts lines t.numbers t.kept t.kept_at q n.0 n.1 in
      let same : b.0 ≡ a.0 = one_value (slice_get t.kept q) b.0 a.0 b.2 a.1 in
      (n.0, a.0, (t.exact n.0).0 (Contains-from_slice_get t.numbers q n.0 n.1), n.1, b.1 ∙ ap Some same, a.2)

  premises_left : (n q : ℕ) (l : Line) (cs : List Conclusion) → RestsOn lines goal (suc n) → slice_get t.numbers q ≡ Some (suc n) → slice_get lines n ≡ Some l → at_numbers (conclusions (take n lines)) l.premises ≡ Some cs → at_numbers (conclusions (take q left)) (map (place t.numbers) l.premises) ≡ Some cs
  premises_left n q l cs r at_q at_n e =
      at_numbers_map (place t.numbers) (conclusions (take n lines)) (conclusions (take q left)) l.premises cs
      (λ k m c at_k at_m. (
      let a = number_taken lines n m c at_m in
      let w = row m (premise (suc n) l r at_n (Contains-from_slice_get l.premises k m at_k)) in
      let before : w.0 < q = earlier t.numbers t.ascend w.0 q m (suc n) w.2 at_q (omega (arith, a.2)) in
      let same : a.0 ≡ w.1 = one_value (at_number lines m) a.0 w.1 a.3 w.4 in
      let there = take_slice_get q left w.0 (renumbered_line t.numbers w.1) before w.5 in
      rw (w.3) (conclusion_at (take q left) w.0 (renumbered_line t.numbers w.1) there ∙ ap (λ (x : Line). Some x.conclusion) (sym same) ∙ ap Some a.4)))
      e

  derived_left : (q n : ℕ) (line l : Line) → RestsOn lines goal n → slice_get t.numbers q ≡ Some n → at_number lines n ≡ Some l → renumbered_line t.numbers l ≡ line → IsDerived o (take q left) line
  derived_left q zero line l r at_q at_n same = absurd (none-some l at_n)
  derived_left q (suc n) line l r at_q at_n same =
      let h = d n l at_n in
      let new : IsDerived o (take q left) (renumbered_line t.numbers l) = record {
        within = record { conclusion = h.within.conclusion; axiom' = h.within.axiom' };
        premises = h.premises;
        premises_at = premises_left n q l h.premises r at_q at_n h.premises_at;
        follows = h.follows;
      } in
      subst (IsDerived o (take q left)) same new

  pub trimmed_derivation : IsDerivation o left
  trimmed_derivation q line e =
      let a = at_place q line e in
      derived_left q a.0 line a.1 a.2 a.3 a.4 a.5

  -- no number that is kept stands behind the goal's
  last_place : (q : ℕ) → slice_get t.numbers q ≡ Some goal → suc q ≡ length left
  last_place q e =
      elim (cases_order (suc q) (length left)) [
        | inl k ↦ k
        | inr (inl k) ↦ (
            let p = slice_get_there t.numbers (suc q) (omega (arith, length_left)) in
            let above : goal < p.0 = Ascends-get t.numbers t.ascend q (suc q) goal p.0 e p.1 (omega arith) in
            let w = rests_within lines goal g d goal_at ((t.exact p.0).0 (Contains-from_slice_get t.numbers (suc q) p.0 p.1)) in
            absurd (omega (arith, w.1)))
        | inr (inr k) ↦ (
            let w = slice_get_within t.numbers q goal e in
            absurd (omega (arith, length_left)))
      ]

  pub trimmed_ends : EndsWith left g.conclusion
  trimmed_ends =
      let w = row goal itself in
      let last = last_place w.0 w.2 in
      record {
        front = take w.0 left;
        last = renumbered_line t.numbers w.1;
        lines_are = sym (take_all (w.0 + 1) left (omega arith)) ∙ take_push left w.0 (renumbered_line t.numbers w.1) w.5;
        says = ap (λ (l : Line). l.conclusion) (one_value (at_number lines goal) w.1 g w.4 goal_at);
      }

  rests_cases : {m : ℕ} → RestsOn lines goal m → (m ≡ goal) ⊎ ((n : ℕ) × (line : Line) × RestsOn lines goal n × (at_number lines n ≡ Some line) × Contains line.premises m)
  rests_cases itself = inl refl
  rests_cases (premise n line r at c) = inr (n, line, r, at, c)

  pub trimmed_serves : EachServes left
  trimmed_serves q l =
      let p = slice_get_there t.numbers q (omega (arith, length_left)) in
      let r : RestsOn lines goal p.0 = (t.exact p.0).0 (Contains-from_slice_get t.numbers q p.0 p.1) in
      elim (rests_cases r) [
        | inl k ↦ (let e = last_place q (p.1 ∙ ap Some k) in absurd (omega arith))
        | inr k ↦ (
            let w = row k.0 k.2 in
            let v = row p.0 r in
            let b = premise_before lines d k.0 p.0 k.1 k.3 k.4 in
            let here : v.0 ≡ q = same_place t.numbers t.ascend v.0 q p.0 v.2 p.1 in
            let before : q < w.0 = earlier t.numbers t.ascend q w.0 p.0 k.0 p.1 w.2 b.2 in
            let line : w.1 ≡ k.1 = one_value (at_number lines k.0) w.1 k.1 w.4 k.3 in
            let c : Contains w.1.premises p.0 = subst (λ (x : Line). Contains x.premises p.0) (sym line) k.4 in
            let m : Contains (map (place t.numbers) w.1.premises) (place t.numbers p.0) = Contains-map (place t.numbers) w.1.premises p.0 c in
            (w.0, renumbered_line t.numbers w.1, before, w.5, subst (Contains (map (place t.numbers) w.1.premises)) (v.3 ∙ ap suc here) m))
      ]

-- ---- the function gives it

any_contains : (wanted : List ℕ) (n : ℕ) → list_any (λ m. m == n) wanted ≡ true → Contains wanted n
any_contains [] n e = absurd (false≢true e)
any_contains (x ∷ xs) n e = go (x == n) (eqb-true x n) (λ e. any_contains xs n e) e
  where
    go : (b : Bool) → (b ≡ true → x ≡ n) → (list_any (λ m. m == n) xs ≡ true → Contains xs n) → (b || list_any (λ m. m == n) xs) ≡ true → Contains (x ∷ xs) n
    go true h rest e = subst (Contains (x ∷ xs)) (h refl) (Contains-first x xs)
    go false h rest e = Contains-append_right (x ∷ []) xs n (rest e)

or_right : (a b : Bool) → b ≡ true → (a || b) ≡ true
or_right true b e = refl
or_right false b e = e

positive : {A : Type 0} (xs : List A) (n : ℕ) (x : A) → at_number xs n ≡ Some x → 0 < n
positive xs zero x e = absurd (none-some x e)
positive xs (suc n) x e = omega arith

contains_any : (wanted : List ℕ) (n : ℕ) → Contains wanted n → list_any (λ m. m == n) wanted ≡ true
contains_any [] n c = absurd (omega (arith, c.1))
contains_any (x ∷ xs) n c =
    elim (Contains-append_cases (x ∷ []) xs n c) [
      | inl h ↦ rw (eq-eqb x n (Contains-one x n h)) refl
      | inr h ↦ or_right (x == n) (list_any (λ m. m == n) xs) (contains_any xs n h)
    ]

-- what holds in both cases of a step holds of it
at_step : (lines : List Line) (P : List ℕ → Type 0) (wanted : List ℕ) (n : ℕ) → (Contains wanted (suc n) → P (wanted_below lines (premises_of (at_number lines (suc n)) ++ wanted) n ++ suc n ∷ [])) → ((Contains wanted (suc n) → ⊥) → P (wanted_below lines wanted n)) → P (wanted_below lines wanted (suc n))
at_step lines P wanted n f h = go (list_any (λ m. m == suc n) wanted) (any_contains wanted (suc n)) (contains_any wanted (suc n))
  where
    go : (b : Bool) → (b ≡ true → Contains wanted (suc n)) → (Contains wanted (suc n) → b ≡ true) → P (if b then wanted_below lines (premises_of (at_number lines (suc n)) ++ wanted) n ++ suc n ∷ [] else wanted_below lines wanted n)
    go true p q = f (p refl)
    go false p q = h (λ c. false≢true (q c))

premises_of_at : (o : Option Line) (m : ℕ) → Contains (premises_of o) m → (line : Line) × (o ≡ Some line) × Contains line.premises m
premises_of_at None m c = absurd (omega (arith, c.1))
premises_of_at (Some line) m c = (line, refl, c)

module _ (lines : List Line) where
  bounded : (wanted : List ℕ) (n i m : ℕ) → slice_get (wanted_below lines wanted n) i ≡ Some m → (0 < m) × (m ≤ n)
  bounded wanted zero i m = λ e. absurd (none-some m e)
  bounded wanted (suc n) i m =
      at_step lines (λ ns. slice_get ns i ≡ Some m → (0 < m) × (m ≤ suc n)) wanted n
      (λ c e. elim (slice_get_push_cases (wanted_below lines (premises_of (at_number lines (suc n)) ++ wanted) n) (suc n) i m e) [
        | inl k ↦ (let h = bounded (premises_of (at_number lines (suc n)) ++ wanted) n i m k in (h.0, omega (arith, h.1)))
        | inr k ↦ (omega (arith, k.1), omega (arith, k.1))
      ])
      (λ c e. (let h = bounded wanted n i m e in (h.0, omega (arith, h.1))))

  ascending : (wanted : List ℕ) (n : ℕ) → Ascends (wanted_below lines wanted n)
  ascending wanted zero = tt
  ascending wanted (suc n) =
      at_step lines Ascends wanted n
      (λ c. (let w = premises_of (at_number lines (suc n)) ++ wanted in Ascends-push (wanted_below lines w n) (suc n) (ascending w n) (λ i m e. (let h = bounded w n i m e in omega (arith, h.1)))))
      (λ c. ascending wanted n)

  sound : (goal : ℕ) (wanted : List ℕ) (n : ℕ) → ((m : ℕ) → Contains wanted m → RestsOn lines goal m) → (m : ℕ) → Contains (wanted_below lines wanted n) m → RestsOn lines goal m
  sound goal wanted zero h m = λ c. absurd (omega (arith, c.1))
  sound goal wanted (suc n) h m =
      at_step lines (λ ns. Contains ns m → RestsOn lines goal m) wanted n
      (λ here c. (
      let w = premises_of (at_number lines (suc n)) ++ wanted in
      let h' : (k : ℕ) → Contains w k → RestsOn lines goal k = λ k d. elim (Contains-append_cases (premises_of (at_number lines (suc n))) wanted k d) [
        | inl p ↦ (let a = premises_of_at (at_number lines (suc n)) k p in premise (suc n) a.0 (h (suc n) here) a.1 a.2)
        | inr p ↦ h k p
      ] in
      elim (Contains-push_cases (wanted_below lines w n) (suc n) m c) [
        | inl k ↦ sound goal w n h' m k
        | inr k ↦ subst (RestsOn lines goal) k (h (suc n) here)
      ]))
      (λ here c. sound goal wanted n h m c)

  has_wanted : (wanted : List ℕ) (n m : ℕ) → Contains wanted m → 0 < m → m ≤ n → Contains (wanted_below lines wanted n) m
  has_wanted wanted zero m c p l = absurd (omega arith)
  has_wanted wanted (suc n) m c p l =
      at_step lines (λ ns. Contains ns m) wanted n
      (λ here. (
      let w = premises_of (at_number lines (suc n)) ++ wanted in
      elim (cases_lt m (suc n)) [
        | inl k ↦ Contains-append_left (wanted_below lines w n) (suc n ∷ []) m (has_wanted w n m (Contains-append_right (premises_of (at_number lines (suc n))) wanted m c) p (omega arith))
        | inr k ↦ (let e : suc n ≡ m = omega arith in subst (Contains (wanted_below lines w n ++ suc n ∷ [])) e (Contains-push (wanted_below lines w n) (suc n)))
      ]))
      (λ here. elim (cases_lt m (suc n)) [
        | inl k ↦ has_wanted wanted n m c p (omega arith)
        | inr k ↦ (let e : m ≡ suc n = omega arith in absurd (here (subst (Contains wanted) e c)))
      ])

  closed : (wanted : List ℕ) (n k m : ℕ) (line : Line) → at_number lines k ≡ Some line → Contains line.premises m → 0 < m → m < k → Contains (wanted_below lines wanted n) k → Contains (wanted_below lines wanted n) m
  closed wanted zero k m line at p l b = λ c. absurd (omega (arith, c.1))
  closed wanted (suc n) k m line at p l b =
      at_step lines (λ ns. Contains ns k → Contains ns m) wanted n
      (λ here c. (
      let w = premises_of (at_number lines (suc n)) ++ wanted in
      elim (Contains-push_cases (wanted_below lines w n) (suc n) k c) [
        | inl f ↦ Contains-append_left (wanted_below lines w n) (suc n ∷ []) m (closed w n k m line at p l b f)
        | inr f ↦ (
            let at' : at_number lines (suc n) ≡ Some line = ap (at_number lines) f ∙ at in
            let p' : Contains (premises_of (at_number lines (suc n))) m = subst (λ (x : Option Line). Contains (premises_of x) m) (sym at') p in
            Contains-append_left (wanted_below lines w n) (suc n ∷ []) m (has_wanted w n m (Contains-append_left (premises_of (at_number lines (suc n))) wanted m p') l (omega arith)))
      ]))
      (λ here c. closed wanted n k m line at p l b c)

at_numbers_there : {A : Type 0} (xs : List A) (ns : List ℕ) → ((k n : ℕ) → slice_get ns k ≡ Some n → (y : A) × (at_number xs n ≡ Some y)) → (ys : List A) × (at_numbers xs ns ≡ Some ys)
at_numbers_there xs [] h = ([], refl)
at_numbers_there xs (n ∷ ns) h =
    let a = h 0 n refl in
    let b = at_numbers_there xs ns (λ k. h (suc k)) in
    (a.0 ∷ b.0, rw (a.1, b.1))

kept_from_rests : {o : Ontology} (lines : List Line) (goal : ℕ) (g : Line) → IsDerivation o lines → at_number lines goal ≡ Some g → {m : ℕ} → RestsOn lines goal m → Contains (trimmed_numbers lines goal) m
kept_from_rests lines goal g d e itself = has_wanted lines (goal ∷ []) goal goal (Contains-first goal []) (positive lines goal g e) (omega arith)
kept_from_rests lines goal g d e (premise {m = m} n line r at c) =
    let p = premise_before lines d n m line at c in
    closed lines (goal ∷ []) goal n m line at c p.1 p.2 (kept_from_rests lines goal g d e r)

rests_from_kept : (lines : List Line) (goal m : ℕ) → Contains (trimmed_numbers lines goal) m → RestsOn lines goal m
rests_from_kept lines goal m c = sound lines goal (goal ∷ []) goal (λ k d. subst (RestsOn lines goal) (Contains-one goal k d) itself) m c

pub trimmed_is_trimmed : {o : Ontology} (lines : List Line) (goal : ℕ) (g : Line) → IsDerivation o lines → at_number lines goal ≡ Some g → IsTrimmed lines goal (trimmed lines goal)
trimmed_is_trimmed lines goal g d e =
    let numbers = trimmed_numbers lines goal in
    let there : (k n : ℕ) → slice_get numbers k ≡ Some n → (y : Line) × (at_number lines n ≡ Some y) =
    λ k n at. (let w = rests_within lines goal g d e (rests_from_kept lines goal n (Contains-from_slice_get numbers k n at)) in (w.0, w.2)) in
    let kept = at_numbers_there lines numbers there in
    record {
      numbers = numbers;
      ascend = ascending lines (goal ∷ []) goal;
      exact = λ n. (rests_from_kept lines goal n, λ r. kept_from_rests lines goal g d e r);
      kept = kept.0;
      kept_at = kept.1;
      trimmed_is = ap (λ (x : Option (List Line)). map (renumbered_line numbers) (unwrap_or x [])) kept.1;
    }

-- ---- what is left, in one

pub trimmed_all : (o : Ontology) (lines : List Line) (goal : ℕ) (line : Line) → IsDerivation o lines → at_number lines goal ≡ Some line → (left : List Line) → IsTrimmed lines goal left → IsDerivation o left × EndsWith left line.conclusion × EachServes left
trimmed_all o lines goal line d e left t =
    (trimmed_derivation o lines goal line d e left t, trimmed_ends o lines goal line d e left t, trimmed_serves o lines goal line d e left t)
