-- Individuals of a list that are one, by the last places of their groups.
use Rattle.std.proofs.Common.{◌≡◌, ℕ, ◌+◌, ◌<◌, ◌≤◌, ⊎_elim, List, [], ◌∷◌, ◌++◌, length, take, get_or, slice_get, Some, Contains, sym, ap, ◌∙◌, subst, arith, false, length-append}
use Rattle.std.proofs.lemmas.Bool.Decides.{nat_tests}
use Rattle.std.specs.BTreeMap.{BTreeMap, Updates, get, is_at}
use Rattle.std.specs.Map.{lookup}
use Rattle.std.specs.Ordering.{is_eq, nat_cmp}
use Rattle.std.proofs.lemmas.Bool.{cases_eq}
use Rattle.std.proofs.lemmas.List.{length-take-le}
use Rattle.std.proofs.lemmas.Option.{none-some, slice_get-get_or, slice_get_within}
use Rattle.axioms.specs.declared.ids.IndId.{IndId}
use Rattle.normal_forms.specs.declared.forms.Form.{Form}
use Rattle.facts.specs.declared.contexts.Context.TheVariants.{Individual}
use Rattle.facts.specs.declared.contexts.Fact.{Fact}
use Rattle.facts.specs.declared.contexts.Fact.TheVariants.{In}
use Rattle.facts.specs.Closure.{Problem, AreSame, Gives, nothing}
use Rattle.facts.proofs.Sameness.{and_then, turned}
use Rattle.inference.specs.Derivations.{Derived, Grows}
use Rattle.inference.specs.Differences.{AreDrawnIn, AreLastPlaces, HasSameLater, IsDrawnAt, IsLeastOf}
use Rattle.inference.specs.Sameness.{AreDifferencesDrawn, IsDifferenceDrawn}
use Rattle.inference.proofs.Growth.{there_still}
use Rattle.inference.proofs.Lists.{one_value, slice_get_push, slice_get_push_cases, keeps_push, take_push}

-- numbers that differ do not compare as equal
differ : (x y : ℕ) → (y ≡ x → ⊥) → is_eq (nat_cmp x y) ≡ false
differ x y other = grind (arith, nat_tests)

-- two that are least of one group have one number
one_least : (forms : List Form) (a l m : IndId) → IsLeastOf forms a l → IsLeastOf forms a m → l.0 ≡ m.0
one_least forms a l m p q = let x = p.low m q.same in let y = q.low l p.same in omega (arith, x, y)

-- the least of one is the least of all that are one with it
pub least_of_same : (forms : List Form) (a b l : IndId) → AreSame forms a b → IsLeastOf forms a l → IsLeastOf forms b l
least_of_same forms a b l same p = record {
  same = and_then (turned same) p.same;
  low = λ c one. p.low c (and_then same one);
}

-- no place in no list
pub no_last_places : (forms : List Form) (last : BTreeMap ℕ ℕ) → last.entries ≡ [] → AreLastPlaces forms [] last
no_last_places forms last none = record {
  each = λ n a l at _. absurd (omega (arith, slice_get_within [] n a at));
  only = λ key m at. absurd (none-some m (ap (lookup (is_at (nat_cmp key))) (sym none) ∙ at));
}

-- the least of the group of the next individual is kept with the place of that
pub last_more : (forms : List Form) (xs : List IndId) (x l : IndId) (old new : BTreeMap ℕ ℕ) → IsLeastOf forms x l → Updates nat_cmp old new l.0 (Some (length xs)) → AreLastPlaces forms xs old → AreLastPlaces forms (xs ++ x ∷ []) new
last_more forms xs x l old new least is last = record {
  each = λ n a m at p. ⊎_elim
      (λ (here : m.0 ≡ l.0). (length xs, subst (λ (k : ℕ). get nat_cmp new k ≡ Some (length xs)) (sym here) is.1, short n a at))
      (λ (other : m.0 ≡ l.0 → ⊥). ⊎_elim
      (λ before. (let w = last.each n a m before p in (w.0, is.2 m.0 (differ l.0 m.0 other) ∙ w.1, w.2)))
      (λ w. absurd (other (one_least forms x m l (subst (λ (b : IndId). IsLeastOf forms b m) (sym w.1) p) least)))
      (slice_get_push_cases xs x n a at))
      (cases_eq m.0 l.0);
  only = λ key m at. ⊎_elim
      (λ (here : key ≡ l.0).
      let place : length xs ≡ m = one_value (get nat_cmp new key) (length xs) m (subst (λ (k : ℕ). get nat_cmp new k ≡ Some (length xs)) (sym here) is.1) at in
      (x, subst (λ (i : ℕ). slice_get (xs ++ x ∷ []) i ≡ Some x) place (slice_get_push xs x), subst (λ (k : ℕ). AreSame forms x (record { 0 = k })) (sym here) least.same))
      (λ (other : key ≡ l.0 → ⊥).
      let w = last.only key m (sym (is.2 key (differ l.0 key other)) ∙ at) in
      (w.0, keeps_push xs x m w.0 w.1, w.2))
      (cases_eq key l.0);
}
  where
    short : (n : ℕ) (a : IndId) → slice_get (xs ++ x ∷ []) n ≡ Some a → n ≤ length xs
    short n a at = omega (arith, slice_get_within (xs ++ x ∷ []) n a at, length-append xs (x ∷ []))

pub last_next : (forms : List Form) (list : List IndId) (i : ℕ) (d l : IndId) (old new : BTreeMap ℕ ℕ) → i < length list → IsLeastOf forms (get_or list i d) l → Updates nat_cmp old new l.0 (Some i) → AreLastPlaces forms (take i list) old → AreLastPlaces forms (take (i + 1) list) new
last_next forms list i d l old new low least is last =
    let long : i ≡ length (take i list) = sym (length-take-le i list (omega (arith, low))) in
    rw (take_push list i (get_or list i d) (slice_get-get_or list i d low))
    (last_more forms (take i list) (get_or list i d) l old new least (subst (λ (n : ℕ). Updates nat_cmp old new l.0 (Some n)) long is) last)

-- where the last place of its group is behind a place, one that is the same is at a later place
pub later_same : (forms : List Form) (list : List IndId) (last : BTreeMap ℕ ℕ) (place m : ℕ) (d l : IndId) → AreLastPlaces forms list last → place < length list → AreSame forms (get_or list place d) l → get nat_cmp last l.0 ≡ Some m → place < m → HasSameLater forms list place
later_same forms list last place m d l places low same at below =
    let w = places.only l.0 m at in
    record {
      later = m;
      first = get_or list place d;
      second = w.0;
      below = below;
      here = slice_get-get_or list place d low;
      there = w.1;
      same = and_then same (turned w.2);
    }

-- and where it is not, none is
pub none_later : (forms : List Form) (list : List IndId) (last : BTreeMap ℕ ℕ) (place : ℕ) (d l : IndId) → AreLastPlaces forms list last → place < length list → IsLeastOf forms (get_or list place d) l
    → ((m : ℕ) → get nat_cmp last l.0 ≡ Some m → m ≤ place) → HasSameLater forms list place → ⊥
none_later forms list last place d l places low least past w =
    let same : get_or list place d ≡ w.first = one_value (slice_get list place) (get_or list place d) w.first (slice_get-get_or list place d low) w.here in
    let of_first : IsLeastOf forms w.first l = subst (λ (a : IndId). IsLeastOf forms a l) same least in
    let v = places.each w.later w.second l w.there (least_of_same forms w.first w.second l w.same of_first) in
    let below = past v.0 v.1 in
    let later = w.below in
    omega (arith, v.2, below, later)

-- what a list of that number gives where one is the same at a later place
pub gives_difference : (k : Problem) (l : ℕ) (list : List IndId) (place : ℕ) (d : IndId) → slice_get k.apart.individuals l ≡ Some list → place < length list → HasSameLater k.forms list place → Gives k 12 (Some l) [] (In nothing (Individual (get_or list place d)))
gives_difference k l list place d at low w =
    let same : w.first ≡ get_or list place d = one_value (slice_get list place) w.first (get_or list place d) w.here (slice_get-get_or list place d low) in
    subst (λ (a : IndId). Gives k 12 (Some l) [] (In nothing (Individual a))) same
    (Gives.different l w.first w.second (list, at, (place, w.later, w.below, w.here, w.there)) w.same)

pub drawn_here : (forms : List Form) (list : List IndId) (facts : List Fact) (place : ℕ) (d : IndId) → place < length list → Contains facts (In nothing (Individual (get_or list place d))) → IsDrawnAt forms list facts place
drawn_here forms list facts place d low there _ a at =
    subst (λ (b : IndId). Contains facts (In nothing (Individual b))) (one_value (slice_get list place) (get_or list place d) a (slice_get-get_or list place d low) at) there

-- no two individuals before the place are one, and each is one with an individual below the number
pub record Ascend (forms : List Form) (list : List IndId) (i end : ℕ) : Type 0 where
  pub apart : (m n : ℕ) (a b : IndId) → m < n → n < i → slice_get list m ≡ Some a → slice_get list n ≡ Some b → AreSame forms a b → ⊥
  pub below : (m : ℕ) (a : IndId) → m < i → slice_get list m ≡ Some a → (l : IndId) × AreSame forms a l × l.0 < end

pub none_ascend : (forms : List Form) (list : List IndId) → Ascend forms list 0 0
none_ascend forms list = record {
  apart = λ m n a b _ low _ _ _. omega (arith, low);
  below = λ m a low _. absurd (omega (arith, low));
}

pub ascend_next : (forms : List Form) (list : List IndId) (i end : ℕ) (d l : IndId) → i < length list → IsLeastOf forms (get_or list i d) l → end ≤ l.0 → Ascend forms list i end → Ascend forms list (i + 1) (l.0 + 1)
ascend_next forms list i end d l within least past before = record {
  apart = λ m n a b low high at there same. ⊎_elim
      (λ (here : n ≡ i).
      let w = before.below m a (omega (arith, low, here)) at in
      let one : AreSame forms (get_or list i d) w.0 = and_then (turned (subst (AreSame forms a) (is_next n b here there) same)) w.1 in
      let lowest = least.low w.0 one in
      let under = w.2 in
      omega (arith, lowest, under, past))
      (λ (other : n ≡ i → ⊥). before.apart m n a b low (omega (arith, high, other)) at there same)
      (cases_eq n i);
  below = λ m a low at. ⊎_elim
      (λ (here : m ≡ i). (l, subst (λ (c : IndId). AreSame forms c l) (sym (is_next m a here at)) least.same, omega arith))
      (λ (other : m ≡ i → ⊥). (let w = before.below m a (omega (arith, low, other)) at in let under = w.2 in (w.0, w.1, omega (arith, under, past))))
      (cases_eq m i);
}
  where
    is_next : (n : ℕ) (b : IndId) → n ≡ i → slice_get list n ≡ Some b → b ≡ get_or list i d
    is_next n b here at = one_value (slice_get list i) b (get_or list i d) (subst (λ (j : ℕ). slice_get list j ≡ Some b) here at) (slice_get-get_or list i d within)

pub none_same : (forms : List Form) (list : List IndId) (i end : ℕ) → length list ≤ i → Ascend forms list i end → (place : ℕ) → HasSameLater forms list place → ⊥
none_same forms list i end long all place w =
    all.apart place w.later w.first w.second w.below (omega (arith, long, slice_get_within list w.later w.second w.there)) w.here w.there w.same

-- what is drawn at the places so far, and at the next
pub places_more : {k : Problem} {most : ℕ} {a b : Derived} (forms : List Form) (list : List IndId) (i : ℕ) → Grows k most a b → ((place : ℕ) → place < i → IsDrawnAt forms list a.facts place) → IsDrawnAt forms list b.facts i
    → (place : ℕ) → place < i + 1 → IsDrawnAt forms list b.facts place
places_more {b = b} forms list i s before here place low = ⊎_elim
    (λ (same : place ≡ i). subst (IsDrawnAt forms list b.facts) (sym same) here)
    (λ (other : place ≡ i → ⊥). λ w c at. there_still s _ (before place (omega (arith, low, other)) w c at))
    (cases_eq place i)

pub all_places : (forms : List Form) (list : List IndId) (facts : List Fact) (i : ℕ) → length list ≤ i → ((place : ℕ) → place < i → IsDrawnAt forms list facts place) → AreDrawnIn forms list facts
all_places forms list facts i long drawn place w a at = drawn place (omega (arith, long, slice_get_within list place a at)) w a at

-- what is drawn at each place is drawn of the list
pub list_drawn : (k : Problem) (l : ℕ) (list : List IndId) (facts : List Fact) → slice_get k.apart.individuals l ≡ Some list → AreDrawnIn k.forms list facts → IsDifferenceDrawn k facts l
list_drawn k l list facts at drawn a b (xs, there, (m, n, below, first, second)) same =
    let is : xs ≡ list = one_value (slice_get k.apart.individuals l) xs list there at in
    let first' : slice_get list m ≡ Some a = subst (λ (ys : List IndId). slice_get ys m ≡ Some a) is first in
    let second' : slice_get list n ≡ Some b = subst (λ (ys : List IndId). slice_get ys n ≡ Some b) is second in
    drawn m (record { later = n; first = a; second = b; below = below; here = first'; there = second'; same = same }) a first'

-- what is drawn of the lists so far, and of the next
pub lists_more : {k : Problem} {most : ℕ} {a b : Derived} (i : ℕ) → Grows k most a b → ((l : ℕ) → l < i → IsDifferenceDrawn k a.facts l) → IsDifferenceDrawn k b.facts i → (l : ℕ) → l < i + 1 → IsDifferenceDrawn k b.facts l
lists_more {k} {b = b} i s before here l low = ⊎_elim
    (λ (same : l ≡ i). subst (IsDifferenceDrawn k b.facts) (sym same) here)
    (λ (other : l ≡ i → ⊥). λ c d w one. there_still s _ (before l (omega (arith, low, other)) c d w one))
    (cases_eq l i)

-- past the last there is none
pub all_lists : (k : Problem) (facts : List Fact) (i : ℕ) → length k.apart.individuals ≤ i → ((l : ℕ) → l < i → IsDifferenceDrawn k facts l) → AreDifferencesDrawn k facts
all_lists k facts i long drawn l a b (xs, there, w) same = drawn l (omega (arith, long, slice_get_within k.apart.individuals l xs there)) a b (xs, there, w) same
