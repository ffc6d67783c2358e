-- Marked lines, with premises by their places among them.
use Rattle.std.proofs.Common.{◌≡◌, ℕ, zero, suc, ◌+◌, ◌<◌, ◌≤◌, ◌⊎◌, inl, inr, List, [], ◌∷◌, ◌++◌, length, map, take, slice_get, Some, Bool, true, false, if◌then◌else◌, ◌==◌, refl, sym, ap, ◌∙◌, subst, arith, eqb-true, eq-eqb}
use Rattle.std.specs.Prelude.{slice_index_or}
use Rattle.std.proofs.lemmas.Bool.{eqb-false, false≢true}
use Rattle.std.proofs.lemmas.List.{map-append}
use Rattle.std.proofs.lemmas.List.Elements.{Contains-append_left, Contains-push, Contains-push_cases}
use Rattle.std.proofs.lemmas.Option.{slice_get-get_or, slice_get_within, same_Some}
use Rattle.std.specs.List.{Contains}
use Rattle.axioms.specs.View.{at_number}
use Rattle.certificate.specs.Certificate.{Line}
use Rattle.cert_check.specs.Derivation.{at_numbers}
use Rattle.certificate.specs.Writability.{Ascends}
use Rattle.exactness.proofs.Derivable.{prepended_list_parts}
use Rattle.exactness.proofs.Trimmed.{Ascends-push}
use Rattle.exactness.specs.Trimming.{RestsOn, itself, premise, place, renumbered_line, IsTrimmed}
use Rattle.lemmas.proofs.Members.{Contains-from_slice_get, Contains-none, Contains-first, Contains-later, Contains-cons_cases}
use Rattle.lemmas.proofs.Places.{slice_get_push, keeps_push, take_push}
use Rattle.lemmas.proofs.Choices.{one_value}
use Rattle.explain.specs.LineMarks.{ArePremisesBefore, ArePremisesMarked, MarksRests, marked_numbers, AreKept}
use Rattle.explain.specs.Marks.{IsMarked}

-- ---- places among numbers

place_here : (n m : ℕ) (ns : List ℕ) → n ≡ m → place (n ∷ ns) m ≡ 1
place_here n m ns e = rw (eq-eqb n m e) refl

place_behind : (n m : ℕ) (ns : List ℕ) → (n ≡ m → ⊥) → place (n ∷ ns) m ≡ suc (place ns m)
place_behind n m ns h = go (n == m) (eqb-true n m)
  where
    go : (b : Bool) → (b ≡ true → n ≡ m) → (if b then 1 else suc (place ns m)) ≡ suc (place ns m)
    go true f = absurd (h (f refl))
    go false f = refl

-- the number at the end is new
place_new : (ns : List ℕ) (m : ℕ) → (Contains ns m → ⊥) → place (ns ++ m ∷ []) m ≡ suc (length ns)
place_new [] m h = place_here m m [] refl
place_new (n ∷ ns) m h =
    place_behind n m (ns ++ m ∷ []) (λ e. h (subst (Contains (n ∷ ns)) e (Contains-first n ns)))
    ∙ ap suc (place_new ns m (λ c. h (Contains-later n m ns c)))

-- the number at the end changes no place of the numbers before it
place_kept : (ns : List ℕ) (m n : ℕ) → Contains ns m → place (ns ++ n ∷ []) m ≡ place ns m
place_kept [] m n c = absurd (Contains-none m c)
place_kept (x ∷ xs) m n c = go (x == m) (eqb-false x m) (λ h. elim (Contains-cons_cases x m xs c) [ inl e ↦ absurd (h e) | inr d ↦ place_kept xs m n d ])
  where
    go : (b : Bool) → (b ≡ false → x ≡ m → ⊥) → ((x ≡ m → ⊥) → place (xs ++ n ∷ []) m ≡ place xs m) → (if b then 1 else suc (place (xs ++ n ∷ []) m)) ≡ (if b then 1 else suc (place xs m))
    go true h rest = refl
    go false h rest = ap suc (rest (h refl))

-- ---- the numbers of marked lines

get_marked : (marks : List Bool) (n : ℕ) (b : Bool) → slice_get marks n ≡ Some b → slice_index_or marks n false ≡ b
get_marked marks n b h = same_Some (slice_index_or marks n false) b (sym (slice_get-get_or marks n false (slice_get_within marks n b h)) ∙ h)

marked_more : (marks : List Bool) (n : ℕ) → IsMarked marks n → marked_numbers marks (suc n) ≡ marked_numbers marks n ++ suc n ∷ []
marked_more marks n h = rw (get_marked marks n true h) refl

marked_same : (marks : List Bool) (n : ℕ) → slice_index_or marks n false ≡ false → marked_numbers marks (suc n) ≡ marked_numbers marks n
marked_same marks n h = rw h refl

-- each is the number of a line before
marked_below : (marks : List Bool) (n x : ℕ) → Contains (marked_numbers marks n) x → x ≤ n
marked_below marks zero x c = absurd (Contains-none x c)
marked_below marks (suc n) x c = go (slice_index_or marks n false) (marked_below marks n x) c
  where
    go : (b : Bool) → (Contains (marked_numbers marks n) x → x ≤ n) → Contains (if b then marked_numbers marks n ++ suc n ∷ [] else marked_numbers marks n) x → x ≤ suc n
    go true below d = elim (Contains-push_cases (marked_numbers marks n) (suc n) x d) [ inl e ↦ omega (arith, below e) | inr e ↦ omega (arith, e) ]
    go false below d = omega (arith, below d)

last : (k n : ℕ) → k ≤ n → (k ≡ n) ⊎ (k < n)
last zero zero l = inl refl
last zero (suc n) l = inr (omega arith)
last (suc k) zero l = absurd (omega arith)
last (suc k) (suc n) l = elim (last k n (omega arith)) [ inl e ↦ inl (ap suc e) | inr m ↦ inr (omega arith) ]

marked_there : (marks : List Bool) (n k : ℕ) → k < n → IsMarked marks k → Contains (marked_numbers marks n) (suc k)
marked_there marks zero k l h = absurd (omega arith)
marked_there marks (suc n) k l h = elim (last k n (omega arith)) [
  | inl e ↦ subst (λ ns. Contains ns (suc k)) (sym (marked_more marks n (subst (IsMarked marks) e h))) (subst (λ j. Contains (marked_numbers marks n ++ suc n ∷ []) (suc j)) (sym e) (Contains-push (marked_numbers marks n) (suc n)))
  | inr m ↦ go (slice_index_or marks n false) (marked_there marks n k m h)
]
  where
    go : (b : Bool) → Contains (marked_numbers marks n) (suc k) → Contains (if b then marked_numbers marks n ++ suc n ∷ [] else marked_numbers marks n) (suc k)
    go true c = Contains-append_left (marked_numbers marks n) (suc n ∷ []) (suc k) c
    go false c = c

length_push : {X : Type 0} (xs : List X) (x : X) → length (xs ++ x ∷ []) ≡ suc (length xs)
length_push [] x = refl
length_push (y ∷ ys) x = ap suc (length_push ys x)

-- a marked line's place is how many are marked up to it
place_marked : (marks : List Bool) (n k : ℕ) → k < n → IsMarked marks k → place (marked_numbers marks n) (suc k) ≡ length (marked_numbers marks (suc k))
place_marked marks zero k l h = absurd (omega arith)
place_marked marks (suc n) k l h = elim (last k n (omega arith)) [
  | inl e ↦ subst (λ j. place (marked_numbers marks (suc n)) (suc j) ≡ length (marked_numbers marks (suc j))) (sym e) (here (subst (IsMarked marks) e h))
  | inr m ↦ go (slice_index_or marks n false) (place_marked marks n k m h) (marked_there marks n k m h)
]
  where
    here : IsMarked marks n → place (marked_numbers marks (suc n)) (suc n) ≡ length (marked_numbers marks (suc n))
    here g =
        let ns = marked_numbers marks n in
        ap (λ xs. place xs (suc n)) (marked_more marks n g)
        ∙ place_new ns (suc n) (λ c. (let b = marked_below marks n (suc n) c in absurd (omega arith)))
        ∙ sym (ap length (marked_more marks n g) ∙ length_push ns (suc n))

    go : (b : Bool) → place (marked_numbers marks n) (suc k) ≡ length (marked_numbers marks (suc k)) → Contains (marked_numbers marks n) (suc k) → place (if b then marked_numbers marks n ++ suc n ∷ [] else marked_numbers marks n) (suc k) ≡ length (marked_numbers marks (suc k))
    go true e c = place_kept (marked_numbers marks n) (suc k) (suc n) c ∙ e
    go false e c = e

-- ---- the lines at numbers

at_numbers_push : (lines : List Line) (ns : List ℕ) (ks : List Line) (n : ℕ) (line : Line) → at_numbers lines ns ≡ Some ks → at_number lines n ≡ Some line → at_numbers lines (ns ++ n ∷ []) ≡ Some (ks ++ line ∷ [])
at_numbers_push lines [] ks n line e f = subst (λ ls. at_numbers lines (n ∷ []) ≡ Some (ls ++ line ∷ [])) (same_Some [] ks e) (rw f refl)
at_numbers_push lines (m ∷ ns) ks n line e f =
    let p = prepended_list_parts (at_number lines m) (at_numbers lines ns) ks e in
    rw (p.2, at_numbers_push lines ns p.1 n line p.3 f) (ap (λ (ls : List Line). Some (ls ++ line ∷ [])) p.4)

-- ---- the marked lines so far, of the first n

pub record AreKeptSoFar (lines : List Line) (marks : List Bool) (n : ℕ) (kept : List Line) (places : List ℕ) : Type 0 where
  pub old : List Line
  pub old_at : at_numbers lines (marked_numbers marks n) ≡ Some old
  pub kept_are : kept ≡ map (renumbered_line (marked_numbers marks (length marks))) old
  pub many : length kept ≡ length (marked_numbers marks n)
  pub long : length places ≡ n
  pub places_are : (k : ℕ) → k < n → slice_get places k ≡ Some (length (marked_numbers marks (suc k)))

slice_get_keep : (xs : List ℕ) (x n y : ℕ) → slice_get xs n ≡ Some y → slice_get (xs ++ x ∷ []) n ≡ Some y
slice_get_keep xs x n y e = keeps_push xs x n y e

-- with one more place
places_next : (marks : List Bool) (n : ℕ) (places : List ℕ) (count : ℕ) → length places ≡ n → ((k : ℕ) → k < n → slice_get places k ≡ Some (length (marked_numbers marks (suc k)))) → count ≡ length (marked_numbers marks (suc n)) → (k : ℕ) → k < suc n → slice_get (places ++ count ∷ []) k ≡ Some (length (marked_numbers marks (suc k)))
places_next marks n places count long h e k l = elim (last k n (omega arith)) [
  | inl same ↦ subst (λ j. slice_get (places ++ count ∷ []) j ≡ Some (length (marked_numbers marks (suc j)))) (sym same) (subst (λ j. slice_get (places ++ count ∷ []) j ≡ Some (length (marked_numbers marks (suc n)))) long (slice_get_push places count ∙ ap Some e))
  | inr m ↦ slice_get_keep places count k (length (marked_numbers marks (suc k))) (h k m)
]

pub kept_not : (lines : List Line) (marks : List Bool) (n : ℕ) (kept : List Line) (places : List ℕ) (count : ℕ) → AreKeptSoFar lines marks n kept places → slice_index_or marks n false ≡ false → count ≡ length kept → AreKeptSoFar lines marks (suc n) kept (places ++ count ∷ [])
kept_not lines marks n kept places count h not e = record {
  old = h.old;
  old_at = ap (at_numbers lines) (marked_same marks n not) ∙ h.old_at;
  kept_are = h.kept_are;
  many = h.many ∙ sym (ap length (marked_same marks n not));
  long = length_push places count ∙ ap suc h.long;
  places_are = places_next marks n places count h.long h.places_are (e ∙ h.many ∙ sym (ap length (marked_same marks n not)));
}

-- with a marked line, whose premises are renumbered
pub kept_more : (lines : List Line) (marks : List Bool) (n : ℕ) (kept : List Line) (places : List ℕ) (count : ℕ) (line new : Line) → AreKeptSoFar lines marks n kept places → IsMarked marks n → slice_get lines n ≡ Some line → new ≡ renumbered_line (marked_numbers marks (length marks)) line → count ≡ suc (length kept) → AreKeptSoFar lines marks (suc n) (kept ++ new ∷ []) (places ++ count ∷ [])
kept_more lines marks n kept places count line new h marked at same e = record {
  old = h.old ++ line ∷ [];
  old_at = ap (at_numbers lines) (marked_more marks n marked) ∙ at_numbers_push lines (marked_numbers marks n) h.old (suc n) line h.old_at at;
  kept_are = ap (λ (ls : List Line). ls ++ new ∷ []) h.kept_are ∙ ap (λ (l : Line). map (renumbered_line (marked_numbers marks (length marks))) h.old ++ l ∷ []) same ∙ sym (map-append (renumbered_line (marked_numbers marks (length marks))) h.old (line ∷ []));
  many = length_push kept new ∙ more;
  long = length_push places count ∙ ap suc h.long;
  places_are = places_next marks n places count h.long h.places_are (e ∙ more);
}
  where
    more : suc (length kept) ≡ length (marked_numbers marks (suc n))
    more = ap suc h.many ∙ sym (ap length (marked_more marks n marked) ∙ length_push (marked_numbers marks n) (suc n))

-- the places of the premises are their new numbers
pub premise_places : (lines : List Line) (marks : List Bool) (n : ℕ) (kept : List Line) (places : List ℕ) (line : Line) → AreKeptSoFar lines marks n kept places → ArePremisesMarked lines marks → IsMarked marks n → slice_get lines n ≡ Some line → (m : ℕ) → Contains line.premises (suc m) → slice_get places m ≡ Some (place (marked_numbers marks (length marks)) (suc m))
premise_places lines marks n kept places line h premises marked at m c =
    let p = premises n (suc m) line marked at c in
    let e : m ≡ p.0 = omega (arith, p.1) in
    let below : p.0 < length marks = slice_get_within marks p.0 true p.3 in
    subst (λ k. slice_get places k ≡ Some (place (marked_numbers marks (length marks)) (suc k))) (sym e)
    (h.places_are p.0 p.2 ∙ ap Some (sym (place_marked marks (length marks) p.0 below p.3)))

pub premises_in_range : (lines : List Line) (marks : List Bool) (n : ℕ) (line : Line) (bound : ℕ) → ArePremisesMarked lines marks → IsMarked marks n → slice_get lines n ≡ Some line → bound ≡ n → (k d : ℕ) → k < length line.premises → (0 < slice_index_or line.premises k d) × (slice_index_or line.premises k d ≤ bound)
premises_in_range lines marks n line bound premises marked at e k d l =
    let number = slice_index_or line.premises k d in
    let p = premises n number line marked at (Contains-from_slice_get line.premises k number (slice_get-get_or line.premises k d l)) in
    (omega (arith, p.1), omega (arith, p.1, p.2, e))

-- ---- what the goal rests on

-- a mark that is read is there
marked_index : (marks : List Bool) (n : ℕ) → slice_index_or marks n false ≡ true → IsMarked marks n
marked_index [] n e = absurd (false≢true e)
marked_index (b ∷ bs) zero e = ap Some e
marked_index (b ∷ bs) (suc n) e = marked_index bs n e

marked_parts : (marks : List Bool) (n x : ℕ) → Contains (marked_numbers marks n) x → (k : ℕ) × (x ≡ suc k) × IsMarked marks k
marked_parts marks zero x c = absurd (Contains-none x c)
marked_parts marks (suc n) x c = go (slice_index_or marks n false) (marked_index marks n) (marked_parts marks n x) c
  where
    go : (b : Bool) → (b ≡ true → IsMarked marks n) → (Contains (marked_numbers marks n) x → (k : ℕ) × (x ≡ suc k) × IsMarked marks k) → Contains (if b then marked_numbers marks n ++ suc n ∷ [] else marked_numbers marks n) x → (k : ℕ) × (x ≡ suc k) × IsMarked marks k
    go true e parts d = elim (Contains-push_cases (marked_numbers marks n) (suc n) x d) [ inl f ↦ parts f | inr f ↦ (n, sym f, e refl) ]
    go false e parts d = parts d

marked_ascend : (marks : List Bool) (n : ℕ) → Ascends (marked_numbers marks n)
marked_ascend marks zero = tt
marked_ascend marks (suc n) = go (slice_index_or marks n false) (marked_ascend marks n)
  where
    go : (b : Bool) → Ascends (marked_numbers marks n) → Ascends (if b then marked_numbers marks n ++ suc n ∷ [] else marked_numbers marks n)
    go true a = Ascends-push (marked_numbers marks n) (suc n) a (λ i m e. (let b = marked_below marks n m (Contains-from_slice_get (marked_numbers marks n) i m e) in omega (arith, b)))
    go false a = a

rests_positive : (lines : List Line) (goal : ℕ) → ArePremisesBefore lines → 0 < goal → {n : ℕ} → RestsOn lines goal n → 0 < n
rests_positive lines goal before positive itself = positive
rests_positive lines goal before positive (premise {m = m} zero line r at c) = absurd cc
rests_positive lines goal before positive (premise {m = m} (suc n) line r at c) = (before n m line at c).0

pub trimmed_from_kept : (lines : List Line) (goal : ℕ) (marks : List Bool) (kept : List Line) → ArePremisesBefore lines → goal ≡ length marks → 0 < goal → MarksRests lines goal marks → AreKept lines marks kept → IsTrimmed lines goal kept
trimmed_from_kept lines goal marks kept before long positive exact k = record {
  numbers = marked_numbers marks (length marks);
  ascend = marked_ascend marks (length marks);
  exact = λ n. (λ c. sound n c, λ r. complete n r);
  kept = k.old;
  kept_at = k.old_at;
  trimmed_is = k.kept_are;
}
  where
    sound : (n : ℕ) → Contains (marked_numbers marks (length marks)) n → RestsOn lines goal n
    sound n c = let p = marked_parts marks (length marks) n c in subst (RestsOn lines goal) (sym p.1) ((exact p.0).0 p.2)

    complete : (n : ℕ) → RestsOn lines goal n → Contains (marked_numbers marks (length marks)) n
    complete zero r = absurd (omega (arith, rests_positive lines goal before positive r))
    complete (suc n) r = let m = (exact n).1 r in marked_there marks (length marks) n (slice_get_within marks n true m) m

-- ---- numbers, one after the other

pub renumbered_next : (new : ℕ → ℕ) (places numbers items after : List ℕ) (i number place value : ℕ) → items ≡ map new (take i numbers) → slice_get numbers i ≡ Some number → number ≡ suc place → slice_get places place ≡ Some value → after ≡ items ++ value ∷ [] → ((n : ℕ) → Contains numbers (suc n) → slice_get places n ≡ Some (new (suc n))) → after ≡ map new (take (i + 1) numbers)
renumbered_next new places numbers items after i number place value so_far at one there pushed h =
    let c : Contains numbers (suc place) = subst (Contains numbers) one (Contains-from_slice_get numbers i number at) in
    let same : value ≡ new number = one_value (slice_get places place) value (new (suc place)) there (h place c) ∙ ap new (sym one) in
    pushed ∙ ap (λ (xs : List ℕ). xs ++ value ∷ []) so_far ∙ ap (λ x. map new (take i numbers) ++ x ∷ []) same
    ∙ sym (ap (map new) (take_push numbers i number at) ∙ map-append new (take i numbers) (number ∷ []))

-- the next marked line, as the code has it
pub kept_line : (lines : List Line) (marks : List Bool) (n j : ℕ) (kept after : List Line) (places ends : List ℕ) (count : ℕ) (line new : Line) (premises : List ℕ) → AreKeptSoFar lines marks n kept places → ArePremisesMarked lines marks → IsMarked marks n → slice_get lines n ≡ Some line → new ≡ record line { premises = premises } → ((f : ℕ → ℕ) → ((m : ℕ) → Contains line.premises (suc m) → slice_get places m ≡ Some (f (suc m))) → premises ≡ map f line.premises) → after ≡ kept ++ new ∷ [] → count ≡ length after → ends ≡ places ++ count ∷ [] → j ≡ n + 1 → AreKeptSoFar lines marks j after ends
kept_line lines marks n j kept after places ends count line new premises h all marked at is renumbered pushed counted ended next =
    let numbers = marked_numbers marks (length marks) in
    let same : premises ≡ map (place numbers) line.premises = renumbered (place numbers) (premise_places lines marks n kept places line h all marked at) in
    let new_is : new ≡ renumbered_line numbers line = is ∙ ap (λ (ps : List ℕ). record line { premises = ps }) same in
    let count_is : count ≡ suc (length kept) = counted ∙ ap length pushed ∙ length_push kept new in
    let so_far : AreKeptSoFar lines marks (suc n) (kept ++ new ∷ []) (places ++ count ∷ []) = kept_more lines marks n kept places count line new h marked at new_is count_is in
    subst (λ (ls : List Line). AreKeptSoFar lines marks j ls ends) (sym pushed)
    (subst (λ (ps : List ℕ). AreKeptSoFar lines marks j (kept ++ new ∷ []) ps) (sym ended)
    (subst (λ k. AreKeptSoFar lines marks k (kept ++ new ∷ []) (places ++ count ∷ [])) (omega (arith, next)) so_far))

-- no line, where it is not marked
pub no_line : (lines : List Line) (marks : List Bool) (n j : ℕ) (kept after : List Line) (places ends : List ℕ) (count : ℕ) → AreKeptSoFar lines marks n kept places → slice_index_or marks n false ≡ false → after ≡ kept → count ≡ length after → ends ≡ places ++ count ∷ [] → j ≡ n + 1 → AreKeptSoFar lines marks j after ends
no_line lines marks n j kept after places ends count h not same counted ended next =
    let so_far : AreKeptSoFar lines marks (suc n) kept (places ++ count ∷ []) = kept_not lines marks n kept places count h not (counted ∙ ap length same) in
    subst (λ (ls : List Line). AreKeptSoFar lines marks j ls ends) (sym same)
    (subst (λ (ps : List ℕ). AreKeptSoFar lines marks j kept ps) (sym ended)
    (subst (λ k. AreKeptSoFar lines marks k kept (places ++ count ∷ [])) (omega (arith, next)) so_far))
