-- Lists by number, as they grow.
use Rattle.std.proofs.Common.{◌≡◌, ℕ, zero, suc, ◌+◌, ◌-◌, ◌<◌, ◌≤◌, true, false, not, ne_eqb, eq-eqb, inl, inr, ⊎_elim, List, [], ◌∷◌, ◌++◌, length, get_or, set, Contains, refl, sym, ap, ◌∙◌, subst, arith}
use Rattle.std.proofs.lemmas.Bool.{cases_eq}
use Rattle.std.proofs.lemmas.List.{append_assoc, get_or_append_left, get_or-append_right, get_or-set_same, get_or-set_other, length-append, set-append_left, set-append_right}
use Rattle.std.proofs.lemmas.List.Elements.{Contains-append_left, Contains-push, Contains-push_cases}
use Rattle.std.proofs.Math.Seq.{get_or-append_seam}
use Rattle.indexes.specs.Tables.{at, by_key, is_other, list_of, without, Adds, IsSame, IsTable, PutsLast, Removes}

-- the list of a key, by what stands for it
pub at_by_key : (numbers : List ℕ) (lists : List (List ℕ)) (key : ℕ) → at (by_key numbers lists) key ≡ list_of lists (get_or numbers key 0)
at_by_key [] lists zero = refl
at_by_key [] lists (suc key) = refl
at_by_key (n ∷ numbers) lists zero = refl
at_by_key (n ∷ numbers) lists (suc key) = at_by_key numbers lists key

-- a key more for which nothing stands changes nothing for any key
pub none_more : (numbers : List ℕ) (key : ℕ) → get_or (numbers ++ 0 ∷ []) key 0 ≡ get_or numbers key 0
none_more [] zero = refl
none_more [] (suc key) = refl
none_more (n ∷ numbers) zero = refl
none_more (n ∷ numbers) (suc key) = none_more numbers key

-- the list that one more than its place stands for
pub list_of_next : (lists : List (List ℕ)) (n place : ℕ) → n ≡ place + 1 → list_of lists n ≡ at lists place
list_of_next lists zero place e = absurd (omega (arith, e))
list_of_next lists (suc m) place e =
    let same : m ≡ place = omega (arith, e) in
    ap (λ i. get_or lists i []) same

-- what stands for a list stands for it when there are more
pub list_of_more : (lists : List (List ℕ)) (new : List ℕ) (n : ℕ) → n ≤ length lists → list_of (lists ++ new ∷ []) n ≡ list_of lists n
list_of_more lists new zero low = refl
list_of_more lists new (suc place) low = get_or_append_left lists (new ∷ []) [] place (omega arith)

-- a new list of the key, with the number behind those of the old one
pub puts_begun : (numbers : List ℕ) (lists : List (List ℕ)) (key number n : ℕ) (list : List ℕ) → IsTable numbers lists → key < length numbers → n ≡ length lists + 1
    → list ≡ list_of lists (get_or numbers key 0) ++ number ∷ [] → PutsLast (by_key numbers lists) (by_key (set numbers key n) (lists ++ list ∷ [])) key number
puts_begun numbers lists key number n list table low next is k = elim (cases_eq k key) [
  | inl e ↦ inr (
    e,
    at_by_key (set numbers key n) (lists ++ list ∷ []) k
        ∙ list_of_next (lists ++ list ∷ []) (get_or (set numbers key n) k 0) (length lists) (ap (λ i. get_or (set numbers key n) i 0) e ∙ get_or-set_same numbers key n 0 low ∙ next)
        ∙ get_or-append_seam lists list [] []
        ∙ is
        ∙ sym (ap (λ (l : List ℕ). l ++ number ∷ []) (at_by_key numbers lists k ∙ ap (list_of lists) (ap (λ i. get_or numbers i 0) e))),
  )
  | inr ne ↦ inl (
    ne,
    at_by_key (set numbers key n) (lists ++ list ∷ []) k
        ∙ ap (list_of (lists ++ list ∷ [])) (get_or-set_other numbers key k n 0 ne)
        ∙ list_of_more lists list (get_or numbers k 0) (table.within k)
        ∙ sym (at_by_key numbers lists k),
  )
]

-- a list with another list at one place
pub list_of_set : (lists : List (List ℕ)) (place : ℕ) (new : List ℕ) (n : ℕ) → (n ≡ place + 1 → ⊥) → list_of (set lists place new) n ≡ list_of lists n
list_of_set lists place new zero ne = refl
list_of_set lists place new (suc m) ne = get_or-set_other lists place m new [] (λ e. ne (omega (arith, e)))

pub puts_set : (numbers : List ℕ) (lists : List (List ℕ)) (key place number : ℕ) → IsTable numbers lists → get_or numbers key 0 ≡ place + 1 →
    PutsLast (by_key numbers lists) (by_key numbers (set lists place (at lists place ++ number ∷ []))) key number
puts_set numbers lists key place number table is k = elim (cases_eq k key) [
  | inl e ↦
      let stands : get_or numbers k 0 ≡ place + 1 = ap (λ i. get_or numbers i 0) e ∙ is in
      inr (
        e,
        at_by_key numbers (set lists place (at lists place ++ number ∷ [])) k
            ∙ list_of_next (set lists place (at lists place ++ number ∷ [])) (get_or numbers k 0) place stands
            ∙ get_or-set_same lists place (at lists place ++ number ∷ []) [] (omega (arith, table.within key, is))
            ∙ sym (ap (λ (l : List ℕ). l ++ number ∷ []) (at_by_key numbers lists k ∙ list_of_next lists (get_or numbers k 0) place stands)),
      )
  | inr ne ↦ inl (
    ne,
    at_by_key numbers (set lists place (at lists place ++ number ∷ [])) k
        ∙ list_of_set lists place (at lists place ++ number ∷ []) (get_or numbers k 0)
        (λ same. absurd (omega (arith, same, table.apart k key ne (same ∙ sym is))))
        ∙ sym (at_by_key numbers lists k),
  )
]

-- one number more at the end of one list, after lists stayed the same
pub put_last : (old mid new : List (List ℕ)) (key number : ℕ) → IsSame old mid → PutsLast mid new key number → PutsLast old new key number
put_last old mid new key number same puts k = ⊎_elim
    (λ w. inl (w.0, w.1 ∙ same k))
    (λ w. inr (w.0, w.1 ∙ ap (λ (l : List ℕ). l ++ number ∷ []) (same k)))
    (puts k)

pub put_adds : (old mid new : List (List ℕ)) (key number : ℕ) → IsSame old mid → PutsLast mid new key number → Adds old new key number
put_adds old mid new key number same puts k n = ⊎_elim
    (λ (w : (k ≡ key → ⊥) × (at new k ≡ at old k)). (
      λ c. inl (rw w.1 at c),
      λ v. rw w.1 (⊎_elim (λ (c : Contains (at old k) n). c) (λ (e : (k ≡ key) × (n ≡ number)). absurd (w.0 e.0)) v),
    ))
    (λ (w : (k ≡ key) × (at new k ≡ at old k ++ number ∷ [])). (
      λ c. ⊎_elim (λ v. inl v) (λ e. inr (w.0, sym e)) (Contains-push_cases (at old k) number n (rw w.1 at c)),
      λ v. rw w.1 (⊎_elim
          (λ (c : Contains (at old k) n). Contains-append_left (at old k) (number ∷ []) n c)
          (λ (e : (k ≡ key) × (n ≡ number)). subst (λ (i : ℕ). Contains (at old k ++ number ∷ []) i) (sym e.1) (Contains-push (at old k) number))
          v),
    ))
    (put_last old mid new key number same puts k)

-- ---- a number that is taken out

pub removes_set : (numbers : List ℕ) (lists : List (List ℕ)) (key place number : ℕ) → IsTable numbers lists → get_or numbers key 0 ≡ place + 1 →
    Removes (by_key numbers lists) (by_key numbers (set lists place (without number (at lists place)))) key number
removes_set numbers lists key place number table is k = elim (cases_eq k key) [
  | inl e ↦
      let stands : get_or numbers k 0 ≡ place + 1 = ap (λ i. get_or numbers i 0) e ∙ is in
      inr (
        e,
        at_by_key numbers (set lists place (without number (at lists place))) k
            ∙ list_of_next (set lists place (without number (at lists place))) (get_or numbers k 0) place stands
            ∙ get_or-set_same lists place (without number (at lists place)) [] (omega (arith, table.within key, is))
            ∙ sym (ap (without number) (at_by_key numbers lists k ∙ list_of_next lists (get_or numbers k 0) place stands)),
      )
  | inr ne ↦ inl (
    ne,
    at_by_key numbers (set lists place (without number (at lists place))) k
        ∙ list_of_set lists place (without number (at lists place)) (get_or numbers k 0)
        (λ same. absurd (omega (arith, same, table.apart k key ne (same ∙ sym is))))
        ∙ sym (at_by_key numbers lists k),
  )
]

pub other : (number n : ℕ) → (n ≡ number → ⊥) → is_other number n ≡ true
other number n ne = ap not (ne_eqb n number ne)

pub not_other : (number n : ℕ) → n ≡ number → is_other number n ≡ false
not_other number n e = ap not (eq-eqb n number e)

-- ---- the first lists apart from the others

pub listed_first : (firsts others : List (List ℕ)) (n place : ℕ) → n ≡ place + 1 → place < length firsts → list_of (firsts ++ others) n ≡ at firsts place
listed_first firsts others n place is low = list_of_next (firsts ++ others) n place is ∙ get_or_append_left firsts others [] place low

pub puts_behind : (numbers : List ℕ) (firsts others more : List (List ℕ)) (key number n : ℕ) (list : List ℕ) → IsTable numbers (firsts ++ others) → key < length numbers
    → n ≡ length firsts + length others + 1 → list ≡ list_of (firsts ++ others) (get_or numbers key 0) → more ≡ others ++ (list ++ number ∷ []) ∷ []
    → PutsLast (by_key numbers (firsts ++ others)) (by_key (set numbers key n) (firsts ++ more)) key number
puts_behind numbers firsts others more key number n list table low next is behind =
    let all : (firsts ++ others) ++ (list ++ number ∷ []) ∷ [] ≡ firsts ++ more = append_assoc firsts others ((list ++ number ∷ []) ∷ []) ∙ ap (λ (ls : List (List ℕ)). firsts ++ ls) (sym behind) in
    subst (λ (ls : List (List ℕ)). PutsLast (by_key numbers (firsts ++ others)) (by_key (set numbers key n) ls) key number) all
    (puts_begun numbers (firsts ++ others) key number n (list ++ number ∷ []) table low (omega (arith, next, length-append firsts others)) (ap (λ (l : List ℕ). l ++ number ∷ []) is))

-- one of the others changed
set_among : (firsts others : List (List ℕ)) (first place : ℕ) (f : List ℕ → List ℕ) → first ≡ length firsts
    → set (firsts ++ others) (first + place) (f (at (firsts ++ others) (first + place))) ≡ firsts ++ set others place (f (at others place))
set_among firsts others first place f long =
    let back : (first + place) - first ≡ place = omega arith in
    ap (λ (l : List ℕ). set (firsts ++ others) (first + place) (f l)) (get_or-append_right firsts others first (first + place) [] (sym long) (omega arith) ∙ ap (at others) back)
    ∙ set-append_right firsts others first (first + place) (f (at others place)) (sym long) (omega arith)
    ∙ ap (λ (i : ℕ). firsts ++ set others i (f (at others place))) back

pub puts_among : (numbers : List ℕ) (firsts others : List (List ℕ)) (key first place number : ℕ) → IsTable numbers (firsts ++ others) → first ≡ length firsts → get_or numbers key 0 ≡ first + place + 1 →
    PutsLast (by_key numbers (firsts ++ others)) (by_key numbers (firsts ++ set others place (at others place ++ number ∷ []))) key number
puts_among numbers firsts others key first place number table long is =
    subst (λ (ls : List (List ℕ)). PutsLast (by_key numbers (firsts ++ others)) (by_key numbers ls) key number)
    (set_among firsts others first place (λ (l : List ℕ). l ++ number ∷ []) long)
    (puts_set numbers (firsts ++ others) key (first + place) number table is)

pub removes_among : (numbers : List ℕ) (firsts others : List (List ℕ)) (key first place number : ℕ) → IsTable numbers (firsts ++ others) → first ≡ length firsts → get_or numbers key 0 ≡ first + place + 1 →
    Removes (by_key numbers (firsts ++ others)) (by_key numbers (firsts ++ set others place (without number (at others place)))) key number
removes_among numbers firsts others key first place number table long is =
    subst (λ (ls : List (List ℕ)). Removes (by_key numbers (firsts ++ others)) (by_key numbers ls) key number)
    (set_among firsts others first place (without number) long)
    (removes_set numbers (firsts ++ others) key (first + place) number table is)

pub removes_first : (numbers : List ℕ) (firsts others : List (List ℕ)) (key place number : ℕ) → IsTable numbers (firsts ++ others) → place < length firsts → get_or numbers key 0 ≡ place + 1 →
    Removes (by_key numbers (firsts ++ others)) (by_key numbers (set firsts place (without number (at firsts place)) ++ others)) key number
removes_first numbers firsts others key place number table low is =
    subst (λ (ls : List (List ℕ)). Removes (by_key numbers (firsts ++ others)) (by_key numbers ls) key number)
    (ap (λ (l : List ℕ). set (firsts ++ others) place (without number l)) (get_or_append_left firsts others [] place low) ∙ set-append_left firsts others place (without number (at firsts place)) low)
    (removes_set numbers (firsts ++ others) key place number table is)
