-- Facts that wait, in a list for each context.
use Rattle.std.proofs.Common.{◌≡◌, ℕ, zero, suc, ◌+◌, ◌<◌, Bool, true, false, inl, inr, List, [], ◌∷◌, ◌++◌, length, get_or, set, Option, Some, None, refl, sym, ap, ◌∙◌, subst, length-append, cond, arith}
use Rattle.std.specs.Prelude.{Contains, ◌⊎◌, IfNone, IfSome}
use Rattle.std.proofs.lemmas.Bool.{cases_eq, cases_lt, false≢true}
use Rattle.std.proofs.lemmas.List.{get_or-map, get_or_past, length-map, set-get_or}
use Rattle.std.proofs.lemmas.List.Elements.{Contains-append_cases, Contains-append_left, Contains-append_right, Contains-push}
use Rattle.std.proofs.lemmas.List.Sums.{sum_by-append, sum_by-cons}
use Rattle.number_sets.specs.Members.{has}
use Rattle.work_list.specs.declared.item.Item.{Item}
use Rattle.work_list.specs.Bag.{Adds, HasItemOf, is_item}
use Rattle.work_list.specs.Groups.{Begins, PopsTogether}
use Rattle.work_list.specs.Waiting.{AllStand, AreStacked, HaveRoom, IsSame, IsSameBut, item_of, items_from, items_in, items_of, list_at}

-- ---- room for a context more

pub longer_same : (ls : List (List ℕ)) → IsSame ls (ls ++ [] ∷ [])
longer_same [] zero = refl
longer_same [] (suc k) = refl
longer_same (l ∷ ls) zero = refl
longer_same (l ∷ ls) (suc k) = longer_same ls k

longer_from : (base : ℕ) (ls : List (List ℕ)) → items_from base (ls ++ [] ∷ []) ≡ items_from base ls
longer_from base [] = refl
longer_from base (l ∷ ls) = ap (λ xs. items_of base l ++ xs) (longer_from (suc base) ls)

pub longer_items : (ls : List (List ℕ)) → items_in (ls ++ [] ∷ []) ≡ items_in ls
longer_items ls = longer_from 0 ls

-- ---- one item more

adds_first : (xs : List Item) (x : Item) → Adds x xs (x ∷ xs)
adds_first xs x = record { each = λ y. omega (arith, sum_by-cons (λ z. cond (is_item y z) 1 0) x xs); total = omega arith }

adds_front : (front xs ys : List Item) (x : Item) → Adds x xs ys → Adds x (front ++ xs) (front ++ ys)
adds_front front xs ys x w = record {
  each = λ y. (let a = sum_by-append (λ z. cond (is_item y z) 1 0) front xs in let b = sum_by-append (λ z. cond (is_item y z) 1 0) front ys in let e = w.each y in omega (arith, a, b, e));
  total = omega (arith, w.total, length-append front xs, length-append front ys);
}

added_from : (base c : ℕ) (ls : List (List ℕ)) (k fact : ℕ) (l : List ℕ) → c ≡ base + k → k < length ls → Adds (item_of c fact) (items_from base (set ls k l)) (items_from base (set ls k (fact ∷ l)))
added_from base c [] k fact l e low = absurd (omega arith)
added_from base c (m ∷ ls) zero fact l e low =
    let here : c ≡ base = omega (arith, e) in
    let rest = items_from (suc base) ls in
    subst (λ (b : ℕ). Adds (item_of b fact) (items_of base l ++ rest) (items_of base (fact ∷ l) ++ rest)) (sym here)
    (adds_first (items_of base l ++ rest) (item_of base fact))
added_from base c (m ∷ ls) (suc k) fact l e low =
    adds_front (items_of base m) (items_from (suc base) (set ls k l)) (items_from (suc base) (set ls k (fact ∷ l))) (item_of c fact) (added_from (suc base) c ls k fact l (omega (arith, e)) (omega arith))

-- a fact is put in front of those of a context
pub pushed : (ls ms : List (List ℕ)) (c fact : ℕ) → c < length ls → ms ≡ set ls c (fact ∷ get_or ls c []) → Adds (item_of c fact) (items_in ls) (items_in ms)
pushed ls ms c fact low is =
    subst (λ (xs : List (List ℕ)). Adds (item_of c fact) (items_in ls) (items_in xs)) (sym is)
    (subst (λ (xs : List (List ℕ)). Adds (item_of c fact) (items_in xs) (items_in (set ls c (fact ∷ get_or ls c [])))) (set-get_or ls c [])
    (added_from 0 c ls c fact (get_or ls c []) (omega arith) low))

-- the first fact is taken out of it
pub popped : (ls ms : List (List ℕ)) (c fact : ℕ) → c < length ls → ms ≡ set ls c (get_or ms c []) → get_or ls c [] ≡ fact ∷ get_or ms c [] → Adds (item_of c fact) (items_in ms) (items_in ls)
popped ls ms c fact low is last =
    let old : set ls c (fact ∷ get_or ms c []) ≡ ls = ap (set ls c) (sym last) ∙ set-get_or ls c [] in
    subst (λ (xs : List (List ℕ)). Adds (item_of c fact) (items_in xs) (items_in ls)) (sym is)
    (subst (λ (xs : List (List ℕ)). Adds (item_of c fact) (items_in (set ls c (get_or ms c []))) (items_in xs)) old
    (added_from 0 c ls c fact (get_or ms c []) (omega arith) low))

-- ---- whose items wait

of_context : (c : ℕ) (l : List ℕ) (x : Item) → Contains (items_of c l) x → x.context ≡ c
of_context c l x (k, low, e) = ap (λ (y : Item). y.context) (sym e ∙ get_or-map (item_of c) l k 0 x (omega (arith, low, length-map l (item_of c))))

some_fact : (c : ℕ) (l : List ℕ) (x : Item) → Contains (items_of c l) x → 0 < length l
some_fact c l x (k, low, e) = omega (arith, low, length-map l (item_of c))

has_list : (base : ℕ) (ls : List (List ℕ)) (x : Item) → Contains (items_from base ls) x → (k : ℕ) × (x.context ≡ base + k) × (0 < length (list_at ls k))
has_list base [] x (k, low, e) = absurd (omega arith)
has_list base (l ∷ ls) x there = go (Contains-append_cases (items_of base l) (items_from (suc base) ls) x there) (has_list (suc base) ls x)
  where
    go : Contains (items_of base l) x ⊎ Contains (items_from (suc base) ls) x → (Contains (items_from (suc base) ls) x → (k : ℕ) × (x.context ≡ suc base + k) × (0 < length (list_at ls k))) → (k : ℕ) × (x.context ≡ base + k) × (0 < length (list_at (l ∷ ls) k))
    go (inl here) rest = (zero, omega (arith, of_context base l x here), some_fact base l x here)
    go (inr other) rest = (let r = rest other in (suc r.0, omega (arith, r.1), r.2))

-- of an item that waits the context has facts
pub has_facts : (ls : List (List ℕ)) (x : Item) → Contains (items_in ls) x → 0 < length (list_at ls x.context)
has_facts ls x there =
    let w = has_list 0 ls x there in
    let e : w.0 ≡ x.context = omega (arith, w.1) in
    subst (λ (k : ℕ). 0 < length (list_at ls k)) e w.2

first_of : (base c : ℕ) (ls : List (List ℕ)) (k : ℕ) → c ≡ base + k → 0 < length (list_at ls k) → HasItemOf c (items_from base ls)
first_of base c [] k e some = absurd (omega arith)
first_of base c ([] ∷ ls) zero e some = absurd (omega arith)
first_of base c ((fact ∷ l) ∷ ls) zero e some = record {
  item = item_of base fact;
  there = (zero, omega arith, refl);
  is_of = omega (arith, e);
}
first_of base c (l ∷ ls) (suc k) e some =
    let w = first_of (suc base) c ls k (omega (arith, e)) some in
    record { item = w.item; there = Contains-append_right (items_of base l) (items_from (suc base) ls) w.item w.there; is_of = w.is_of }

-- of a context that has facts an item waits
pub has_item : (ls : List (List ℕ)) (c : ℕ) → 0 < length (list_at ls c) → HasItemOf c (items_in ls)
has_item ls c some = first_of 0 c ls c (omega arith) some

-- where no context has facts no item waits
pub no_items : (ls : List (List ℕ)) → ((c : ℕ) → 0 < length (list_at ls c) → ⊥) → items_in ls ≡ []
no_items ls none = go (items_in ls) refl
  where
    go : (xs : List Item) → items_in ls ≡ xs → items_in ls ≡ []
    go [] e = e
    go (x ∷ xs) e = absurd (none x.context (has_facts ls x (subst (λ ys. Contains ys x) (sym e) (zero, omega arith, refl))))

-- ---- contexts on the stack

-- where the stack is empty, and it is no context's turn that has facts, none has
pub nobody : (ls : List (List ℕ)) (stack : List ℕ) → AllStand ls stack → stack ≡ [] → (c : ℕ) → 0 < length (list_at ls c) → ⊥
nobody ls stack all none c some = (let there = subst (λ xs. Contains xs c) none (all c some) in omega (arith, there.1))

-- the context is put on top of the stack, and facts of no other come or go
pub stacked_more : (ls ms : List (List ℕ)) (stack stack' : List ℕ) (last : Option ℕ) (context : ℕ) → AreStacked ls stack last → IsSameBut context ls ms → stack' ≡ stack ++ context ∷ [] → AreStacked ms stack' last
stacked_more ls ms stack stack' last context all same is c some = elim (cases_eq c context) [
  | inl e ↦ inr (subst (λ (xs : List ℕ). Contains xs c) (sym is) (subst (Contains (stack ++ context ∷ [])) (sym e) (Contains-push stack context)))
  | inr apart ↦ (elim (all c (subst (λ (l : List ℕ). 0 < length l) (same c apart) some)) [
    | inl turn ↦ inl turn
    | inr there ↦ inr (subst (λ (xs : List ℕ). Contains xs c) (sym is) (Contains-append_left stack (context ∷ []) c there))
  ])
]

-- ---- contexts that have had their turn

-- there is room for one that has
pub room_for : (begun : List Bool) (c : ℕ) → has begun c ≡ true → c < length begun
room_for begun c h = elim (cases_lt c (length begun)) [
  | inl low ↦ low
  | inr past ↦ absurd (false≢true (sym (get_or_past begun c false past) ∙ h))
]

-- facts of a context for which there is room come or go
pub room_still : (ls ms : List (List ℕ)) (last : Option ℕ) (begun : List Bool) (context : ℕ) → HaveRoom ls last begun → IsSameBut context ls ms → context < length begun → HaveRoom ms last begun
room_still ls ms last begun context h same low = record {
  last_has = h.last_has;
  room = λ c some. elim (cases_eq c context) [ inl e ↦ omega (arith, e, low) | inr apart ↦ h.room c (subst (λ (l : List ℕ). 0 < length l) (same c apart) some) ];
}

-- where the context whose turn it was has no facts, an item of the one that comes next is popped
pub next_taken : (r : Option Item) (ls ms ns : List (List ℕ)) (last : Option ℕ) (context : ℕ) (old new : List Bool) → ms ≡ ls → IfSome r (λ item. Adds item (items_in ns) (items_in ms)) → IfSome r (λ item. Some context ≡ Some item.context) → IfNone r ((c : ℕ) → Some context ≡ Some c → list_at ms c ≡ [])
    → ((c : ℕ) → last ≡ Some c → list_at ls c ≡ []) → 0 < length (list_at ms context) → Begins context old new → PopsTogether r (record { items = items_in ls; last = last; begun = old }) (record { items = items_in ns; last = Some context; begun = new })
next_taken None ls ms ns last context old new same adds is none gone some begins = absurd (omega (arith, some, ap length (none context refl)))
next_taken (Some item) ls ms ns last context old new same adds is none gone some begins = record {
  items = subst (λ (xs : List (List ℕ)). Adds item (items_in ns) (items_in xs)) same adds;
  together = λ other there turn. absurd (omega (arith, has_facts ls other there, ap length (gone other.context turn)));
  last = is;
  begun = subst (λ (c : ℕ). Begins c old new) (cc) begins;
}
