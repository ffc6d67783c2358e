-- Lists of facts, as chains of nodes.
use Rattle.std.proofs.Common.{◌≡◌, ℕ, zero, suc, ◌+◌, ◌-◌, ◌<◌, ◌≤◌, inl, inr, Bool, List, [], ◌∷◌, ◌++◌, length, map, get_or, set, count_by, nat_eq, refl, sym, ap, ◌∙◌, subst, cond, eq-eqb, arith}
use Rattle.std.specs.List.{sum_by}
use Rattle.std.proofs.lemmas.Bool.{cases_eq, cases_lt, ne_eqb}
use Rattle.std.proofs.lemmas.List.{get_or_past, get_or_append_left, get_or_push, get_or-set_same, get_or-set_other, length_push, length-map, length-set, map-append, ext_get_or}
use Rattle.std.proofs.lemmas.List.Sums.{sum_by-cons, sum_by_push, sum_by-set, get_or-le-sum_by}
use Rattle.work_list.specs.declared.node.Node.{Node}
use Rattle.work_list.specs.Chains.{facts_from, lists_of, node_at, AreChains, IsChain, KeepChains}
use Rattle.work_list.specs.Waiting.{list_at}

-- ---- one chain

abbrev facts_of : List Node → List ℕ → List ℕ
facts_of nodes places = map (λ place. (node_at nodes place).fact) places

walked : (nodes : List Node) (most number : ℕ) (ps : List ℕ) → IsChain nodes number ps → length ps ≤ most → facts_from nodes most number ≡ facts_of nodes ps
walked nodes zero number [] chain low = refl
walked nodes zero number (p ∷ ps) chain low = absurd (omega arith)
walked nodes (suc most) number [] chain low = ap (facts_from nodes (suc most)) chain
walked nodes (suc most) number (p ∷ ps) (is, there, rest) low =
    ap (facts_from nodes (suc most)) is ∙ ap (λ (fs : List ℕ). (node_at nodes p).fact ∷ fs) (walked nodes most (node_at nodes p).next ps rest (omega arith))

none_from : (nodes : List Node) (most : ℕ) → facts_from nodes most 0 ≡ []
none_from nodes zero = refl
none_from nodes (suc most) = refl

-- the first node of a chain, and the rest of it
top : (nodes : List Node) (p number : ℕ) (ps : List ℕ) → IsChain nodes number ps → number ≡ suc p → (t : List ℕ) × (ps ≡ p ∷ t) × (p < length nodes) × IsChain nodes (node_at nodes p).next t
top nodes p number [] chain e = absurd (omega (arith, chain, e))
top nodes p number (q ∷ t) (is, low, rest) e =
    let same : q ≡ p = omega (arith, is, e) in
    (t, ap (λ (x : ℕ). x ∷ t) same, subst (λ (x : ℕ). x < length nodes) same low, subst (λ (x : ℕ). IsChain nodes (node_at nodes x).next t) same rest)

nothing : (nodes : List Node) (number : ℕ) (ps : List ℕ) → IsChain nodes number ps → number ≡ 0 → ps ≡ []
nothing nodes number [] chain e = refl
nothing nodes number (p ∷ ps) (is, low, rest) e = absurd (omega (arith, is, e))

-- ---- a node that is not in it is written

counted : (p q : ℕ) (ps : List ℕ) → count_by (nat_eq p) (q ∷ ps) ≡ cond (nat_eq p q) 1 0 + count_by (nat_eq p) ps
counted p q ps = sum_by-cons (λ (z : ℕ). cond (nat_eq p z) 1 0) q ps

counted_itself : (p : ℕ) (ps : List ℕ) → count_by (nat_eq p) (p ∷ ps) ≡ suc (count_by (nat_eq p) ps)
counted_itself p ps = (let z : cond {A = ℕ} (nat_eq p p) 1 0 ≡ 1 = ap (λ (b : Bool). cond {A = ℕ} b 1 0) (eq-eqb p p refl) in omega (arith, counted p p ps, z))

counted_other : (p q : ℕ) (ps : List ℕ) → (p ≡ q → ⊥) → count_by (nat_eq p) (q ∷ ps) ≡ count_by (nat_eq p) ps
counted_other p q ps ne = (let z : cond {A = ℕ} (nat_eq p q) 1 0 ≡ 0 = ap (λ (b : Bool). cond {A = ℕ} b 1 0) (ne_eqb p q ne) in omega (arith, counted p q ps, z))

other_head : (p q : ℕ) (ps : List ℕ) → count_by (nat_eq p) (q ∷ ps) ≡ 0 → q ≡ p → ⊥
other_head p q ps none e = omega (arith, counted_itself p ps, ap (λ (x : ℕ). count_by (nat_eq p) (x ∷ ps)) e, none)

other_rest : (p q : ℕ) (ps : List ℕ) → count_by (nat_eq p) (q ∷ ps) ≡ 0 → count_by (nat_eq p) ps ≡ 0
other_rest p q ps none = omega (arith, counted p q ps, none)

other_node : (nodes : List Node) (p q : ℕ) (x : Node) (ps : List ℕ) → count_by (nat_eq p) (q ∷ ps) ≡ 0 → node_at (set nodes p x) q ≡ node_at nodes q
other_node nodes p q x ps none = get_or-set_other nodes p q x (record { fact = 0; next = 0 }) (other_head p q ps none)

kept_chain : (nodes : List Node) (p number : ℕ) (x : Node) (ps : List ℕ) → count_by (nat_eq p) ps ≡ 0 → IsChain nodes number ps → IsChain (set nodes p x) number ps
kept_chain nodes p number x [] none chain = chain
kept_chain nodes p number x (q ∷ ps) none (is, low, rest) =
    (is, omega (arith, low, length-set nodes p x), subst (λ (n : Node). IsChain (set nodes p x) n.next ps) (sym (other_node nodes p q x ps none)) (kept_chain nodes p (node_at nodes q).next x ps (other_rest p q ps none) rest))

kept_facts : (nodes : List Node) (p : ℕ) (x : Node) (ps : List ℕ) → count_by (nat_eq p) ps ≡ 0 → facts_of (set nodes p x) ps ≡ facts_of nodes ps
kept_facts nodes p x [] none = refl
kept_facts nodes p x (q ∷ ps) none =
    ap (λ (n : Node). n.fact ∷ facts_of (set nodes p x) ps) (other_node nodes p q x ps none) ∙ ap (λ (fs : List ℕ). (node_at nodes q).fact ∷ fs) (kept_facts nodes p x ps (other_rest p q ps none))

-- ---- a node more

longer_chain : (nodes : List Node) (number : ℕ) (x : Node) (ps : List ℕ) → IsChain nodes number ps → IsChain (nodes ++ x ∷ []) number ps
longer_chain nodes number x [] chain = chain
longer_chain nodes number x (q ∷ ps) (is, low, rest) =
    (is, omega (arith, low, length_push nodes x), subst (λ (n : Node). IsChain (nodes ++ x ∷ []) n.next ps) (sym (get_or_append_left nodes (x ∷ []) (record { fact = 0; next = 0 }) q low)) (longer_chain nodes (node_at nodes q).next x ps rest))

longer_facts : (nodes : List Node) (number : ℕ) (x : Node) (ps : List ℕ) → IsChain nodes number ps → facts_of (nodes ++ x ∷ []) ps ≡ facts_of nodes ps
longer_facts nodes number x [] chain = refl
longer_facts nodes number x (q ∷ ps) (is, low, rest) =
    ap (λ (n : Node). n.fact ∷ facts_of (nodes ++ x ∷ []) ps) (get_or_append_left nodes (x ∷ []) (record { fact = 0; next = 0 }) q low) ∙ ap (λ (fs : List ℕ). (node_at nodes q).fact ∷ fs) (longer_facts nodes (node_at nodes q).next x ps rest)

-- no chain has a node past the end
past_none : (nodes : List Node) (number : ℕ) (ps : List ℕ) → IsChain nodes number ps → count_by (nat_eq (length nodes)) ps ≡ 0
past_none nodes number [] chain = refl
past_none nodes number (q ∷ ps) (is, low, rest) = counted_other (length nodes) q ps (λ e. omega (arith, e, low)) ∙ past_none nodes (node_at nodes q).next ps rest

-- ---- the chains

at_most : (f : List ℕ → ℕ) → f [] ≡ 0 → (xs : List (List ℕ)) (k : ℕ) → f (get_or xs k []) ≤ sum_by f xs
at_most f none xs k = elim (cases_lt k (length xs)) [
  | inl low ↦ get_or-le-sum_by f xs k [] low
  | inr past ↦ omega (arith, ap f (get_or_past xs k [] past), none)
]

all_zero : (f : List ℕ → ℕ) (xs : List (List ℕ)) → ((k : ℕ) → f (get_or xs k []) ≡ 0) → sum_by f xs ≡ 0
all_zero f [] none = refl
all_zero f (x ∷ xs) none = omega (arith, sum_by-cons f x xs, none 0, all_zero f xs (λ k. none (suc k)))

-- what a number stands for are the facts of its chain
held : (nodes : List Node) (numbers : List ℕ) (c : AreChains nodes numbers) (k : ℕ) → facts_from nodes (length nodes) (get_or numbers k 0) ≡ facts_of nodes (get_or c.places k [])
held nodes numbers c k = walked nodes (length nodes) (get_or numbers k 0) (get_or c.places k []) (c.each k) (omega (arith, at_most length refl c.places k, c.whole))

-- a number stands for a node that is there
pub there : (nodes : List Node) (numbers : List ℕ) → AreChains nodes numbers → (k : ℕ) → 0 < get_or numbers k 0 → get_or numbers k 0 - 1 < length nodes
there nodes numbers c k some = (top nodes (get_or numbers k 0 - 1) (get_or numbers k 0) (get_or c.places k []) (c.each k) (omega (arith, some))).2

pub list_is : (nodes : List Node) (heads : List ℕ) (k : ℕ) → list_at (lists_of nodes heads) k ≡ facts_from nodes (length nodes) (get_or heads k 0)
list_is nodes [] zero = sym (none_from nodes (length nodes))
list_is nodes [] (suc k) = sym (none_from nodes (length nodes))
list_is nodes (h ∷ heads) zero = refl
list_is nodes (h ∷ heads) (suc k) = go nodes (length nodes) heads k
  where
    go : (nodes : List Node) (most : ℕ) (heads : List ℕ) (k : ℕ) → get_or (map (facts_from nodes most) heads) k [] ≡ facts_from nodes most (get_or heads k 0)
    go nodes most [] zero = sym (none_from nodes most)
    go nodes most [] (suc k) = sym (none_from nodes most)
    go nodes most (h ∷ heads) zero = refl
    go nodes most (h ∷ heads) (suc k) = go nodes most heads k

pub empty_list : (nodes : List Node) (heads : List ℕ) (k : ℕ) → get_or heads k 0 ≡ 0 → list_at (lists_of nodes heads) k ≡ []
empty_list nodes heads k e = list_is nodes heads k ∙ ap (facts_from nodes (length nodes)) e ∙ none_from nodes (length nodes)

pub some_list : (nodes : List Node) (free : ℕ) (heads : List ℕ) → AreChains nodes (free ∷ heads) → (k : ℕ) → 0 < get_or heads k 0 → 0 < length (list_at (lists_of nodes heads) k)
some_list nodes free heads c k some =
    let t = top nodes (get_or heads k 0 - 1) (get_or heads k 0) (get_or c.places (suc k) []) (c.each (suc k)) (omega (arith, some)) in
    omega (arith, ap length (list_is nodes heads k ∙ held nodes (free ∷ heads) c (suc k) ∙ ap (facts_of nodes) t.1))

pub none_held : AreChains [] (0 ∷ [])
none_held = record {
  places = [] ∷ [];
  as_many = refl;
  each = each;
  once = λ p. (let z : sum_by (count_by (nat_eq p)) ([] ∷ []) ≡ 0 = refl in omega (arith, z));
  whole = (let z : sum_by (length {A = ℕ}) ([] ∷ []) ≡ 0 = refl in omega (arith, z));
}
  where
    each : (k : ℕ) → IsChain [] (get_or (0 ∷ []) k 0) (get_or ([] ∷ []) k [])
    each zero = refl
    each (suc zero) = refl
    each (suc (suc k)) = refl

-- ---- a number more, that stands for nothing

zero_more : (numbers : List ℕ) (k : ℕ) → get_or (numbers ++ 0 ∷ []) k 0 ≡ get_or numbers k 0
zero_more [] zero = refl
zero_more [] (suc k) = refl
zero_more (n ∷ numbers) zero = refl
zero_more (n ∷ numbers) (suc k) = zero_more numbers k

empty_more : (xs : List (List ℕ)) (k : ℕ) → get_or (xs ++ [] ∷ []) k [] ≡ get_or xs k []
empty_more [] zero = refl
empty_more [] (suc k) = refl
empty_more (x ∷ xs) zero = refl
empty_more (x ∷ xs) (suc k) = empty_more xs k

pub grown : (nodes : List Node) (numbers : List ℕ) → AreChains nodes numbers → AreChains nodes (numbers ++ 0 ∷ [])
grown nodes numbers c = record {
  places = c.places ++ [] ∷ [];
  as_many = omega (arith, length_push c.places [], length_push numbers 0, c.as_many);
  each = λ k. subst (λ (n : ℕ). IsChain nodes n (get_or (c.places ++ [] ∷ []) k [])) (sym (zero_more numbers k)) (subst (IsChain nodes (get_or numbers k 0)) (sym (empty_more c.places k)) (c.each k));
  once = λ p. (let z : count_by (nat_eq p) [] ≡ 0 = refl in omega (arith, sum_by_push (count_by (nat_eq p)) c.places [], c.once p, z));
  whole = omega (arith, sum_by_push length c.places [], c.whole);
}

pub grown_lists : (nodes : List Node) (heads : List ℕ) → lists_of nodes (heads ++ 0 ∷ []) ≡ lists_of nodes heads ++ [] ∷ []
grown_lists nodes heads = map-append (facts_from nodes (length nodes)) heads (0 ∷ []) ∙ ap (λ (l : List ℕ). lists_of nodes heads ++ l ∷ []) (none_from nodes (length nodes))

-- ---- a free node more

module _ (nodes : List Node) (x : Node) (free number : ℕ) (none : free ≡ 0) (last : x.next ≡ 0) (is : number ≡ length nodes + 1) (heads : List ℕ) (c : AreChains nodes (free ∷ heads)) where
  abbrev freed_n : ℕ
  freed_n = length nodes

  abbrev freed_more : List Node
  freed_more = nodes ++ x ∷ []

  abbrev freed_ps : List (List ℕ)
  freed_ps = set c.places 0 (freed_n ∷ [])

  freed_sums : (f : List ℕ → ℕ) → f [] ≡ 0 → sum_by f freed_ps ≡ sum_by f c.places + f (freed_n ∷ [])
  freed_sums f z = omega (arith, sum_by-set f c.places 0 (freed_n ∷ []) [] (omega (arith, c.as_many)), ap f (nothing nodes free (get_or c.places 0 []) (c.each 0) none), z)

  freed_others : (k : ℕ) → get_or freed_ps (suc k) [] ≡ get_or c.places (suc k) []
  freed_others k = get_or-set_other c.places 0 (suc k) (freed_n ∷ []) [] (λ e. omega (arith, e))

  freed_each : (k : ℕ) → IsChain freed_more (get_or (number ∷ heads) k 0) (get_or freed_ps k [])
  freed_each zero = subst (IsChain freed_more number) (sym (get_or-set_same c.places 0 (freed_n ∷ []) [] (omega (arith, c.as_many)))) (omega (arith, is), omega (arith, length_push nodes x), ap (λ (y : Node). y.next) (get_or_push nodes x (record { fact = 0; next = 0 }) freed_n refl) ∙ last)
  freed_each (suc k) = subst (IsChain freed_more (get_or heads k 0)) (sym (freed_others k)) (longer_chain nodes (get_or heads k 0) x (get_or c.places (suc k) []) (c.each (suc k)))

  freed_none_past : sum_by (count_by (nat_eq freed_n)) c.places ≡ 0
  freed_none_past = all_zero (count_by (nat_eq freed_n)) c.places (λ k. past_none nodes (get_or (free ∷ heads) k 0) (get_or c.places k []) (c.each k))

  freed_once : (p : ℕ) → sum_by (count_by (nat_eq p)) freed_ps ≤ 1
  freed_once p = elim (cases_eq p freed_n) [
    | inl e ↦ (let one : count_by (nat_eq freed_n) (freed_n ∷ []) ≡ 1 = counted_itself freed_n [] in
        subst (λ (q : ℕ). sum_by (count_by (nat_eq q)) freed_ps ≤ 1) (sym e) (omega (arith, freed_sums (count_by (nat_eq freed_n)) refl, freed_none_past, one)))
    | inr ne ↦ (let zero_there : count_by (nat_eq p) (freed_n ∷ []) ≡ 0 = counted_other p freed_n [] ne in omega (arith, freed_sums (count_by (nat_eq p)) refl, c.once p, zero_there))
  ]

  abbrev freed_chains : AreChains freed_more (number ∷ heads)
  freed_chains = record {
    places = freed_ps;
    as_many = length-set c.places 0 (freed_n ∷ []) ∙ c.as_many;
    each = freed_each;
    once = freed_once;
    whole = omega (arith, freed_sums length refl, c.whole, length_push nodes x);
  }

  freed_at : (k : ℕ) → list_at (lists_of freed_more heads) k ≡ list_at (lists_of nodes heads) k
  freed_at k = list_is freed_more heads k ∙ held freed_more (number ∷ heads) freed_chains (suc k) ∙ ap (facts_of freed_more) (freed_others k) ∙ longer_facts nodes (get_or heads k 0) x (get_or c.places (suc k) []) (c.each (suc k)) ∙ sym (held nodes (free ∷ heads) c (suc k)) ∙ sym (list_is nodes heads k)

  freed_same : lists_of freed_more heads ≡ lists_of nodes heads
  freed_same = ext_get_or [] (lists_of freed_more heads) (lists_of nodes heads) (length-map heads (facts_from freed_more (length freed_more)) ∙ sym (length-map heads (facts_from nodes freed_n))) (λ k low. freed_at k)

  kept_beside : AreChains (nodes ++ x ∷ []) (number ∷ heads) × (lists_of (nodes ++ x ∷ []) heads ≡ lists_of nodes heads)
  kept_beside = (freed_chains, freed_same)

pub freed : (nodes : List Node) (x : Node) (free number : ℕ) → free ≡ 0 → x.next ≡ 0 → number ≡ length nodes + 1 → KeepChains nodes free (nodes ++ x ∷ []) number
freed nodes x free number none last is heads c = kept_beside nodes x free number none last is heads c

-- ---- a node goes from one chain to another

abbrev next_of : List Node → ℕ → ℕ
next_of nodes p = (node_at nodes p).next

-- from the chain of one number to that of another
abbrev moved_nodes : List Node → List ℕ → ℕ → ℕ → ℕ → List Node
moved_nodes nodes numbers j p fact = set nodes p (record { fact = fact; next = get_or numbers j 0 })

abbrev moved_numbers : List Node → List ℕ → ℕ → ℕ → ℕ → ℕ → List ℕ
moved_numbers nodes numbers i j number p = set (set numbers i (next_of nodes p)) j number

abbrev facts_at : List Node → List ℕ → ℕ → List ℕ
facts_at nodes numbers k = facts_from nodes (length nodes) (get_or numbers k 0)

record Moves (nodes : List Node) (numbers : List ℕ) (i j number p fact : ℕ) : Type 0 where
  pub chains : AreChains (moved_nodes nodes numbers j p fact) (moved_numbers nodes numbers i j number p)
  pub from : facts_at nodes numbers i ≡ (node_at nodes p).fact ∷ facts_at (moved_nodes nodes numbers j p fact) (moved_numbers nodes numbers i j number p) i
  pub to : facts_at (moved_nodes nodes numbers j p fact) (moved_numbers nodes numbers i j number p) j ≡ fact ∷ facts_at nodes numbers j
  pub others : (k : ℕ) → (k ≡ i → ⊥) → (k ≡ j → ⊥) → facts_at (moved_nodes nodes numbers j p fact) (moved_numbers nodes numbers i j number p) k ≡ facts_at nodes numbers k

module _ (nodes : List Node) (numbers : List ℕ) (i j number p fact : ℕ) (c : AreChains nodes numbers) (apart : i ≡ j → ⊥) (low_i : i < length numbers) (low_j : j < length numbers) (next : number ≡ suc p) (is : get_or numbers i 0 ≡ number) where
  abbrev moved_x : Node
  moved_x = record { fact = fact; next = get_or numbers j 0 }

  abbrev moved_new : List Node
  moved_new = set nodes p moved_x

  abbrev moved_ns : List ℕ
  moved_ns = set (set numbers i (next_of nodes p)) j number

  abbrev moved_at_i : List ℕ
  moved_at_i = get_or c.places i []

  abbrev moved_at_j : List ℕ
  moved_at_j = get_or c.places j []

  abbrev moved_first : (t : List ℕ) × (moved_at_i ≡ p ∷ t) × (p < length nodes) × IsChain nodes (node_at nodes p).next t
  moved_first = top nodes p (get_or numbers i 0) moved_at_i (c.each i) (is ∙ next)

  abbrev moved_t : List ℕ
  moved_t = moved_first.0

  abbrev moved_ps : List (List ℕ)
  moved_ps = set (set c.places i moved_t) j (p ∷ moved_at_j)

  moved_other : j ≡ i → ⊥
  moved_other e = apart (sym e)

  moved_in_i : i < length c.places
  moved_in_i = omega (arith, low_i, c.as_many)

  moved_in_j : j < length (set c.places i moved_t)
  moved_in_j = omega (arith, low_j, c.as_many, length-set c.places i moved_t)

  moved_sums : (f : List ℕ → ℕ) (add : ℕ) → f (p ∷ moved_t) ≡ add + f moved_t → f (p ∷ moved_at_j) ≡ add + f moved_at_j → sum_by f moved_ps ≡ sum_by f c.places
  moved_sums f add e g = omega (arith, e, g, ap f moved_first.1, sum_by-set f c.places i moved_t [] moved_in_i, sum_by-set f (set c.places i moved_t) j (p ∷ moved_at_j) [] moved_in_j, ap f (get_or-set_other c.places i j moved_t [] moved_other))

  moved_not_in_rest : count_by (nat_eq p) moved_t ≡ 0
  moved_not_in_rest = omega (arith, counted_itself p moved_t, ap (count_by (nat_eq p)) moved_first.1, c.once p, at_most (count_by (nat_eq p)) refl c.places i)

  moved_not_in : (k : ℕ) → (k ≡ i → ⊥) → count_by (nat_eq p) (get_or c.places k []) ≡ 0
  moved_not_in k ne = (let z : count_by (nat_eq p) [] ≡ 0 = refl in
      omega (arith, z, counted_itself p moved_t, ap (count_by (nat_eq p)) moved_first.1, c.once p, sum_by-set (count_by (nat_eq p)) c.places i [] [] moved_in_i, at_most (count_by (nat_eq p)) refl (set c.places i []) k, ap (count_by (nat_eq p)) (get_or-set_other c.places i k [] [] ne)))

  moved_in_new : p < length moved_new
  moved_in_new = omega (arith, moved_first.2, length-set nodes p moved_x)

  moved_node : node_at moved_new p ≡ moved_x
  moved_node = get_or-set_same nodes p moved_x (record { fact = 0; next = 0 }) moved_first.2

  moved_ps_j : get_or moved_ps j [] ≡ p ∷ moved_at_j
  moved_ps_j = get_or-set_same (set c.places i moved_t) j (p ∷ moved_at_j) [] moved_in_j

  moved_ns_j : get_or moved_ns j 0 ≡ number
  moved_ns_j = get_or-set_same (set numbers i (next_of nodes p)) j number 0 (omega (arith, low_j, length-set numbers i (next_of nodes p)))

  moved_ps_i : get_or moved_ps i [] ≡ moved_t
  moved_ps_i = get_or-set_other (set c.places i moved_t) j i (p ∷ moved_at_j) [] apart ∙ get_or-set_same c.places i moved_t [] moved_in_i

  moved_ns_i : get_or moved_ns i 0 ≡ next_of nodes p
  moved_ns_i = get_or-set_other (set numbers i (next_of nodes p)) j i number 0 apart ∙ get_or-set_same numbers i (next_of nodes p) 0 low_i

  moved_ps_k : (k : ℕ) → (k ≡ i → ⊥) → (k ≡ j → ⊥) → get_or moved_ps k [] ≡ get_or c.places k []
  moved_ps_k k ne nf = get_or-set_other (set c.places i moved_t) j k (p ∷ moved_at_j) [] nf ∙ get_or-set_other c.places i k moved_t [] ne

  moved_ns_k : (k : ℕ) → (k ≡ i → ⊥) → (k ≡ j → ⊥) → get_or moved_ns k 0 ≡ get_or numbers k 0
  moved_ns_k k ne nf = get_or-set_other (set numbers i (next_of nodes p)) j k number 0 nf ∙ get_or-set_other numbers i k (next_of nodes p) 0 ne

  moved_chain_at : (k n : ℕ) (qs : List ℕ) → get_or moved_ns k 0 ≡ n → get_or moved_ps k [] ≡ qs → IsChain moved_new n qs → IsChain moved_new (get_or moved_ns k 0) (get_or moved_ps k [])
  moved_chain_at k n qs e f chain = subst (λ (m : ℕ). IsChain moved_new m (get_or moved_ps k [])) (sym e) (subst (IsChain moved_new n) (sym f) chain)

  moved_at_j_kept : IsChain moved_new (node_at moved_new p).next moved_at_j
  moved_at_j_kept = subst (λ (y : Node). IsChain moved_new y.next moved_at_j) (sym moved_node) (kept_chain nodes p (get_or numbers j 0) moved_x moved_at_j (moved_not_in j moved_other) (c.each j))

  moved_each : (k : ℕ) → IsChain moved_new (get_or moved_ns k 0) (get_or moved_ps k [])
  moved_each k = elim (cases_eq k j) [
    | inl e ↦ subst (λ (m : ℕ). IsChain moved_new (get_or moved_ns m 0) (get_or moved_ps m [])) (sym e) (moved_chain_at j number (p ∷ moved_at_j) moved_ns_j moved_ps_j (next, moved_in_new, moved_at_j_kept))
    | inr nf ↦ elim (cases_eq k i) [
      | inl e ↦ subst (λ (m : ℕ). IsChain moved_new (get_or moved_ns m 0) (get_or moved_ps m [])) (sym e) (moved_chain_at i (next_of nodes p) moved_t moved_ns_i moved_ps_i (kept_chain nodes p (next_of nodes p) moved_x moved_t moved_not_in_rest moved_first.3))
      | inr ne ↦ moved_chain_at k (get_or numbers k 0) (get_or c.places k []) (moved_ns_k k ne nf) (moved_ps_k k ne nf) (kept_chain nodes p (get_or numbers k 0) moved_x (get_or c.places k []) (moved_not_in k ne) (c.each k))
    ]
  ]

  abbrev moved_chains : AreChains moved_new moved_ns
  moved_chains = record {
    places = moved_ps;
    as_many = length-set (set c.places i moved_t) j (p ∷ moved_at_j) ∙ length-set c.places i moved_t ∙ c.as_many ∙ sym (length-set numbers i (next_of nodes p)) ∙ sym (length-set (set numbers i (next_of nodes p)) j number);
    each = moved_each;
    once = λ q. omega (arith, c.once q, moved_sums (count_by (nat_eq q)) (cond (nat_eq q p) 1 0) (counted q p moved_t) (counted q p moved_at_j));
    whole = omega (arith, c.whole, moved_sums length 1 (omega arith) (omega arith), length-set nodes p moved_x);
  }

  moved_from : facts_at nodes numbers i ≡ (node_at nodes p).fact ∷ facts_at moved_new moved_ns i
  moved_from = held nodes numbers c i ∙ ap (facts_of nodes) moved_first.1 ∙ ap (λ (fs : List ℕ). (node_at nodes p).fact ∷ fs) (sym (kept_facts nodes p moved_x moved_t moved_not_in_rest) ∙ sym (ap (facts_of moved_new) moved_ps_i) ∙ sym (held moved_new moved_ns moved_chains i))

  moved_to : facts_at moved_new moved_ns j ≡ fact ∷ facts_at nodes numbers j
  moved_to = held moved_new moved_ns moved_chains j ∙ ap (facts_of moved_new) moved_ps_j ∙ ap (λ (y : Node). y.fact ∷ facts_of moved_new moved_at_j) moved_node ∙ ap (λ (fs : List ℕ). fact ∷ fs) (kept_facts nodes p moved_x moved_at_j (moved_not_in j moved_other) ∙ sym (held nodes numbers c j))

  moved_others : (k : ℕ) → (k ≡ i → ⊥) → (k ≡ j → ⊥) → facts_at moved_new moved_ns k ≡ facts_at nodes numbers k
  moved_others k ne nf = held moved_new moved_ns moved_chains k ∙ ap (facts_of moved_new) (moved_ps_k k ne nf) ∙ kept_facts nodes p moved_x (get_or c.places k []) (moved_not_in k ne) ∙ sym (held nodes numbers c k)

  moved : Moves nodes numbers i j number p fact
  moved = record { chains = moved_chains; from = moved_from; to = moved_to; others = moved_others }

-- lists that differ at one place at most
set_there : (ls ms : List (List ℕ)) (place : ℕ) → length ms ≡ length ls → place < length ls → ((k : ℕ) → (k ≡ place → ⊥) → list_at ms k ≡ list_at ls k) → ms ≡ set ls place (list_at ms place)
set_there ls ms place long low others = ext_get_or [] ms (set ls place (list_at ms place)) (long ∙ sym (length-set ls place (list_at ms place))) (λ k below. elim (cases_eq k place) [
  | inl e ↦ ap (list_at ms) e ∙ sym (get_or-set_same ls place (list_at ms place) [] low) ∙ ap (list_at (set ls place (list_at ms place))) (sym e)
  | inr ne ↦ others k ne ∙ sym (get_or-set_other ls place k (list_at ms place) [] ne)
])

as_long : (nodes new : List Node) (heads numbers : List ℕ) → length numbers ≡ length heads → length (lists_of new numbers) ≡ length (lists_of nodes heads)
as_long nodes new heads numbers e = length-map numbers (facts_from new (length new)) ∙ e ∙ sym (length-map heads (facts_from nodes (length nodes)))

-- the first free node, x, is put in front of the chain of a place, that begins with h
abbrev IsPut : List Node → ℕ → List ℕ → ℕ → ℕ → Node → ℕ → Type 0
IsPut nodes number heads place fact x h =
    AreChains (set nodes (number - 1) (record { fact = fact; next = h })) (x.next ∷ set heads place number)
    × (lists_of (set nodes (number - 1) (record { fact = fact; next = h })) (set heads place number) ≡ set (lists_of nodes heads) place (fact ∷ list_at (lists_of nodes heads) place))

module _ (nodes : List Node) (number : ℕ) (heads : List ℕ) (place fact : ℕ) (c : AreChains nodes (number ∷ heads)) (some : 0 < number) (low : place < length heads) where
  abbrev put_m : Moves nodes (number ∷ heads) 0 (suc place) number (number - 1) fact
  put_m = moved nodes (number ∷ heads) 0 (suc place) number (number - 1) fact c (λ e. omega (arith, e)) (omega arith) (omega (arith, low)) (omega (arith, some)) refl

  abbrev put_new : List Node
  put_new = set nodes (number - 1) (record { fact = fact; next = get_or heads place 0 })

  abbrev put_numbers : List ℕ
  put_numbers = set heads place number

  abbrev put_ls : List (List ℕ)
  put_ls = lists_of nodes heads

  abbrev put_ms : List (List ℕ)
  put_ms = lists_of put_new put_numbers

  put_in_ls : place < length put_ls
  put_in_ls = omega (arith, low, length-map heads (facts_from nodes (length nodes)))

  put_here : list_at put_ms place ≡ fact ∷ list_at put_ls place
  put_here = list_is put_new put_numbers place ∙ put_m.to ∙ ap (λ (fs : List ℕ). fact ∷ fs) (sym (list_is nodes heads place))

  put_others : (k : ℕ) → (k ≡ place → ⊥) → list_at put_ms k ≡ list_at put_ls k
  put_others k ne = list_is put_new put_numbers k ∙ put_m.others (suc k) (λ e. omega (arith, e)) (λ e. ne (omega (arith, e))) ∙ sym (list_is nodes heads k)

  put_there : IsPut nodes number heads place fact (node_at nodes (number - 1)) (get_or heads place 0)
  put_there = (put_m.chains, set_there put_ls put_ms place (as_long nodes put_new heads put_numbers (length-set heads place number)) put_in_ls put_others ∙ ap (set put_ls place) put_here)

pub is_put : (nodes : List Node) (number : ℕ) (heads : List ℕ) (place fact : ℕ) (x : Node) (h : ℕ) → AreChains nodes (number ∷ heads) → 0 < number → place < length heads → x ≡ node_at nodes (number - 1) → h ≡ get_or heads place 0 → IsPut nodes number heads place fact x h
is_put nodes number heads place fact x h c some low e f =
    subst (λ (y : Node). IsPut nodes number heads place fact y h) (sym e)
    (subst (λ (n : ℕ). IsPut nodes number heads place fact (node_at nodes (number - 1)) n) (sym f) (put_there nodes number heads place fact c some low))

-- the first node of the chain of a place, x, is free then
abbrev IsTaken : List Node → ℕ → List ℕ → ℕ → ℕ → Node → Type 0
IsTaken nodes free heads place number x =
    AreChains (set nodes (number - 1) (record { fact = 0; next = free })) (number ∷ set heads place x.next)
    × (lists_of (set nodes (number - 1) (record { fact = 0; next = free })) (set heads place x.next) ≡ set (lists_of nodes heads) place (list_at (lists_of (set nodes (number - 1) (record { fact = 0; next = free })) (set heads place x.next)) place))
    × (list_at (lists_of nodes heads) place ≡ x.fact ∷ list_at (lists_of (set nodes (number - 1) (record { fact = 0; next = free })) (set heads place x.next)) place)

module _ (nodes : List Node) (free : ℕ) (heads : List ℕ) (place number : ℕ) (c : AreChains nodes (free ∷ heads)) (is : get_or heads place 0 ≡ number) (some : 0 < number) (low : place < length heads) where
  abbrev taken_m : Moves nodes (free ∷ heads) (suc place) 0 number (number - 1) 0
  taken_m = moved nodes (free ∷ heads) (suc place) 0 number (number - 1) 0 c (λ e. omega (arith, e)) (omega (arith, low)) (omega arith) (omega (arith, some)) is

  abbrev taken_new : List Node
  taken_new = set nodes (number - 1) (record { fact = 0; next = free })

  abbrev taken_numbers : List ℕ
  taken_numbers = set heads place (next_of nodes (number - 1))

  abbrev taken_ls : List (List ℕ)
  taken_ls = lists_of nodes heads

  abbrev taken_ms : List (List ℕ)
  taken_ms = lists_of taken_new taken_numbers

  taken_in_ls : place < length taken_ls
  taken_in_ls = omega (arith, low, length-map heads (facts_from nodes (length nodes)))

  taken_others : (k : ℕ) → (k ≡ place → ⊥) → list_at taken_ms k ≡ list_at taken_ls k
  taken_others k ne = list_is taken_new taken_numbers k ∙ taken_m.others (suc k) (λ e. ne (omega (arith, e))) (λ e. omega (arith, e)) ∙ sym (list_is nodes heads k)

  taken : IsTaken nodes free heads place number (node_at nodes (number - 1))
  taken = (taken_m.chains, set_there taken_ls taken_ms place (as_long nodes taken_new heads taken_numbers (length-set heads place (next_of nodes (number - 1)))) taken_in_ls taken_others, list_is nodes heads place ∙ taken_m.from ∙ ap (λ (fs : List ℕ). (node_at nodes (number - 1)).fact ∷ fs) (sym (list_is taken_new taken_numbers place)))

pub is_taken : (nodes : List Node) (free : ℕ) (heads : List ℕ) (place number : ℕ) (x : Node) → AreChains nodes (free ∷ heads) → get_or heads place 0 ≡ number → 0 < number → place < length heads → x ≡ node_at nodes (number - 1) → IsTaken nodes free heads place number x
is_taken nodes free heads place number x c is some low e = subst (IsTaken nodes free heads place number) (sym e) (taken nodes free heads place number c is some low)
