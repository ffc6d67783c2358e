-- Relations that agree on the numbers of names have the same texts.
use Rattle.std.proofs.Common.{◌≡◌, ℕ, zero, suc, ◌+◌, ◌<◌, ◌≤◌, List, [], ◌∷◌, ◌++◌, length, get_or, Bool, true, false, not, cond, ◌&&◌, ◌||◌, if◌then◌else◌, All, refl, ap, ap₂, ◌∙◌, arith, filter, flat_map, codes}
use Rattle.std.specs.List.{list_any, range_with_len}
use Rattle.std.specs.declared.cmp.Ordering.{Ordering}
use Rattle.std.specs.Ordering.{is_lt}
use Rattle.std.proofs.lemmas.List.Elements.{All-nil, All-cons, All-head, All-tail, All-push, All-filter}
use Rattle.axioms.specs.Ontology.{name_at}
use Rattle.taxonomy.specs.Texts.{numbers_below, by_name, inserted, sorted, in_byte_order, is_same, group, firsts, groups, is_strictly_above, is_directly_above, listed, bracketed, group_line, line_feed, nothing_class, is_no_bottom, text_of_order, taxonomy_text, least_among, individual_line, instances_text}

-- ---- lists made of numbers below a bound

all_range : (a n b : ℕ) → a + n ≤ b → All (λ c. c < b) (range_with_len a n)
all_range a zero b h = All-nil (λ c. c < b)
all_range a (suc n) b h = All-cons (λ c. c < b) a (range_with_len (a + 1) n) (omega arith) (all_range (a + 1) n b (omega arith))

pub all_below : (n : ℕ) → All (λ c. c < n) (numbers_below n)
all_below n = all_range 0 n n (omega arith)

all_inserted : (P : ℕ → Type 0) (order : ℕ → ℕ → Ordering) (n : ℕ) (ms : List ℕ) → P n → All P ms → All P (inserted order n ms)
all_inserted P order n [] p h = All-cons P n [] p h
all_inserted P order n (m ∷ ms) p h =
    elim (is_lt (order m n)) as (λ b. All P (if b then m ∷ inserted order n ms else n ∷ m ∷ ms)) [
      | true ↦ All-cons P m (inserted order n ms) (All-head P m ms h) (all_inserted P order n ms p (All-tail P m ms h))
      | false ↦ All-cons P n (m ∷ ms) p h
    ]

all_sorted : (P : ℕ → Type 0) (order : ℕ → ℕ → Ordering) (ns : List ℕ) → All P ns → All P (sorted order ns)
all_sorted P order [] h = h
all_sorted P order (n ∷ ns) h = all_inserted P order n (sorted order ns) (All-head P n ns h) (all_sorted P order ns (All-tail P n ns h))

pub all_in_byte_order : (names : List (List ℕ)) → All (λ c. c < length names) (in_byte_order names)
all_in_byte_order names = all_sorted (λ c. c < length names) (by_name names) (numbers_below (length names)) (all_below (length names))

pub all_firsts : (P : ℕ → Type 0) (r : ℕ → ℕ → Bool) (before cs : List ℕ) → All P cs → All P (firsts r before cs)
all_firsts P r before [] h = h
all_firsts P r before (c ∷ cs) h =
    let rest = All-tail P c cs h in
    elim (list_any (is_same r c) before) as (λ b. All P (if b then firsts r before cs else c ∷ firsts r (before ++ c ∷ []) cs)) [
      | true ↦ all_firsts P r before cs rest
      | false ↦ All-cons P c (firsts r (before ++ c ∷ []) cs) (All-head P c cs h) (all_firsts P r (before ++ c ∷ []) cs rest)
    ]

-- ---- tests that agree on a list

pub same_filter : (p q : ℕ → Bool) (xs : List ℕ) → All (λ x. p x ≡ q x) xs → filter p xs ≡ filter q xs
same_filter p q [] h = refl
same_filter p q (x ∷ xs) h =
    let rest = same_filter p q xs (All-tail (λ x. p x ≡ q x) x xs h) in
    ap₂ (λ b ys. cond b (x ∷ ys) ys) (All-head (λ x. p x ≡ q x) x xs h) rest

pub same_any : (p q : ℕ → Bool) (xs : List ℕ) → All (λ x. p x ≡ q x) xs → list_any p xs ≡ list_any q xs
same_any p q [] h = refl
same_any p q (x ∷ xs) h = ap₂ (λ a b. a || b) (All-head (λ x. p x ≡ q x) x xs h) (same_any p q xs (All-tail (λ x. p x ≡ q x) x xs h))

pub same_flat_map : (f g : ℕ → List ℕ) (xs : List ℕ) → All (λ x. f x ≡ g x) xs → flat_map f xs ≡ flat_map g xs
same_flat_map f g [] h = refl
same_flat_map f g (x ∷ xs) h = ap₂ (λ a b. a ++ b) (All-head (λ x. f x ≡ g x) x xs h) (same_flat_map f g xs (All-tail (λ x. f x ≡ g x) x xs h))

-- ---- relations that agree below a bound

module _ (n : ℕ) (r s : ℕ → ℕ → Bool) (agree : (c d : ℕ) → c < n → d < n → r c d ≡ s c d) where
  agree_same : (c d : ℕ) → c < n → d < n → is_same r c d ≡ is_same s c d
  agree_same c d lc ld = ap₂ (λ a b. a && b) (agree c d lc ld) (agree d c ld lc)

  agree_strictly : (g h : ℕ) → g < n → h < n → is_strictly_above r g h ≡ is_strictly_above s g h
  agree_strictly g h lg lh = ap₂ (λ a b. a && not b) (agree g h lg lh) (agree h g lh lg)

  agree_directly : (g h : ℕ) → g < n → h < n → is_directly_above r n g h ≡ is_directly_above s n g h
  agree_directly g h lg lh =
      ap₂ (λ a b. a && not b) (agree_strictly g h lg lh)
      (same_any _ _ (numbers_below n) (λ k d l. ap₂ (λ a b. a && b) (agree_strictly g _ lg (all_below n k d l)) (agree_strictly _ h (all_below n k d l) lh)))

  agree_firsts : (before cs : List ℕ) → All (λ c. c < n) before → All (λ c. c < n) cs → firsts r before cs ≡ firsts s before cs
  agree_firsts before [] hb hc = refl
  agree_firsts before (c ∷ cs) hb hc =
      let lc = All-head (λ c. c < n) c cs hc in
      let rest = All-tail (λ c. c < n) c cs hc in
      let more = All-push (λ c. c < n) before c hb lc in
      let tested : list_any (is_same r c) before ≡ list_any (is_same s c) before = same_any _ _ before (λ k d h. agree_same c _ lc (hb k d h)) in
      ap (λ b. cond b (firsts r before cs) (c ∷ firsts r (before ++ c ∷ []) cs)) tested
      ∙ ap₂ (λ xs ys. cond (list_any (is_same s c) before) xs (c ∷ ys)) (agree_firsts before cs hb rest) (agree_firsts (before ++ c ∷ []) cs more rest)

  agree_least : (p q : ℕ → Bool) → ((c : ℕ) → c < n → p c ≡ q c) → (g : ℕ) → g < n → least_among n r p g ≡ least_among n s q g
  agree_least p q same g lg =
      ap₂ (λ x y. x && not y) (same g lg)
      (same_any _ _ (numbers_below n) (λ k d l. ap₂ (λ x y. x && y) (same _ (all_below n k d l)) (agree_strictly _ g (all_below n k d l) lg)))

  module _ (all : List ℕ) (bounded : All (λ c. c < n) all) where
    agree_group : (c : ℕ) → c < n → group r all c ≡ group s all c
    agree_group c l = same_filter _ _ all (λ k d h. agree_same c _ l (bounded k d h))

    agree_groups : groups r all ≡ groups s all
    agree_groups = agree_firsts [] all (All-nil (λ c. c < n)) bounded

    bounded_groups : All (λ c. c < n) (groups s all)
    bounded_groups = all_firsts (λ c. c < n) s [] all bounded

    -- a test of the groups
    agree_filter : (p q : ℕ → Bool) → ((g : ℕ) → g < n → p g ≡ q g) → filter p (groups r all) ≡ filter q (groups s all)
    agree_filter p q same = ap (filter p) agree_groups ∙ same_filter p q (groups s all) (λ k d h. same _ (bounded_groups k d h))

-- ---- the texts

agree_line : (names : List (List ℕ)) (r s : ℕ → ℕ → Bool) → ((c d : ℕ) → c < length names → d < length names → r c d ≡ s c d) → (all : List ℕ) → All (λ c. c < length names) all → (g : ℕ) → g < length names → group_line names r all g ≡ group_line names s all g
agree_line names r s agree all bounded g l =
    ap₂ (λ xs ys. listed names [] (codes " = ") xs ++ listed names (codes " < ") (codes " , ") ys ++ line_feed)
    (agree_group (length names) r s agree all bounded g l)
    (agree_filter (length names) r s agree all bounded _ _ (λ h lh. agree_directly (length names) r s agree g h l lh))

agree_order : (names : List (List ℕ)) → 1 < length names → (r s : ℕ → ℕ → Bool) → ((c d : ℕ) → c < length names → d < length names → r c d ≡ s c d) → (all : List ℕ) → All (λ c. c < length names) all → text_of_order names r all ≡ text_of_order names s all
agree_order names two r s agree all bounded =
    let n = length names in
    let shown = filter (is_no_bottom s) (groups s all) in
    let shown_bounded = All-filter (is_no_bottom s) (λ c. c < n) (groups s all) (bounded_groups n r s agree all bounded) in
    let same_shown = agree_filter n r s agree all bounded (is_no_bottom r) (is_no_bottom s) (λ g l. ap not (agree_same n r s agree g nothing_class l two)) in
    let lines =
    ap (flat_map (group_line names r all)) same_shown
    ∙ same_flat_map (group_line names r all) (group_line names s all) shown (λ k d h. agree_line names r s agree all bounded _ (shown_bounded k d h)) in
    ap₂ (λ xs ys. codes "eltax 1 consistent" ++ line_feed ++ xs ++ listed names (codes "bottom ") (codes " = ") ys ++ line_feed)
    lines (agree_group n r s agree all bounded nothing_class two)

pub same_taxonomy : (names : List (List ℕ)) → 1 < length names → (r s : ℕ → ℕ → Bool) → ((c d : ℕ) → c < length names → d < length names → r c d ≡ s c d) → taxonomy_text names r ≡ taxonomy_text names s
same_taxonomy names two r s agree = agree_order names two r s agree (in_byte_order names) (all_in_byte_order names)

pub same_instances : (classes individuals : List (List ℕ)) (r s : ℕ → ℕ → Bool) (p q : ℕ → ℕ → Bool) → ((c d : ℕ) → c < length classes → d < length classes → r c d ≡ s c d) → ((a d : ℕ) → a < length individuals → d < length classes → p a d ≡ q a d) → instances_text classes individuals r p ≡ instances_text classes individuals s q
same_instances classes individuals r s p q agree same =
    let n = length classes in
    let all = in_byte_order classes in
    let line = λ (a : ℕ) (xs : List ℕ). bracketed (name_at individuals a) ++ listed classes (codes " : ") (codes " , ") xs ++ line_feed in
    ap (λ xs. codes "elinst 1 consistent" ++ line_feed ++ xs)
    (same_flat_map (individual_line classes individuals r p) (individual_line classes individuals s q) (in_byte_order individuals)
    (λ k d h. ap (line (get_or (in_byte_order individuals) k d))
    (agree_filter n r s agree all (all_in_byte_order classes) _ _ (λ g l. agree_least n r s agree (p _) (q _) (λ c lc. same _ c (all_in_byte_order individuals k d h) lc) g l))))
