-- The search keeps what it says of itself.
use Rattle.std.proofs.Common.{◌≡◌, ◌↔◌, ℕ, zero, suc, ◌+◌, ◌<◌, ◌≤◌, Bool, true, false, ◌⊎◌, inl, inr, List, [], ◌∷◌, ◌++◌, if◌then◌else◌, length, map, set, slice_get, Some, Contains, All, replicate, refl, sym, ap, ◌∙◌, subst, arith}
use Rattle.std.proofs.lemmas.Bool.{both_ways, cases_eq}
use Rattle.std.proofs.lemmas.List.{length_push, length-map, length-set, length-replicate}
use Rattle.std.proofs.lemmas.List.Elements.{All-contains}
use Rattle.std.proofs.lemmas.Option.{none-some, same_Some, slice_get_within}
use Rattle.lemmas.proofs.Mapped.{slice_get_map_from}
use Rattle.lemmas.proofs.Members.{Contains-first, Contains-none, Contains-later, Contains-cons_cases}
use Rattle.lemmas.proofs.Places.{slice_get_push, slice_get_push_cases, keeps_push}
use Rattle.number_sets.specs.Members.{has}
use Rattle.number_sets.specs.Pieces.{list_at}
use Rattle.number_sets.specs.Search.{LeadsTo, itself, onward, IsBounded, StandsAt, IsWay, first, step, AreWays, AreFound, Search, with_number, with_starts, with_steps}
use Rattle.number_sets.proofs.Members.{has_within, has_none, has_set_same, has_set_grows, has_set_cases, length-le_from_below}

-- ---- where numbers stand

stands_still : {F : Type 0} (number : F → ℕ) (found : List F) (x : F) (d k : ℕ) → StandsAt number found d k → StandsAt number (found ++ x ∷ []) d k
stands_still number found x d k s = (s.0, keeps_push found x k s.0 s.1, s.2)

stands_new : {F : Type 0} (number : F → ℕ) (found : List F) (x : F) → StandsAt number (found ++ x ∷ []) (number x) (length found)
stands_new number found x = (x, slice_get_push found x, refl)

stands_cases : {F : Type 0} (number : F → ℕ) (found : List F) (x : F) (d k : ℕ) → StandsAt number (found ++ x ∷ []) d k → StandsAt number found d k ⊎ ((k ≡ length found) × (number x ≡ d))
stands_cases number found x d k s = elim (slice_get_push_cases found x k s.0 s.1) [
  | inl g ↦ inl (s.0, g, s.2)
  | inr e ↦ inr (e.0, ap number e.1 ∙ s.2)
]

module _ {T F : Type 0} (number : F → ℕ) (target : T → ℕ) (by : T → ℕ → F) (starts : List F) (lists : List (List T)) where
  -- a way stays one when the list grows
  way_kept : (found : List F) (x : F) (place : ℕ) (y : F) → IsWay number by starts lists found place y → IsWay number by starts lists (found ++ x ∷ []) place y
  way_kept found x place y (first _ c) = first y c
  way_kept found x place _ (step from b t low at tells) = step from b t low (keeps_push found x from b at) tells

  -- numbers were found in these ways, list and set agree, and what the lists of those before a place lead to was found too
  pub record IsSearch (next : ℕ) (f : Search F) : Type 0 where
    pub wide : length f.seen ≡ length lists
    pub reached : next ≤ length f.found
    pub marked : (k : ℕ) (x : F) → slice_get f.found k ≡ Some x → has f.seen (number x) ≡ true
    pub listed : (d : ℕ) → has f.seen d ≡ true → (k : ℕ) × StandsAt number f.found d k
    pub distinct : (m n d : ℕ) → StandsAt number f.found d m → StandsAt number f.found d n → m ≡ n
    pub ways : AreWays number by starts lists f.found
    pub closed : (k : ℕ) (b : F) (t : T) → k < next → slice_get f.found k ≡ Some b → Contains (list_at lists (number b)) t → has f.seen (target t) ≡ true

  -- all of the first were found too
  pub record IsSearchFrom (next : ℕ) (f : Search F) : Type 0 where
    pub search : IsSearch next f
    pub begun : (x : F) → Contains starts x → has f.seen (number x) ≡ true

  grown : (next : ℕ) (f : Search F) (x : F) → IsSearch next f → number x < length lists → IsWay number by starts lists f.found (length f.found) x → has f.seen (number x) ≡ false
      → IsSearch next (record { found = f.found ++ x ∷ []; seen = set f.seen (number x) true })
  grown next f x w within way new = record {
    wide = length-set f.seen d true ∙ w.wide;
    reached = omega (arith, w.reached, length_push f.found x);
    marked = λ k y g. elim (slice_get_push_cases f.found x k y g) [
      | inl h ↦ has_set_grows f.seen d (number y) (w.marked k y h)
      | inr h ↦ subst (λ (z : F). has (set f.seen d true) (number z) ≡ true) h.1 here
    ];
    listed = λ e h. elim (has_set_cases f.seen d e h) [
      | inl i ↦ (length f.found, subst (λ (n : ℕ). StandsAt number (f.found ++ x ∷ []) n (length f.found)) (sym i) (stands_new number f.found x))
      | inr old ↦ let p = w.listed e old in (p.0, stands_still number f.found x e p.0 p.1)
    ];
    distinct = λ m n e s t. elim (stands_cases number f.found x e m s) [
      | inl a ↦ elim (stands_cases number f.found x e n t) [
        | inl b ↦ w.distinct m n e a b
        | inr b ↦ absurd (twice m (subst (λ (i : ℕ). StandsAt number f.found i m) (sym b.1) a))
      ]
      | inr a ↦ elim (stands_cases number f.found x e n t) [
        | inl b ↦ absurd (twice n (subst (λ (i : ℕ). StandsAt number f.found i n) (sym a.1) b))
        | inr b ↦ a.0 ∙ sym b.0
      ]
    ];
    ways = λ k y g. elim (slice_get_push_cases f.found x k y g) [
      | inl h ↦ way_kept f.found x k y (w.ways k y h)
      | inr h ↦
          way_kept f.found x k y
          (subst (λ (z : F). IsWay number by starts lists f.found k z) h.1 (subst (λ (n : ℕ). IsWay number by starts lists f.found n x) (sym h.0) way))
    ];
    closed = λ k b t l g tells. has_set_grows f.seen d (target t) (w.closed k b t l (elim (slice_get_push_cases f.found x k b g) [
      | inl h ↦ h
      | inr h ↦ absurd (omega (arith, h.0, l, w.reached))
    ]) tells);
  }
    where
      d : ℕ
      d = number x

      here : has (set f.seen (number x) true) (number x) ≡ true
      here = has_set_same f.seen (number x) (omega (arith, within, w.wide))

      twice : (k : ℕ) → StandsAt number f.found (number x) k → ⊥
      twice k s = both_ways (has f.seen (number x)) new (subst (λ (n : ℕ). has f.seen n ≡ true) s.2 (w.marked k s.0 s.1))

  -- what a step keeps, and that the set only grows
  record Goes (next : ℕ) (f g : Search F) : Type 0 where
    search : IsSearch next g
    grows : (d : ℕ) → has f.seen d ≡ true → has g.seen d ≡ true
    keeps : (k : ℕ) (b : F) → slice_get f.found k ≡ Some b → slice_get g.found k ≡ Some b
    longer : length f.found ≤ length g.found

  goes_nowhere : (next : ℕ) (f : Search F) → IsSearch next f → Goes next f f
  goes_nowhere next f w = record { search = w; grows = λ d h. h; keeps = λ k b h. h; longer = omega arith }

  goes_on : (next : ℕ) (f g h : Search F) → Goes next f g → Goes next g h → Goes next f h
  goes_on next f g h p q = record {
    search = q.search;
    grows = λ d i. q.grows d (p.grows d i);
    keeps = λ k b i. q.keeps k b (p.keeps k b i);
    longer = omega (arith, p.longer, q.longer);
  }

  one_more : (next : ℕ) (f : Search F) (x : F) → IsSearch next f → number x < length lists → IsWay number by starts lists f.found (length f.found) x
      → Goes next f (with_number f (number x) x) × (has (with_number f (number x) x).seen (number x) ≡ true)
  one_more next f x w within way = go (has f.seen (number x)) refl
    where
      go : (b : Bool) → has f.seen (number x) ≡ b
          → Goes next f (if b then f else record { found = f.found ++ x ∷ []; seen = set f.seen (number x) true })
          × (has (if b then f else record { found = f.found ++ x ∷ []; seen = set f.seen (number x) true }).seen (number x) ≡ true)
      go true e = (goes_nowhere next f w, e)
      go false e = (
        record {
          search = grown next f x w within way e;
          grows = λ d h. has_set_grows f.seen (number x) d h;
          keeps = λ k b h. keeps_push f.found x k b h;
          longer = omega (arith, length_push f.found x);
        },
        has_set_same f.seen (number x) (omega (arith, within, w.wide)),
      )

  -- the first are found
  begins : (xs : List F) (f : Search F) → IsSearch 0 f → ((x : F) → Contains xs x → Contains starts x × (number x < length lists))
      → Goes 0 f (with_starts number f xs) × ((x : F) → Contains xs x → has (with_starts number f xs).seen (number x) ≡ true)
  begins [] f w within = (goes_nowhere 0 f w, λ x h. absurd (Contains-none x h))
  begins (x ∷ xs) f w within =
      let one = within x (Contains-first x xs) in
      let p = one_more 0 f x w one.1 (first x one.0) in
      let q = begins xs (with_number f (number x) x) p.0.search (λ y h. within y (Contains-later x y xs h)) in (
        goes_on 0 f (with_number f (number x) x) (with_starts number f (x ∷ xs)) p.0 q.0,
        λ y h. elim (Contains-cons_cases x y xs h) [
          | inl e ↦ subst (λ (z : F). has (with_starts number f (x ∷ xs)).seen (number z) ≡ true) e (q.0.grows (number x) p.1)
          | inr e ↦ q.1 y e
        ],
      )

  nothing : IsSearch 0 (record { found = []; seen = replicate (length lists) false })
  nothing = record {
    wide = length-replicate (length lists) false;
    reached = omega arith;
    marked = λ k x g. absurd (none-some x g);
    listed = λ d h. absurd (both_ways (has (replicate (length lists) false) d) (has_none (length lists) d) h);
    distinct = λ m n d s t. absurd (none-some s.0 s.1);
    ways = λ k x g. absurd (none-some x g);
    closed = λ k b t l g tells. absurd (omega (arith, l));
  }

  pub begun : (f g : Search F) (n : ℕ) → All (λ x. number x < length lists) starts → n ≡ length lists → f ≡ record { found = []; seen = replicate n false } → g ≡ with_starts number f starts → IsSearchFrom 0 g
  begun f g n within e empty is =
      let none : Search F = record { found = []; seen = replicate (length lists) false } in
      let q = begins starts none nothing (λ x h. (h, All-contains (λ x. number x < length lists) starts x within h)) in
      subst (IsSearchFrom 0) (sym (is ∙ ap (λ (s : Search F). with_starts number s starts) (empty ∙ ap (λ m. record { found = []; seen = replicate m false }) e)))
      (record { search = q.0.search; begun = q.1 })

  module _ (same_number : (t : T) (place : ℕ) → number (by t place) ≡ target t) (bounded : IsBounded target lists) where
    -- what the steps of a list lead to is found
    follows : (next : ℕ) (b : F) (ts : List T) (f : Search F) → IsSearch next f → slice_get f.found next ≡ Some b → ((t : T) → Contains ts t → Contains (list_at lists (number b)) t)
        → Goes next f (with_steps number by next f ts) × ((t : T) → Contains ts t → has (with_steps number by next f ts).seen (target t) ≡ true)
    follows next b [] f w here within = (goes_nowhere next f w, λ t h. absurd (Contains-none t h))
    follows next b (t ∷ ts) f w here within =
        let x : F = by t next in
        let tells = within t (Contains-first t ts) in
        let low : number x < length lists = omega (arith, same_number t next, bounded (number b) t tells) in
        let p = one_more next f x w low (step next b t (slice_get_within f.found next b here) here tells) in
        let q = follows next b ts (with_number f (number x) x) p.0.search (p.0.keeps next b here) (λ u h. within u (Contains-later t u ts h)) in (
          goes_on next f (with_number f (number x) x) (with_steps number by next f (t ∷ ts)) p.0 q.0,
          λ u h. elim (Contains-cons_cases t u ts h) [
            | inl e ↦ subst (λ (v : T). has (with_steps number by next f (t ∷ ts)).seen (target v) ≡ true) e (q.0.grows (target t) (subst (λ n. has (with_number f (number x) x).seen n ≡ true) (same_number t next) p.1))
            | inr e ↦ q.1 u e
          ],
        )

    pub followed : (next : ℕ) (b : F) (f : Search F) → IsSearchFrom next f → slice_get f.found next ≡ Some b → IsSearchFrom (next + 1) (with_steps number by next f (list_at lists (number b)))
    followed next b f from here =
        let q = follows next b (list_at lists (number b)) f from.search here (λ t h. h) in
        let g : Search F = with_steps number by next f (list_at lists (number b)) in
        let v = q.0.search in
        record {
          search = record {
            wide = v.wide;
            reached = omega (arith, slice_get_within f.found next b here, q.0.longer);
            marked = v.marked;
            listed = v.listed;
            distinct = v.distinct;
            ways = v.ways;
            closed = λ k a t l at tells. elim (cases_eq k next) [
              | inl e ↦
                  let same : b ≡ a = same_Some b a (sym (q.0.keeps next b here) ∙ subst (λ (n : ℕ). slice_get g.found n ≡ Some a) e at) in
                  q.1 t (subst (λ (y : F). Contains (list_at lists (number y)) t) (sym same) tells)
              | inr apart ↦ v.closed k a t (omega (arith, apart, l)) at tells
            ];
          };
          begun = λ x h. q.0.grows (number x) (from.begun x h);
        }

  -- at the end all of them were followed
  pub few : (next : ℕ) (f : Search F) → IsSearchFrom next f → length f.found ≤ length lists
  few next f from =
      omega (
        arith,
        length-map f.found number,
        length-le_from_below (map number f.found) (length lists) apart (λ k d g.
            let p = slice_get_map_from number f.found k d g in
            rw (← w.wide) (has_within f.seen d (subst (λ (n : ℕ). has f.seen n ≡ true) p.2 (w.marked k p.0 p.1)))),
      )
    where
      w : IsSearch next f
      w = from.search

      apart : (m n d : ℕ) → slice_get (map number f.found) m ≡ Some d → slice_get (map number f.found) n ≡ Some d → m ≡ n
      apart m n d g h = from.search.distinct m n d (slice_get_map_from number f.found m d g) (slice_get_map_from number f.found n d h)

  led_found : (next : ℕ) (f : Search F) → IsSearchFrom next f → length f.found ≤ next → (d : ℕ) → LeadsTo number target starts lists d → has f.seen d ≡ true
  led_found next f from done _ (itself x h) = from.begun x h
  led_found next f from done _ (onward b t leads tells) =
      let (k, (x, at, is)) = from.search.listed b (led_found next f from done b leads) in
      from.search.closed k x t (omega (arith, done, slice_get_within f.found k x at)) at (subst (λ (n : ℕ). Contains (list_at lists n) t) (sym is) tells)

  pub finished : (next : ℕ) (f : Search F) → IsSearchFrom next f → length f.found ≤ next → AreFound number target by starts lists f.found
  finished next f from done = record { ways = from.search.ways; all = λ d h. from.search.listed d (led_found next f from done d h) }

  module _ (same_number : (t : T) (place : ℕ) → number (by t place) ≡ target t) where
    -- what is found is led to
    pub led : (found : List F) → AreWays number by starts lists found → (place : ℕ) (x : F) → slice_get found place ≡ Some x → LeadsTo number target starts lists (number x)
    led found ways place x at = go (suc place) place x (omega arith) at
      where
        from_way : (n k : ℕ) (y : F) → k < suc n → ((j : ℕ) (z : F) → j < n → slice_get found j ≡ Some z → LeadsTo number target starts lists (number z))
            → IsWay number by starts lists found k y → LeadsTo number target starts lists (number y)
        from_way n k y low before (first _ c) = itself y c
        from_way n k _ low before (step from b t l at' tells) =
            subst (LeadsTo number target starts lists) (sym (same_number t from)) (onward (number b) t (before from b (omega (arith, low, l)) at') tells)

        go : (n k : ℕ) (y : F) → k < n → slice_get found k ≡ Some y → LeadsTo number target starts lists (number y)
        go zero k y low g = absurd (omega (arith, low))
        go (suc n) k y low g = from_way n k y low (λ j z l h. go n j z l h) (ways k y g)

    pub seen_led : (next : ℕ) (f : Search F) → IsSearchFrom next f → length f.found ≤ next → (d : ℕ) → (has f.seen d ≡ true) ↔ LeadsTo number target starts lists d
    seen_led next f from done d = (
      λ h. (let (k, (x, at, is)) = from.search.listed d h in subst (LeadsTo number target starts lists) is (led f.found from.search.ways k x at)),
      led_found next f from done d,
    )
