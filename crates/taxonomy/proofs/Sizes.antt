-- What is strictly above a class has fewer superclasses, and what is above a class that is above another is above that.
use Rattle.std.proofs.Common.{◌≡◌, ℕ, ◌<◌, ◌≤◌, List, [], ◌∷◌, ◌++◌, length, get_or, Bool, true, false, not, eqb, ltb, ◌&&◌, ◌||◌, take, refl, sym, ap, ap₂, ◌∙◌, ⊎_elim, arith}
use Rattle.std.specs.List.{filter, list_any}
use Rattle.std.specs.Prelude.{◌==◌}
use Rattle.std.proofs.lemmas.List.{take_all}
use Rattle.std.proofs.lemmas.Bool.{and_from, and_parts, both_ways, cases_eq, cases_lt, eq-eqb, false_from_ne_true, false≢true, le-ltb, lt-ltb, ne_eqb, not-false, not-true, not_from_false}
use Rattle.std.proofs.lemmas.List.Folds.{list_any-append, list_any_none}
use Rattle.number_sets.specs.Pieces.{list_at}
use Rattle.taxonomy.specs.Texts.{is_same, is_strictly_above}
use Rattle.taxonomy.specs.Relation.{is_listed, lies_below, IsPreorder}
use Rattle.taxonomy.specs.Superclasses.{is_among, is_as_large, is_larger, rows_of, AreSets, AreSuperclasses}
use Rattle.taxonomy.proofs.Within.{length_within, all_within}
use Rattle.taxonomy.proofs.Once.{at_one}
use Rattle.taxonomy.proofs.Told.{at_beyond, length-rows, told}

pub and_same : (b x y : Bool) → (b ≡ true → x ≡ y) → (b && x) ≡ (b && y)
and_same true x y h = h refl
and_same false x y h = refl

or_one : (a b : Bool) → (a || (b || false)) ≡ (a || b)
or_one true b = refl
or_one false true = refl
or_one false false = refl

and_comm : (a b : Bool) → (a && b) ≡ (b && a)
and_comm true true = refl
and_comm true false = refl
and_comm false true = refl
and_comm false false = refl

-- what is marked behind the loop over a class's superclasses, where t compares their numbers of superclasses
pub marked_by : (t : ℕ → Bool) (old now : Bool) (k i : ℕ) (items list : List ℕ) → items ≡ list → length items ≤ i
    → now ≡ (old || list_any (λ x. t x && (x == k)) (take i items)) → now ≡ (old || (is_among list k && t k))
marked_by t old now k i items list e l h =
    h
    ∙ ap (λ xs. old || list_any (λ x. t x && (x == k)) xs) (take_all i items l ∙ e)
    ∙ ap (λ b. old || b) (at_one t k list)

-- what was put behind the loop over a class's superclasses, where the test compares their numbers of superclasses
pub filtered_by : (test : ℕ → ℕ → Bool) (size own i : ℕ) (got items list : List ℕ) → size ≡ own → items ≡ list → length items ≤ i
    → got ≡ filter (λ h. test h size) (take i items) → got ≡ filter (λ h. test h own) list
filtered_by test size own i got items list es e l h = h ∙ ap₂ (λ n xs. filter (λ h. test h n) xs) es (take_all i items l ∙ e)

pub named : (lists : List (List ℕ)) (g h : ℕ) → is_listed lists g h ≡ true → g < length lists
named lists g h b = ⊎_elim (λ l. l) (λ l. absurd (false≢true (sym (ap (λ xs. is_among xs h) (at_beyond lists g l)) ∙ b))) (cases_lt g (length lists))

-- sets of superclasses whose rows are a preorder
pub preorder_listed : (lists : List (List ℕ)) (rows : List (List Bool)) → AreSets lists → rows_of lists ≡ rows → IsPreorder rows → AreSuperclasses lists
preorder_listed lists rows s e p =
    let n : length rows ≡ length lists = ap length (sym e) ∙ length-rows lists in
    let says : (c d : ℕ) → lies_below rows c d ≡ is_listed lists c d = λ c d. ap (λ r. lies_below r c d) (sym e) ∙ told lists s.within c d in
    record {
      sets = s;
      reflexive = λ c l. sym (says c c) ∙ p.reflexive c (omega (arith, n, l));
      transitive = λ c d f h g.
          let lc = named lists c d h in
          let ld = s.within c d h in
          let lf = s.within d f g in
          sym (says c f) ∙ p.transitive c d f (omega (arith, n, lc)) (omega (arith, n, ld)) (omega (arith, n, lf)) (says c d ∙ h) (says d f ∙ g);
    }

module _ (lists : List (List ℕ)) (s : AreSuperclasses lists) where
  not_longer : (g h : ℕ) → is_listed lists g h ≡ true → length (list_at lists h) ≤ length (list_at lists g)
  not_longer g h b = length_within (list_at lists h) (list_at lists g) (s.sets.once h) (λ z k. s.transitive g h z b k)

  same_by_size : (g h : ℕ) → is_listed lists g h ≡ true → not (is_listed lists h g) ≡ ltb (length (list_at lists h)) (length (list_at lists g))
  same_by_size g h b =
      let own = list_at lists g in
      let theirs = list_at lists h in
      ⊎_elim
      (λ l.
      ap not (false_from_ne_true (is_listed lists h g) (λ t. let k : length own ≤ length theirs = not_longer h g t in absurd (omega (arith, k, l))))
      ∙ sym (lt-ltb (length theirs) (length own) l))
      (λ l.
      ap not (all_within theirs own (s.sets.once h) (λ z k. s.transitive g h z b k) l g (s.reflexive g (named lists g h b)))
      ∙ sym (le-ltb (length theirs) (length own) l))
      (cases_lt (length theirs) (length own))

  -- by its number of superclasses a superclass is strictly above
  pub strictly_by_size : (g h : ℕ) → is_larger lists g h ≡ is_strictly_above (is_listed lists) g h
  strictly_by_size g h =
      and_same (is_listed lists g h) (ltb (length (list_at lists h)) (length (list_at lists g))) (not (is_listed lists h g)) (λ b. sym (same_by_size g h b))

  -- by its number of superclasses a superclass is in the same group
  pub group_by_size : (g h : ℕ) → is_as_large lists g h ≡ is_same (is_listed lists) g h
  group_by_size g h =
      let mine = length (list_at lists h) in
      let own = length (list_at lists g) in
      and_same (is_listed lists g h) (eqb mine own) (is_listed lists h g)
      (λ b.
      let size = same_by_size g h b in
      let low = not_longer g h b in
      ⊎_elim
      (λ e. eq-eqb mine own e ∙ sym (not-false (is_listed lists h g) (size ∙ le-ltb mine own (omega (arith, e)))))
      (λ ne. let l : mine < own = omega (arith, low, ne) in ne_eqb mine own ne ∙ sym (not-true (is_listed lists h g) (size ∙ lt-ltb mine own l)))
      (cases_eq mine own))

  pub same_comm : (g h : ℕ) → is_same (is_listed lists) g h ≡ is_same (is_listed lists) h g
  same_comm g h = and_comm (is_listed lists g h) (is_listed lists h g)

  -- what is strictly above a class is strictly above what lies below that class
  pub strict_chain : (j c k : ℕ) → is_listed lists j c ≡ true → is_strictly_above (is_listed lists) c k ≡ true → is_strictly_above (is_listed lists) j k ≡ true
  strict_chain j c k h g =
      let b = and_parts (is_listed lists c k) (not (is_listed lists k c)) g in
      and_from (is_listed lists j k) (not (is_listed lists k j)) (s.transitive j c k h b.0)
      (not_from_false (is_listed lists k j) (false_from_ne_true (is_listed lists k j) (λ t. both_ways (is_listed lists k c) (not-true (is_listed lists k c) b.1) (s.transitive k j c t h))))

  -- nothing lies below what is no class
  pub none_beyond : (h : ℕ) (xs : List ℕ) → length lists ≤ h → list_any (λ k. is_strictly_above (is_listed lists) k h) xs ≡ false
  none_beyond h xs l =
      list_any_none (λ k. is_strictly_above (is_listed lists) k h) xs
      (λ i d m.
      let k = get_or xs i d in
      ap (λ b. b && not (is_listed lists h k)) (false_from_ne_true (is_listed lists k h) (λ t. let w = s.sets.within k h t in absurd (omega (arith, w, l)))))

  -- one more group is marked
  pub grouped_more : (g k : ℕ) (old now : Bool) (found : List ℕ) → old ≡ list_any (is_same (is_listed lists) k) found → now ≡ (old || is_as_large lists g k) → now ≡ list_any (is_same (is_listed lists) k) (found ++ g ∷ [])
  grouped_more g k old now found e h =
      h
      ∙ ap₂ (λ a b. a || b) e (group_by_size g k ∙ same_comm g k)
      ∙ sym (or_one (list_any (is_same (is_listed lists) k) found) (is_same (is_listed lists) k g))
      ∙ sym (list_any-append (is_same (is_listed lists) k) found (g ∷ []))
