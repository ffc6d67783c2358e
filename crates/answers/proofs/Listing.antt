-- Lists of classes above those that are marked.
use Rattle.std.proofs.Common.{◌≡◌, ◌↔◌, ◌⊎◌, ◌∙◌, ◌<◌, ◌+◌, ℕ, List, [], ◌∷◌, ◌++◌, Bool, true, Some, Contains, inl, inr, ⊎_elim, length, take, slice_get, sym, ap, subst}
use Rattle.std.proofs.lemmas.List.{length-append}
use Rattle.std.proofs.lemmas.List.Elements.{Contains-append_left, Contains-append_right, Contains-append_cases}
use Rattle.std.proofs.lemmas.Option.{same_Some}
use Rattle.lemmas.proofs.Members.{Contains-first, Contains-none, Contains-one}
use Rattle.lemmas.proofs.Places.{take_push}
use Rattle.axioms.proofs.Trees.{one_class}
use Rattle.axioms.specs.Ontology.{Class, IsClassAt, Ontology}
use Rattle.axioms.specs.WellFormedness.{IsOntology}
use Rattle.axioms.specs.declared.ids.ExprId.{ExprId}
use Rattle.classification.proofs.Growing.{puts_below_once}
use Rattle.classification.specs.Lists.{AreListsBy, PutsBelow, SomeFact}
use Rattle.closure.proofs.Names.{expr_id}
use Rattle.facts.specs.declared.contexts.Context.TheVariants as contexts
use Rattle.facts.specs.declared.contexts.Fact.{Fact}
use Rattle.indexes.specs.FactIndex.{IsIn}
use Rattle.number_sets.proofs.Members.{each_more, has_within, nothing_past}
use Rattle.number_sets.specs.Pieces.{list_at}
use Rattle.saturate.specs.ServedFacts.{AreNumbersOf}
use Rattle.taxonomy.specs.Relation.{is_listed}
use Rattle.answers.specs.Names.{IsMarked}
use Rattle.answers.specs.Neighbours.{PutsMarked, PutsOneBelow}
use Rattle.answers.proofs.Grouping.{listed_is}

pub listed_within : (o : Ontology) → IsOntology o → (marks : List Bool) (facts : List Fact) (lists : List (List ℕ)) → AreListsBy (PutsMarked o marks) (length o.names.classes) facts lists
    → (c d : ℕ) → is_listed lists c d ≡ true → d < length o.names.classes
listed_within o w marks facts lists are c d listed =
    let (n, fact, at, puts) = (are.each c d).0 listed in
    w.nodes puts.1.1.0 (Class d) puts.1.4

-- ---- by the facts of some numbers

module _ (o : Ontology) (facts : List Fact) (numbers : List ℕ) (k n : ℕ) (fact : Fact) (at : slice_get numbers k ≡ Some n) (is : slice_get facts n ≡ Some fact)
    (old : List ℕ) (was : (d : ℕ) → Contains old d ↔ PutsOneBelow o facts (take k numbers) d) where
  one_more : take (k + 1) numbers ≡ take k numbers ++ n ∷ []
  one_more = take_push numbers k n at

  puts_more : (d : ℕ) → PutsOneBelow o facts (take (k + 1) numbers) d ↔ (PutsOneBelow o facts (take k numbers) d ⊎ ((c : ℕ) × PutsBelow o fact c d))
  puts_more d = (
    λ (m, f, c, there, is', puts). ⊎_elim
        (λ h. inl (m, f, c, h, is', puts))
        (λ h. inr (c, subst (λ (g : Fact). PutsBelow o g c d) (same_Some f fact (sym is' ∙ subst (λ (i : ℕ). slice_get facts i ≡ Some fact) (Contains-one n m h) is)) puts))
        (Contains-append_cases (take k numbers) (n ∷ []) m (subst (λ (l : List ℕ). Contains l m) one_more there)),
    λ h. ⊎_elim
        (λ (m, f, c, there, is', puts). (m, f, c, subst (λ (l : List ℕ). Contains l m) (sym one_more) (Contains-append_left (take k numbers) (n ∷ []) m there), is', puts))
        (λ (c, puts). (n, fact, c, subst (λ (l : List ℕ). Contains l n) (sym one_more) (Contains-append_right (take k numbers) (n ∷ []) n (Contains-first n [])), is, puts))
        h,
  )

  pub none_found : ((c d : ℕ) → PutsBelow o fact c d → ⊥) → (d : ℕ) → Contains old d ↔ PutsOneBelow o facts (take (k + 1) numbers) d
  none_found none d = (
    λ there. (puts_more d).1 (inl ((was d).0 there)),
    λ h. ⊎_elim (λ before. (was d).1 before) (λ (c, puts). absurd (none c d puts)) ((puts_more d).0 h),
  )

  pub one_found : (c e : ℕ) → PutsBelow o fact c e → (new : List ℕ) → new ≡ old ++ e ∷ [] → (d : ℕ) → Contains new d ↔ PutsOneBelow o facts (take (k + 1) numbers) d
  one_found c e puts new grown d = (
    λ there. (puts_more d).1 (⊎_elim
        (λ h. inl ((was d).0 h))
        (λ h. inr (c, subst (λ (x : ℕ). PutsBelow o fact c x) (Contains-one e d h) puts))
        (Contains-append_cases old (e ∷ []) d (subst (λ (l : List ℕ). Contains l d) grown there))),
    λ h. subst (λ (l : List ℕ). Contains l d) (sym grown) (⊎_elim
        (λ before. Contains-append_left old (e ∷ []) d ((was d).1 before))
        (λ (c', puts'). Contains-append_right old (e ∷ []) d (subst (Contains (e ∷ [])) (sym (puts_below_once o fact c e puts c' d puts').1) (Contains-first e [])))
        ((puts_more d).0 h)),
  )

-- ---- by the facts of one context

-- the facts of the context of a class put exactly those above one that any facts put above the class
pub above_by_context : (o : Ontology) → IsOntology o → (facts : List Fact) (class : ℕ) (e : ExprId) → IsClassAt o class e.0 → (numbers : List ℕ) → AreNumbersOf (IsIn (contexts.Expr e)) facts numbers
    → (d : ℕ) → PutsOneBelow o facts numbers d ↔ SomeFact facts (λ fact. PutsBelow o fact class d)
above_by_context o w facts class e at numbers are d = (
  λ (n, fact, c, there, is, puts).
      let (f, is', inside) = (are n).0 there in
      (n, fact, is, subst (λ (x : ℕ). PutsBelow o fact x d) (of_context c fact puts (subst (IsIn (contexts.Expr e)) (same_Some f fact (sym is' ∙ is)) inside)) puts),
  λ (n, fact, is, puts). (n, fact, class, (are n).1 (fact, is, in_context fact puts), is, puts),
)
  where
    of_context : (c : ℕ) (fact : Fact) → PutsBelow o fact c d → IsIn (contexts.Expr e) fact → c ≡ class
    of_context c fact (e', f, put, here, there) inside =
        let same : contexts.Expr e' ≡ contexts.Expr e = subst (IsIn (contexts.Expr e)) put inside in
        let alike : e' ≡ e = cc in
        one_class o c class e.0 (subst (λ (x : ExprId). IsClassAt o c x.0) alike here) at

    in_context : (fact : Fact) → PutsBelow o fact class d → IsIn (contexts.Expr e) fact
    in_context fact (e', f, put, here, there) =
        let alike : e' ≡ e = ap expr_id (w.distinct_nodes e'.0 e.0 (Class class) here at) in
        subst (IsIn (contexts.Expr e)) (sym put) (ap (λ (x : ExprId). contexts.Expr x) alike)

-- ---- class after class

-- the list has exactly the classes that a fact puts above the class, where it is marked
abbrev pub IsListOf : Ontology → List Bool → List Fact → ℕ → List ℕ → Type 0
IsListOf o marks facts c list = (d : ℕ) → Contains list d ↔ SomeFact facts (λ fact. PutsMarked o marks fact c d)

module _ (o : Ontology) (marks : List Bool) (facts : List Fact) where
  -- the lists of the first k classes
  abbrev pub AreFirstLists : ℕ → List (List ℕ) → Type 0
  AreFirstLists k lists = (length lists ≡ k) × ((c : ℕ) → c < k → IsListOf o marks facts c (list_at lists c))

  pub one_more_list : (k : ℕ) (old new : List (List ℕ)) (list : List ℕ) → AreFirstLists k old → new ≡ old ++ list ∷ [] → IsListOf o marks facts k list → AreFirstLists (k + 1) new
  one_more_list k old new list was grown last = subst (AreFirstLists (k + 1)) (sym grown) (
    length-append old (list ∷ []) ∙ ap (λ (n : ℕ). n + 1) was.0,
    each_more (IsListOf o marks facts) old list k was.0 was.1 last,
  )

  pub marked_list : (c : ℕ) → IsMarked marks c → (list : List ℕ) → ((d : ℕ) → Contains list d ↔ SomeFact facts (λ fact. PutsBelow o fact c d)) → IsListOf o marks facts c list
  marked_list c mark list is d = (
    λ there. (let (n, fact, at, puts) = (is d).0 there in (n, fact, at, (mark, puts))),
    λ (n, fact, at, puts). (is d).1 (n, fact, at, puts.1),
  )

  pub unmarked_list : (c : ℕ) → (IsMarked marks c → ⊥) → (list : List ℕ) → list ≡ [] → IsListOf o marks facts c list
  unmarked_list c other list none d = (
    λ there. absurd (Contains-none d (subst (λ (l : List ℕ). Contains l d) none there)),
    λ (n, fact, at, puts). absurd (other puts.0),
  )

  pub all_listed : (count : ℕ) → length marks ≡ count → (lists : List (List ℕ)) → AreFirstLists (length marks) lists → AreListsBy (PutsMarked o marks) count facts lists
  all_listed count long lists (many, each) = record {
    long = many ∙ long;
    each = λ c d. (
      λ t.
          let there = (listed_is (list_at lists c) d).0 t in
          let low = nothing_past lists c d there in
          (each c (subst (λ (n : ℕ). c < n) many low) d).0 there,
      λ v.
          let low = has_within marks c v.3.0 in
          (listed_is (list_at lists c) d).1 ((each c low d).1 v),
    );
  }
