-- What is put into the part, one after the other.
use Rattle.std.proofs.Common.{◌≡◌, ◌↔◌, ℕ, zero, suc, ◌+◌, ◌-◌, ◌<◌, ◌≤◌, ◌==◌, ◌⊎◌, inl, inr, Bool, true, false, List, [], length, map, get_or, take, slice_get, replicate, Some, Contains, refl, sym, ap, ◌∙◌, subst, arith}
use Rattle.std.specs.List.{list_any}
use Rattle.std.specs.Prelude.{slice_index}
use Rattle.std.proofs.lemmas.Bool.{cases_eq, false≢true}
use Rattle.std.proofs.lemmas.Option.{same_Some}
use Rattle.lemmas.proofs.Mapped.{slice_get_map}
use Rattle.lemmas.proofs.Places.{take_push, slice_get_take, take_slice_get}
use Rattle.axioms.specs.Ontology.{Ontology}
use Rattle.axioms.specs.WellFormedness.{IsOntology}
use Rattle.axioms.specs.declared.ids.ClassId.{ClassId}
use Rattle.axioms.specs.declared.ids.PropId.{PropId}
use Rattle.cert_check.specs.Additions.{AddsMembers, AddsPairs, PutsIndividuals}
use Rattle.cert_check.proofs.Additions.{contains_more, one_member, more_members, one_pair, more_pairs}
use Rattle.cert_check.proofs.Made.{empty_is_made_for}
use Rattle.cert_check.proofs.Rowwise.{no_number}
use Rattle.taxonomy.specs.Relation.{lies_below}
use Rattle.interpretation_spec.specs.NamedInterpretation.{is_target}
use Rattle.interpretation_spec.specs.NumberedInterpretation.{NumberedInterpretation, IsNumberedInterpretation, IsMadeFor, empty_interpretation, with_member, with_pair}
use Rattle.number_sets.specs.Pieces.{list_at}
use Rattle.generated_part.specs.Elements.{class_id, prop_id}
use Rattle.generated_part.specs.Part.{IsMemberAt, LeadsFrom, IsPairAt, IsPart}
use Rattle.generated_part.specs.declared.by_element.ByElement.{ByElement}

-- ---- one place more

next_taken : {A : Type 0} (xs : List A) (k : ℕ) (x y : A) → slice_get xs k ≡ Some x → Contains (take (k + 1) xs) y ↔ (Contains (take k xs) y ⊎ (y ≡ x))
next_taken xs k x y g = rw (take_push xs k x g) (contains_more (take k xs) x y)

-- what stands at the place has the property
abbrev StandsAt : (ℕ → Type 0) → List ℕ → ℕ → Type 0
StandsAt P xs m = (z : ℕ) × (slice_get xs m ≡ Some z) × P z

at_next : (P : ℕ → Type 0) (xs : List ℕ) (k x m : ℕ) → slice_get xs k ≡ Some x → StandsAt P (take (k + 1) xs) m ↔ (StandsAt P (take k xs) m ⊎ ((m ≡ k) × P x))
at_next P xs k x m g = (now, then)
  where
    now : StandsAt P (take (k + 1) xs) m → StandsAt P (take k xs) m ⊎ ((m ≡ k) × P x)
    now (z, at, p) =
        let h = slice_get_take (k + 1) xs m z at in
        elim (cases_eq m k) [
          | inl e ↦ inr (e, subst P (same_Some z x (sym (subst (λ (j : ℕ). slice_get xs j ≡ Some z) e h.1) ∙ g)) p)
          | inr apart ↦ inl (z, take_slice_get k xs m z (omega (arith, h.0, apart)) h.1, p)
        ]

    then : StandsAt P (take k xs) m ⊎ ((m ≡ k) × P x) → StandsAt P (take (k + 1) xs) m
    then (inl (z, at, p)) = (let h = slice_get_take k xs m z at in (z, take_slice_get (k + 1) xs m z (omega (arith, h.0)) h.1, p))
    then (inr (e, p)) = (x, take_slice_get (k + 1) xs m x (omega (arith, e)) (subst (λ (j : ℕ). slice_get xs j ≡ Some x) (sym e) g), p)

-- ---- classes

abbrev pub PutsClasses : ℕ → List ClassId → ℕ → ℕ → Type 0
PutsClasses x classes c m = (m ≡ x) × Contains classes (class_id c)

pub class_step : (x : ℕ) (classes : List ClassId) (k : ℕ) (c : ClassId) → slice_get classes k ≡ Some c → (old mid new : NumberedInterpretation)
    → IsNumberedInterpretation mid → c.0 < length mid.classes → x < mid.size → new ≡ with_member mid c.0 x
    → AddsMembers (PutsClasses x (take k classes)) old mid → AddsMembers (PutsClasses x (take (k + 1) classes)) old new
class_step x classes k c g old mid new w lc lx is before =
    subst (AddsMembers (PutsClasses x (take (k + 1) classes)) old) (sym is)
    (more_members (PutsClasses x (take k classes)) (λ d y. (d ≡ c.0) × (y ≡ x)) (PutsClasses x (take (k + 1) classes)) old mid (with_member mid c.0 x) before (one_member mid w c.0 x lc lx) (λ d y.
    let more = next_taken classes k c (class_id d) g in (
      λ p. elim (more.0 p.1) [ inl h ↦ inl (p.0, h) | inr e ↦ inr (ap (λ (i : ClassId). i.0) e, p.0) ],
      λ h. elim h [ inl p ↦ (p.0, more.1 (inl p.1)) | inr q ↦ (q.1, more.1 (inr (ap class_id q.0))) ],
    )))

pub classes_step : (classes : List (List ClassId)) (elements : List ℕ) (k x : ℕ) → slice_get elements k ≡ Some x → (old mid new : NumberedInterpretation)
    → AddsMembers (IsMemberAt classes (take k elements)) old mid → AddsMembers (PutsClasses k (list_at classes x)) mid new
    → AddsMembers (IsMemberAt classes (take (k + 1) elements)) old new
classes_step classes elements k x g old mid new before step =
    more_members (IsMemberAt classes (take k elements)) (PutsClasses k (list_at classes x)) (IsMemberAt classes (take (k + 1) elements)) old mid new before step
    (λ c m. at_next (λ z. Contains (list_at classes z) (class_id c)) elements k x m g)

-- ---- pairs

abbrev pub PutsPairs : ℕ → List (PropId × ℕ) → List ℕ → ℕ → ℕ → ℕ → Type 0
PutsPairs x pairs places r m n = (m ≡ x) × LeadsFrom pairs places r n

pub pair_step : (x : ℕ) (pairs : List (PropId × ℕ)) (places : List ℕ) (k : ℕ) (pair : PropId × ℕ) → slice_get pairs k ≡ Some pair → (old mid new : NumberedInterpretation)
    → IsNumberedInterpretation mid → pair.0.0 < length mid.pairs → x < mid.size → new ≡ with_pair mid pair.0.0 x (slice_index places pair.1)
    → AddsPairs (PutsPairs x (take k pairs) places) old mid → AddsPairs (PutsPairs x (take (k + 1) pairs) places) old new
pair_step x pairs places k pair g old mid new w lr lx is before =
    let t = slice_index places pair.1 in
    subst (AddsPairs (PutsPairs x (take (k + 1) pairs) places) old) (sym is)
    (more_pairs (PutsPairs x (take k pairs) places) (λ s z y. (s ≡ pair.0.0) × (z ≡ x) × (y ≡ t)) (PutsPairs x (take (k + 1) pairs) places) old mid (with_pair mid pair.0.0 x t) before (one_pair mid w pair.0.0 x t lr lx) (λ s z n.
    (now s z n, then s z n)))
  where
    now : (s z n : ℕ) → PutsPairs x (take (k + 1) pairs) places s z n → PutsPairs x (take k pairs) places s z n ⊎ ((s ≡ pair.0.0) × (z ≡ x) × (n ≡ slice_index places pair.1))
    now s z n (e, (y, there, place)) = elim ((next_taken pairs k pair (prop_id s, y) g).0 there) [
      | inl h ↦ inl (e, (y, h, place))
      | inr q ↦ inr (ap (λ (p : PropId × ℕ). p.0.0) q, e, sym place ∙ ap (λ (p : PropId × ℕ). slice_index places p.1) q)
    ]

    then : (s z n : ℕ) → PutsPairs x (take k pairs) places s z n ⊎ ((s ≡ pair.0.0) × (z ≡ x) × (n ≡ slice_index places pair.1)) → PutsPairs x (take (k + 1) pairs) places s z n
    then s z n (inl (e, (y, there, place))) = (e, (y, (next_taken pairs k pair (prop_id s, y) g).1 (inl there), place))
    then s z n (inr (r, e, place)) = (e, (pair.1, (next_taken pairs k pair (prop_id s, pair.1) g).1 (inr (ap (λ (j : ℕ). (prop_id j, pair.1)) r)), sym place))

pub pairs_step : (pairs : List (List (PropId × ℕ))) (elements places : List ℕ) (k x : ℕ) → slice_get elements k ≡ Some x → (old mid new : NumberedInterpretation)
    → AddsPairs (IsPairAt pairs (take k elements) places) old mid → AddsPairs (PutsPairs k (list_at pairs x) places) mid new
    → AddsPairs (IsPairAt pairs (take (k + 1) elements) places) old new
pairs_step pairs elements places k x g old mid new before step =
    more_pairs (IsPairAt pairs (take k elements) places) (PutsPairs k (list_at pairs x) places) (IsPairAt pairs (take (k + 1) elements) places) old mid new before step
    (λ r m n. at_next (λ z. LeadsFrom (list_at pairs z) places r n) elements k x m g)

-- ---- all of it

no_target : (ps r n x y : ℕ) → list_any (λ z. z == y) (get_or (get_or (replicate ps (replicate n [])) r []) x []) ≡ false
no_target (suc ps) zero (suc n) (suc x) y = no_target (suc ps) zero n x y
no_target (suc ps) (suc r) n x y = no_target ps r n x y
no_target _ _ _ _ y = refl

module _ (o : Ontology) (w : IsOntology o) (rows : ByElement) (elements places : List ℕ) (a b c : NumberedInterpretation)
    (members : AddsMembers (IsMemberAt rows.classes elements) (empty_interpretation o.names (length elements)) a) (pairs : AddsPairs (IsPairAt rows.pairs elements places) a b)
    (individuals : PutsIndividuals (map (slice_index places) rows.individuals.items) b c) where
  pub part_made : IsMadeFor o.names c
  part_made =
      let start = empty_is_made_for o w (length elements) in
      record {
        classes = ap length (individuals.classes ∙ pairs.classes) ∙ members.many ∙ start.classes;
        properties = ap length individuals.pairs ∙ pairs.many ∙ ap length members.pairs ∙ start.properties;
        individuals = individuals.many ∙ ap length (pairs.individuals ∙ members.individuals) ∙ start.individuals;
      }

  none_yet : (d x : ℕ) → 2 ≤ d → lies_below (empty_interpretation o.names (length elements)).classes d x ≡ false
  none_yet zero x h = absurd (omega arith)
  none_yet (suc d) x h = no_number (length o.names.classes - 1) (length elements) d x

  member : (d m : ℕ) → 2 ≤ d → (lies_below c.classes d m ≡ true) ↔ IsMemberAt rows.classes elements d m
  member d m behind =
      let kept = ap (λ (all : List (List Bool)). lies_below all d m) (individuals.classes ∙ pairs.classes) in
      let put = members.classes d m in
      let none = none_yet d m behind in (
        λ t. elim (put.0 (sym kept ∙ t)) [ inl u ↦ absurd (false≢true (sym none ∙ u)) | inr p ↦ p ],
        λ h. kept ∙ put.1 (inr h),
      )

  joined : (r m n : ℕ) → (is_target c r m n ≡ true) ↔ IsPairAt rows.pairs elements places r m n
  joined r m n =
      let kept = ap (λ (ps : List (List (List ℕ))). list_any (λ z. z == n) (get_or (get_or ps r []) m [])) individuals.pairs in
      let first = ap (λ (ps : List (List (List ℕ))). list_any (λ z. z == n) (get_or (get_or ps r []) m [])) members.pairs in
      let none = first ∙ no_target (length o.names.properties) r (length elements) m n in
      let put = pairs.pairs r m n in (
        λ t. elim (put.0 (sym kept ∙ t)) [ inl u ↦ absurd (false≢true (sym none ∙ u)) | inr p ↦ p ],
        λ h. kept ∙ put.1 (inr h),
      )

  pub part_is : IsPart rows elements places c
  part_is = record {
    size = individuals.size ∙ pairs.size ∙ members.size;
    classes = member;
    pairs = joined;
    individuals = λ i x g. individuals.each i (slice_index places x) (slice_get_map (slice_index places) rows.individuals.items i x g);
  }
