-- What is listed of each element.
use Rattle.std.proofs.Common.{◌≡◌, ℕ, ◌+◌, ◌<◌, ◌≤◌, inl, inr, true, false, List, [], ◌∷◌, ◌++◌, length, get_or, take, slice_get, Some, Contains, sym, ap, ◌∙◌, subst, arith}
use Rattle.std.proofs.lemmas.Bool.{both_ways, cases_eq}
use Rattle.std.proofs.lemmas.List.Elements.{Contains-append_left, Contains-push, Contains-push_cases, All-contains}
use Rattle.std.proofs.lemmas.Option.{get_or_from_slice_get, slice_get_within}
use Rattle.axioms.specs.Ontology.{Ontology}
use Rattle.axioms.specs.WellFormedness.{IsOntology}
use Rattle.axioms.specs.declared.ids.ClassId.{ClassId}
use Rattle.axioms.specs.declared.ids.PropId.{PropId}
use Rattle.interpretation_spec.specs.NamedInterpretation.{interpretation_of}
use Rattle.interpretation_spec.specs.NumberedInterpretation.{NumberedInterpretation, IsNumberedInterpretation, IsMadeFor, members_of, targets_of}
use Rattle.interpretation_spec.proofs.Names.{stands}
use Rattle.listed_model.proofs.Members.{holds_from_Contains, Contains_from_holds}
use Rattle.number_sets.specs.Members.{has}
use Rattle.number_sets.specs.Pieces.{list_at}
use Rattle.number_sets.proofs.Members.{one_more_taken, all_taken}
use Rattle.generated_part.specs.Elements.{class_id, prop_id, AddsTargets, AreClassesAt, ArePairsAt, IsByElement}
use Rattle.generated_part.specs.declared.by_element.ByElement.{ByElement}

-- ---- classes

module _ (i : NumberedInterpretation) (n x : ℕ) (found : List ClassId) (was : AreClassesAt i n x found) where
  pub one_class : 2 ≤ n → has (members_of i n) x ≡ true → AreClassesAt i (n + 1) x (found ++ class_id n ∷ [])
  one_class high mark c = (
    λ h. elim (Contains-push_cases found (class_id n) c h) [
      | inl k ↦ (let p = (was c).0 k in (p.0, omega (arith, p.1), p.2))
      | inr e ↦ subst (λ (d : ClassId). (2 ≤ d.0) × (d.0 < n + 1) × (has (members_of i d.0) x ≡ true)) e (high, omega arith, mark)
    ],
    λ h. elim (cases_eq c.0 n) [
      | inl e ↦ subst (Contains (found ++ class_id n ∷ [])) (ap class_id (sym e)) (Contains-push found (class_id n))
      | inr apart ↦ Contains-append_left found (class_id n ∷ []) c ((was c).1 (h.0, omega (arith, h.1, apart), h.2))
    ],
  )

  pub not_class : has (members_of i n) x ≡ false → AreClassesAt i (n + 1) x found
  not_class off c = (
    λ h. (let p = (was c).0 h in (p.0, omega (arith, p.1), p.2)),
    λ h. elim (cases_eq c.0 n) [
      | inl e ↦ absurd (both_ways (has (members_of i n) x) off (subst (λ (k : ℕ). has (members_of i k) x ≡ true) e h.2))
      | inr apart ↦ (was c).1 (h.0, omega (arith, h.1, apart), h.2)
    ],
  )

-- ---- pairs

pub one_target : (old : List (PropId × ℕ)) (p : PropId) (ts : List ℕ) (k d : ℕ) (now : List (PropId × ℕ)) → k < length ts → AddsTargets old p (take k ts) now
    → AddsTargets old p (take (k + 1) ts) (now ++ (p, get_or ts k d) ∷ [])
one_target old p ts k d now low was r y =
    let t = get_or ts k d in
    let more = one_more_taken ts k d y low in (
      λ h. elim (Contains-push_cases now (p, t) (r, y) h) [
        | inl c ↦ elim ((was r y).0 c) [ inl o ↦ inl o | inr q ↦ inr (q.0, more.1 (inl q.1)) ]
        | inr e ↦ inr (ap (λ (q : PropId × ℕ). q.0) (sym e), more.1 (inr (ap (λ (q : PropId × ℕ). q.1) e)))
      ],
      λ h. elim h [
        | inl o ↦ Contains-append_left now ((p, t) ∷ []) (r, y) ((was r y).1 (inl o))
        | inr q ↦ elim (more.0 q.1) [
          | inl c ↦ Contains-append_left now ((p, t) ∷ []) (r, y) ((was r y).1 (inr (q.0, c)))
          | inr e ↦ subst (λ (v : PropId × ℕ). Contains (now ++ (p, t) ∷ []) v) (ap (λ (v : ℕ). (p, v)) e ∙ ap (λ (s : PropId). (s, y)) (sym q.0)) (Contains-push now (p, t))
        ]
      ],
    )

pub all_targets : (old : List (PropId × ℕ)) (p : PropId) (ts : List ℕ) (k : ℕ) (now : List (PropId × ℕ)) → length ts ≤ k → AddsTargets old p (take k ts) now → AddsTargets old p ts now
all_targets old p ts k now end was r y = (
  λ h. elim ((was r y).0 h) [ inl o ↦ inl o | inr q ↦ inr (q.0, (all_taken ts k y end).0 q.1) ],
  λ h. (was r y).1 (elim h [ inl o ↦ inl o | inr q ↦ inr (q.0, (all_taken ts k y end).1 q.1) ]),
)

pub one_property : (i : NumberedInterpretation) (n x : ℕ) (old now : List (PropId × ℕ)) → ArePairsAt i n x old → AddsTargets old (prop_id n) (targets_of i n x) now → ArePairsAt i (n + 1) x now
one_property i n x old now was adds r y = (
  λ h. elim ((adds r y).0 h) [
    | inl o ↦ (let p = (was r y).0 o in (omega (arith, p.0), p.1))
    | inr q ↦ subst (λ (s : PropId). (s.0 < n + 1) × Contains (targets_of i s.0 x) y) (sym q.0) (omega arith, q.1)
  ],
  λ h. elim (cases_eq r.0 n) [
    | inl e ↦ (adds r y).1 (inr (ap prop_id e, subst (λ (k : ℕ). Contains (targets_of i k x) y) e h.1))
    | inr apart ↦ (adds r y).1 (inl ((was r y).1 (omega (arith, h.0, apart), h.1)))
  ],
)

-- ---- by names

module _ (o : Ontology) (w : IsOntology o) (n : NumberedInterpretation) (whole : IsNumberedInterpretation n) (made : IsMadeFor o.names n) (rows : ByElement) where
  pub by_element : length rows.classes ≡ n.size → length rows.pairs ≡ n.size → rows.individuals.items ≡ n.individuals
      → ((x : ℕ) → x < n.size → AreClassesAt n (length o.names.classes) x (list_at rows.classes x))
      → ((x : ℕ) → x < n.size → ArePairsAt n (length o.names.properties) x (list_at rows.pairs x))
      → IsByElement o (interpretation_of o.names n) rows
  by_element classes_each pairs_each same classes pairs =
      let s = stands o w n in
      record {
        classes_each = classes_each ∙ sym s.size;
        pairs_each = pairs_each ∙ sym s.size;
        individuals_each = ap length same ∙ made.individuals;
        classes = λ x c l.
            let here = classes x (subst (λ k. x < k) s.size l) c in (
              λ h. (let p = here.0 h in (p.0, p.1, s.classes c.0 x p.1 ∙ p.2)),
              λ h. here.1 (h.0, h.1, sym (s.classes c.0 x h.1) ∙ h.2),
            );
        pairs = λ x y r l.
            let here = pairs x (subst (λ k. x < k) s.size l) r y in
            let ts = targets_of n r.0 x in (
              λ h.
                  let p = here.0 h in
                  let within : y < n.size = All-contains (λ z. z < n.size) ts y (whole.targets r.0 x).within p.1 in
                  (p.0, subst (λ k. y < k) (sym s.size) within, s.properties r.0 x y p.0 ∙ holds_from_Contains ts y p.1),
              λ h. here.1 (h.0, Contains_from_holds ts y (sym (s.properties r.0 x y h.0) ∙ h.2)),
            );
        individuals = λ a x g.
            let at = subst (λ (xs : List ℕ). slice_get xs a ≡ Some x) same g in
            let low : a < length n.individuals = slice_get_within n.individuals a x at in
            s.individuals a (omega (arith, low, made.individuals)) ∙ get_or_from_slice_get n.individuals a x 0 at;
      }
