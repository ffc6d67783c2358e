-- Lines with an individual in the place of another that is one with it.
use Rattle.std.proofs.Common.{◌≡◌, ◌⊎◌, ℕ, suc, ◌+◌, ◌<◌, inl, inr, List, [], ◌∷◌, ◌++◌, length, get_or, take, Some, None, Contains, refl, sym, ap, ◌∙◌, subst}
use Rattle.std.proofs.lemmas.List.{take_more}
use Rattle.std.proofs.lemmas.List.Elements.{Contains-append_left, Contains-append_right, Contains-append_cases}
use Rattle.std.proofs.lemmas.Option.{same_Some}
use Rattle.lemmas.proofs.Members.{Contains-first, Contains-later, Contains-one, Contains-cons_cases}
use Rattle.axioms.specs.Ontology.{Ontology}
use Rattle.axioms.specs.View.{at_number}
use Rattle.axioms.specs.declared.ids.IndId.{IndId}
use Rattle.certificate.specs.Certificate.{Subject, Conclusion, Sub, Edge, Same, Line}
use Rattle.certificate.specs.Certificate as line
use Rattle.certificate.specs.Writability.{IsConclusionOf}
use Rattle.certificate.specs.declared.line.Rule.TheVariants.{K19}
use Rattle.cert_check.specs.Derivation.{IsDerivation, IsDerived, at_numbers}
use Rattle.cert_check.specs.Lines.{Follows, IsWalk}
use Rattle.exactness.proofs.Derivable.{conclusions, prepended_list_parts}
use Rattle.explain.proofs.Used.{before_or_not, premise_grown, used_beside, used_from, used_twice}
use Rattle.explain.proofs.Walking.{line_within}
use Rattle.explain.specs.LinesOfFacts.{Lengthens}
use Rattle.explain.specs.SameLines.{SaysSame}
use Rattle.explain.specs.Uses.{IsAmong, IsPremise, Uses}

-- ---- lengths

pub numbers_long : {X : Type 0} (xs : List X) (ns : List ℕ) (ys : List X) → at_numbers xs ns ≡ Some ys → length ns ≡ length ys
numbers_long xs [] ys e = ap length (same_Some [] ys e)
numbers_long xs (n ∷ ns) ys e =
    let (z, zs, at, rest, is) = prepended_list_parts (at_number xs n) (at_numbers xs ns) ys e in
    ap suc (numbers_long xs ns zs rest) ∙ ap length is

pub walk_long : (x : Subject) (rs : List ℕ) (y : Subject) (cs : List Conclusion) → IsWalk x rs y cs → length rs ≡ length cs
walk_long x [] y [] w = refl
walk_long x [] y (c ∷ cs) w = absurd w
walk_long x (r ∷ rs) y [] w = absurd w
walk_long x (r ∷ rs) y (c ∷ cs) (z, is, w) = ap suc (walk_long z rs y cs w)

-- ---- the lines follow

module _ (o : Ontology) (lines : List Line) (same number : ℕ) (i j : IndId) (derivation : IsDerivation o lines) (says : SaysSame lines same i j) where
  follows_from : (c d : Conclusion) → at_number (conclusions lines) number ≡ Some c → IsConclusionOf o d → Follows o K19 (Same i.0 j.0 ∷ c ∷ []) None d
      → IsDerived o lines (record { conclusion = d; rule = K19; axiom' = None; premises = same ∷ number ∷ [] })
  follows_from c d at within follows = record {
    within = record { conclusion = within; axiom' = tt };
    premises = Same i.0 j.0 ∷ c ∷ [];
    premises_at = rw (says, at) refl;
    follows = follows;
  }

  first_there : i.0 < length o.names.individuals
  first_there = (line_within o lines same (Same i.0 j.0) derivation says).0

  pub class_follows : (e : ℕ) → at_number (conclusions lines) number ≡ Some (Sub (line.Individual j.0) e)
      → IsDerived o lines (record { conclusion = Sub (line.Individual i.0) e; rule = K19; axiom' = None; premises = same ∷ number ∷ [] })
  class_follows e at =
      follows_from (Sub (line.Individual j.0) e) (Sub (line.Individual i.0) e) at (first_there, (line_within o lines number (Sub (line.Individual j.0) e) derivation at).1) (refl, refl, refl)

  pub source_follows : (r : ℕ) (y : Subject) → at_number (conclusions lines) number ≡ Some (Edge (line.Individual j.0) r y)
      → IsDerived o lines (record { conclusion = Edge (line.Individual i.0) r y; rule = K19; axiom' = None; premises = same ∷ number ∷ [] })
  source_follows r y at =
      let within = line_within o lines number (Edge (line.Individual j.0) r y) derivation at in
      follows_from (Edge (line.Individual j.0) r y) (Edge (line.Individual i.0) r y) at (first_there, within.1, within.2) (refl, inl (refl, refl, refl))

  pub target_follows : (x : Subject) (r : ℕ) → at_number (conclusions lines) number ≡ Some (Edge x r (line.Individual j.0))
      → IsDerived o lines (record { conclusion = Edge x r (line.Individual i.0); rule = K19; axiom' = None; premises = same ∷ number ∷ [] })
  target_follows x r at =
      let within = line_within o lines number (Edge x r (line.Individual j.0)) derivation at in
      follows_from (Edge x r (line.Individual j.0)) (Edge x r (line.Individual i.0)) at (within.0, within.1, first_there) (refl, inr (refl, refl, refl))

-- ---- which lines are used

-- where two lines give one, and nothing but the second is given, among others
pub used_exchanged : (old mid new : List Line) (same number n : ℕ) (before after : List ℕ) → Lengthens mid new → Uses old mid (IsAmong []) (same ∷ []) → Uses mid new (IsAmong (same ∷ number ∷ [])) (n ∷ [])
    → Uses old new (IsAmong (before ++ number ∷ after)) (before ++ n ∷ after)
used_exchanged old mid new same number n before after longer earlier later k l h = elim h [
  | inl fresh ↦ elim (before_or_not k (length mid)) [
    | inl low ↦ elim (earlier k low (inl fresh)) [
      | inl p ↦ inl (premise_grown longer k p)
      | inr c ↦ placed (later k l (inr (subst (λ m. Contains (same ∷ number ∷ []) m) (Contains-one same (suc k) c) (Contains-first same (number ∷ [])))))
    ]
    | inr high ↦ placed (later k l (inl high))
  ]
  | inr given ↦ elim (Contains-append_cases before (number ∷ after) (suc k) given) [
    | inl c ↦ inr (Contains-append_left before (n ∷ after) (suc k) c)
    | inr c ↦ elim (Contains-cons_cases number (suc k) after c) [
      | inl e ↦ placed (later k l (inr (subst (λ m. Contains (same ∷ number ∷ []) m) e (Contains-later same number (number ∷ []) (Contains-first number [])))))
      | inr d ↦ inr (Contains-append_right before (n ∷ after) (suc k) (Contains-later n (suc k) after d))
    ]
  ]
]
  where
    placed : IsPremise new k ⊎ IsAmong (n ∷ []) k → IsPremise new k ⊎ IsAmong (before ++ n ∷ after) k
    placed h = elim h [
      | inl p ↦ inl p
      | inr c ↦ inr (Contains-append_right before (n ∷ after) (suc k) (subst (λ m. Contains (n ∷ after) m) (Contains-one n (suc k) c) (Contains-first n after)))
    ]

-- one line more with another before it that is given
pub used_next : (old now new : List Line) (known numbers : List ℕ) (k d n : ℕ) → k < length known → Lengthens now new → Uses old now (IsAmong (take k known)) numbers → Uses now new (IsAmong (get_or known k d ∷ [])) (n ∷ [])
    → Uses old new (IsAmong (take (k + 1) known)) (numbers ++ n ∷ [])
used_next old now new known numbers k d n low longer earlier later =
    used_from old new (λ m. IsAmong (take k known) m ⊎ IsAmong (get_or known k d ∷ []) m) (IsAmong (take (k + 1) known)) (numbers ++ n ∷ [])
    (λ m c. elim (Contains-append_cases (take k known) (get_or known k d ∷ []) (suc m) (subst (λ ns. Contains ns (suc m)) (take_more known k d low) c)) [ inl e ↦ inl e | inr e ↦ inr e ])
    (used_beside old now new (IsAmong (take k known)) (IsAmong (get_or known k d ∷ [])) numbers (n ∷ []) longer earlier later)

-- two lines of which nothing was given lead to one
pub used_both : (old first second new : List Line) (before behind n : ℕ) → Lengthens first second → Lengthens second new → Uses old first (IsAmong []) (before ∷ []) → Uses first second (IsAmong []) (behind ∷ [])
    → Uses second new (IsAmong (before ∷ behind ∷ [])) (n ∷ []) → Uses old new (IsAmong []) (n ∷ [])
used_both old first second new before behind n longer also earlier later last =
    used_twice old second new (IsAmong []) (before ∷ behind ∷ []) (n ∷ []) also
    (used_from old second (λ m. IsAmong [] m ⊎ IsAmong [] m) (IsAmong []) (before ∷ behind ∷ []) (λ m c. inl c)
    (used_beside old first second (IsAmong []) (IsAmong []) (before ∷ []) (behind ∷ []) longer earlier later)) last

-- ---- walks

-- the first edge of a walk
pub first_of_walk : (x y : Subject) (r : ℕ) (rs : List ℕ) (cs : List Conclusion) → IsWalk x (r ∷ rs) y cs → (z : Subject) × (ds : List Conclusion) × (cs ≡ Edge x r z ∷ ds) × IsWalk z rs y ds
first_of_walk x y r rs [] w = absurd w
first_of_walk x y r rs (c ∷ cs) (z, is, w) = (z, cs, ap (λ d. d ∷ cs) is, w)

-- the last edge of a walk
pub last_of_walk : (x y : Subject) (rs : List ℕ) (cs : List Conclusion) (c : Conclusion) → IsWalk x rs y (cs ++ c ∷ []) → (z : Subject) × (ss : List ℕ) × (r : ℕ) × IsWalk x ss z cs × (c ≡ Edge z r y) × (rs ≡ ss ++ r ∷ [])
last_of_walk x y [] [] c w = absurd w
last_of_walk x y (r ∷ []) [] c (z, is, w) = (x, [], r, refl, is ∙ ap (Edge x r) w, refl)
last_of_walk x y (r ∷ s ∷ rs) [] c (z, is, w) = absurd w
last_of_walk x y [] (d ∷ cs) c w = absurd w
last_of_walk x y (r ∷ rs) (d ∷ cs) c (u, is, w) =
    let (z, ss, s, before, at, joined) = last_of_walk u y rs cs c w in
    (z, r ∷ ss, s, (u, is, before), at, ap (λ ps. r ∷ ps) joined)

-- with another last edge
pub walk_with : (x y z : Subject) (ss : List ℕ) (r : ℕ) (cs : List Conclusion) → IsWalk x ss z cs → IsWalk x (ss ++ r ∷ []) y (cs ++ Edge z r y ∷ [])
walk_with x y z [] r [] w = (y, ap (λ v. Edge v r y) (sym w), refl)
walk_with x y z [] r (c ∷ cs) w = absurd w
walk_with x y z (s ∷ ss) r [] w = absurd w
walk_with x y z (s ∷ ss) r (c ∷ cs) (u, is, w) = (u, is, walk_with u y z ss r cs w)
