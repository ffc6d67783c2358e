-- What is listed in rows that ascend, and the interpretation that is made of them.
use Rattle.std.proofs.Common.{◌≡◌, ◌≢◌, ◌↔◌, ℕ, zero, suc, ◌-◌, ◌<◌, ◌≤◌, ◌==◌, inl, inr, Bool, true, false, List, [], ◌∷◌, length, map, get_or, slice_get, replicate, Some, Contains, AllPairs, refl, sym, ap, ◌∙◌, subst, arith}
use Rattle.std.specs.List.{list_any}
use Rattle.std.proofs.lemmas.Bool.{cases_eq, eq-eqb, ne_eqb, false≢true}
use Rattle.std.proofs.lemmas.Option.{none-some, same_Some, slice_get_within, get_or_from_slice_get}
use Rattle.lemmas.proofs.Pairs.{AllPairs-tail}
use Rattle.lemmas.proofs.Members.{Contains-none}
use Rattle.lemmas.proofs.Mapped.{slice_get_map}
use Rattle.axioms.specs.Ontology.{Ontology, Class, IsClassAt}
use Rattle.axioms.specs.WellFormedness.{IsOntology}
use Rattle.certificate.specs.Certificate.{Listed}
use Rattle.certificate.specs.Writability.{IsListedOf, Ascends, IsPairBefore}
use Rattle.interpretation_spec.specs.NamedInterpretation.{interpretation_of, is_target}
use Rattle.interpretation_spec.specs.NumberedInterpretation.{NumberedInterpretation, IsMadeFor, empty_interpretation}
use Rattle.interpretation_spec.proofs.Names.{stands}
use Rattle.taxonomy.specs.Relation.{lies_below}
use Rattle.listed_model.specs.Listing.{IsListing, elements_of, targets_of as listed_targets}
use Rattle.cert_check.specs.Additions.{SomeRow, IsListedMember, IsListedPair, AddsMembers, AddsPairs, PutsIndividuals}
use Rattle.cert_check.proofs.Made.{empty_is_made_for}
use Rattle.cert_check.proofs.Rowwise.{no_number}

-- ---- ascending numbers

-- the first is the least
pub first_is_least : (x : ℕ) (xs : List ℕ) → Ascends (x ∷ xs) → (k y : ℕ) → slice_get xs k ≡ Some y → x < y
first_is_least x [] h k y g = absurd (none-some y g)
first_is_least x (z ∷ zs) h zero y g = subst (λ w. x < w) (same_Some z y g) h.0
first_is_least x (z ∷ zs) h (suc k) y g = let rest = first_is_least z zs h.1 k y g in let first = h.0 in omega arith

pub rest_ascends : (x : ℕ) (xs : List ℕ) → Ascends (x ∷ xs) → Ascends xs
rest_ascends x [] h = tt
rest_ascends x (z ∷ zs) h = h.1

-- a number stands at one place
pub one_place : (xs : List ℕ) → Ascends xs → (k l x : ℕ) → slice_get xs k ≡ Some x → slice_get xs l ≡ Some x → k ≡ l
one_place [] h k l x g f = absurd (none-some x g)
one_place (z ∷ zs) h zero zero x g f = refl
one_place (z ∷ zs) h zero (suc l) x g f =
    let e : z ≡ x = same_Some z x g in
    let m : z < x = first_is_least z zs h l x f in
    absurd (omega arith)
one_place (z ∷ zs) h (suc k) zero x g f =
    let e : z ≡ x = same_Some z x f in
    let m : z < x = first_is_least z zs h k x g in
    absurd (omega arith)
one_place (z ∷ zs) h (suc k) (suc l) x g f = ap suc (one_place zs (rest_ascends z zs h) k l x g f)

-- ---- the members that rows list

-- of the expression of that number
abbrev pub HasMember : List (ℕ × List ℕ) → ℕ → ℕ → Type 0
HasMember rows e x = SomeRow rows (λ row. (row.0 ≡ e) × Contains row.1 x)

pub listed_member : (rows : List (ℕ × List ℕ)) → Ascends (map (λ r. r.0) rows) → (e x : ℕ) → Contains (elements_of rows e) x ↔ HasMember rows e x
listed_member [] h e x = (λ c. absurd (Contains-none x c), λ s. absurd (none-some s.1 s.2))
listed_member (row ∷ rows) h e x = elim (cases_eq row.0 e) [
  | inl f ↦ rw (eq-eqb row.0 e f) (λ c. (0, row, refl, (f, c)), λ s. this_one row rows h e x f s)
  | inr ne ↦ rw (ne_eqb row.0 e ne) (
    λ c. (let s = (listed_member rows (rest_ascends row.0 (map (λ r. r.0) rows) h) e x).0 c in (suc s.0, s.1, s.2, s.3)),
    λ s. (listed_member rows (rest_ascends row.0 (map (λ r. r.0) rows) h) e x).1 (later row rows e x ne s),
  )
]
  where
    this_one : (row : ℕ × List ℕ) (rows : List (ℕ × List ℕ)) → Ascends (map (λ r. r.0) (row ∷ rows)) → (e x : ℕ) → row.0 ≡ e → HasMember (row ∷ rows) e x → Contains row.1 x
    this_one row rows h e x f (zero, r, g, (p, c)) = subst (λ (w : ℕ × List ℕ). Contains w.1 x) (sym (same_Some row r g)) c
    this_one row rows h e x f (suc k, r, g, (p, c)) =
        let m : row.0 < r.0 = first_is_least row.0 (map (λ r. r.0) rows) h k r.0 (slice_get_map (λ (r : ℕ × List ℕ). r.0) rows k r g) in
        absurd (omega arith)

    later : (row : ℕ × List ℕ) (rows : List (ℕ × List ℕ)) (e x : ℕ) → row.0 ≢ e → HasMember (row ∷ rows) e x → HasMember rows e x
    later row rows e x ne (zero, r, g, (p, c)) = absurd (ne (ap (λ (w : ℕ × List ℕ). w.0) (same_Some row r g) ∙ p))
    later row rows e x ne (suc k, r, g, (p, c)) = (k, r, g, (p, c))

first_before : (p : ℕ × ℕ × List ℕ) (ps : List (ℕ × ℕ × List ℕ)) → AllPairs IsPairBefore (p ∷ ps) → (k : ℕ) (q : ℕ × ℕ × List ℕ) → slice_get ps k ≡ Some q → IsPairBefore p q
first_before p ps h k q g =
    let l : k < length ps = slice_get_within ps k q g in
    subst (IsPairBefore p) (get_or_from_slice_get ps k q p g) (h 0 (suc k) p (omega arith) (omega arith))

not_same_pair : (p q : ℕ × ℕ × List ℕ) → IsPairBefore p q → p.0 ≡ q.0 → p.1 ≡ q.1 → ⊥
not_same_pair p q (inl l) e f = omega arith
not_same_pair p q (inr s) e f = let l = s.1 in omega arith

pub listed_target : (rows : List (ℕ × ℕ × List ℕ)) → AllPairs IsPairBefore rows → (r x y : ℕ) → Contains (listed_targets rows r x) y ↔ IsListedPair rows r x y
listed_target [] h r x y = (λ c. absurd (Contains-none y c), λ s. absurd (none-some s.1 s.2))
listed_target (p ∷ ps) h r x y = elim (cases_eq p.0 r) [
  | inr ne ↦ rw (ne_eqb p.0 r ne) (other p ps r x y (λ e f. ne e) (listed_target ps (AllPairs-tail IsPairBefore p ps h) r x y))
  | inl e ↦ elim (cases_eq p.1 x) [
    | inr ne ↦ rw (eq-eqb p.0 r e, ne_eqb p.1 x ne) (other p ps r x y (λ e f. ne f) (listed_target ps (AllPairs-tail IsPairBefore p ps h) r x y))
    | inl f ↦ rw (eq-eqb p.0 r e, eq-eqb p.1 x f) (λ c. (0, p, refl, (e, f, c)), λ s. this_one p ps h r x y e f s)
  ]
]
  where
    this_one : (p : ℕ × ℕ × List ℕ) (ps : List (ℕ × ℕ × List ℕ)) → AllPairs IsPairBefore (p ∷ ps) → (r x y : ℕ) → p.0 ≡ r → p.1 ≡ x → IsListedPair (p ∷ ps) r x y → Contains p.2 y
    this_one p ps h r x y e f (zero, q, g, (a, b, c)) = subst (λ (w : ℕ × ℕ × List ℕ). Contains w.2 y) (sym (same_Some p q g)) c
    this_one p ps h r x y e f (suc k, q, g, (a, b, c)) = absurd (not_same_pair p q (first_before p ps h k q g) (e ∙ sym a) (f ∙ sym b))

    later : (p : ℕ × ℕ × List ℕ) (ps : List (ℕ × ℕ × List ℕ)) (r x y : ℕ) → (p.0 ≡ r → p.1 ≡ x → ⊥) → IsListedPair (p ∷ ps) r x y → IsListedPair ps r x y
    later p ps r x y apart (zero, q, g, (a, b, c)) =
        let e : p ≡ q = same_Some p q g in
        absurd (apart (ap (λ (w : ℕ × ℕ × List ℕ). w.0) e ∙ a) (ap (λ (w : ℕ × ℕ × List ℕ). w.1) e ∙ b))
    later p ps r x y apart (suc k, q, g, t) = (k, q, g, t)

    other : (p : ℕ × ℕ × List ℕ) (ps : List (ℕ × ℕ × List ℕ)) (r x y : ℕ) → (p.0 ≡ r → p.1 ≡ x → ⊥)
        → Contains (listed_targets ps r x) y ↔ IsListedPair ps r x y → Contains (listed_targets ps r x) y ↔ IsListedPair (p ∷ ps) r x y
    other p ps r x y apart rest =
        (λ c. (let s = rest.0 c in (suc s.0, s.1, s.2, s.3)), λ s. rest.1 (later p ps r x y apart s))

-- ---- the interpretation that is made

-- by the class, and by the expression
pub member_by_class : (o : Ontology) → IsOntology o → (rows : List (ℕ × List ℕ)) (c e x : ℕ) → IsClassAt o c e → IsListedMember o rows c x ↔ HasMember rows e x
member_by_class o w rows c e x g = (
  λ s. (let same = w.distinct_nodes s.1.0 e (Class c) s.3.0 g in (s.0, s.1, s.2, (same, s.3.1))),
  λ s. (s.0, s.1, s.2, (subst (IsClassAt o c) (sym s.3.0) g, s.3.1)),
)

-- an expression behind the first two is a class behind the first two
pub class_behind : (o : Ontology) → IsOntology o → (c e : ℕ) → IsClassAt o c e → 2 ≤ e → 2 ≤ c
class_behind o w zero e g l = let same = w.distinct_nodes e 0 (Class 0) g w.thing_node in absurd (omega arith)
class_behind o w (suc zero) e g l = let same = w.distinct_nodes e 1 (Class 1) g w.nothing_node in absurd (omega arith)
class_behind o w (suc (suc c)) e g l = omega arith

no_target : (ps r n x y : ℕ) → list_any (λ z. z == y) (get_or (get_or (replicate ps (replicate n [])) r []) x []) ≡ false
no_target zero r n x y = refl
no_target (suc ps) zero zero x y = refl
no_target (suc ps) zero (suc n) zero y = refl
no_target (suc ps) zero (suc n) (suc x) y = no_target (suc ps) zero n x y
no_target (suc ps) (suc r) n x y = no_target ps r n x y

module _ (o : Ontology) (w : IsOntology o) (l : Listed) (fits : IsListedOf o l) (a b c : NumberedInterpretation)
    (members : AddsMembers (IsListedMember o l.classes) (empty_interpretation o.names l.domain) a) (pairs : AddsPairs (IsListedPair l.pairs) a b) (individuals : PutsIndividuals l.individuals b c) where
  pub listing_made : IsMadeFor o.names c
  listing_made =
      let start = empty_is_made_for o w l.domain in
      record {
        classes = ap length (individuals.classes ∙ pairs.classes) ∙ members.many ∙ start.classes;
        properties = ap length individuals.pairs ∙ pairs.many ∙ ap length members.pairs ∙ start.properties;
        individuals = individuals.many ∙ ap length (pairs.individuals ∙ members.individuals) ∙ start.individuals;
      }

  -- no class behind the first has members at the start
  none_yet : (d x : ℕ) → 2 ≤ d → lies_below (empty_interpretation o.names l.domain).classes d x ≡ false
  none_yet zero x h = absurd (omega arith)
  none_yet (suc d) x h = no_number (length o.names.classes - 1) l.domain d x

  class_listed : (d e x : ℕ) → IsClassAt o d e → 2 ≤ e → (lies_below c.classes d x ≡ true) ↔ Contains (elements_of l.classes e) x
  class_listed d e x g behind =
      let same = individuals.classes ∙ pairs.classes in
      let kept = ap (λ (rows : List (List Bool)). lies_below rows d x) same in
      let put = members.classes d x in
      let by = member_by_class o w l.classes d e x g in
      let in_rows = listed_member l.classes fits.classes_ascend e x in
      let none = none_yet d x (class_behind o w d e g behind) in (
        λ t. elim (put.0 (sym kept ∙ t)) [ inl u ↦ absurd (false≢true (sym none ∙ u)) | inr p ↦ in_rows.1 (by.0 p) ],
        λ h. kept ∙ put.1 (inr (by.1 (in_rows.0 h))),
      )

  pair_listed : (r x y : ℕ) → (is_target c r x y ≡ true) ↔ Contains (listed_targets l.pairs r x) y
  pair_listed r x y =
      let kept = ap (λ (ps : List (List (List ℕ))). list_any (λ z. z == y) (get_or (get_or ps r []) x [])) individuals.pairs in
      let first = ap (λ (ps : List (List (List ℕ))). list_any (λ z. z == y) (get_or (get_or ps r []) x [])) members.pairs in
      let none = first ∙ no_target (length o.names.properties) r l.domain x y in
      let put = pairs.pairs r x y in
      let in_rows = listed_target l.pairs fits.pairs_ascend r x y in (
        λ t. elim (put.0 (sym kept ∙ t)) [ inl u ↦ absurd (false≢true (sym none ∙ u)) | inr p ↦ in_rows.1 p ],
        λ h. kept ∙ put.1 (inr (in_rows.0 h)),
      )

  pub listing_is : IsListing o l (interpretation_of o.names c)
  listing_is =
      let named = stands o w c in
      record {
        size = named.size ∙ individuals.size ∙ pairs.size ∙ members.size;
        classes = λ d e x g behind lx.
            let same = named.classes d x (w.nodes e (Class d) g) in
            let says = class_listed d e x g behind in
            (λ t. says.0 (sym same ∙ t), λ h. same ∙ says.1 h);
        pairs = λ r x y lr lx ly.
            let same = named.properties r x y lr in
            let says = pair_listed r x y in
            (λ t. says.0 (sym same ∙ t), λ h. same ∙ says.1 h);
        individuals = λ i x g.
            let there = individuals.each i x g in
            let within = slice_get_within l.individuals i x g in
            let many = fits.individuals_each in
            named.individuals i (omega arith) ∙ get_or_from_slice_get c.individuals i x 0 there;
      }
