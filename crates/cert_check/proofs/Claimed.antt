-- The claims of a listed interpretation, by lists: what each test of a class or an individual says of the interpretation.
use Rattle.std.proofs.Common.{◌≡◌, ◌↔◌, ℕ, zero, suc, ◌+◌, ◌<◌, ◌≤◌, ◌⊎◌, inl, inr, Bool, true, false, List, [], ◌∷◌, ◌++◌, length, map, take, get_or, set, slice_get, Option, Some, None, Contains, refl, sym, ap, ap₂, ◌∙◌, subst, arith}
use Rattle.std.proofs.lemmas.Bool.{cases_eq, false≢true}
use Rattle.std.proofs.lemmas.List.{length-set, take-map}
use Rattle.std.proofs.lemmas.List.Elements.{All-contains}
use Rattle.std.proofs.lemmas.Option.{same_Some, slice_get_within, slice_get-get_or}
use Rattle.std.specs.Cmp.{both_ways}
use Rattle.lemmas.proofs.Mapped.{slice_get_map}
use Rattle.lemmas.proofs.Members.{Contains-from_slice_get, slice_get-from_Contains}
use Rattle.lemmas.proofs.Places.{slice_get_take}
use Rattle.axioms.specs.Ontology.{Ontology, Class, IsClassAt, expression, name_at, nothing}
use Rattle.axioms.specs.WellFormedness.{IsOntology}
use Rattle.axioms.specs.Expression.{owl_thing}
use Rattle.axioms.proofs.Trees.{class_tree, one_class}
use Rattle.certificate.specs.Certificate.{Subject, Expression, Individual, Sub, Line, Listed}
use Rattle.certificate.specs.Writability.{IsListedOf, IsNamedClass, AreElements, Ascends}
use Rattle.interpretation_spec.specs.Interpretation.{Interpretation, IsInterpretation, IsIn}
use Rattle.interpretation_spec.proofs.Extensions.{in_thing, not_in_nothing}
use Rattle.cert_check.specs.Acceptance.{Agrees}
use Rattle.listed_model.specs.Listing.{IsListing}
use Rattle.cert_check.specs.Derivation.{HasLine}
use Rattle.number_sets.specs.Pieces.{list_at}
use Rattle.cert_check.specs.Lists.{has_number, said_by, AreSuperclasses, AreTypes, AreElementClasses, AreClaimed, IsClaimed, IsInExactly, ClaimAgrees, ElementAgrees}
use Rattle.taxonomy.specs.Relation.{is_listed}
use Rattle.cert_check.specs.Verdict.{HasClaim, ClaimsHold, IndividualAgrees, Each, IsFirstWithout}
use Rattle.certificate.specs.View.{claim_of}
use Rattle.certificate.specs.declared.listed.Claim.{Claim}
use Rattle.cert_check.proofs.Additions.{contains_more, next_mapped, slice_get-set_same, slice_get-set_other}
use Rattle.cert_check.proofs.Listwise.{listed_within}
use Rattle.cert_check.proofs.Relations.{below_line, type_line}
use Rattle.cert_check.proofs.ListedRows.{one_place, listed_member, member_by_class}

-- ---- the claims by class

-- nothing was claimed before for the class of a claim
pub fresh : (claims : List (ℕ × ℕ)) → Ascends (map (λ c. c.0) claims) → (i : ℕ) (claim : ℕ × ℕ) → slice_get claims i ≡ Some claim
    → (y : ℕ) → Contains (take i claims) (claim.0, y) → ⊥
fresh claims ascend i claim g y c =
    let (k, there) = slice_get-from_Contains (take i claims) (claim.0, y) c in
    let (before, found) = slice_get_take i claims k (claim.0, y) there in
    let first = slice_get_map (λ (c : ℕ × ℕ). c.0) claims k (claim.0, y) found in
    let second = slice_get_map (λ (c : ℕ × ℕ). c.0) claims i claim g in
    let same : k ≡ i = one_place (map (λ c. c.0) claims) ascend k i claim.0 first second in
    omega arith

same_pair : (claim : ℕ × ℕ) (e x : ℕ) → e ≡ claim.0 → x ≡ claim.1 → (e, x) ≡ claim
same_pair claim e x p q = ap₂ (λ (a b : ℕ). (a, b)) p q

module _ (o : Ontology) (claims : List (ℕ × ℕ)) (claim : ℕ × ℕ) (claimed : List (Option ℕ)) (before : AreClaimed o claims claimed) where
  -- the expression of the claim is no class
  pub claimed_same : ((c : ℕ) → IsClassAt o c claim.0 → ⊥) → AreClaimed o (claims ++ claim ∷ []) claimed
  claimed_same none = record {
    long = before.long;
    each = λ c e x g.
        let more = contains_more claims claim (e, x) in
        let old = before.each c e x g in (
          λ s. more.1 (inl (old.0 s)),
          λ k. elim (more.0 k) [
            | inl h ↦ old.1 h
            | inr same ↦ absurd (none c (subst (IsClassAt o c) (ap (λ (p : ℕ × ℕ). p.0) same) g))
          ],
        );
  }

  -- the expression of the claim is a class, for which nothing was claimed before
  pub claimed_more : IsOntology o → (c : ℕ) → IsClassAt o c claim.0 → ((y : ℕ) → Contains claims (claim.0, y) → ⊥) → AreClaimed o (claims ++ claim ∷ []) (set claimed c (Some claim.1))
  claimed_more w c at none = record {
    long = length-set claimed c (Some claim.1) ∙ before.long;
    each = λ d e x g. elim (cases_eq d c) [ inl same ↦ this d e x g same | inr apart ↦ others d e x g apart ];
  }
    where
      others : (d e x : ℕ) → IsClassAt o d e → (d ≡ c → ⊥) → (slice_get (set claimed c (Some claim.1)) d ≡ Some (Some x)) ↔ Contains (claims ++ claim ∷ []) (e, x)
      others d e x g apart =
          let more = contains_more claims claim (e, x) in
          let old = before.each d e x g in
          let stays = slice_get-set_other claimed c d (Some claim.1) apart in (
            λ s. more.1 (inl (old.0 (sym stays ∙ s))),
            λ k. elim (more.0 k) [
              | inl h ↦ stays ∙ old.1 h
              | inr same ↦ absurd (apart (one_class o d c e g (subst (IsClassAt o c) (sym (ap (λ (p : ℕ × ℕ). p.0) same)) at)))
            ],
          )

      this : (d e x : ℕ) → IsClassAt o d e → d ≡ c → (slice_get (set claimed c (Some claim.1)) d ≡ Some (Some x)) ↔ Contains (claims ++ claim ∷ []) (e, x)
      this d e x g same =
          let more = contains_more claims claim (e, x) in
          let at_d : IsClassAt o d claim.0 = subst (λ k. IsClassAt o k claim.0) (sym same) at in
          let expr : e ≡ claim.0 = w.distinct_nodes e claim.0 (Class d) g at_d in
          let within : c < length claimed = (let l = w.nodes claim.0 (Class c) at in let m = before.long in omega arith) in
          let there : slice_get (set claimed c (Some claim.1)) d ≡ Some (Some claim.1) = ap (slice_get (set claimed c (Some claim.1))) same ∙ slice_get-set_same claimed c (Some claim.1) within in (
            λ s.
                let value : claim.1 ≡ x = same_Some claim.1 x (same_Some (Some claim.1) (Some x) (sym there ∙ s)) in
                more.1 (inr (same_pair claim e x expr (sym value))),
            λ k. elim (more.0 k) [
              | inl h ↦ absurd (none x (subst (λ n. Contains claims (n, x)) expr h))
              | inr p ↦ there ∙ ap (λ (q : ℕ × ℕ). Some (Some q.1)) (sym p)
            ],
          )

-- the next of the code's claims, after those before it
module _ (o : Ontology) (w : IsOntology o) (claims : List Claim) (ascend : Ascends (map (λ c. c.0) (map claim_of claims))) (k : ℕ) (claim : Claim) (g : slice_get claims k ≡ Some claim)
    (claimed : List (Option ℕ)) (before : AreClaimed o (map claim_of (take k claims)) claimed) where
  pub claim_step : (c : ℕ) → IsClassAt o c claim.class.0 → AreClaimed o (map claim_of (take (k + 1) claims)) (set claimed c (Some claim.element))
  claim_step c at =
      let new : (y : ℕ) → Contains (map claim_of (take k claims)) (claim.class.0, y) → ⊥ =
      λ y h. fresh (map claim_of claims) ascend k (claim_of claim) (slice_get_map claim_of claims k claim g) y
      (subst (λ cs. Contains cs (claim.class.0, y)) (sym (take-map claim_of k claims)) h) in
      subst (λ cs. AreClaimed o cs (set claimed c (Some claim.element))) (sym (next_mapped claim_of claims k claim g))
      (claimed_more o (map claim_of (take k claims)) (claim_of claim) claimed before w c at new)

  pub no_claim_step : ((c : ℕ) → IsClassAt o c claim.class.0 → ⊥) → AreClaimed o (map claim_of (take (k + 1) claims)) claimed
  no_claim_step none =
      subst (λ cs. AreClaimed o cs claimed) (sym (next_mapped claim_of claims k claim g))
      (claimed_same o (map claim_of (take k claims)) (claim_of claim) claimed before none)

-- ---- first numbers

pub first_as : (P Q : ℕ → Type 0) → ((n : ℕ) → P n ↔ Q n) → (n : ℕ) → IsFirstWithout P n → IsFirstWithout Q n
first_as P Q same n first = (λ q. first.0 ((same n).1 q), λ k l. (same k).0 (first.1 k l))

pub each_as : (P Q : ℕ → Type 0) → ((n : ℕ) → P n ↔ Q n) → Each P → Each Q
each_as P Q same each n = (same n).0 (each n)

-- ---- one class

-- what a test of the claim and the list of a class says of the class
pub agrees_at : (above : List (List ℕ)) (claimed : List (Option ℕ)) (holding : List (List ℕ)) (n : ℕ) (list : List ℕ) (b : Bool)
    → n < length above → length claimed ≡ length above → list ≡ list_at above n
    → (b ≡ true) ↔ ((x : ℕ) → get_or claimed n None ≡ Some x → (is_listed holding x n ≡ true) × IsInExactly holding x list) → (b ≡ true) ↔ ClaimAgrees above claimed holding n
agrees_at above claimed holding n list b l long is h =
    let g : slice_get claimed n ≡ Some (get_or claimed n None) = slice_get-get_or claimed n None (omega arith) in (
      λ t m x s. (let p = h.0 t x (same_Some (get_or claimed n None) (Some x) (sym g ∙ s)) in (p.0, subst (IsInExactly holding x) is p.1)),
      λ all. h.1 (λ x e. (let p = all l x (g ∙ ap Some e) in (p.0, subst (IsInExactly holding x) (sym is) p.1))),
    )

-- ---- which classes have a claim

module _ (o : Ontology) (w : IsOntology o) (lines : List Line) (above : List (List ℕ)) (class : AreSuperclasses o (said_by lines) above) where
  class_in : (c e : ℕ) → IsClassAt o c e → c < length above
  class_in c e g = let lc = w.nodes e (Class c) g in let long = class.long in omega arith

  pub claimed_as : (l : Listed) (claimed : List (Option ℕ)) → AreClaimed o l.claims claimed → (c : ℕ) → IsClaimed above claimed c ↔ HasClaim o lines l c
  claimed_as l claimed claims c = (
    λ h e g some. elim (h (class_in c e g)) [
      | inl t ↦ absurd (some ((below_line o w lines c 1 e nothing g w.nothing_node).0 ((class.each c 1 (class_in c e g)).0 t)))
      | inr s ↦ (s.0, (claims.each c e s.0 g).0 s.1)
    ],
    λ h lc. by_test h lc (is_listed above c 1) refl,
  )
    where
      by_test : HasClaim o lines l c → c < length above → (b : Bool) → is_listed above c 1 ≡ b
          → (is_listed above c 1 ≡ true) ⊎ ((x : ℕ) × (slice_get claimed c ≡ Some (Some x)))
      by_test h lc true t = inl t
      by_test h lc false t =
          let long = class.long in
          let (e, g) = w.class_nodes c (omega arith) in
          let (x, k) = h e g (λ line. false≢true (sym t ∙ (class.each c 1 lc).1 ((below_line o w lines c 1 e nothing g w.nothing_node).1 line))) in
          inr (x, (claims.each c e x g).1 k)

module _ (o : Ontology) (w : IsOntology o) (l : Listed) (fits : IsListedOf o l) (claimed : List (Option ℕ)) (claims : AreClaimed o l.claims claimed) where
  element_in : (e x : ℕ) → Contains l.claims (e, x) → x < l.domain
  element_in e x k = (All-contains (λ c. IsNamedClass o c.0 × (c.1 < l.domain)) l.claims (e, x) fits.claims k).1

-- the lists of elements are of classes
pub element_classes_fit : (o : Ontology) → IsOntology o → (domain : ℕ) (classes : List (ℕ × List ℕ)) (lists : List (List ℕ)) → AreElementClasses o domain classes lists
    → (bound : ℕ) → bound ≡ length o.names.classes → (x n : ℕ) → is_listed lists x n ≡ true → n < bound
element_classes_fit o w domain classes lists fit bound many x n t =
    subst (λ m. n < m) (sym many) (elim ((fit.each x n (listed_within lists x n t)).0 t) [
      | inl first ↦ (let some : 0 < length o.names.classes = slice_get_within o.names.classes 0 owl_thing w.thing_name in omega arith)
      | inr s ↦ w.nodes s.1.0 (Class n) s.3.0
    ])

-- ---- what lists say of the interpretation

module _ (o : Ontology) (w : IsOntology o) (lines : List Line) (l : Listed) (fits : IsListedOf o l) (i : Interpretation) (listing : IsListing o l i) (good : IsInterpretation i) (holding : List (List ℕ)) (rows : AreElementClasses o l.domain l.classes holding) where
  inside : (x : ℕ) → x < l.domain → x < i.size
  inside x lx = subst (λ n. x < n) (sym listing.size) lx

  -- the expression that is a class, and the class
  by_name : (c e x : ℕ) → IsClassAt o c e → IsIn i (expression o e) x ↔ (i.class (name_at o.names.classes c) x ≡ true)
  by_name c e x g =
      let tree = class_tree o c e g in
      (λ h. subst (λ t. IsIn i t x) tree h, λ h. subst (λ t. IsIn i t x) (sym tree) h)

  behind : (k : ℕ) (row : ℕ × List ℕ) → slice_get l.classes k ≡ Some row → 2 ≤ row.0
  behind k row g = (All-contains (λ r. IsNamedClass o r.0 × (2 ≤ r.0) × AreElements l.domain r.1) l.classes row fits.classes (Contains-from_slice_get l.classes k row g)).1

  there : (x : ℕ) → x < l.domain → x < length holding
  there x lx = subst (λ n. x < n) (sym rows.long) lx

  has_class : (x c : ℕ) → x < l.domain → is_listed holding x c ≡ true → (e : ℕ) × IsClassAt o c e × IsIn i (expression o e) x
  has_class x c lx t = elim ((rows.each x c (there x lx)).0 t) [
    | inl first ↦ (0, subst (λ k. IsClassAt o k 0) (sym first) w.thing_node, in_thing o w i good x (inside x lx))
    | inr s ↦
        (let e = s.1.0 in
        let at : IsClassAt o c e = s.3.0 in
        let member = (listed_member l.classes fits.classes_ascend e x).1 ((member_by_class o w l.classes c e x at).0 s) in
        (e, at, (by_name c e x at).1 ((listing.classes c e x at (behind s.0 s.1 s.2) (inside x lx)).1 member)))
  ]

  is_in : (x c e : ℕ) → x < l.domain → IsClassAt o c e → is_listed holding x c ≡ true → IsIn i (expression o e) x
  is_in x c e lx g t =
      let (f, at, h) = has_class x c lx t in
      subst (λ k. IsIn i (expression o k) x) (w.distinct_nodes f e (Class c) at g) h

  in_list : (x c e : ℕ) → x < l.domain → IsClassAt o c e → IsIn i (expression o e) x → is_listed holding x c ≡ true
  in_list x c zero lx g h = (rows.each x c (there x lx)).1 (inl (one_class o c 0 0 g w.thing_node))
  in_list x c (suc zero) lx g h = absurd (not_in_nothing o w i good x (inside x lx) h)
  in_list x c (suc (suc e)) lx g h =
      let n = suc (suc e) in
      let member = (listing.classes c n x g (omega arith) (inside x lx)).0 ((by_name c n x g).0 h) in
      (rows.each x c (there x lx)).1 (inr ((member_by_class o w l.classes c n x g).1 ((listed_member l.classes fits.classes_ascend n x).0 member)))

  -- a list says which classes lines put above the subject
  record SaysAbove (subject : Subject) (list : List ℕ) : Type 0 where
    some : (d : ℕ) → has_number list d ≡ true → (f : ℕ) × IsClassAt o d f
    line : (d f : ℕ) → IsClassAt o d f → (has_number list d ≡ true) ↔ HasLine lines (Sub subject f)

  agrees_from : (subject : Subject) (list : List ℕ) → SaysAbove subject list → (x : ℕ) → x < l.domain → IsInExactly holding x list → Agrees o i lines subject x
  agrees_from subject list says x lx same c e g = (
    λ h. (says.line c e g).0 (sym (same c) ∙ in_list x c e lx g h),
    λ h. is_in x c e lx g (same c ∙ (says.line c e g).1 h),
  )

  agrees_to : (subject : Subject) (list : List ℕ) → SaysAbove subject list → (x : ℕ) → x < l.domain → Agrees o i lines subject x → IsInExactly holding x list
  agrees_to subject list says x lx agrees d =
      both_ways (is_listed holding x d) (has_number list d)
      (λ t. let (e, g, h) = has_class x d lx t in (says.line d e g).1 ((agrees d e g).0 h))
      (λ t. let (f, g) = says.some d t in in_list x d f lx g ((agrees d f g).1 ((says.line d f g).0 t)))

  module _ (above : List (List ℕ)) (class : AreSuperclasses o (said_by lines) above) where
    class_says : (c e : ℕ) → IsClassAt o c e → SaysAbove (Expression e) (list_at above c)
    class_says c e g = record {
      some = λ d t. (let s = (class.each c d (class_in o w lines above class c e g)).0 t in (s.3.1, s.3.4));
      line = λ d f h. (
        λ t. (below_line o w lines c d e f g h).0 ((class.each c d (class_in o w lines above class c e g)).0 t),
        λ k. (class.each c d (class_in o w lines above class c e g)).1 ((below_line o w lines c d e f g h).1 k),
      );
    }

    pub claims_as : (claimed : List (Option ℕ)) → AreClaimed o l.claims claimed → (c : ℕ) → ClaimAgrees above claimed holding c ↔ ClaimsHold o i lines l c
    claims_as claimed claims c = (
      λ h e x g k.
          let lx = element_in o w l fits claimed claims e x k in
          let p = h (class_in o w lines above class c e g) x ((claims.each c e x g).1 k) in
          record { member = is_in x c e lx g p.0; agrees = agrees_from (Expression e) (list_at above c) (class_says c e g) x lx p.1 },
      λ h lc x s.
          let long = class.long in
          let (e, g) = w.class_nodes c (omega arith) in
          let k = (claims.each c e x g).0 s in
          let lx = element_in o w l fits claimed claims e x k in
          let holds = h e x g k in
          (in_list x c e lx g holds.member, agrees_to (Expression e) (list_at above c) (class_says c e g) x lx holds.agrees),
    )

  module _ (types : List (List ℕ)) (type : AreTypes o (said_by lines) types) where
    type_says : (a : ℕ) → a < length types → SaysAbove (Individual a) (list_at types a)
    type_says a la = record {
      some = λ d t. (let s = (type.each a d la).0 t in (s.3.0, s.3.2));
      line = λ d f h. (
        λ t. (type_line o w lines a d f h).0 ((type.each a d la).0 t),
        λ k. (type.each a d la).1 ((type_line o w lines a d f h).1 k),
      );
    }

    pub individuals_as : (a : ℕ) → ElementAgrees types l.individuals holding a ↔ IndividualAgrees o i lines l a
    individuals_as a = (
      λ h x g.
          let within = slice_get_within l.individuals a x g in
          let many = fits.individuals_each in
          let long = type.long in
          let la : a < length types = omega arith in
          agrees_from (Individual a) (list_at types a) (type_says a la) x (element_in_domain a x g) (h la x g),
      λ h la x g. agrees_to (Individual a) (list_at types a) (type_says a la) x (element_in_domain a x g) (h x g),
    )
      where
        element_in_domain : (a x : ℕ) → slice_get l.individuals a ≡ Some x → x < l.domain
        element_in_domain a x g = All-contains (λ x. x < l.domain) l.individuals x fits.individuals (Contains-from_slice_get l.individuals a x g)
