-- In an interpretation in which it is as the axioms say that were found, each class lies within each that it is told to lie below.
use Rattle.std.proofs.Common.{◌≡◌, ℕ, zero, suc, ◌<◌, Bool, true, false, not, ◌&&◌, List, length, inl, inr, sym, ap, ◌∙◌, arith}
use Rattle.std.proofs.lemmas.Bool.{and_from, and_left, and_parts, and_right, both_ways, cases_Bool, false_from_ne_true, false≢true, not-false, not_from_false}
use Rattle.axioms.specs.Expression.{ClassExpression}
use Rattle.axioms.specs.Ontology.{Names}
use Rattle.interpretation_spec.specs.Interpretation.{Interpretation, IsIn, IsInterpretation, IsSame, IsWithin}
use Rattle.taxonomy.specs.Following.{class_at}
use Rattle.taxonomy.specs.Superclasses.{is_among}
use Rattle.taxonomy.specs.Texts.{groups, in_byte_order, is_directly_above, is_no_bottom, is_same, is_strictly_above, nothing_class, some_below}
use Rattle.inferred_text.specs.Inferred.{is_no_top, thing_class}
use Rattle.inferred_text.proofs.Alike.{within_through}
use Rattle.inferred_text.proofs.Among.{count, fewer, some_at, some_found}
use Rattle.inferred_text.proofs.Told.{IsTold}
use Rattle.inferred_text.proofs.Closed.{AreClosed, in_group, leader, never_itself, strict_above, strict_below, strict_from, strict_parts}

-- strictly above the one and below the other
abbrev between : (ℕ → ℕ → Bool) → ℕ → ℕ → ℕ → Bool
between r g h k = is_strictly_above r g k && is_strictly_above r k h

module _ (names : Names) (r belongs : ℕ → ℕ → Bool) (closed : AreClosed names r belongs) where
  abbrev n : ℕ
  n = length names.classes

  abbrev all : List ℕ
  all = in_byte_order names.classes

  module _ (i : Interpretation) (is : IsInterpretation i) (told : IsTold i names r belongs) where
    abbrev at : ℕ → ClassExpression
    at c = class_at names c

    in_thing : (x : ℕ) → x < i.size → IsIn i (at thing_class) x
    in_thing x l = ap (λ name. i.class name x) closed.thing ∙ is.thing x l

    not_in_nothing : (x : ℕ) → x < i.size → IsIn i (at nothing_class) x → ⊥
    not_in_nothing x l h = false≢true (sym (is.nothing x l) ∙ sym (ap (λ name. i.class name x) closed.nothing) ∙ h)

    -- classes that are each the same as one that stands for a group
    by_leader : (g c d : ℕ) → g < n → c < n → d < n → is_among (groups r all) g ≡ true → r c g ≡ true → r g c ≡ true → r d g ≡ true → r g d ≡ true → IsSame i (at c) (at d)
    by_leader g c d lg lc ld e cg gc dg gd =
        elim (cases_Bool (is_no_bottom r g)) [
          | inl t ↦ told.alike g e t c d (in_group names r belongs closed g c lc gc cg) (in_group names r belongs closed g d ld gd dg)
          | inr f ↦
              let w = and_parts (r g nothing_class) (r nothing_class g) (not-false (is_same r g nothing_class) f) in
              let two = closed.two in
              told.bottom c d
              (in_group names r belongs closed nothing_class c lc (closed.transitive nothing_class g c two lg lc w.1 gc) (closed.transitive c g nothing_class lc lg two cg w.0))
              (in_group names r belongs closed nothing_class d ld (closed.transitive nothing_class g d two lg ld w.1 gd) (closed.transitive d g nothing_class ld lg two dg w.0))
        ]

    -- classes each below the other are the same
    pub same : (c d : ℕ) → c < n → d < n → r c d ≡ true → r d c ≡ true → IsSame i (at c) (at d)
    same c d lc ld cd dc =
        let w = leader names r belongs closed c lc in
        let f = w.1 in
        by_leader w.0 c d f.low lc ld f.leading f.below f.back (closed.transitive d c w.0 ld lc f.low dc f.below) (closed.transitive w.0 c d f.low lc ld f.back cd)

    -- what is in owl:Thing's group has all elements, and what is in owl:Nothing's none
    pub in_top : (h : ℕ) → h < n → is_no_top r h ≡ false → (x : ℕ) → x < i.size → IsIn i (at h) x
    in_top h l f x low =
        let w = and_parts (r h thing_class) (r thing_class h) (not-false (is_same r h thing_class) f) in
        let two = closed.two in
        let zero_low : thing_class < n = omega (arith, two) in
        (same thing_class h zero_low l w.1 w.0).0 x low (in_thing x low)

    from_bottom : (g : ℕ) → g < n → is_no_bottom r g ≡ false → (d : ClassExpression) → IsWithin i (at g) d
    from_bottom g l f d x low h =
        let w = and_parts (r g nothing_class) (r nothing_class g) (not-false (is_same r g nothing_class) f) in
        absurd (not_in_nothing x low ((same g nothing_class l closed.two w.0 w.1).0 x low h))

    -- ---- classes below classes

    -- of classes that stand for groups, one directly above the other
    leaders_within : (g h : ℕ) → g < n → h < n → is_among (groups r all) g ≡ true → is_among (groups r all) h ≡ true → is_directly_above r n g h ≡ true → IsWithin i (at g) (at h)
    leaders_within g h lg lh eg eh d =
        elim (cases_Bool (is_no_bottom r g)) [
          | inl b ↦
              elim (cases_Bool (is_no_top r h)) [
                | inl t ↦ told.above g h eg b eh d t
                | inr t ↦ λ x low _. in_top h lh t x low
              ]
          | inr b ↦ from_bottom g lg b (at h)
        ]

    -- no class is between
    directly : (g h : ℕ) → g < n → h < n → is_strictly_above r g h ≡ true → some_below n (between r g h) ≡ false → IsWithin i (at g) (at h)
    directly g h lg lh s none =
        let u = leader names r belongs closed g lg in
        let v = leader names r belongs closed h lh in
        let p = u.1 in
        let q = v.1 in
        let strict : is_strictly_above r u.0 v.0 ≡ true = strict_above names r belongs closed u.0 h v.0 p.low lh q.low (strict_below names r belongs closed u.0 g h p.low lg lh p.back s) q.below in
        let none' : some_below n (between r u.0 v.0) ≡ false = false_from_ne_true (some_below n (between r u.0 v.0)) (λ t.
        let w = some_found n (between r u.0 v.0) t in
        let parts = and_parts (is_strictly_above r u.0 w.0) (is_strictly_above r w.0 v.0) w.2 in
        both_ways (some_below n (between r g h)) none
        (some_at n (between r g h) w.0 w.1 (and_from (is_strictly_above r g w.0) (is_strictly_above r w.0 h)
        (strict_below names r belongs closed g u.0 w.0 lg p.low w.1 p.below parts.0)
        (strict_above names r belongs closed w.0 v.0 h w.1 q.low lh parts.1 q.back)))) in
        let direct = leaders_within u.0 v.0 p.low q.low p.leading q.leading
        (and_from (is_strictly_above r u.0 v.0) (not (some_below n (between r u.0 v.0))) strict (not_from_false (some_below n (between r u.0 v.0)) none')) in
        within_through i (at g) (at u.0) (at h) (same g u.0 lg p.low p.below p.back).0
        (within_through i (at u.0) (at v.0) (at h) direct (same v.0 h q.low lh q.back q.below).0)

    -- by how many classes are between
    strictly : (m g h : ℕ) → count n (between r g h) < m → g < n → h < n → is_strictly_above r g h ≡ true → IsWithin i (at g) (at h)
    strictly zero g h l lg lh s = absurd (omega (arith, l))
    strictly (suc m) g h l lg lh s =
        elim (cases_Bool (some_below n (between r g h))) [
          | inr none ↦ directly g h lg lh s none
          | inl t ↦
              let (k, lk, b) = some_found n (between r g h) t in
              let parts = and_parts (is_strictly_above r g k) (is_strictly_above r k h) b in
              let low = fewer n (between r g k) (between r g h) k
              (λ j lj c. let w = and_parts (is_strictly_above r g j) (is_strictly_above r j k) c in
              and_from (is_strictly_above r g j) (is_strictly_above r j h) w.0 (strict_above names r belongs closed j k h lj lk lh w.1 (strict_parts r k h parts.1).0))
              lk (and_right (is_strictly_above r g k) (is_strictly_above r k k) (never_itself r k)) b in
              let high = fewer n (between r k h) (between r g h) k
              (λ j lj c. let w = and_parts (is_strictly_above r k j) (is_strictly_above r j h) c in
              and_from (is_strictly_above r g j) (is_strictly_above r j h) (strict_below names r belongs closed g k j lg lk lj (strict_parts r g k parts.0).0 w.0) w.1)
              lk (and_left (is_strictly_above r k k) (is_strictly_above r k h) (never_itself r k)) b in
              within_through i (at g) (at k) (at h) (strictly m g k (omega (arith, l, low)) lg lk parts.0) (strictly m k h (omega (arith, l, high)) lk lh parts.1)
        ]

    -- each class lies within those above it
    pub reached : (c d : ℕ) → c < n → d < n → r c d ≡ true → IsWithin i (at c) (at d)
    reached c d lc ld e =
        elim (cases_Bool (r d c)) [
          | inl t ↦ (same c d lc ld e t).0
          | inr f ↦ strictly (suc (count n (between r c d))) c d (omega arith) lc ld (strict_from r c d e f)
        ]
