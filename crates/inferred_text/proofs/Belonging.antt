-- In an interpretation in which it is as the axioms say that were found, each individual is in each class that it is told to belong to.
use Rattle.std.proofs.Common.{◌≡◌, ℕ, zero, suc, ◌<◌, Bool, true, false, not, ◌&&◌, length, inl, inr, arith}
use Rattle.std.proofs.lemmas.Bool.{and_from, and_parts, and_right, both_ways, cases_Bool, false_from_ne_true, not_from_false}
use Rattle.axioms.specs.Expression.{ClassExpression}
use Rattle.axioms.specs.Ontology.{Names, name_at}
use Rattle.interpretation_spec.specs.Interpretation.{Interpretation, IsIn, IsInterpretation}
use Rattle.taxonomy.specs.Following.{class_at}
use Rattle.taxonomy.specs.Texts.{is_strictly_above, least_among, some_below}
use Rattle.inferred_text.specs.Inferred.{is_no_top}
use Rattle.inferred_text.proofs.Among.{count, fewer, some_at, some_found}
use Rattle.inferred_text.proofs.Told.{IsTold}
use Rattle.inferred_text.proofs.Closed.{AreClosed, leader, never_itself, strict_above, strict_parts}
use Rattle.inferred_text.proofs.Reached.{in_top, reached, same}

module _ (names : Names) (r belongs : ℕ → ℕ → Bool) (closed : AreClosed names r belongs) where
  abbrev n : ℕ
  n = length names.classes

  module _ (i : Interpretation) (is : IsInterpretation i) (told : IsTold i names r belongs) where
    abbrev at : ℕ → ClassExpression
    at c = class_at names c

    module _ (a : ℕ) (la : a < length names.individuals) where
      abbrev element : ℕ
      element = i.individual (name_at names.individuals a)

      -- those of its classes that are strictly below
      abbrev lower : ℕ → ℕ → Bool
      lower c k = belongs a k && is_strictly_above r k c

      -- none of its classes is strictly below
      in_least : (c : ℕ) → c < n → belongs a c ≡ true → some_below n (lower c) ≡ false → IsIn i (at c) element
      in_least c lc b none =
          let u = leader names r belongs closed c lc in
          let p = u.1 in
          let in_first = closed.upward a c u.0 la lc p.low b p.below in
          let none' : some_below n (lower u.0) ≡ false = false_from_ne_true (some_below n (lower u.0)) (λ t.
          let w = some_found n (lower u.0) t in
          let parts = and_parts (belongs a w.0) (is_strictly_above r w.0 u.0) w.2 in
          both_ways (some_below n (lower c)) none
          (some_at n (lower c) w.0 w.1 (and_from (belongs a w.0) (is_strictly_above r w.0 c) parts.0 (strict_above names r belongs closed w.0 u.0 c w.1 p.low lc parts.1 p.back)))) in
          let least : least_among n r (belongs a) u.0 ≡ true = and_from (belongs a u.0) (not (some_below n (lower u.0))) in_first (not_from_false (some_below n (lower u.0)) none') in
          let within = is.individuals (name_at names.individuals a) in
          let in_leader : IsIn i (at u.0) element = elim (cases_Bool (is_no_top r u.0)) [
            | inl t ↦ told.types a u.0 la p.leading least t
            | inr t ↦ in_top names r belongs closed i is told u.0 p.low t element within
          ] in
          (same names r belongs closed i is told u.0 c p.low lc p.back p.below).0 element within in_leader

      -- by how many of its classes are strictly below
      in_each : (m c : ℕ) → count n (lower c) < m → c < n → belongs a c ≡ true → IsIn i (at c) element
      in_each zero c l lc b = absurd (omega (arith, l))
      in_each (suc m) c l lc b =
          elim (cases_Bool (some_below n (lower c))) [
            | inr none ↦ in_least c lc b none
            | inl t ↦
                let (k, lk, e) = some_found n (lower c) t in
                let parts = and_parts (belongs a k) (is_strictly_above r k c) e in
                let below = (strict_parts r k c parts.1).0 in
                let less = fewer n (lower k) (lower c) k
                (λ j lj f. let w = and_parts (belongs a j) (is_strictly_above r j k) f in
                and_from (belongs a j) (is_strictly_above r j c) w.0 (strict_above names r belongs closed j k c lj lk lc w.1 below))
                lk (and_right (belongs a k) (is_strictly_above r k k) (never_itself r k)) e in
                reached names r belongs closed i is told k c lk lc below element (is.individuals (name_at names.individuals a)) (in_each m k (omega (arith, l, less)) lk parts.0)
          ]

      -- the individual is in each class that it belongs to
      pub belonging : (c : ℕ) → c < n → belongs a c ≡ true → IsIn i (at c) element
      belonging c l b = in_each (suc (count n (lower c))) c (omega arith) l b
