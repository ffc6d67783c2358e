-- Relations that are closed, and the class that stands for each group.
use Rattle.std.proofs.Common.{◌≡◌, ℕ, ◌<◌, Bool, true, false, not, List, length}
use Rattle.std.proofs.lemmas.Bool.{and_from, and_parts, both_ways, false_from_ne_true, not-true, not_from_false}
use Rattle.axioms.specs.Expression.{owl_nothing, owl_thing}
use Rattle.axioms.specs.Ontology.{Names, name_at}
use Rattle.taxonomy.specs.Superclasses.{is_among}
use Rattle.taxonomy.specs.Texts.{group, groups, in_byte_order, is_same, is_strictly_above}
use Rattle.inferred_text.proofs.Among.{filtered}
use Rattle.inferred_text.proofs.Orders.{in_order, low_in_order}
use Rattle.inferred_text.proofs.Leading.{leader_of}

-- owl:Thing and owl:Nothing come first, each class is below itself and below what is above a class above it, and an individual belongs
-- to each class above one that it belongs to
pub record AreClosed (names : Names) (r belongs : ℕ → ℕ → Bool) : Type 0 where
  pub two : 1 < length names.classes
  pub thing : name_at names.classes 0 ≡ owl_thing
  pub nothing : name_at names.classes 1 ≡ owl_nothing
  pub reflexive : (c : ℕ) → c < length names.classes → r c c ≡ true
  pub transitive : (c d e : ℕ) → c < length names.classes → d < length names.classes → e < length names.classes → r c d ≡ true → r d e ≡ true → r c e ≡ true
  pub upward : (a c d : ℕ) → a < length names.individuals → c < length names.classes → d < length names.classes → belongs a c ≡ true → r c d ≡ true → belongs a d ≡ true

-- ---- strictly above

module _ (r : ℕ → ℕ → Bool) where
  -- above, and not below
  pub strict_parts : (g h : ℕ) → is_strictly_above r g h ≡ true → (r g h ≡ true) × (r h g ≡ false)
  strict_parts g h e = let w = and_parts (r g h) (not (r h g)) e in (w.0, not-true (r h g) w.1)

  pub strict_from : (g h : ℕ) → r g h ≡ true → r h g ≡ false → is_strictly_above r g h ≡ true
  strict_from g h e f = and_from (r g h) (not (r h g)) e (not_from_false (r h g) f)

  pub never_itself : (c : ℕ) → is_strictly_above r c c ≡ false
  never_itself c = false_from_ne_true (is_strictly_above r c c) (λ t. let w = strict_parts c c t in both_ways (r c c) w.1 w.0)

-- ---- what stands for a group

-- the class stands for the group of c
pub record IsLeader (names : Names) (r : ℕ → ℕ → Bool) (c g : ℕ) : Type 0 where
  pub low : g < length names.classes
  pub leading : is_among (groups r (in_byte_order names.classes)) g ≡ true
  pub below : r c g ≡ true
  pub back : r g c ≡ true

module _ (names : Names) (r belongs : ℕ → ℕ → Bool) (closed : AreClosed names r belongs) where
  abbrev n : ℕ
  n = length names.classes

  abbrev all : List ℕ
  all = in_byte_order names.classes

  -- below a class that is strictly below, and above one that is strictly above
  pub strict_below : (c d e : ℕ) → c < n → d < n → e < n → r c d ≡ true → is_strictly_above r d e ≡ true → is_strictly_above r c e ≡ true
  strict_below c d e lc ld le h s =
      let w = strict_parts r d e s in
      strict_from r c e (closed.transitive c d e lc ld le h w.0)
      (false_from_ne_true (r e c) (λ t. both_ways (r e d) w.1 (closed.transitive e c d le lc ld t h)))

  pub strict_above : (c d e : ℕ) → c < n → d < n → e < n → is_strictly_above r c d ≡ true → r d e ≡ true → is_strictly_above r c e ≡ true
  strict_above c d e lc ld le s h =
      let w = strict_parts r c d s in
      strict_from r c e (closed.transitive c d e lc ld le w.0 h)
      (false_from_ne_true (r e c) (λ t. both_ways (r d c) w.1 (closed.transitive d e c ld le lc h t)))

  -- each class has one that stands for its group
  pub leader : (c : ℕ) → c < n → (g : ℕ) × IsLeader names r c g
  leader c l =
      let w = leader_of r c (and_from (r c c) (r c c) (closed.reflexive c l) (closed.reflexive c l)) all (in_order names.classes c l) in
      let parts = and_parts (r c w.0) (r w.0 c) w.1.same in
      (w.0, record { low = low_in_order names.classes w.0 w.1.there; leading = w.1.leading; below = parts.0; back = parts.1 })

  -- what is the same as a class stands in its group
  pub in_group : (g c : ℕ) → c < n → r g c ≡ true → r c g ≡ true → is_among (group r all g) c ≡ true
  in_group g c l e f = filtered (is_same r g) all c (in_order names.classes c l) (and_from (r g c) (r c g) e f)
