-- Marks of classes.
use Rattle.std.specs.Prelude.{◌≡◌, ◌<◌, ℕ, List, Bool, true, length}
use Rattle.axioms.specs.Expression.{Iri}
use Rattle.number_sets.specs.Members.{has}
use Rattle.taxonomy.specs.declared.least.Marks.{Marks}
use Rattle.taxonomy.specs.Relation.{is_listed}
use Rattle.taxonomy.specs.Superclasses.{is_among, AreSuperclasses}
use Rattle.taxonomy.specs.Texts.{groups, in_byte_order, is_strictly_above}

-- marks for n classes
pub record HasRoom (n : ℕ) (m : Marks) : Type 0 where
  pub above : length m.above ≡ n
  pub strictly : length m.strictly ≡ n

-- what is above a marked class is marked, and what is strictly above it is marked as that
pub record AreUpwardClosed (lists : List (List ℕ)) (m : Marks) : Type 0 where
  pub above : (c k : ℕ) → has m.above c ≡ true → is_listed lists c k ≡ true → has m.above k ≡ true
  pub strictly : (c k : ℕ) → has m.above c ≡ true → is_strictly_above (is_listed lists) c k ≡ true → has m.strictly k ≡ true

-- the set of those that stand for their groups
abbrev pub Leads : List (List ℕ) → List Iri → List Bool → Type 0
Leads lists names leading = (k : ℕ) → k < length lists → has leading k ≡ is_among (groups (is_listed lists) (in_byte_order names)) k

-- classes in groups: by their superclasses, with those that stand for their groups as a list and as a set
pub record AreGrouped (names : List Iri) (lists : List (List ℕ)) (leaders : List ℕ) (leading : List Bool) (marks : Marks) : Type 0 where
  pub superclasses : AreSuperclasses lists
  pub long : length names ≡ length lists
  pub firsts : leaders ≡ groups (is_listed lists) (in_byte_order names)
  pub leads : Leads lists names leading
  pub room : HasRoom (length lists) marks
