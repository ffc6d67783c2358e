-- What the axioms say that were found where the axioms have a model.
use Rattle.std.proofs.Common.{◌≡◌, ◌↔◌, ℕ, ◌<◌, Bool, true, List, ◌++◌, length, map, All}
use Rattle.std.specs.List.{filter, filter_map, flat_map}
use Rattle.std.proofs.lemmas.List.Elements.{All-append}
use Rattle.axioms.specs.Numbering.{Statement, logical_axiom}
use Rattle.axioms.specs.Ontology.{Names, name_at}
use Rattle.interpretation_spec.specs.Interpretation.{Interpretation, IsIn, IsWithin, Satisfies}
use Rattle.taxonomy.specs.Following.{class_at}
use Rattle.taxonomy.specs.Superclasses.{is_among}
use Rattle.taxonomy.specs.Texts.{group, groups, in_byte_order, is_directly_above, is_no_bottom, least_among, least_groups, nothing_class}
use Rattle.inferred_text.specs.Inferred.{class_axioms, class_declaration, declarations, group_axioms, individual_axioms, individual_declaration, is_no_top, is_own, property_declaration, sameness, subclass_axiom, type_axiom, type_axioms}
use Rattle.inferred_text.proofs.Alike.{AreAlike, alike}
use Rattle.inferred_text.proofs.Among.{Each, filtered, filtered_from}
use Rattle.inferred_text.proofs.Orders.{in_order, low_in_order}
use Rattle.inferred_text.proofs.Holding.{Holds, all_back, all_flat_map, all_front, all_map, holding}

module _ (i : Interpretation) (names : Names) (r belongs : ℕ → ℕ → Bool) where
  abbrev n : ℕ
  n = length names.classes

  abbrev all : List ℕ
  all = in_byte_order names.classes

  -- the groups, those directly above each, and the least of each individual
  pub record IsTold : Type 0 where
    pub alike : (g : ℕ) → is_among (groups r all) g ≡ true → is_no_bottom r g ≡ true → AreAlike i names (group r all g)
    pub above : (g h : ℕ) → is_among (groups r all) g ≡ true → is_no_bottom r g ≡ true → is_among (groups r all) h ≡ true → is_directly_above r n g h ≡ true → is_no_top r h ≡ true → IsWithin i (class_at names g) (class_at names h)
    pub bottom : AreAlike i names (group r all nothing_class)
    pub types : (a g : ℕ) → a < length names.individuals → is_among (groups r all) g ≡ true → least_among n r (belongs a) g ≡ true → is_no_top r g ≡ true → IsIn i (class_at names g) (i.individual (name_at names.individuals a))

  abbrev Hold : List Statement → Type 0
  Hold ss = All (Holds i) ss

  declarations_hold : Hold (declarations names)
  declarations_hold =
      let cs = map (class_declaration names) (filter is_own all) in
      let ps = map (property_declaration names) (in_byte_order names.properties) in
      let ds = map (individual_declaration names) (in_byte_order names.individuals) in
      All-append (Holds i) cs (ps ++ ds) ((all_map (Holds i) (class_declaration names) (filter is_own all)).1 (λ k e. tt))
      (All-append (Holds i) ps ds ((all_map (Holds i) (property_declaration names) (in_byte_order names.properties)).1 (λ k e. tt))
      ((all_map (Holds i) (individual_declaration names) (in_byte_order names.individuals)).1 (λ k e. tt)))

  -- ---- a group

  abbrev higher : ℕ → List ℕ
  higher g = filter (is_no_top r) (filter (is_directly_above r n g) (groups r all))

  higher_in : (g h : ℕ) → is_among (higher g) h ≡ true → (is_among (groups r all) h ≡ true) × (is_directly_above r n g h ≡ true) × (is_no_top r h ≡ true)
  higher_in g h e =
      let w = filtered_from (is_no_top r) (filter (is_directly_above r n g) (groups r all)) h e in
      let v = filtered_from (is_directly_above r n g) (groups r all) h w.0 in
      (v.0, v.1, w.1)

  higher_from : (g h : ℕ) → is_among (groups r all) h ≡ true → is_directly_above r n g h ≡ true → is_no_top r h ≡ true → is_among (higher g) h ≡ true
  higher_from g h e d t = filtered (is_no_top r) (filter (is_directly_above r n g) (groups r all)) h (filtered (is_directly_above r n g) (groups r all) h e d) t

  abbrev shown : List ℕ
  shown = filter (is_no_bottom r) (groups r all)

  -- ---- classes

  abbrev lines : List Statement
  lines = flat_map (group_axioms names r all) shown

  abbrev last : List Statement
  last = sameness names (group r all nothing_class)

  module _ (h : Hold (class_axioms names r)) where
    line : (g : ℕ) → is_among (groups r all) g ≡ true → is_no_bottom r g ≡ true → Hold (group_axioms names r all g)
    line g e b = (all_flat_map (Holds i) (group_axioms names r all) shown).0 (all_front (Holds i) lines last h) g (filtered (is_no_bottom r) (groups r all) g e b)

    alike_from : (g : ℕ) → is_among (groups r all) g ≡ true → is_no_bottom r g ≡ true → AreAlike i names (group r all g)
    alike_from g e b = (alike i names (group r all g)).0 (all_front (Holds i) (sameness names (group r all g)) (map (subclass_axiom names g) (higher g)) (line g e b))

    above_from : (g k : ℕ) → is_among (groups r all) g ≡ true → is_no_bottom r g ≡ true → is_among (groups r all) k ≡ true → is_directly_above r n g k ≡ true → is_no_top r k ≡ true → IsWithin i (class_at names g) (class_at names k)
    above_from g k e b e' d t =
        (all_map (Holds i) (subclass_axiom names g) (higher g)).0 (all_back (Holds i) (sameness names (group r all g)) (map (subclass_axiom names g) (higher g)) (line g e b)) k (higher_from g k e' d t)

    bottom_from : AreAlike i names (group r all nothing_class)
    bottom_from = (alike i names (group r all nothing_class)).0 (all_back (Holds i) lines last h)

  classes_hold : IsTold → Hold (class_axioms names r)
  classes_hold told =
      let line : Each (λ g. Hold (group_axioms names r all g)) shown = λ g e.
      let w = filtered_from (is_no_bottom r) (groups r all) g e in
      All-append (Holds i) (sameness names (group r all g)) (map (subclass_axiom names g) (higher g))
      ((alike i names (group r all g)).1 (told.alike g w.0 w.1))
      ((all_map (Holds i) (subclass_axiom names g) (higher g)).1 (λ k f. let v = higher_in g k f in told.above g k w.0 w.1 v.0 v.1 v.2)) in
      All-append (Holds i) lines last
      ((all_flat_map (Holds i) (group_axioms names r all) shown).1 line)
      ((alike i names (group r all nothing_class)).1 told.bottom)

  -- ---- individuals

  abbrev least : ℕ → List ℕ
  least a = least_groups names.classes r (belongs a)

  abbrev named : List ℕ
  named = in_byte_order names.individuals

  types_from : Hold (individual_axioms names r belongs) → (a g : ℕ) → a < length names.individuals → is_among (groups r all) g ≡ true → least_among n r (belongs a) g ≡ true → is_no_top r g ≡ true → IsIn i (class_at names g) (i.individual (name_at names.individuals a))
  types_from h a g l e m t =
      let each = (all_flat_map (Holds i) (type_axioms names r belongs) named).0 h a (in_order names.individuals a l) in
      (all_map (Holds i) (type_axiom names a) (filter (is_no_top r) (least a))).0 each g
      (filtered (is_no_top r) (least a) g (filtered (least_among n r (belongs a)) (groups r all) g e m) t)

  individuals_hold : IsTold → Hold (individual_axioms names r belongs)
  individuals_hold told =
      (all_flat_map (Holds i) (type_axioms names r belongs) named).1 (λ a e.
      let l : a < length names.individuals = low_in_order names.individuals a e in
      (all_map (Holds i) (type_axiom names a) (filter (is_no_top r) (least a))).1 (λ g f.
      let w = filtered_from (is_no_top r) (least a) g f in
      let v = filtered_from (least_among n r (belongs a)) (groups r all) g w.0 in
      told.types a g l v.0 v.1 w.1))

  -- ---- the whole

  abbrev whole : List Statement
  whole = declarations names ++ (class_axioms names r ++ individual_axioms names r belongs)

  -- the axioms that were found are satisfied where it is as they say
  pub told_exactly : All (Satisfies i) (filter_map logical_axiom (declarations names ++ (class_axioms names r ++ individual_axioms names r belongs))) ↔ IsTold
  told_exactly = (
    λ h.
        let ss = (holding i whole).0 h in
        let rest = all_back (Holds i) (declarations names) (class_axioms names r ++ individual_axioms names r belongs) ss in
        let cs = all_front (Holds i) (class_axioms names r) (individual_axioms names r belongs) rest in
        let ts = all_back (Holds i) (class_axioms names r) (individual_axioms names r belongs) rest in
        record { alike = alike_from cs; above = above_from cs; bottom = bottom_from cs; types = types_from ts },
    λ t.
        (holding i whole).1 (All-append (Holds i) (declarations names) (class_axioms names r ++ individual_axioms names r belongs) declarations_hold
        (All-append (Holds i) (class_axioms names r) (individual_axioms names r belongs) (classes_hold t) (individuals_hold t))),
  )
