-- What is read of axioms.
use Rattle.std.proofs.Common.{◌≡◌, ℕ, ◌<◌, ◌≤◌, List, [], ◌∷◌, ◌++◌, length, map, slice_get, Some, Ok, Err, Result, sym, ap, ap₂, ◌∙◌, subst, subst₂, arith}
use Rattle.std.specs.Option.{unwrap_or}
use Rattle.std.specs.List.{flat_map}
use Rattle.std.proofs.lemmas.List.{append-nil}
use Rattle.std.proofs.lemmas.Option.{slice_get_within}
use Rattle.axioms.proofs.Trees.{length_trees}
use Rattle.axioms.specs.Axiom as tree
use Rattle.axioms.specs.Expression.{Iri, ClassExpression, Named}
use Rattle.axioms.specs.Growth.{with_axiom}
use Rattle.axioms.specs.Ontology.{Ontology, Axiom, SubClass, EquivalentClasses, DisjointClasses, Domain, Transitive, Reflexive, ClassAssertion, PropertyAssertion, EquivalentProperties, SubProperty, SameIndividuals, DifferentIndividuals, NegativePropertyAssertion, name_at, trees, expression, axiom_tree}
use Rattle.axioms.specs.Numbering.{DeclaresClass, DeclaresIndividual, DeclaresProperty, States, parts, properties_in, axiom_expressions, axiom_properties, axiom_individuals}
use Rattle.axioms.specs.WellFormedness.{AreDistinct, AreOperands, IsAxiomOf, IsOntology}
use Rattle.axioms.specs.declared.fault.BuildFault.{BuildFault}
use Rattle.axioms.specs.declared.fault.BuildFault.TheVariants.{TooManyNames, Memory}
use Rattle.profile.specs.Additions.{Adds, AxiomRead, ClassRead, ClassesRead, IndividualRead, IndividualsRead, Overflows, PairRead, PropertiesRead, PropertyRead, ReadsClass, ReadsClasses, ReadsIndividual, ReadsIndividuals, ReadsPair, ReadsProperties, ReadsProperty, StatementRead}
use Rattle.profile.proofs.ClassReading.{IsReadSome, numbers_distinct, numbers_kept, numbers_long, numbers_stand, numbers_within, some_parts}
use Rattle.profile.proofs.Overflowing.{overflow_more, overflow_later}
use Rattle.profile.proofs.Steps.{adds_join, axiom_stated, keeps_of}

pub state_answer : (o p : Ontology) (a : Axiom) → IsOntology o → p ≡ with_axiom o a → Adds [] [] [] (axiom_tree o a ∷ []) o p
state_answer o p a whole is = let P : Ontology → Type 0 = Adds [] [] [] (axiom_tree o a ∷ []) o in subst P (sym is) (axiom_stated o a whole)

-- the axiom is added behind what it is about
pub stated : (t : tree.Axiom) (o q s : Ontology) (a : Axiom) → Adds (flat_map parts (axiom_expressions t)) (axiom_properties t) (axiom_individuals t) [] o q → axiom_tree q a ≡ t →
    (result : Result (Unit {0}) BuildFault) → AxiomRead result a q s → StatementRead result (States t) o s
stated t o q s a adds is (Ok u) added =
    let es = flat_map parts (axiom_expressions t) in
    let rs = axiom_properties t in
    let is' = axiom_individuals t in
    let P : tree.Axiom → Type 0 = λ x. Adds [] [] [] (x ∷ []) q s in
    let all : Adds (es ++ []) (rs ++ []) (is' ++ []) (t ∷ []) o s = adds_join es [] rs [] is' [] [] (t ∷ []) o q s adds (subst P is added) in
    let Q : List ClassExpression → List Iri → Type 0 = λ xs ys. Adds xs ys (is' ++ []) (t ∷ []) o s in
    let R : List Iri → Type 0 = λ zs. Adds es rs zs (t ∷ []) o s in
    subst R (append-nil is') (subst₂ Q (append-nil es) (append-nil rs) all)
stated t o q s a adds is (Err TooManyNames) added = absurd added
stated t o q s a adds is (Err Memory) added = tt

pub stands : (q : Ontology) (n : ℕ) (c : ClassExpression) → slice_get (trees q) n ≡ Some c → expression q n ≡ c
stands q n c g = ap (λ o. unwrap_or o (Named [])) g

pub within_nodes : (q : Ontology) (n : ℕ) (c : ClassExpression) → slice_get (trees q) n ≡ Some c → n < length q.nodes
within_nodes q n c g = omega (arith, length_trees q, slice_get_within (trees q) n c g)

-- ---- axioms between two classes

module _ (c d : ClassExpression) (o p q : Ontology) (m n : ℕ) (first : ReadsClass c o p m) (second : ReadsClass d p q n) where
  still : slice_get (trees q) m ≡ Some c
  still = (keeps_of (parts d) (properties_in d) [] [] p q second.adds).kept_trees m c first.at

  pub two_fit : IsAxiomOf q (SubClass m n)
  two_fit = (within_nodes q m c still, within_nodes q n d second.at)

  two_added : Adds (flat_map parts (c ∷ d ∷ [])) (flat_map properties_in (c ∷ d ∷ [])) [] [] o q
  two_added =
      let Q : List ClassExpression → List Iri → Type 0 = λ es rs. Adds (parts c ++ es) (properties_in c ++ rs) [] [] o q in
      subst₂ Q (sym (append-nil (parts d))) (sym (append-nil (properties_in d))) (adds_join (parts c) (parts d) (properties_in c) (properties_in d) [] [] [] [] o p q first.adds second.adds)

  pub sub_class_read : (s : Ontology) (result : Result (Unit {0}) BuildFault) → AxiomRead result (SubClass m n) q s → StatementRead result (States (tree.SubClassOf c d)) o s
  sub_class_read s result added = stated (tree.SubClassOf c d) o q s (SubClass m n) two_added (ap₂ tree.SubClassOf (stands q m c still) (stands q n d second.at)) result added

pub first_refused : (c d : ClassExpression) (o p : Ontology) (fault : BuildFault) → ClassRead (Err fault) c o p → StatementRead (Err fault) (States (tree.SubClassOf c d)) o p
first_refused c d o p TooManyNames h = overflow_more (parts c) (parts d ++ []) (properties_in c) (properties_in d ++ []) [] [] o h
first_refused c d o p Memory h = tt

pub second_refused : (c d : ClassExpression) (o p q : Ontology) (m : ℕ) → ReadsClass c o p m → (fault : BuildFault) → ClassRead (Err fault) d p q → StatementRead (Err fault) (States (tree.SubClassOf c d)) o q
second_refused c d o p q m first TooManyNames h =
    overflow_later (parts c) (parts d ++ []) (properties_in c) (properties_in d ++ []) [] [] [] o p first.adds (overflow_more (parts d) [] (properties_in d) [] [] [] p h)
second_refused c d o p q m first Memory h = tt

-- ---- axioms about several classes

module _ (cs : List ClassExpression) (o q : Ontology) (ns : List ℕ) (read : ReadsClasses cs o q ns) where
  several_stand : map (expression q) ns ≡ cs
  several_stand = numbers_stand (trees q) (Named []) ns cs read.at

  pub equivalent_read : (s : Ontology) (result : Result (Unit {0}) BuildFault) → AxiomRead result (EquivalentClasses ns) q s → StatementRead result (States (tree.EquivalentClasses cs)) o s
  equivalent_read s result added = stated (tree.EquivalentClasses cs) o q s (EquivalentClasses ns) read.adds (ap tree.EquivalentClasses several_stand) result added

  pub disjoint_read : (s : Ontology) (result : Result (Unit {0}) BuildFault) → AxiomRead result (DisjointClasses ns) q s → StatementRead result (States (tree.DisjointClasses cs)) o s
  disjoint_read s result added = stated (tree.DisjointClasses cs) o q s (DisjointClasses ns) read.adds (ap tree.DisjointClasses several_stand) result added

pub equivalent_refused : (cs : List ClassExpression) (o p : Ontology) (fault : BuildFault) → ClassesRead (Err fault) cs o p → StatementRead (Err fault) (States (tree.EquivalentClasses cs)) o p
equivalent_refused cs o p TooManyNames h = h
equivalent_refused cs o p Memory h = tt

pub disjoint_refused : (cs : List ClassExpression) (o p : Ontology) (fault : BuildFault) → ClassesRead (Err fault) cs o p → StatementRead (Err fault) (States (tree.DisjointClasses cs)) o p
disjoint_refused cs o p TooManyNames h = h
disjoint_refused cs o p Memory h = tt

-- ---- axioms about a property

pub name_stands : (names : List Iri) (n : ℕ) (r : Iri) → slice_get names n ≡ Some r → name_at names n ≡ r
name_stands names n r g = ap (λ o. unwrap_or o []) g

pub transitive_read : (r : Iri) (o q s : Ontology) (n : ℕ) → ReadsProperty r o q n → (result : Result (Unit {0}) BuildFault) → AxiomRead result (Transitive n) q s → StatementRead result (States (tree.TransitiveProperty r)) o s
transitive_read r o q s n read result added = stated (tree.TransitiveProperty r) o q s (Transitive n) read.0 (ap tree.TransitiveProperty (name_stands q.names.properties n r read.1)) result added

pub reflexive_read : (r : Iri) (o q s : Ontology) (n : ℕ) → ReadsProperty r o q n → (result : Result (Unit {0}) BuildFault) → AxiomRead result (Reflexive n) q s → StatementRead result (States (tree.ReflexiveProperty r)) o s
reflexive_read r o q s n read result added = stated (tree.ReflexiveProperty r) o q s (Reflexive n) read.0 (ap tree.ReflexiveProperty (name_stands q.names.properties n r read.1)) result added

pub transitive_refused : (r : Iri) (o p : Ontology) (fault : BuildFault) → PropertyRead (Err fault) r o p → StatementRead (Err fault) (States (tree.TransitiveProperty r)) o p
transitive_refused r o p TooManyNames h = h
transitive_refused r o p Memory h = tt

pub reflexive_refused : (r : Iri) (o p : Ontology) (fault : BuildFault) → PropertyRead (Err fault) r o p → StatementRead (Err fault) (States (tree.ReflexiveProperty r)) o p
reflexive_refused r o p TooManyNames h = h
reflexive_refused r o p Memory h = tt

-- ---- domains

with_nothing : (es : List ClassExpression) (rs as' : List Iri) (o : Ontology) → Overflows es rs as' o → Overflows (es ++ []) rs as' o
with_nothing es rs as' o h = let P : List ClassExpression → Type 0 = λ xs. Overflows xs rs as' o in subst P (sym (append-nil es)) h

module _ (r : Iri) (c : ClassExpression) (o p q : Ontology) (n e : ℕ) (property : ReadsProperty r o p n) (class : ReadsClass c p q e) where
  both : IsReadSome r c o p q n e
  both = some_parts r c o p q n e property class

  pub domain_fits : IsAxiomOf q (Domain n e)
  domain_fits = (slice_get_within q.names.properties n r both.property, within_nodes q e c both.class)

  pub domain_read : (s : Ontology) (result : Result (Unit {0}) BuildFault) → AxiomRead result (Domain n e) q s → StatementRead result (States (tree.PropertyDomain r c)) o s
  domain_read s result added =
      let P : List ClassExpression → Type 0 = λ es. Adds es (r ∷ properties_in c) [] [] o q in
      stated (tree.PropertyDomain r c) o q s (Domain n e) (subst P (sym (append-nil (parts c))) both.adds) (ap₂ tree.PropertyDomain (name_stands q.names.properties n r both.property) (stands q e c both.class)) result added

pub domain_property_refused : (r : Iri) (c : ClassExpression) (o p : Ontology) (fault : BuildFault) → PropertyRead (Err fault) r o p → StatementRead (Err fault) (States (tree.PropertyDomain r c)) o p
domain_property_refused r c o p TooManyNames h = overflow_more [] (parts c ++ []) (r ∷ []) (properties_in c) [] [] o h
domain_property_refused r c o p Memory h = tt

pub domain_class_refused : (r : Iri) (c : ClassExpression) (o p q : Ontology) (n : ℕ) → ReadsProperty r o p n → (fault : BuildFault) → ClassRead (Err fault) c p q → StatementRead (Err fault) (States (tree.PropertyDomain r c)) o q
domain_class_refused r c o p q n property TooManyNames h =
    overflow_later [] (parts c ++ []) (r ∷ []) (properties_in c) [] [] [] o p property.0 (with_nothing (parts c) (properties_in c) [] p h)
domain_class_refused r c o p q n property Memory h = tt

-- ---- assertions

module _ (c : ClassExpression) (a : Iri) (o p q : Ontology) (e n : ℕ) (class : ReadsClass c o p e) (individual : ReadsIndividual a p q n) where
  there : slice_get (trees q) e ≡ Some c
  there = (keeps_of [] [] (a ∷ []) [] p q individual.0).kept_trees e c class.at

  pub class_assertion_fits : IsAxiomOf q (ClassAssertion e n)
  class_assertion_fits = (within_nodes q e c there, slice_get_within q.names.individuals n a individual.1)

  pub class_assertion_read : (s : Ontology) (result : Result (Unit {0}) BuildFault) → AxiomRead result (ClassAssertion e n) q s → StatementRead result (States (tree.ClassAssertion c a)) o s
  class_assertion_read s result added =
      stated (tree.ClassAssertion c a) o q s (ClassAssertion e n) (adds_join (parts c) [] (properties_in c) [] [] (a ∷ []) [] [] o p q class.adds individual.0)
      (ap₂ tree.ClassAssertion (stands q e c there) (name_stands q.names.individuals n a individual.1)) result added

pub assertion_class_refused : (c : ClassExpression) (a : Iri) (o p : Ontology) (fault : BuildFault) → ClassRead (Err fault) c o p → StatementRead (Err fault) (States (tree.ClassAssertion c a)) o p
assertion_class_refused c a o p TooManyNames h = overflow_more (parts c) [] (properties_in c) [] [] (a ∷ []) o h
assertion_class_refused c a o p Memory h = tt

pub assertion_individual_refused : (c : ClassExpression) (a : Iri) (o p q : Ontology) (e : ℕ) → ReadsClass c o p e → (fault : BuildFault) → IndividualRead (Err fault) a p q → StatementRead (Err fault) (States (tree.ClassAssertion c a)) o q
assertion_individual_refused c a o p q e class TooManyNames h = overflow_later (parts c) [] (properties_in c) [] [] (a ∷ []) [] o p class.adds h
assertion_individual_refused c a o p q e class Memory h = tt

-- ---- a property, a source and a target

module _ (r a b : Iri) (o p q s : Ontology) (n i j : ℕ) (property : ReadsProperty r o p n) (source : ReadsIndividual a p q i) (target : ReadsIndividual b q s j) where
  with_source : Adds [] (r ∷ []) (a ∷ []) [] o q
  with_source = adds_join [] [] (r ∷ []) [] [] (a ∷ []) [] [] o p q property.0 source.0

  pub pair_read : ReadsPair r a b o s n i j
  pair_read = record {
    adds = adds_join [] [] (r ∷ []) [] (a ∷ []) (b ∷ []) [] [] o q s with_source target.0;
    property_at = (keeps_of [] [] (b ∷ []) [] q s target.0).kept_properties n r ((keeps_of [] [] (a ∷ []) [] p q source.0).kept_properties n r property.1);
    source_at = (keeps_of [] [] (b ∷ []) [] q s target.0).kept_individuals i a source.1;
    target_at = target.1;
  }

pub pair_property_refused : (r a b : Iri) (o p : Ontology) (fault : BuildFault) → PropertyRead (Err fault) r o p → PairRead (Err fault) r a b o p
pair_property_refused r a b o p TooManyNames h = overflow_more [] [] (r ∷ []) [] [] (a ∷ b ∷ []) o h
pair_property_refused r a b o p Memory h = tt

pub pair_source_refused : (r a b : Iri) (o p q : Ontology) (n : ℕ) → ReadsProperty r o p n → (fault : BuildFault) → IndividualRead (Err fault) a p q → PairRead (Err fault) r a b o q
pair_source_refused r a b o p q n property TooManyNames h = overflow_later [] [] (r ∷ []) [] [] (a ∷ b ∷ []) [] o p property.0 (overflow_more [] [] [] [] (a ∷ []) (b ∷ []) p h)
pair_source_refused r a b o p q n property Memory h = tt

pub pair_target_refused : (r a b : Iri) (o p q s : Ontology) (n i : ℕ) → ReadsProperty r o p n → ReadsIndividual a p q i → (fault : BuildFault) → IndividualRead (Err fault) b q s → PairRead (Err fault) r a b o s
pair_target_refused r a b o p q s n i property source TooManyNames h =
    overflow_later [] [] (r ∷ []) [] (a ∷ []) (b ∷ []) [] o q (adds_join [] [] (r ∷ []) [] [] (a ∷ []) [] [] o p q property.0 source.0) h
pair_target_refused r a b o p q s n i property source Memory h = tt

-- ---- pairs that are asserted or denied

module _ (r a b : Iri) (o s : Ontology) (n i j : ℕ) (pair : ReadsPair r a b o s n i j) where
  pub pair_fits : (n < length s.names.properties) × (i < length s.names.individuals) × (j < length s.names.individuals)
  pair_fits = (slice_get_within s.names.properties n r pair.property_at, slice_get_within s.names.individuals i a pair.source_at, slice_get_within s.names.individuals j b pair.target_at)

  names_stand : (says : Iri → Iri → Iri → tree.Axiom) → says (name_at s.names.properties n) (name_at s.names.individuals i) (name_at s.names.individuals j) ≡ says r a b
  names_stand says =
      ap₂ (λ x y. says x y (name_at s.names.individuals j)) (name_stands s.names.properties n r pair.property_at) (name_stands s.names.individuals i a pair.source_at)
      ∙ ap (says r a) (name_stands s.names.individuals j b pair.target_at)

  pub property_assertion_read : (u : Ontology) (result : Result (Unit {0}) BuildFault) → AxiomRead result (PropertyAssertion n i j) s u → StatementRead result (States (tree.PropertyAssertion r a b)) o u
  property_assertion_read u result added = stated (tree.PropertyAssertion r a b) o s u (PropertyAssertion n i j) pair.adds (names_stand tree.PropertyAssertion) result added

  pub negative_assertion_read : (u : Ontology) (result : Result (Unit {0}) BuildFault) → AxiomRead result (NegativePropertyAssertion n i j) s u → StatementRead result (States (tree.NegativePropertyAssertion r a b)) o u
  negative_assertion_read u result added = stated (tree.NegativePropertyAssertion r a b) o s u (NegativePropertyAssertion n i j) pair.adds (names_stand tree.NegativePropertyAssertion) result added

pub property_assertion_refused : (r a b : Iri) (o p : Ontology) (fault : BuildFault) → PairRead (Err fault) r a b o p → StatementRead (Err fault) (States (tree.PropertyAssertion r a b)) o p
property_assertion_refused r a b o p TooManyNames h = h
property_assertion_refused r a b o p Memory h = tt

pub negative_assertion_refused : (r a b : Iri) (o p : Ontology) (fault : BuildFault) → PairRead (Err fault) r a b o p → StatementRead (Err fault) (States (tree.NegativePropertyAssertion r a b)) o p
negative_assertion_refused r a b o p TooManyNames h = h
negative_assertion_refused r a b o p Memory h = tt

-- ---- axioms about several individuals

module _ (as' : List Iri) (o q : Ontology) (ns : List ℕ) (read : ReadsIndividuals as' o q ns) where
  pub individuals_fit : 2 ≤ length as' → AreDistinct as' → AreOperands (length q.names.individuals) ns
  individuals_fit many distinct = record {
    many = omega (arith, many, numbers_long q.names.individuals ns as' read.at);
    distinct = numbers_distinct q.names.individuals ns as' read.at distinct;
    within = numbers_within q.names.individuals ns as' read.at;
  }

  individuals_stand : map (name_at q.names.individuals) ns ≡ as'
  individuals_stand = numbers_stand q.names.individuals [] ns as' read.at

  pub same_individuals_read : (s : Ontology) (result : Result (Unit {0}) BuildFault) → AxiomRead result (SameIndividuals ns) q s → StatementRead result (States (tree.SameIndividuals as')) o s
  same_individuals_read s result added = stated (tree.SameIndividuals as') o q s (SameIndividuals ns) read.adds (ap tree.SameIndividuals individuals_stand) result added

  pub different_individuals_read : (s : Ontology) (result : Result (Unit {0}) BuildFault) → AxiomRead result (DifferentIndividuals ns) q s → StatementRead result (States (tree.DifferentIndividuals as')) o s
  different_individuals_read s result added = stated (tree.DifferentIndividuals as') o q s (DifferentIndividuals ns) read.adds (ap tree.DifferentIndividuals individuals_stand) result added

pub same_individuals_refused : (as' : List Iri) (o p : Ontology) (fault : BuildFault) → IndividualsRead (Err fault) as' o p → StatementRead (Err fault) (States (tree.SameIndividuals as')) o p
same_individuals_refused as' o p TooManyNames h = h
same_individuals_refused as' o p Memory h = tt

pub different_individuals_refused : (as' : List Iri) (o p : Ontology) (fault : BuildFault) → IndividualsRead (Err fault) as' o p → StatementRead (Err fault) (States (tree.DifferentIndividuals as')) o p
different_individuals_refused as' o p TooManyNames h = h
different_individuals_refused as' o p Memory h = tt

-- ---- axioms about several properties

module _ (rs : List Iri) (o q : Ontology) (ns : List ℕ) (read : ReadsProperties rs o q ns) where
  pub equivalent_properties_fit : 2 ≤ length rs → AreDistinct rs → IsAxiomOf q (EquivalentProperties ns)
  equivalent_properties_fit many distinct = record {
    many = omega (arith, many, numbers_long q.names.properties ns rs read.at);
    distinct = numbers_distinct q.names.properties ns rs read.at distinct;
    within = numbers_within q.names.properties ns rs read.at;
  }

  pub equivalent_properties_read : (s : Ontology) (result : Result (Unit {0}) BuildFault) → AxiomRead result (EquivalentProperties ns) q s → StatementRead result (States (tree.EquivalentProperties rs)) o s
  equivalent_properties_read s result added = stated (tree.EquivalentProperties rs) o q s (EquivalentProperties ns) read.adds (ap tree.EquivalentProperties (numbers_stand q.names.properties [] ns rs read.at)) result added

pub equivalent_properties_refused : (rs : List Iri) (o p : Ontology) (fault : BuildFault) → PropertiesRead (Err fault) rs o p → StatementRead (Err fault) (States (tree.EquivalentProperties rs)) o p
equivalent_properties_refused rs o p TooManyNames h = h
equivalent_properties_refused rs o p Memory h = tt

module _ (rs : List Iri) (s : Iri) (o p q : Ontology) (ns : List ℕ) (n : ℕ) (chain : ReadsProperties rs o p ns) (super : ReadsProperty s p q n) where
  chain_there : map (slice_get q.names.properties) ns ≡ map Some rs
  chain_there = numbers_kept p.names.properties q.names.properties (keeps_of [] (s ∷ []) [] [] p q super.0).kept_properties ns rs chain.at

  pub sub_property_fits : 1 ≤ length rs → IsAxiomOf q (SubProperty ns n)
  sub_property_fits some = (omega (arith, some, numbers_long q.names.properties ns rs chain_there), numbers_within q.names.properties ns rs chain_there, slice_get_within q.names.properties n s super.1)

  pub sub_property_read : (u : Ontology) (result : Result (Unit {0}) BuildFault) → AxiomRead result (SubProperty ns n) q u → StatementRead result (States (tree.SubPropertyOf rs s)) o u
  sub_property_read u result added =
      stated (tree.SubPropertyOf rs s) o q u (SubProperty ns n) (adds_join [] [] rs (s ∷ []) [] [] [] [] o p q chain.adds super.0)
      (ap₂ tree.SubPropertyOf (numbers_stand q.names.properties [] ns rs chain_there) (name_stands q.names.properties n s super.1)) result added

pub chain_refused : (rs : List Iri) (s : Iri) (o p : Ontology) (fault : BuildFault) → PropertiesRead (Err fault) rs o p → StatementRead (Err fault) (States (tree.SubPropertyOf rs s)) o p
chain_refused rs s o p TooManyNames h = overflow_more [] [] rs (s ∷ []) [] [] o h
chain_refused rs s o p Memory h = tt

pub super_refused : (rs : List Iri) (s : Iri) (o p q : Ontology) (ns : List ℕ) → ReadsProperties rs o p ns → (fault : BuildFault) → PropertyRead (Err fault) s p q → StatementRead (Err fault) (States (tree.SubPropertyOf rs s)) o q
super_refused rs s o p q ns chain TooManyNames h = overflow_later [] [] rs (s ∷ []) [] [] [] o p chain.adds h
super_refused rs s o p q ns chain Memory h = tt

-- ---- declarations

pub class_refused : (r : Iri) (o p : Ontology) (fault : BuildFault) → ClassRead (Err fault) (Named r) o p → StatementRead (Err fault) (DeclaresClass r) o p
class_refused r o p TooManyNames h = h
class_refused r o p Memory h = tt

pub property_refused : (r : Iri) (o p : Ontology) (fault : BuildFault) → PropertyRead (Err fault) r o p → StatementRead (Err fault) (DeclaresProperty r) o p
property_refused r o p TooManyNames h = h
property_refused r o p Memory h = tt

pub individual_refused : (a : Iri) (o p : Ontology) (fault : BuildFault) → IndividualRead (Err fault) a o p → StatementRead (Err fault) (DeclaresIndividual a) o p
individual_refused a o p TooManyNames h = h
individual_refused a o p Memory h = tt
