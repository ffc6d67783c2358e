-- No rule takes more premises than two, than an intersection has operands, or than a chain has properties.
use Rattle.std.proofs.Common.{◌≡◌, ℕ, suc, ◌<◌, ◌≤◌, List, [], ◌∷◌, length, map, get_or, slice_get, refl, Some, None, Contains, sym, ap, ◌∙◌, subst, arith}
use Rattle.std.proofs.lemmas.List.{length-map}
use Rattle.std.proofs.lemmas.List.Elements.{All-contains}
use Rattle.std.proofs.lemmas.Option.{slice_get-get_or, slice_get_within}
use Rattle.lemmas.proofs.Mapped.{slice_get_map_from}
use Rattle.axioms.specs.View.{axiom_of}
use Rattle.axioms.specs.declared.terms.Axiom as code
use Rattle.axioms.specs.Ontology.{Ontology, Axiom, And, SubClass, EquivalentClasses, DisjointClasses, SubProperty, EquivalentProperties, Domain, Transitive, Reflexive, ClassAssertion, PropertyAssertion, SameIndividuals, DifferentIndividuals, NegativePropertyAssertion}
use Rattle.certificate.specs.Certificate.{Subject, Expression, Conclusion, Sub, Edge, Same}
use Rattle.certificate.specs.declared.line.Rule.TheVariants.{K1, K2, K3, K4, K5, K6, K7, K8, K9, K10, K11, K12, K13, K14, K15, K16, K17, K18, K19, K20}
use Rattle.cert_check.specs.Lines.{IsWalk}
use Rattle.cert_check.specs.Premises.{OperandsAreAtMost, ChainsAreAtMost, RulesTakeAtMost, operand_count, chain_length}

-- a walk has an edge for each property
walk_length : (x : Subject) (rs : List ℕ) (y : Subject) (premises : List Conclusion) → IsWalk x rs y premises → length premises ≡ length rs
walk_length x [] y [] h = refl
walk_length x [] y (p ∷ ps) h = absurd h
walk_length x (r ∷ rs) y [] h = absurd h
walk_length x (r ∷ rs) y (p ∷ ps) (z, e, w) = ap suc (walk_length z rs y ps w)

module _ (o : Ontology) (operands chains most : ℕ) (intersections : OperandsAreAtMost o operands) (properties : ChainsAreAtMost o chains) (l : operands ≤ most) (m : chains ≤ most) (two : 2 ≤ most) where
  operands_few : (c : ℕ) (ds : List ℕ) → slice_get o.nodes c ≡ Some (And ds) → length ds ≤ most
  operands_few c ds g =
      let h : length ds ≤ operands = subst (λ node. operand_count node ≤ operands) g (intersections c) in
      omega (arith, h, l)

  chain_short : (chain : List ℕ) (t : ℕ) → Contains o.axioms (SubProperty chain t) → length chain ≤ most
  chain_short chain t c =
      let h : length chain ≤ chains = All-contains (λ a. chain_length a ≤ chains) o.axioms (SubProperty chain t) properties c in
      omega (arith, h, m)

  pub rules_take : RulesTakeAtMost o most
  rules_take K1 [] None (Sub x c) a f = omega arith
  rules_take K2 [] None (Sub x c) a f = omega arith
  rules_take K3 (Sub x c ∷ []) None (Sub y d) a f = omega (arith, two)
  rules_take K4 (Sub x c ∷ []) (Some (SubClass b e)) (Sub y d) a f = omega (arith, two)
  rules_take K4 (Sub x c ∷ []) (Some (EquivalentClasses cs)) (Sub y d) a f = omega (arith, two)
  rules_take K5 premises None (Sub x c) a (ds, g, e) =
      let n : length premises ≡ length ds = ap length e ∙ length-map ds (Sub x) in
      omega (arith, n, operands_few c ds g)
  rules_take K6 (Sub x c ∷ []) None (Sub y d) a f = omega (arith, two)
  rules_take K7 (Sub x c ∷ Sub y d ∷ []) (Some (DisjointClasses cs)) (Sub z e) a f = two
  rules_take K8 (Sub x e ∷ []) None (Edge y r (Expression c)) a f = omega (arith, two)
  rules_take K9 (Edge x r y ∷ Sub z c ∷ []) None (Sub w e) a f = two
  rules_take K10 (Edge x r y ∷ []) (Some (Domain s c)) (Sub z d) a f = omega (arith, two)
  rules_take K11 (Edge x r y ∷ Sub z c ∷ []) None (Sub w d) a f = two
  rules_take K12 (Edge x r y ∷ []) (Some (SubProperty chain t)) (Edge z s w) a f = omega (arith, two)
  rules_take K12 (Edge x r y ∷ []) (Some (EquivalentProperties rs)) (Edge z s w) a f = omega (arith, two)
  rules_take K13 premises (Some (SubProperty chain t)) (Edge x s y) a (many, walk, e) =
      omega (arith, walk_length x chain y premises walk, chain_short chain t a)
  rules_take K13 premises (Some (Transitive t)) (Edge x s y) a (walk, e) =
      let n : length premises ≡ 2 = walk_length x (t ∷ t ∷ []) y premises walk in
      omega (arith, n, two)
  rules_take K14 [] (Some (Reflexive r)) (Edge x s y) a f = omega arith
  rules_take K15 [] (Some (ClassAssertion c b)) (Sub x d) a f = omega arith
  rules_take K16 [] (Some (PropertyAssertion r b d)) (Edge x s y) a f = omega arith
  rules_take K17 [] (Some (SameIndividuals xs)) (Same b d) a f = omega arith
  rules_take K18 (Same b c ∷ Same d e ∷ []) None (Same x y) a f = two
  rules_take K19 (Same b e ∷ Sub y c ∷ []) None (Sub x d) a f = two
  rules_take K19 (Same b e ∷ Edge x r y ∷ []) None (Edge z s w) a f = two
  rules_take K20 (Same b e ∷ []) (Some (DifferentIndividuals xs)) (Sub x c) a f = omega (arith, two)
  rules_take K20 (Edge x r y ∷ []) (Some (NegativePropertyAssertion s b d)) (Sub z c) a f = omega (arith, two)
  rules_take _ _ _ _ a f = absurd f

-- the longest chain, found among the code's axioms
pub chains_found : (o : Ontology) (items : List code.Axiom) (n longest : ℕ) → map axiom_of items ≡ o.axioms → length items ≤ n
    → ((k : ℕ) (a : code.Axiom) → k < n → slice_get items k ≡ Some a → chain_length (axiom_of a) ≤ longest) → ChainsAreAtMost o longest
chains_found o items n longest same l h k d below =
    let there : slice_get (map axiom_of items) k ≡ Some (get_or o.axioms k d) = subst (λ (xs : List Axiom). slice_get xs k ≡ Some (get_or o.axioms k d)) (sym same) (slice_get-get_or o.axioms k d below) in
    let (a, g, e) = slice_get_map_from axiom_of items k (get_or o.axioms k d) there in
    subst (λ x. chain_length x ≤ longest) e (h k a (omega (arith, l, slice_get_within items k a g)) g)
