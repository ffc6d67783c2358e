-- The elements of expressions, level by level.
use Rattle.std.proofs.Common.{◌≡◌, ℕ, ◌<◌, ◌≤◌, ◌↔◌, List, length, get_or, slice_get, Some, Bool, true, All, eqb, sym, ◌∙◌, subst, arith}
use Rattle.std.specs.List.{list_any}
use Rattle.std.proofs.lemmas.Bool.{eq-eqb, eqb-true}
use Rattle.std.proofs.lemmas.List.{length-map}
use Rattle.std.proofs.lemmas.List.Elements.{All-map}
use Rattle.std.proofs.lemmas.List.Folds.{Any-from_list_any, list_any-from_Any}
use Rattle.lemmas.proofs.Mapped.{All-from_map}
use Rattle.axioms.specs.Ontology.{Ontology, Class, And, Exists, IsClassAt, expression, expressions}
use Rattle.axioms.specs.WellFormedness.{IsOntology}
use Rattle.axioms.proofs.Trees.{class_tree, some_tree, and_tree}
use Rattle.interpretation_spec.specs.Interpretation.{IsIn}
use Rattle.interpretation_spec.specs.NumberedInterpretation.{NumberedInterpretation, IsNumberedInterpretation, IsMadeFor, members_of, targets_of}
use Rattle.interpretation_spec.specs.NamedInterpretation.{interpretation_of, IsExtension}
use Rattle.number_sets.specs.Members.{has}
use Rattle.interpretation_spec.proofs.Extensions.{in_intersection, each_of_intersection}
use Rattle.interpretation_spec.proofs.Names.{StandsFor, stands}

pub target_from : (ts : List ℕ) (k y : ℕ) → k < length ts → get_or ts k y ≡ y → list_any (λ z. eqb z y) ts ≡ true
target_from ts k y l e = list_any-from_Any (λ z. eqb z y) ts (k, y, l, e, eq-eqb y y (sym e ∙ e))

-- one of the targets passes where a target does
pub any_target : (test : ℕ → Bool) (ts : List ℕ) → (list_any test ts ≡ true) ↔ ((y : ℕ) × (list_any (λ z. eqb z y) ts ≡ true) × (test y ≡ true))
any_target test ts = (
  λ h. let (k, y, l, e, p) = Any-from_list_any test ts h in (y, target_from ts k y l e, p),
  λ (y, t, p).
      let (k, z, l, e, q) = Any-from_list_any (λ z. eqb z y) ts t in
      list_any-from_Any test ts (k, z, l, e, subst (λ (v : ℕ). test v ≡ true) (sym (eqb-true z y q)) p),
)

pub target_within : (size : ℕ) (ts : List ℕ) (y : ℕ) → All (λ x. x < size) ts → list_any (λ z. eqb z y) ts ≡ true → y < size
target_within size ts y all h =
    let (k, z, l, e, q) = Any-from_list_any (λ z. eqb z y) ts h in
    let below : get_or ts k z < size = all k z l in
    let same : z ≡ y = eqb-true z y q in
    subst (λ (v : ℕ). v < size) (e ∙ same) below

module _ (o : Ontology) (w : IsOntology o) (n : NumberedInterpretation) (whole : IsNumberedInterpretation n) (made : IsMadeFor o.names n) where
  named : StandsFor o.names n (interpretation_of o.names n)
  named = stands o w n

  inside : (x : ℕ) → x < (interpretation_of o.names n).size → x < n.size
  inside x l = subst (λ (k : ℕ). x < k) named.size l

  outside : (x : ℕ) → x < n.size → x < (interpretation_of o.names n).size
  outside x l = subst (λ (k : ℕ). x < k) (sym named.size) l

  pub class_elements : (e c : ℕ) → IsClassAt o c e → IsExtension (interpretation_of o.names n) (expression o e) (members_of n c)
  class_elements e c g =
      let i = interpretation_of o.names n in
      let lc : c < length o.names.classes = w.nodes e (Class c) g in
      let tree = class_tree o c e g in
      record {
        long = whole.classes c (omega (arith, made.classes)) ∙ sym named.size;
        members = λ x l. (
          λ h. subst (λ t. IsIn i t x) (sym tree) (named.classes c x lc ∙ h),
          λ h. sym (named.classes c x lc) ∙ subst (λ t. IsIn i t x) tree h,
        );
      }

  pub some_elements : (e r c : ℕ) → slice_get o.nodes e ≡ Some (Exists r c) → (fillers row : List Bool)
      → IsExtension (interpretation_of o.names n) (expression o c) fillers → length row ≡ n.size
      → ((x : ℕ) → x < n.size → has row x ≡ list_any (has fillers) (targets_of n r x)) → IsExtension (interpretation_of o.names n) (expression o e) row
  some_elements e r c g fillers row filled long is =
      let i = interpretation_of o.names n in
      let lr : r < length o.names.properties = (w.nodes e (Exists r c) g).0 in
      let tree = some_tree o w e r c g in
      record {
        long = long ∙ sym named.size;
        members = λ x l. (
          λ h.
              let (y, t, p) = (any_target (has fillers) (targets_of n r x)).0 (sym (is x (inside x l)) ∙ h) in
              let ly : y < n.size = target_within n.size (targets_of n r x) y (whole.targets r x).within t in
              subst (λ t. IsIn i t x) (sym tree) (y, outside y ly, named.properties r x y lr ∙ t, (filled.members y (outside y ly)).0 p),
          λ h.
              let (y, ly, t, p) = subst (λ t. IsIn i t x) tree h in
              is x (inside x l) ∙ (any_target (has fillers) (targets_of n r x)).1 (y, sym (named.properties r x y lr) ∙ t, (filled.members y ly).1 p),
        );
      }

  pub and_elements : (e : ℕ) (ds : List ℕ) → slice_get o.nodes e ≡ Some (And ds) → (row : List Bool) → length row ≡ n.size
      → ((x : ℕ) → x < n.size → (has row x ≡ true) ↔ All (λ d. IsIn (interpretation_of o.names n) (expression o d) x) ds) → IsExtension (interpretation_of o.names n) (expression o e) row
  and_elements e ds g row long is =
      let i = interpretation_of o.names n in
      let tree = and_tree o w e ds g in
      let many : 1 ≤ length (expressions o ds) = omega (arith, (w.nodes e (And ds) g).many, length-map ds (expression o)) in
      record {
        long = long ∙ sym named.size;
        members = λ x l. (
          λ h. subst (λ t. IsIn i t x) (sym tree) (in_intersection i x (expressions o ds) many (All-map (λ t. IsIn i t x) (expression o) ds ((is x (inside x l)).0 h))),
          λ h. (is x (inside x l)).1 (All-from_map (λ t. IsIn i t x) (expression o) ds (each_of_intersection i x (expressions o ds) many (subst (λ t. IsIn i t x) tree h))),
        );
      }
