-- Expressions that are asked about, and an ontology of nothing.
use Rattle.std.proofs.Common.{◌≡◌, ℕ, zero, suc, ◌+◌, ◌<◌, ◌⊎◌, inl, inr, List, [], ◌∷◌, ◌++◌, length, slice_get, Some, Contains, refl, sym, ◌∙◌, subst, arith}
use Rattle.std.proofs.lemmas.Option.{none-some, slice_get_within}
use Rattle.std.proofs.lemmas.Bool.{cases_eq}
use Rattle.std.proofs.lemmas.List.Elements.{Contains-push_cases}
use Rattle.lemmas.proofs.Mapped.{slice_get_map}
use Rattle.lemmas.proofs.Members.{slice_get-from_Contains, Contains-from_slice_get}
use Rattle.lemmas.proofs.Places.{keeps_push}
use Rattle.axioms.specs.Growth.{Numbers}
use Rattle.axioms.specs.Ontology.{Ontology}
use Rattle.axioms.specs.View.{expr_numbers}
use Rattle.axioms.specs.declared.ids.ExprId.{ExprId}
use Rattle.normal_forms.specs.Apart.{no_lists}
use Rattle.normal_forms.specs.declared.forms.Origin.{Origin}
use Rattle.normal_forms.specs.declared.forms.Origin.TheVariants as origins
use Rattle.normal_forms.specs.Forms.{Form}
use Rattle.normal_forms.specs.Origins.{GivenBy}
use Rattle.normalise.proofs.FreshNames.{no_chains}
use Rattle.normalise.specs.Growth.{Grows, IsHeldAt, IsNormalFor}
use Rattle.normalise.specs.Listing.{Listing}
use Rattle.normalise.specs.View.{Place, AtEntry, AtClasses, AtIndividuals}

-- it is none of those before k, nor that at k
pub not_yet : (asked : List ExprId) (x k : ℕ) (e : ExprId) → slice_get asked k ≡ Some e → (e.0 ≡ x → ⊥) → ((n : ℕ) → n < k → slice_get (expr_numbers asked) n ≡ Some x → ⊥) → (n : ℕ) → n < k + 1 → slice_get (expr_numbers asked) n ≡ Some x → ⊥
not_yet asked x k e at other before n l g = elim (cases_eq n k) [
  | inl i ↦ other (let P : ℕ → Type 0 = λ m. slice_get (expr_numbers asked) m ≡ Some x in let q : Some e.0 ≡ Some x = sym (slice_get_map (λ y. y.0) asked k e at) ∙ subst P i g in cc)
  | inr ne ↦ before n (omega arith) g
]

pub not_among : (xs : List ℕ) (x : ℕ) → ((n : ℕ) → n < length xs → slice_get xs n ≡ Some x → ⊥) → Contains xs x → ⊥
not_among xs x none c = let p = slice_get-from_Contains xs x c in none p.0 (slice_get_within xs p.0 x p.1) p.1

pub asked_more : (xs ys : List ℕ) (x n : ℕ) → Numbers xs x ys n → (e : ℕ) → Contains xs e → Contains ys e
asked_more xs ys x n (inl h) e c = subst (λ zs. Contains zs e) (sym h.1) c
asked_more xs ys x n (inr h) e c = let p = slice_get-from_Contains xs e c in subst (λ zs. Contains zs e) (sym h.2) (Contains-from_slice_get (xs ++ x ∷ []) p.0 e (keeps_push xs x p.0 e p.1))

pub asked_only : (xs ys : List ℕ) (x n : ℕ) → Numbers xs x ys n → (e : ℕ) → Contains ys e → Contains xs e ⊎ (x ≡ e)
asked_only xs ys x n (inl h) e c = inl (subst (λ zs. Contains zs e) h.1 c)
asked_only xs ys x n (inr h) e c = Contains-push_cases xs x e (subst (λ zs. Contains zs e) h.2 c)

pub no_ontology : Ontology
no_ontology = record { names = record { classes = []; properties = []; individuals = [] }; nodes = []; axioms = [] }

nothing_given : (by : Origin) (g : Form) → GivenBy no_ontology [] by g → ⊥
unfolding no_ontology
nothing_given (origins.Axiom zero) g (a, at, h) = none-some a at
nothing_given (origins.Axiom (suc n)) g (a, at, h) = none-some a at
nothing_given (origins.Expr e) g (node, at, h) = none-some node at

-- the normal forms of nothing
abbrev nothing_listed : Listing
nothing_listed = record { entries = []; apart = no_lists; disjoint_axioms = []; different_axioms = []; operands = []; steps = []; asked = []; right = []; left = [] }

nothing_held : (p : Place) (by : Origin) (g : Form) → IsHeldAt nothing_listed p by g → ⊥
nothing_held (AtEntry n) by g h = none-some _ h.1
nothing_held (AtClasses l m n) by g h = none-some h.members h.there
nothing_held (AtIndividuals l m n) by g h = none-some h.members h.there

pub nothing_normal : IsNormalFor no_ontology nothing_listed
unfolding no_ontology
nothing_normal = record {
  each = λ n l. absurd (omega arith);
  all = λ by g h. absurd (nothing_given by g h);
  each_disjoint = λ l c d h. absurd (none-some h.0 h.1);
  each_different = λ l i j h. absurd (none-some h.0 h.1);
  once = λ p q by g h _. absurd (nothing_held p by g h);
  numbered = (refl, refl);
  operands = λ m n x g _. absurd (none-some x g);
  steps = λ m n x g _. absurd (none-some x g);
  intersections = λ n ds g. absurd (none-some ds g);
  chains = no_chains;
  right = (refl, λ e l. absurd (omega arith));
  left = (refl, λ e l. absurd (omega arith));
}

pub nothing_grows : (p : Ontology) → Grows no_ontology p 0
unfolding no_ontology
nothing_grows p = record { nodes = λ n x g. absurd (none-some x g); axioms = λ n x g. absurd (none-some x g); new_from = refl }
