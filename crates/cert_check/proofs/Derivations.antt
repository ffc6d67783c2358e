-- The lines of a derivation are true wherever the axioms hold.
use Rattle.std.proofs.Common.{◌≡◌, ℕ, zero, suc, ◌+◌, ◌<◌, List, [], ◌∷◌, map, length, get_or, take, slice_get, Some, None, All, Contains, IfSome, Option, refl, subst, arith, get_or-take, length-take}
use Rattle.std.proofs.lemmas.Option.{none-some, same_Some, slice_get-get_or}
use Rattle.std.proofs.lemmas.List.Elements.{All-contains, All-map}
use Rattle.lemmas.proofs.Members.{Contains-from_slice_get}
use Rattle.axioms.specs.Ontology.{Ontology, Axiom, axiom_tree, axiom_trees}
use Rattle.interpretation_spec.specs.Interpretation.{Interpretation, IsModel, Satisfies}
use Rattle.certificate.specs.Certificate.{Conclusion, Line}
use Rattle.certificate.specs.declared.line.Rule.{Rule}
use Rattle.cert_check.specs.Lines.{IsTrueIn, Follows}
use Rattle.axioms.specs.View.{at_number}
use Rattle.cert_check.specs.Derivation.{at_numbers, prepended_list, axiom_at, IsDerived, IsDerivation, HasLine}
use Rattle.axioms.specs.WellFormedness.{IsOntology}
use Rattle.std.specs.List.{AllByRecursion}
use Rattle.cert_check.proofs.Truth.{Holds, rule_keeps_truth}
use Rattle.cert_check.proofs.Places.{mapped_member}

-- ---- elements by number

at_a_number : {X : Type 0} (P : X → Type 0) (xs : List X) (n : ℕ) (x : X) → All P xs → at_number xs n ≡ Some x → P x
at_a_number P xs zero x h g = absurd (none-some x g)
at_a_number P xs (suc n) x h g = All-contains P xs x h (Contains-from_slice_get xs n x g)

both_there : {X : Type 0} (P : X → Type 0) (x : Option X) (xs : Option (List X)) (ys : List X) → ((y : X) → x ≡ Some y → P y) → ((zs : List X) → xs ≡ Some zs → AllByRecursion P zs) → prepended_list x xs ≡ Some ys → AllByRecursion P ys
both_there P (Some x) (Some xs) ys h k e =
    subst (AllByRecursion P) (same_Some (x ∷ xs) ys e) (h x refl, k xs refl)
both_there P (Some x) None ys h k e = absurd (none-some ys e)
both_there P None xs ys h k e = absurd (none-some ys e)

at_the_numbers : {X : Type 0} (P : X → Type 0) (xs : List X) (ns : List ℕ) (ys : List X) → All P xs → at_numbers xs ns ≡ Some ys → AllByRecursion P ys
at_the_numbers P xs [] ys h e = subst (AllByRecursion P) (same_Some [] ys e) tt
at_the_numbers P xs (n ∷ ns) ys h e =
    both_there P (at_number xs n) (at_numbers xs ns) ys (λ y g. at_a_number P xs n y h g) (λ zs g. at_the_numbers P xs ns zs h g) e

-- ---- axioms

satisfied : (o : Ontology) (i : Interpretation) → IsModel i (axiom_trees o) → (a : Axiom) → Contains o.axioms a → Satisfies i (axiom_tree o a)
satisfied o i m a h = mapped_member (Satisfies i) (axiom_tree o) o.axioms a m.satisfied h

holds : (o : Ontology) (i : Interpretation) → IsModel i (axiom_trees o) → (axiom' : Option Axiom) → IfSome axiom' (Contains o.axioms) → Holds o i axiom'
holds o i m None h = tt
holds o i m (Some a) h = satisfied o i m a h

numbered_axiom : (o : Ontology) (n : ℕ) → IfSome (at_number o.axioms n) (Contains o.axioms)
numbered_axiom o zero = tt
numbered_axiom o (suc n) = go (slice_get o.axioms n) (λ a g. Contains-from_slice_get o.axioms n a g)
  where
    go : (x : Option Axiom) → ((a : Axiom) → x ≡ Some a → Contains o.axioms a) → IfSome x (Contains o.axioms)
    go None h = tt
    go (Some a) h = h a refl

pub axiom_there : (o : Ontology) (n : Option ℕ) → IfSome (axiom_at o n) (Contains o.axioms)
axiom_there o None = tt
axiom_there o (Some n) = numbered_axiom o n

-- every rule keeps truth
pub follows_keeps_truth : (o : Ontology) → IsOntology o → (i : Interpretation) → IsModel i (axiom_trees o) → (rule : Rule) (premises : List Conclusion) (axiom' : Option Axiom) (conclusion : Conclusion) → IfSome axiom' (Contains o.axioms) → Follows o rule premises axiom' conclusion → AllByRecursion (IsTrueIn o i) premises → IsTrueIn o i conclusion
follows_keeps_truth o w i m rule premises axiom' conclusion a f h =
    rule_keeps_truth o w i m.interpretation rule premises axiom' conclusion f (holds o i m axiom' a) h

-- ---- derivations

taken : {X : Type 0} (P : X → Type 0) (xs : List X) (n : ℕ) → ((k : ℕ) → k < n → (x : X) → slice_get xs k ≡ Some x → P x) → All P (take n xs)
taken P xs n h k d l =
    let e = length-take n xs in
    let k_n : k < n = omega arith in
    let k_xs : k < length xs = omega arith in
    rw (get_or-take n xs k d k_n) (h k k_n (get_or xs k d) (slice_get-get_or xs k d k_xs))

derived_true : (o : Ontology) → IsOntology o → (i : Interpretation) → IsModel i (axiom_trees o) → (before : List Line) (line : Line) → All (λ l. IsTrueIn o i l.conclusion) before → IsDerived o before line → IsTrueIn o i line.conclusion
derived_true o w i m before line h d =
    follows_keeps_truth o w i m line.rule d.premises (axiom_at o line.axiom') line.conclusion
    (axiom_there o line.axiom') d.follows
    (at_the_numbers (IsTrueIn o i) (map (λ l. l.conclusion) before) line.premises d.premises (All-map (IsTrueIn o i) (λ l. l.conclusion) before h) d.premises_at)

lines_up_to : (o : Ontology) → IsOntology o → (i : Interpretation) → IsModel i (axiom_trees o) → (lines : List Line) → IsDerivation o lines → (bound n : ℕ) → n < bound → (line : Line) → slice_get lines n ≡ Some line → IsTrueIn o i line.conclusion
lines_up_to o w i m lines d zero n l line g = absurd (omega arith)
lines_up_to o w i m lines d (suc bound) n l line g =
    derived_true o w i m (take n lines) line
    (taken (λ a. IsTrueIn o i a.conclusion) lines n (λ k j a ga. lines_up_to o w i m lines d bound k (omega arith) a ga))
    (d n line g)

-- each line of a derivation is true in every model
pub lines_true : (o : Ontology) → IsOntology o → (lines : List Line) → IsDerivation o lines → (i : Interpretation) → IsModel i (axiom_trees o) → (n : ℕ) (line : Line) → slice_get lines n ≡ Some line → IsTrueIn o i line.conclusion
lines_true o w lines d i m n line g = lines_up_to o w i m lines d (n + 1) n (omega arith) line g

pub line_true : (o : Ontology) → IsOntology o → (lines : List Line) → IsDerivation o lines → (i : Interpretation) → IsModel i (axiom_trees o) → (conclusion : Conclusion) → HasLine lines conclusion → IsTrueIn o i conclusion
line_true o w lines d i m conclusion (n, line, g, e) = subst (IsTrueIn o i) e (lines_true o w lines d i m n line g)
