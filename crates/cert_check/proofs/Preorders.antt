-- Where all claims agree with the lines of a derivation, in a model, what the lines say of classes is a preorder.
use Rattle.std.proofs.Common.{◌≡◌, ℕ, ◌<◌, Bool, true, false, ◌||◌, List, length, None, refl, sym, ap, ◌∙◌, subst, arith}
use Rattle.std.proofs.lemmas.Bool.{false≢true}
use Rattle.std.proofs.lemmas.List.Elements.{All-contains}
use Rattle.axioms.specs.Ontology.{Ontology, IsClassAt, expression, nothing, axiom_trees}
use Rattle.axioms.specs.WellFormedness.{IsOntology}
use Rattle.certificate.specs.Certificate.{Expression, Sub, Line, Listed}
use Rattle.certificate.specs.Writability.{IsListedOf, IsNamedClass}
use Rattle.interpretation_spec.specs.Interpretation.{Interpretation, IsModel, IsIn}
use Rattle.interpretation_spec.proofs.Extensions.{not_in_nothing}
use Rattle.taxonomy.specs.Relation.{is_listed, is_below}
use Rattle.taxonomy.specs.Texts.{nothing_class}
use Rattle.cert_check.specs.Acceptance.{ClaimHolds}
use Rattle.listed_model.specs.Listing.{IsListing}
use Rattle.cert_check.specs.Derivation.{IsDerivation, HasLine}
use Rattle.cert_check.specs.Lists.{said_by, AreSuperclasses, ArePreorder}
use Rattle.cert_check.specs.Verdict.{ClaimsAgainst, Each, HasClaim, ClaimsHold}
use Rattle.cert_check.proofs.Derivations.{line_true}
use Rattle.cert_check.proofs.Relations.{below_line}

module _ (o : Ontology) (w : IsOntology o) (lines : List Line) (derived : IsDerivation o lines) (l : Listed) (fits : IsListedOf o l)
    (i : Interpretation) (listing : IsListing o l i) (model : IsModel i (axiom_trees o))
    (claimed : Each (HasClaim o lines l)) (hold : Each (ClaimsHold o i lines l)) (above : List (List ℕ)) (class : AreSuperclasses o (said_by lines) above) where
  -- the expression of a class
  node : (c : ℕ) → c < length above → (e : ℕ) × IsClassAt o c e
  node c lc = let long = class.long in w.class_nodes c (omega arith)

  -- the list of a class has d where a line says so
  to_line : (c d e f : ℕ) → c < length above → IsClassAt o c e → IsClassAt o d f → is_listed above c d ≡ true → HasLine lines (Sub (Expression e) f)
  to_line c d e f lc ge gf t = (below_line o w lines c d e f ge gf).0 ((class.each c d lc).0 t)

  from_line : (c d e f : ℕ) → c < length above → IsClassAt o c e → IsClassAt o d f → HasLine lines (Sub (Expression e) f) → is_listed above c d ≡ true
  from_line c d e f lc ge gf line = (class.each c d lc).1 ((below_line o w lines c d e f ge gf).1 line)

  -- a class that is not below owl:Nothing has an element that is in exactly the classes above it
  record HasElement (e : ℕ) : Type 0 where
    element : ℕ
    within : element < i.size
    holds : ClaimHolds o i lines (e, element)

  element_of : (c e : ℕ) → c < length above → IsClassAt o c e → is_listed above c nothing_class ≡ false → HasElement e
  element_of c e lc ge none =
      let (x, claim) = claimed c e ge (λ line. false≢true (sym none ∙ from_line c nothing_class e nothing lc ge w.nothing_node line)) in
      let lx = (All-contains (λ c. IsNamedClass o c.0 × (c.1 < l.domain)) l.claims (e, x) fits.claims claim).1 in
      record { element = x; within = subst (λ n. x < n) (sym listing.size) lx; holds = hold c e x ge claim }

  -- each class lies below itself
  reflexive_at : (c : ℕ) → c < length above → (b : Bool) → is_listed above c nothing_class ≡ b → is_below above c c ≡ true
  reflexive_at c lc true t = ap (λ b. b || is_listed above c c) t
  reflexive_at c lc false none =
      let (e, ge) = node c lc in
      let x = element_of c e lc ge none in
      ap (λ b. b || is_listed above c c) none ∙ from_line c c e e lc ge ge ((x.holds.agrees c e ge).0 x.holds.member)

  -- the element of c is in d, so d is not below owl:Nothing, and what lies above d has it
  step_at : (c d e f g : ℕ) → c < length above → d < length above → g < length above → IsClassAt o c e → IsClassAt o d f → HasElement e
      → is_listed above c d ≡ true → (b : Bool) → is_listed above d nothing_class ≡ b → is_below above d g ≡ true → is_listed above c g ≡ true
  step_at c d e f g lc ld lg ge gf x first true empty second =
      let inside : IsIn i (expression o f) x.element = (x.holds.agrees d f gf).1 (to_line c d e f lc ge gf first) in
      let none = line_true o w lines derived i model (Sub (Expression f) nothing) (to_line d nothing_class f nothing ld gf w.nothing_node empty) x.element x.within inside in
      absurd (not_in_nothing o w i model.interpretation x.element x.within none)
  step_at c d e f g lc ld lg ge gf x first false some second =
      let (h, gh) = node g lg in
      let inside : IsIn i (expression o f) x.element = (x.holds.agrees d f gf).1 (to_line c d e f lc ge gf first) in
      let listed : is_listed above d g ≡ true = sym (ap (λ b. b || is_listed above d g) some) ∙ second in
      let there = line_true o w lines derived i model (Sub (Expression f) h) (to_line d g f h ld gf gh listed) x.element x.within inside in
      from_line c g e h lc ge gh ((x.holds.agrees g h gh).0 there)

  transitive_at : (c d g : ℕ) → c < length above → d < length above → g < length above → (b : Bool) → is_listed above c nothing_class ≡ b
      → is_below above c d ≡ true → is_below above d g ≡ true → is_below above c g ≡ true
  transitive_at c d g lc ld lg true t first second = ap (λ b. b || is_listed above c g) t
  transitive_at c d g lc ld lg false none first second =
      let (e, ge) = node c lc in
      let (f, gf) = node d ld in
      let listed : is_listed above c d ≡ true = sym (ap (λ b. b || is_listed above c d) none) ∙ first in
      ap (λ b. b || is_listed above c g) none
      ∙ step_at c d e f g lc ld lg ge gf (element_of c e lc ge none) listed (is_listed above d nothing_class) refl second

  are_preorder : ArePreorder above
  are_preorder = record {
    reflexive = λ c lc. reflexive_at c lc (is_listed above c nothing_class) refl;
    transitive = λ c d g lc ld lg. transitive_at c d g lc ld lg (is_listed above c nothing_class) refl;
  }

-- where no claim of a listed model speaks against a derivation, what its lines say of classes is a preorder
pub agreed_claims_are_preorder : (o : Ontology) → IsOntology o → (lines : List Line) → IsDerivation o lines → (l : Listed) → IsListedOf o l → (i : Interpretation) → IsListing o l i → IsModel i (axiom_trees o) → ClaimsAgainst o i lines l None → (above : List (List ℕ)) → AreSuperclasses o (said_by lines) above → ArePreorder above
agreed_claims_are_preorder o w lines derived l fits i listing model agreed above class =
    are_preorder o w lines derived l fits i listing model agreed.0 agreed.1 above class
