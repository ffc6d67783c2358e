-- What the lines of a wanted fact say.
use Rattle.std.proofs.Common.{◌≡◌, ◌↔◌, ℕ, zero, suc, ◌<◌, ◌≤◌, inl, inr, Bool, true, List, [], ◌∷◌, length, slice_get, Some, All, Contains, arith, refl, sym, ap, ap₂, ◌∙◌, subst}
use Rattle.std.proofs.lemmas.List.Elements.{All-contains}
use Rattle.std.proofs.lemmas.Option.{none-some, slice_get_within}
use Rattle.axioms.specs.Ontology.{Ontology, thing, nothing}
use Rattle.axioms.specs.View.{at_number}
use Rattle.axioms.specs.declared.ids.ExprId.{ExprId}
use Rattle.cert_check.specs.Acceptance.{IsTop}
use Rattle.cert_check.specs.Derivation.{at_numbers, HasLine}
use Rattle.certificate.specs.Certificate as subjects
use Rattle.certificate.specs.Certificate.{Sub, Line}
use Rattle.closure.specs.Closure.{AreAsked, Context, Expression, Individual, Fact, In, IsRoot, IsFact}
use Rattle.closure.specs.Denotations.{Prefixes, whole, SaysContext, expression, individual, context_of, SaysFact, in_context}
use Rattle.closure.proofs.Names.{fact_same}
use Rattle.exactness.specs.ListedInterpretation.{IsConsistent}
use Rattle.exactness.proofs.Derivable.{conclusions, at_conclusion, prepended_list_parts}
use Rattle.exactness.specs.Derivability.{subject_of}
use Rattle.engine.specs.Saturations.{Saturated, IsSaturated}
use Rattle.exactness.specs.Theorems.{HaveFacts}
use Rattle.explain.specs.Marks.{IsClassOrAsked, IsMarked, IsNamedOrAsked, IsWantedFact, IsTopContext, IsContradictoryFact, ShowMarked}
use Rattle.explain.specs.Needs.{Derives, DerivesContradiction, EachIsNeeded, IsWanted}
use Rattle.explain.specs.LinesOfFacts.{AreShowing, IsShownBy}
use Rattle.facts.specs.declared.contexts.Context as code_context
use Rattle.facts.specs.declared.contexts.Context.TheVariants as contexts
use Rattle.facts.specs.declared.contexts.Fact as code
use Rattle.facts.specs.declared.contexts.Fact.TheVariants as facts
use Rattle.lemmas.proofs.Choices.{one_value}
use Rattle.lemmas.proofs.Members.{Contains-one, slice_get-from_Contains}
use Rattle.lemmas.proofs.Places.{slice_get_there}
use Rattle.number_sets.specs.Pieces.{list_at}
use Rattle.normal_forms.specs.Forms.{Whole}
use Rattle.normal_forms.specs.declared.forms.Class2.TheVariants as classes
use Rattle.normalise.specs.Problem.{prefixes_of}

-- ---- what facts say

context_said : {x : code_context.Context} {y : Context} → SaysContext x y → context_of x ≡ y
context_said (expression h) = ap Expression h
context_said (individual h) = ap Individual h

says_context : (x : code_context.Context) → SaysContext x (context_of x)
says_context (contexts.Expr e) = expression refl
says_context (contexts.Individual a) = individual refl

whole_said : {b : Prefixes} {e : ExprId} {x : code_context.Context} {g : Fact} → SaysFact b (facts.In (classes.Expr e) x) g → g ≡ In (Whole e.0) (context_of x)
whole_said (in_context (whole h) says) = ap₂ (λ c y. In (Whole c) y) (sym h) (sym (context_said says))

-- the fact that says so
whole_saying : {b : Prefixes} {f : code.Fact} {x : Context} {e : ℕ} → SaysFact b f (In (Whole e) x) → (id : ExprId) × (y : code_context.Context) × (f ≡ facts.In (classes.Expr id) y) × (id.0 ≡ e) × (context_of y ≡ x)
whole_saying (in_context {x = y} (whole {e = id} h) says) = (id, y, refl, h, context_said says)

-- ---- the line of a fact

no_numbers : {X : Type 0} (xs : List X) (ns : List ℕ) → at_numbers xs ns ≡ Some [] → ns ≡ []
no_numbers xs [] e = refl
no_numbers xs (n ∷ ns) e =
    let p = prepended_list_parts (at_number xs n) (at_numbers xs ns) [] e in absurd (let h = p.4 in cc)

one_number : {X : Type 0} (xs : List X) (ns : List ℕ) (x : X) → at_numbers xs ns ≡ Some (x ∷ []) → (n : ℕ) × (ns ≡ suc n ∷ []) × (slice_get xs n ≡ Some x)
one_number xs [] x e = absurd cc
one_number xs (n ∷ ns) x e =
    let p = prepended_list_parts (at_number xs n) (at_numbers xs ns) (x ∷ []) e in
    go n p.0 p.2 (no_numbers xs ns (p.3 ∙ ap Some (tail_of p.0 p.1 p.4))) (head_of p.0 p.1 p.4)
  where
    tail_of : (y : _) (ys : List _) → y ∷ ys ≡ x ∷ [] → ys ≡ []
    tail_of y ys h = cc

    head_of : (y : _) (ys : List _) → y ∷ ys ≡ x ∷ [] → y ≡ x
    head_of y ys h = cc

    go : (m : ℕ) (y : _) → at_number xs m ≡ Some y → ns ≡ [] → y ≡ x → (k : ℕ) × (m ∷ ns ≡ suc k ∷ []) × (slice_get xs k ≡ Some x)
    go zero y g none same = absurd (none-some y g)
    go (suc k) y g none same = (k, ap (λ rest. suc k ∷ rest) none, g ∙ ap Some same)

-- the line of that number says that the class is in the context
pub record IsLineOfFact (lines : List Line) (numbers : List ℕ) (e : ExprId) (x : code_context.Context) : Type 0 where
  pub place : ℕ
  pub number_is : numbers ≡ suc place ∷ []
  pub line : Line
  pub there : slice_get lines place ≡ Some line
  pub says : line.conclusion ≡ Sub (subject_of (context_of x)) e.0

pub line_of_fact : (b : Prefixes) (lines : List Line) (numbers : List ℕ) (e : ExprId) (x : code_context.Context) → AreShowing b lines numbers (facts.In (classes.Expr e) x) → IsLineOfFact lines numbers e x
line_of_fact b lines numbers e x s =
    let fact_is : IsShownBy (In (Whole e.0) (context_of x)) s.conclusions = subst (λ g. IsShownBy g s.conclusions) (whole_said s.says) s.shown in
    let one = one_number (conclusions lines) numbers (Sub (subject_of (context_of x)) e.0) (s.at ∙ ap Some fact_is) in
    let line = at_conclusion lines one.0 (Sub (subject_of (context_of x)) e.0) one.2 in
    record { place = one.0; number_is = one.1; line = line.0; there = line.1; says = line.2 }

has_line : (b : Prefixes) (lines : List Line) (numbers : List ℕ) (e : ExprId) (x : code_context.Context) → AreShowing b lines numbers (facts.In (classes.Expr e) x) → HasLine lines (Sub (subject_of (context_of x)) e.0)
has_line b lines numbers e x s =
    let l = line_of_fact b lines numbers e x s in
    (l.place, l.line, l.there, l.says)

-- ---- wanted facts

class_root : (o : Ontology) (asked : List ℕ) (e : ℕ) → AreAsked o asked → IsClassOrAsked o asked e → IsRoot o asked (Expression e)
class_root o asked e there h = elim h [
  | inl class ↦ IsRoot.named class.0 e class.1
  | inr among ↦ IsRoot.question e (All-contains (λ d. d < length o.nodes) asked e there among) among
]

root_of : (o : Ontology) (asked : List ℕ) (x : code_context.Context) → AreAsked o asked → IsNamedOrAsked o asked x → IsRoot o asked (context_of x)
root_of o asked (contexts.Expr e) there h = class_root o asked e.0 there h
root_of o asked (contexts.Individual a) there h = IsRoot.individual a.0 h

is_class_or_asked : {o : Ontology} {asked : List ℕ} {e : ℕ} → IsRoot o asked (Expression e) → IsClassOrAsked o asked e
is_class_or_asked (IsRoot.named c _ h) = inl (c, h)
is_class_or_asked (IsRoot.question _ _ h) = inr h

is_individual : {o : Ontology} {asked : List ℕ} {a : ℕ} → IsRoot o asked (Individual a) → a < length o.names.individuals
is_individual (IsRoot.individual _ h) = h

is_named_or_asked : (o : Ontology) (asked : List ℕ) (x : code_context.Context) → IsRoot o asked (context_of x) → IsNamedOrAsked o asked x
is_named_or_asked o asked (contexts.Expr e) h = is_class_or_asked h
is_named_or_asked o asked (contexts.Individual a) h = is_individual h

-- the line of a wanted fact says what is wanted
record IsWantedLine (o : Ontology) (asked : List ℕ) (lines : List Line) (numbers : List ℕ) : Type 0 where
  pub place : ℕ
  pub number_is : numbers ≡ suc place ∷ []
  pub line : Line
  pub there : slice_get lines place ≡ Some line
  pub wanted : IsWanted o asked line.conclusion

wanted_line : (o : Ontology) (asked : List ℕ) (b : Prefixes) (lines : List Line) (numbers : List ℕ) (f : code.Fact) → AreAsked o asked → IsWantedFact o asked f → AreShowing b lines numbers f → IsWantedLine o asked lines numbers
wanted_line o asked b lines numbers (facts.In (classes.Expr e) x) among w s =
    let l = line_of_fact b lines numbers e x s in
    record {
      place = l.place;
      number_is = l.number_is;
      line = l.line;
      there = l.there;
      wanted = record { context = context_of x; root = root_of o asked x among w.1; class = e.0; class_root = class_root o asked e.0 among w.0; says = l.says };
    }
wanted_line o asked b lines numbers (facts.In (classes.Partial n) x) among w s = absurd w
wanted_line o asked b lines numbers (facts.Edge x r y) among w s = absurd w

-- that a root is in a class is wanted, where the class is a root as well
root_wanted : (o : Ontology) (asked : List ℕ) (x : code_context.Context) (e : ExprId) → IsRoot o asked (context_of x) → IsRoot o asked (Expression e.0) → IsWantedFact o asked (facts.In (classes.Expr e) x)
root_wanted o asked x e root class = (is_class_or_asked class, is_named_or_asked o asked x root)

-- none of the facts says so, and so it is no fact of the closure
pub no_fact : (o : Ontology) (s : Saturated) (x : code_context.Context) (e : ExprId) → IsSaturated o s → All (λ f. f ≡ facts.In (classes.Expr e) x → ⊥) s.state.facts → IsFact o s.normal.asked (In (Whole e.0) (context_of x)) → ⊥
no_fact o s x e saturated never fact =
    let f = saturated.facts.all (In (Whole e.0) (context_of x)) fact in
    All-contains (λ g. g ≡ facts.In (classes.Expr e) x → ⊥) s.state.facts f.0 never f.1 (fact_same saturated.problem f.2 (in_context (whole refl) (says_context x)))

-- ---- what all lines say

-- lines that show the wanted facts
module _ (o : Ontology) (s : Saturated) (marks : List Bool) (lines : List Line) (saturated : IsSaturated o s)
    (exact : (n : ℕ) (f : code.Fact) → slice_get s.state.facts n ≡ Some f → IsMarked marks n ↔ IsWantedFact o s.normal.asked f) (h : ShowMarked s marks (IsMarked marks) lines) where
  pub have_facts : HaveFacts o s.normal.asked lines
  have_facts x e root class fact =
      let f = saturated.facts.all (In (Whole e) x) fact in
      let g = whole_saying f.2 in
      let found = slice_get-from_Contains s.state.facts f.0 f.1 in
      let at = found.1 ∙ ap Some g.2 in
      let wanted = root_wanted o s.normal.asked g.1 g.0 (subst (IsRoot o s.normal.asked) (sym g.4) root) (subst (λ c. IsRoot o s.normal.asked (Expression c)) (sym g.3) class) in
      let marked = (exact found.0 (facts.In (classes.Expr g.0) g.1) at).1 wanted in
      let line = has_line (prefixes_of s.normal) lines (list_at h.numbers found.0) g.0 g.1 (h.each found.0 (facts.In (classes.Expr g.0) g.1) marked at) in
      subst (λ y. HasLine lines (Sub (subject_of y) e)) g.4 (subst (λ c. HasLine lines (Sub (subject_of (context_of g.1)) c)) g.3 line)

  pub each_needed : length marks ≤ length s.state.facts → EachIsNeeded o s.normal.asked lines
  each_needed within n line at = elim (h.needed n (slice_get_within lines n line at)) [ inl p ↦ inr p | inr (m, marked, c) ↦ inl (wanted m marked c) ]
    where
      wanted : (m : ℕ) → IsMarked marks m → Contains (list_at h.numbers m) (suc n) → IsWanted o s.normal.asked line.conclusion
      wanted m marked c =
          let f = slice_get_there s.state.facts m (omega (arith, within, slice_get_within marks m true marked)) in
          let l = wanted_line o s.normal.asked (prefixes_of s.normal) lines (list_at h.numbers m) f.0 saturated.asked ((exact m f.0 f.1).0 marked) (h.each m f.0 marked f.1) in
          let number : suc l.place ≡ suc n = Contains-one (suc l.place) (suc n) (subst (λ ns. Contains ns (suc n)) l.number_is c) in
          let same : l.line ≡ line = one_value (slice_get lines n) l.line line (subst (λ k. slice_get lines k ≡ Some l.line) (omega (arith, number)) l.there) at in
          subst (λ (x : Line). IsWanted o s.normal.asked x.conclusion) same l.wanted

-- ---- contradictions

top_of : (o : Ontology) (x : code_context.Context) → IsTopContext o x → IsTop (subject_of (context_of x))
top_of o (contexts.Expr e) h = subst (λ d. IsTop (subjects.Expression d)) (sym h) IsTop.of_thing
top_of o (contexts.Individual a) h = IsTop.of_individual

-- a derivation of a fact that is a contradiction
pub derives_contradiction : (o : Ontology) (all : List code.Fact) (goal : ℕ) (lines : List Line) (f : code.Fact) → at_number all goal ≡ Some f → IsContradictoryFact o f
    → ((e : ExprId) (x : code_context.Context) → at_number all goal ≡ Some (facts.In (classes.Expr e) x) → Derives o (Sub (subject_of (context_of x)) e.0) lines) → DerivesContradiction o lines
derives_contradiction o all goal lines (facts.In (classes.Expr e) x) at h derives =
    (subject_of (context_of x), top_of o x h.1, subst (λ c. Derives o (Sub (subject_of (context_of x)) c) lines) h.0 (derives e x at))
derives_contradiction o all goal lines (facts.In (classes.Partial n) x) at h derives = absurd h
derives_contradiction o all goal lines (facts.Edge x r y) at h derives = absurd h

-- where no fact is a contradiction, there is none
pub no_contradiction : (o : Ontology) (s : Saturated) → IsSaturated o s → All (λ f. IsContradictoryFact o f → ⊥) s.state.facts → IsConsistent o s.normal.asked
no_contradiction o s saturated never = record { things = things; individuals = individuals }
  where
    said : (x : Context) → IsFact o s.normal.asked (In (Whole nothing) x) → ((y : code_context.Context) → context_of y ≡ x → IsTopContext o y) → ⊥
    said x fact top =
        let f = saturated.facts.all (In (Whole nothing) x) fact in
        let g = whole_saying f.2 in
        All-contains (λ h. IsContradictoryFact o h → ⊥) s.state.facts f.0 never f.1 (subst (IsContradictoryFact o) (sym g.2) (g.3, top g.1 g.4))

    thing_top : (y : code_context.Context) → context_of y ≡ Expression thing → IsTopContext o y
    thing_top (contexts.Expr e) h = cc
    thing_top (contexts.Individual a) h = absurd cc

    things : IsFact o s.normal.asked (In (Whole nothing) (Expression thing)) → ⊥
    things fact = said (Expression thing) fact thing_top

    individual_top : (a : ℕ) → a < length o.names.individuals → (y : code_context.Context) → context_of y ≡ Individual a → IsTopContext o y
    individual_top a l (contexts.Expr e) h = absurd cc
    individual_top a l (contexts.Individual i) h = let same : i.0 ≡ a = cc in subst (λ b. b < length o.names.individuals) (sym same) l

    individuals : (a : ℕ) → a < length o.names.individuals → IsFact o s.normal.asked (In (Whole nothing) (Individual a)) → ⊥
    individuals a l fact = said (Individual a) fact (individual_top a l)
