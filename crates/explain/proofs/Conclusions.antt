-- What lines that show a fact conclude, and which lines show it.
use Rattle.std.proofs.Common.{◌≡◌, ℕ, List, [], ◌∷◌, ◌++◌, map, Some, refl, sym, ap, ◌∙◌, subst}
use Rattle.std.proofs.lemmas.List.{append-nil}
use Rattle.std.proofs.lemmas.Option.{none-some, same_Some}
use Rattle.certificate.specs.Certificate.{Subject, Conclusion, Sub, Line}
use Rattle.certificate.specs.Certificate as line
use Rattle.cert_check.specs.Derivation.{at_numbers}
use Rattle.cert_check.specs.Lines.{IsWalk}
use Rattle.closure.specs.Closure.{Context, Expression, Individual, Fact, In, Edge}
use Rattle.closure.specs.Denotations.{Prefixes, SaysClass, whole, SaysProperty, property, SaysContext, expression, individual, SaysFact, in_context, edge}
use Rattle.closure.proofs.Names.{class_one, property_one}
use Rattle.exactness.proofs.Derivable.{conclusions}
use Rattle.exactness.specs.Derivability.{subject_of}
use Rattle.explain.proofs.Growing.{at_numbers_joined}
use Rattle.explain.specs.Premises.{AreShowingEach}
use Rattle.explain.specs.LinesOfFacts.{operands_of, steps_of, IsShownBy, AreShowing}
use Rattle.explain.specs.Step.{subject_in, said_by}
use Rattle.facts.specs.declared.contexts.Context as code_context
use Rattle.facts.specs.declared.contexts.Context.TheVariants as contexts
use Rattle.facts.specs.declared.contexts.Fact as code
use Rattle.facts.specs.declared.contexts.Fact.TheVariants as facts
use Rattle.normal_forms.specs.declared.forms.Class2 as code_class
use Rattle.normal_forms.specs.declared.forms.Class2.TheVariants as classes
use Rattle.normal_forms.specs.declared.forms.PropId2 as code_property
use Rattle.normal_forms.specs.declared.forms.PropId2.TheVariants as properties
use Rattle.normal_forms.specs.Forms.{Class2, Property2, Property}

-- ---- what is said of contexts

pub said_subject : {x : code_context.Context} {y : Context} → SaysContext x y → subject_of y ≡ subject_in x
said_subject (expression h) = ap line.Expression (sym h)
said_subject (individual h) = ap line.Individual (sym h)

-- each context says one
pub said_context : (x : code_context.Context) → (y : Context) × SaysContext x y
said_context (contexts.Expr e) = (Expression e.0, expression refl)
said_context (contexts.Individual i) = (Individual i.0, individual refl)

-- ---- from lines that show a fact

-- a walk of one step is an edge
one_step : (x : Subject) (r : ℕ) (y : Subject) (cs : List Conclusion) → IsWalk x (r ∷ []) y cs → cs ≡ line.Edge x r y ∷ []
one_step x r y [] w = absurd w
one_step x r y (c ∷ []) (z, is, end) = ap (λ d. d ∷ []) (is ∙ ap (line.Edge x r) end)
one_step x r y (c ∷ d ∷ cs) (z, is, end) = absurd end

module _ {b : Prefixes} where
  class_says : {a : code_class.Class2} {c : Class2} {x : code_context.Context} → SaysClass b a c → (fact : Fact) → SaysFact b (facts.In a x) fact → (cs : List Conclusion) → IsShownBy fact cs → cs ≡ map (Sub (subject_in x)) (operands_of c)
  class_says {c = c} {x = x} says _ (in_context {a' = d} {x' = y} s t) cs shown =
      shown
      ∙ ap (λ (z : Subject). map (Sub z) (operands_of d)) (said_subject t)
      ∙ ap (λ (e : Class2). map (Sub (subject_in x)) (operands_of e)) (class_one s says)

  edge_says : {r : code_property.PropId2} {s : Property2} {x y : code_context.Context} → SaysProperty b r s → (fact : Fact) → SaysFact b (facts.Edge x r y) fact → (cs : List Conclusion) → IsShownBy fact cs → IsWalk (subject_in x) (steps_of s) (subject_in y) cs
  edge_says {s = s} {x = x} {y = y} says _ (edge {x' = v} {y' = w} {r' = t} says_x says_r says_y) cs shown =
      subst (λ (z : Subject). IsWalk z (steps_of s) (subject_in y) cs) (said_subject says_x)
      (subst (λ (z : Subject). IsWalk (subject_of v) (steps_of s) z cs) (said_subject says_y)
      (subst (λ (q : Property2). IsWalk (subject_of v) (steps_of q) (subject_of w) cs) (property_one says_r says) shown))

  -- those of a class in a context put the subject into each operand
  pub class_shown : {lines : List Line} {ns : List ℕ} {a : code_class.Class2} {c : Class2} {x : code_context.Context} → SaysClass b a c → AreShowing b lines ns (facts.In a x) → at_numbers (conclusions lines) ns ≡ Some (map (Sub (subject_in x)) (operands_of c))
  class_shown says s = s.at ∙ ap Some (class_says says s.fact s.says s.conclusions s.shown)

  -- those of an edge are a walk
  pub edge_shown : {lines : List Line} {ns : List ℕ} {r : code_property.PropId2} {s : Property2} {x y : code_context.Context} → SaysProperty b r s → AreShowing b lines ns (facts.Edge x r y) → (cs : List Conclusion) × (at_numbers (conclusions lines) ns ≡ Some cs) × IsWalk (subject_in x) (steps_of s) (subject_in y) cs
  edge_shown says s = (s.conclusions, s.at, edge_says says s.fact s.says s.conclusions s.shown)

  -- the conclusions of lines that show an edge of a property are one edge
  pub property_shown : {lines : List Line} {ns : List ℕ} {r : code_property.PropId2} {s : ℕ} {x y : code_context.Context} → SaysProperty b r (Property s) → AreShowing b lines ns (facts.Edge x r y) → at_numbers (conclusions lines) ns ≡ Some (line.Edge (subject_in x) s (subject_in y) ∷ [])
  property_shown {s = s} {x = x} {y = y} says shown =
      let (cs, at, is_walk) = edge_shown says shown in
      at ∙ ap Some (one_step (subject_in x) s (subject_in y) cs is_walk)

  -- ---- to lines that show a fact

  pub showing_class : {lines : List Line} {ns : List ℕ} {a : code_class.Class2} {c : Class2} {x : code_context.Context} → SaysClass b a c → at_numbers (conclusions lines) ns ≡ Some (map (Sub (subject_in x)) (operands_of c)) → AreShowing b lines ns (facts.In a x)
  showing_class {c = c} {x = x} says at =
      let (y, says_x) = said_context x in
      record {
        fact = In c y;
        says = in_context says says_x;
        conclusions = map (Sub (subject_in x)) (operands_of c);
        at = at;
        shown = ap (λ (z : Subject). map (Sub z) (operands_of c)) (sym (said_subject says_x));
      }

  pub showing_edge : {lines : List Line} {ns : List ℕ} {r : code_property.PropId2} {s : Property2} {x y : code_context.Context} (cs : List Conclusion) → SaysProperty b r s → at_numbers (conclusions lines) ns ≡ Some cs → IsWalk (subject_in x) (steps_of s) (subject_in y) cs → AreShowing b lines ns (facts.Edge x r y)
  showing_edge {s = s} {x = x} {y = y} cs says at is_walk =
      let (v, says_x) = said_context x in
      let (w, says_y) = said_context y in
      record {
        fact = Edge v s w;
        says = edge says_x says says_y;
        conclusions = cs;
        at = at;
        shown =
            subst (λ (z : Subject). IsWalk z (steps_of s) (subject_of w) cs) (sym (said_subject says_x))
            (subst (λ (z : Subject). IsWalk (subject_in x) (steps_of s) z cs) (sym (said_subject says_y)) is_walk);
      }

  -- the number of a line that says the fact
  pub showing_line : {lines : List Line} {ns : List ℕ} (f : code.Fact) (c : Conclusion) → said_by f ≡ Some c → at_numbers (conclusions lines) ns ≡ Some (c ∷ []) → AreShowing b lines ns f
  showing_line (facts.In (classes.Expr e) x) c says at = showing_class (whole refl) (at ∙ ap (λ d. Some (d ∷ [])) (sym (same_Some _ _ says)))
  showing_line (facts.In (classes.Partial n) x) c says at = absurd (none-some c says)
  showing_line (facts.Edge x (properties.Property r) y) c says at =
      showing_edge (line.Edge (subject_in x) r.0 (subject_in y) ∷ []) (property refl) (at ∙ ap (λ d. Some (d ∷ [])) (sym (same_Some _ _ says))) (subject_in y, refl, refl)
  showing_line (facts.Edge x (properties.Partial n) y) c says at = absurd (none-some c says)

  -- ---- one fact, or two

  pub one_shown : {lines : List Line} {ns : List ℕ} {f : code.Fact} → AreShowingEach b lines ns (f ∷ []) → AreShowing b lines ns f
  one_shown {lines} {ns} {f} (first, rest, is, shown, over) =
      subst (λ (ms : List ℕ). AreShowing b lines ms f) (sym (append-nil first) ∙ ap (λ (ms : List ℕ). first ++ ms) (sym over) ∙ sym is) shown

  pub two_shown : {lines : List Line} {ns : List ℕ} {f g : code.Fact} → AreShowingEach b lines ns (f ∷ g ∷ []) → (first : List ℕ) × (second : List ℕ) × (ns ≡ first ++ second) × AreShowing b lines first f × AreShowing b lines second g
  two_shown (first, rest, is, shown, more) = (first, rest, is, shown, one_shown more)

  pub showing_one : {lines : List Line} {ns : List ℕ} {f : code.Fact} → AreShowing b lines ns f → AreShowingEach b lines ns (f ∷ [])
  showing_one {ns = ns} shown = (ns, [], sym (append-nil ns), shown, refl)

  pub showing_two : {lines : List Line} {first second : List ℕ} {f g : code.Fact} → AreShowing b lines first f → AreShowing b lines second g → AreShowingEach b lines (first ++ second) (f ∷ g ∷ [])
  showing_two {first = first} {second = second} shown also = (first, second, refl, shown, showing_one also)

-- what both conclude
pub both_conclude : (lines : List Line) (ns first second : List ℕ) (cs ds : List Conclusion) → ns ≡ first ++ second → at_numbers (conclusions lines) first ≡ Some cs → at_numbers (conclusions lines) second ≡ Some ds → at_numbers (conclusions lines) ns ≡ Some (cs ++ ds)
both_conclude lines ns first second cs ds is at also =
    rw is (at_numbers_joined (conclusions lines) first second cs ds at also)
