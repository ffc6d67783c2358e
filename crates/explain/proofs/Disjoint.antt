-- Facts that two classes led to that have nothing in common.
use Rattle.std.proofs.Common.{◌≡◌, ℕ, inl, inr, List, [], ◌∷◌, ◌++◌, map, slice_get, Option, Some, Contains, refl, sym, ap, ap₂, ◌∙◌, subst, arith}
use Rattle.std.proofs.lemmas.Option.{none-some, same_Some}
use Rattle.lemmas.proofs.Members.{Contains-first, Contains-later}
use Rattle.axioms.specs.Ontology.{Ontology, Axiom, DisjointClasses, SubProperty, AtTwoPlaces, nothing}
use Rattle.axioms.specs.View.{at_number}
use Rattle.axioms.specs.WellFormedness.{IsOntology}
use Rattle.axioms.specs.declared.ids.ExprId.{ExprId}
use Rattle.certificate.specs.Certificate.{Conclusion, Sub, Line}
use Rattle.certificate.specs.declared.line.Rule.TheVariants.{K7}
use Rattle.cert_check.specs.Derivation.{at_numbers}
use Rattle.cert_check.specs.Lines.{Follows}
use Rattle.closure.specs.Denotations.{whole}
use Rattle.engine.specs.Saturations.{Saturated, IsSaturated}
use Rattle.exactness.proofs.Derivable.{conclusions}
use Rattle.explain.proofs.Births.{born_by, heads, of_a_form, tails}
use Rattle.explain.proofs.Conclusions.{both_conclude, class_shown}
use Rattle.explain.proofs.Formless.{two_older}
use Rattle.explain.proofs.Used.{one_given, shows_those, used_from}
use Rattle.explain.proofs.Within.{axiom_number_within, fact_within}
use Rattle.explain.specs.OlderFacts.{AreOlderShown, rests_on}
use Rattle.explain.specs.Step.{LeadTo, said_by, subject_in}
use Rattle.explain.specs.Uses.{EachIsUsed, IsAmong, IsAmongThose, ShowsOlder, Uses}
use Rattle.facts.specs.Births.{Reason, numbers_of}
use Rattle.facts.specs.Closure as facts
use Rattle.facts.specs.Closure.{Problem, Gives, by_form, apart}
use Rattle.facts.specs.declared.births.FactId.{FactId}
use Rattle.facts.specs.declared.births.Older as code_older
use Rattle.facts.specs.declared.births.Older.TheVariants as older
use Rattle.facts.specs.declared.contexts.Context.{Context}
use Rattle.facts.specs.declared.contexts.Fact.{Fact}
use Rattle.facts.specs.declared.contexts.Fact.TheVariants.{In}
use Rattle.normal_forms.specs.Apart.{AreListedAt}
use Rattle.normal_forms.specs.Forms as definition
use Rattle.normal_forms.specs.Origins.{AxiomGives}
use Rattle.normal_forms.specs.declared.apart.ApartLists.{ApartLists}
use Rattle.normal_forms.specs.declared.forms.Class2.TheVariants as classes
use Rattle.normalise.specs.Problem.{prefixes_of}
use Rattle.number_sets.specs.Pieces.{list_at}

-- ---- what gave such a fact

-- two classes of the list of that number, in one context
record IsOfDisjoint (k : Problem) (l : ℕ) (given : List Fact) (f : Fact) : Type 0 where
  pub a : ExprId
  pub b : ExprId
  pub context : Context
  pub listed : AreListedAt k.apart.classes l a b
  pub given_are : given ≡ In (classes.Expr a) context ∷ In (classes.Expr b) context ∷ []
  pub is : f ≡ In facts.nothing context

gives_disjoint : (k : Problem) {c : ℕ} {place : Option ℕ} {given : List Fact} {f : Fact} (l : ℕ) → Gives k c place given f → place ≡ Some l → c ≡ 14 → IsOfDisjoint k l given f
gives_disjoint k l (by_form n form at c) p e = absurd ((of_a_form form).1 e)
gives_disjoint k l (apart m a b x (c, d, a_is, b_is, listed)) p e = record {
  a = c;
  b = d;
  context = x;
  listed = subst (λ n. AreListedAt k.apart.classes n c d) (same_Some m l p) listed;
  given_are = ap₂ (λ v w. In v x ∷ In w x ∷ []) a_is b_is;
  is = refl;
}
gives_disjoint k l _ p e = absurd (omega (arith, e))

-- the axiom says that the two have nothing in common
disjoint_given : (a : Axiom) (x y : ℕ) → AxiomGives a (definition.N2 (definition.Whole x) (definition.Whole y) (definition.Whole nothing)) → (xs : List ℕ) × (a ≡ DisjointClasses xs) × AtTwoPlaces xs x y
disjoint_given (DisjointClasses cs) x y (m, (n, (c, d, low, at, there, e))) =
    let i : x ≡ c = cc in
    let j : y ≡ d = cc in
    (cs, refl, (m, n, (λ k. (let bad : ⊥ = omega (arith, k, low) in bad)), at ∙ ap Some (sym i), there ∙ ap Some (sym j)))
disjoint_given (SubProperty rs t) x y (inl h) = absurd cc
disjoint_given (SubProperty rs t) x y (inr h) = absurd cc
disjoint_given _ x y h = absurd cc

-- ---- of a saturation

module _ (o : Ontology) (s : Saturated) (w : IsOntology o) (saturated : IsSaturated o s) (n : ℕ) (r : Reason) (born : slice_get s.state.births n ≡ Some r) (f : Fact) (there : slice_get s.state.facts n ≡ Some f)
    (l : ℕ) (place : r.form ≡ Some l) (fourteen : r.condition ≡ 14) where
  record IsBornOfDisjoint : Type 0 where
    pub given : List Fact
    pub at : map (slice_get s.state.facts) r.older ≡ map Some given
    pub of : IsOfDisjoint s.state.problem l given f

  born_of_disjoint : IsBornOfDisjoint
  born_of_disjoint =
      let (given, at, gives) = born_by o s n r f saturated born there in
      record { given = given; at = at; of = gives_disjoint s.state.problem l gives place fourteen }

  abbrev of : IsOfDisjoint s.state.problem l born_of_disjoint.given f
  of = born_of_disjoint.of

  abbrev first : Fact
  first = In (classes.Expr of.a) of.context

  abbrev second : Fact
  second = In (classes.Expr of.b) of.context

  -- the axiom that gave the list
  record IsOfAxiom : Type 0 where
    pub number : ℕ
    pub at_list : slice_get s.normal.disjoint_axioms l ≡ Some number
    pub operands : List ℕ
    pub stated : at_number o.axioms number ≡ Some (DisjointClasses operands)
    pub places : AtTwoPlaces operands of.a.0 of.b.0

  of_axiom : IsOfAxiom
  of_axiom =
      let (number, at_list, (a, stated, gives)) = saturated.normal.each_disjoint l of.a of.b (subst (λ (k : ApartLists). AreListedAt k.classes l of.a of.b) saturated.apart of.listed) in
      let (xs, is, places) = disjoint_given a of.a.0 of.b.0 gives in
      record { number = number; at_list = at_list; operands = xs; stated = stated ∙ ap Some is; places = places }

  both_at : (ns : List ℕ) → ns ≡ r.older → map (slice_get s.state.facts) ns ≡ map Some (first ∷ second ∷ [])
  both_at ns are = ap (map (slice_get s.state.facts)) are ∙ born_of_disjoint.at ∙ ap (map Some) of.given_are

  module _ (o' : code_older.Older) (older_is : numbers_of o' ≡ r.older) where
    -- two older facts gave it
    pub two_taken : ((x y : FactId) → o' ≡ older.Two x y → ⊥) → ⊥
    two_taken none =
        let (x, y, is) = two_older o' s.state.facts first second (both_at (numbers_of o') older_is) in
        none x y is

    module _ (x y : FactId) (is : o' ≡ older.Two x y) where
      two : x.0 ∷ y.0 ∷ [] ≡ r.older
      two = ap numbers_of (sym is) ∙ older_is

      -- the line rests on these two
      rests_on_two : rests_on s.normal.entries r ≡ x.0 ∷ y.0 ∷ []
      rests_on_two = subst (λ (c : ℕ). rests_on s.normal.entries (record r { condition = c }) ≡ r.older) (sym fourteen) refl ∙ sym two

      rests : (m : ℕ) → Contains (x.0 ∷ y.0 ∷ []) m → Contains (rests_on s.normal.entries r) m
      rests m h = subst (λ ns. Contains ns m) (sym rests_on_two) h

      module _ (lines : List Line) (shown : List (List ℕ)) where
        -- what shows the two leads to the fact
        module _ (shows : AreOlderShown s lines shown n) where
          first_shown : at_numbers (conclusions lines) (list_at shown x.0) ≡ Some (Sub (subject_in of.context) of.a.0 ∷ [])
          first_shown = class_shown (whole refl) (shows r born x.0 (rests x.0 (Contains-first x.0 (y.0 ∷ []))) first (heads (both_at (x.0 ∷ y.0 ∷ []) two)))

          second_shown : at_numbers (conclusions lines) (list_at shown y.0) ≡ Some (Sub (subject_in of.context) of.b.0 ∷ [])
          second_shown = class_shown (whole refl) (shows r born y.0 (rests y.0 (Contains-later x.0 y.0 (y.0 ∷ []) (Contains-first y.0 []))) second (heads (tails (both_at (x.0 ∷ y.0 ∷ []) two))))

          abbrev both : List Conclusion
          both = Sub (subject_in of.context) of.a.0 ∷ Sub (subject_in of.context) of.b.0 ∷ []

          says_it : (c : Conclusion) → said_by f ≡ Some c → Sub (subject_in of.context) nothing ≡ c
          says_it c said = same_Some (Sub (subject_in of.context) nothing) c (sym (ap said_by of.is) ∙ said)

          pub disjoint_leads : (numbers : List ℕ) → numbers ≡ list_at shown x.0 ++ list_at shown y.0 → LeadTo o (prefixes_of s.normal) lines K7 (slice_get s.normal.disjoint_axioms l) numbers f
          disjoint_leads numbers are =
              subst (λ (found : Option ℕ). LeadTo o (prefixes_of s.normal) lines K7 found numbers f) (sym of_axiom.at_list) (record {
                line = λ c said. record {
                  within = record { conclusion = fact_within o s n f c w saturated there said; axiom' = axiom_number_within o of_axiom.number (DisjointClasses of_axiom.operands) of_axiom.stated };
                  premises = both;
                  premises_at = both_conclude lines numbers (list_at shown x.0) (list_at shown y.0) (Sub (subject_in of.context) of.a.0 ∷ []) (Sub (subject_in of.context) of.b.0 ∷ []) are first_shown second_shown;
                  follows = subst (λ a. Follows o K7 both a c) (sym of_axiom.stated) (subst (Follows o K7 both (Some (DisjointClasses of_axiom.operands))) (says_it c said) (refl, refl, of_axiom.places, refl));
                };
                prefix = λ said. absurd (none-some (Sub (subject_in of.context) nothing) (sym said ∙ ap said_by of.is));
              })

        pub disjoint_used : (new : List Line) (premises numbers : List ℕ) → premises ≡ list_at shown x.0 ++ list_at shown y.0 → Uses lines new (IsAmong premises) numbers → EachIsUsed s shown n lines new numbers
        disjoint_used new premises numbers are =
            used_from lines new (IsAmong premises) (ShowsOlder s shown n) numbers
            (λ k h. subst (λ ns. IsAmong ns k) (sym are)
            (one_given shown x.0 y.0 (list_at shown x.0) (list_at shown y.0) refl refl k (subst (λ ms. IsAmongThose shown ms k) rests_on_two (shows_those s shown n r born k h))))
