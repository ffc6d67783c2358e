-- Facts that a form hands on from one of two individuals to the other.
use Rattle.std.proofs.Common.{◌≡◌, ℕ, ◌<◌, List, [], ◌∷◌, length, map, slice_get, Option, Some, Contains, refl, sym, ap, ◌∙◌, subst, arith}
use Rattle.std.proofs.lemmas.Option.{none-some, same_Some, slice_get_within}
use Rattle.lemmas.proofs.Members.{Contains-first, Contains-from_slice_get}
use Rattle.axioms.specs.Ontology.{Ontology}
use Rattle.axioms.specs.WellFormedness.{IsOntology}
use Rattle.axioms.specs.declared.ids.IndId.{IndId}
use Rattle.certificate.specs.Certificate.{Line}
use Rattle.closure.specs.Denotations.{Prefixes, SaysFact, edge}
use Rattle.closure.specs.Closure as definition
use Rattle.engine.specs.Saturations.{Saturated, IsSaturated}
use Rattle.exactness.specs.Derivability.{FactIsDerivable}
use Rattle.exactness.proofs.Derivable.{conclusions}
use Rattle.exactness.proofs.Facts.{fact_derivable}
use Rattle.explain.proofs.Below.{rests_below}
use Rattle.explain.proofs.Births.{born_by, heads}
use Rattle.explain.proofs.Conclusions.{edge_shown}
use Rattle.explain.proofs.Exchanging.{numbers_long, walk_long}
use Rattle.explain.specs.Exchanges.{HandsOnBy, HasEdges}
use Rattle.explain.specs.LinesOfFacts.{AreShowing, steps_of}
use Rattle.explain.specs.OlderFacts.{rests_on}
use Rattle.explain.specs.Step.{subject_in}
use Rattle.explain.specs.Uses.{NamesForm}
use Rattle.facts.specs.Births.{Reason, numbers_of}
use Rattle.facts.specs.Closure.{Problem, Gives, by_form, loop, handed_on, different, apart, Concludes, HandsOn, IsLoop}
use Rattle.facts.specs.declared.births.Older as code_older
use Rattle.facts.specs.declared.births.Older.TheVariants as older
use Rattle.facts.specs.declared.births.FactId.{FactId}
use Rattle.facts.specs.declared.contexts.Context.{Context}
use Rattle.facts.specs.declared.contexts.Fact.{Fact}
use Rattle.facts.specs.declared.contexts.Fact.TheVariants.{In, Edge}
use Rattle.normal_forms.specs.Forms.{Property2, Property, Steps}
use Rattle.normal_forms.specs.declared.forms.Form.{Form}
use Rattle.normal_forms.specs.declared.forms.Form.TheVariants.{N10}
use Rattle.normal_forms.specs.declared.forms.PropId2.{PropId2}
use Rattle.normalise.specs.Problem.{prefixes_of}

-- ---- what gave such facts

same_form : (forms : List Form) {n m : ℕ} {form other : Form} → Some n ≡ Some m → slice_get forms n ≡ Some other → slice_get forms m ≡ Some form → other ≡ form
same_form forms {n} {m} {form} {other} e at there = same_Some other form (sym at ∙ ap (slice_get forms) (same_Some n m e) ∙ there)

nothing_by_same : (k : Problem) (i j : IndId) (older : List Fact) (f : Fact) → Concludes k (N10 i j) older f → ⊥
nothing_by_same k i j (g ∷ h ∷ e ∷ more) f c = c
nothing_by_same k i j _ f c = c

-- the one fact that is handed on
pub record IsHandedOn (form : Form) (c : ℕ) (older : List Fact) (f : Fact) : Type 0 where
  pub fact : Fact
  pub only : older ≡ fact ∷ []
  pub hands : HandsOn form fact f
  pub eleven : c ≡ 11

gives_same : (k : Problem) {c : ℕ} {place : Option ℕ} {older : List Fact} {f : Fact} (m : ℕ) (i j : IndId) → NamesForm c → Gives k c place older f → place ≡ Some m → slice_get k.forms m ≡ Some (N10 i j) → IsHandedOn (N10 i j) c older f
gives_same k {older = older} {f = f} m i j of_form (by_form n form at c) e there = absurd (nothing_by_same k i j older f (subst (λ x. Concludes k x older f) (same_form k.forms e at there) c))
gives_same k {f = f} m i j of_form (loop x n form at is by) e there = absurd (subst (λ y. IsLoop x y f) (same_form k.forms e at there) is)
gives_same k {f = f} m i j of_form (handed_on {g = g} n form at hands) e there = record { fact = g; only = refl; hands = subst (λ x. HandsOn x g f) (same_form k.forms e at there) hands; eleven = refl }
gives_same k m i j of_form (different l a b listed same) e there = absurd (of_form.0 refl)
gives_same k m i j of_form (apart l a b x listed) e there = absurd (of_form.1 refl)
gives_same k m i j of_form _ e there = absurd (none-some m e)

-- ---- of a saturation

-- one fact gave it, where one is there
pub one_older : {X : Type 0} (o : code_older.Older) (xs : List X) (g : X) → map (slice_get xs) (numbers_of o) ≡ map Some (g ∷ []) → (x : FactId) × (o ≡ older.One x) × (slice_get xs x.0 ≡ Some g)
one_older older.None xs g h = absurd cc
one_older (older.One x) xs g h = (x, refl, heads h)
one_older (older.Two x y) xs g h = absurd cc

-- an edge of a property has one step, and a prefix has two or more
steps_there : (o : Ontology) (x y : definition.Context) (r : Property2) → FactIsDerivable o (definition.Edge x r y) → 0 < length (steps_of r)
steps_there o x y (Property p) derivable = omega arith
steps_there o x y (Steps rs) derivable = derivable.2.0

module _ (o : Ontology) (s : Saturated) (saturated : IsSaturated o s) (n : ℕ) (r : Reason) (born : slice_get s.state.births n ≡ Some r) (f : Fact) (there : slice_get s.state.facts n ≡ Some f)
    (m : ℕ) (place : r.form ≡ Some m) (of_form : NamesForm r.condition) (i j : IndId) where
  -- what is known of a fact that is handed on
  pub record IsBornOfSame : Type 0 where
    pub fact : Fact
    pub older : map (slice_get s.state.facts) r.older ≡ map Some (fact ∷ [])
    pub hands : HandsOn (N10 i j) fact f
    pub rests : rests_on s.normal.entries r ≡ r.older

  pub born_of_same : slice_get s.state.problem.forms m ≡ Some (N10 i j) → IsBornOfSame
  born_of_same at =
      let (older, at_older, gives) = born_by o s n r f saturated born there in
      let h = gives_same s.state.problem m i j of_form gives place at in
      record {
        fact = h.fact;
        older = at_older ∙ ap (map Some) h.only;
        hands = h.hands;
        rests = subst (λ (c : ℕ). rests_on s.normal.entries (record r { condition = c }) ≡ r.older) (sym h.eleven) refl;
      }

module _ (o : Ontology) (s : Saturated) (saturated : IsSaturated o s) (n : ℕ) (r : Reason) (born : slice_get s.state.births n ≡ Some r) (f : Fact) (there : slice_get s.state.facts n ≡ Some f)
    (m : ℕ) (place : r.form ≡ Some m) (of_form : NamesForm r.condition) (i j : IndId) (at : slice_get s.state.problem.forms m ≡ Some (N10 i j)) (o' : code_older.Older) (older_is : numbers_of o' ≡ r.older) where
  pub handed : IsBornOfSame o s saturated n r born f there m place of_form i j
  handed = born_of_same o s saturated n r born f there m place of_form i j at

  -- one older fact is told
  pub one_told : ((x : FactId) → o' ≡ older.One x → ⊥) → ⊥
  one_told none =
      let (x, is, at_x) = one_older o' s.state.facts handed.fact (ap (map (slice_get s.state.facts)) older_is ∙ handed.older) in
      none x is

  module _ (x : FactId) (is : o' ≡ older.One x) where
    older_one : x.0 ∷ [] ≡ r.older
    older_one = ap numbers_of (sym is) ∙ older_is

    pub given_at : slice_get s.state.facts x.0 ≡ Some handed.fact
    given_at = heads (ap (map (slice_get s.state.facts)) older_one ∙ handed.older)

    pub given_there : x.0 < length s.state.facts
    given_there = slice_get_within s.state.facts x.0 handed.fact given_at

    -- the line rests on it alone
    pub rests_on_one : rests_on s.normal.entries r ≡ x.0 ∷ []
    rests_on_one = handed.rests ∙ sym older_one

    pub rests : Contains (rests_on s.normal.entries r) x.0
    rests = subst (λ ns. Contains ns x.0) (sym rests_on_one) (Contains-first x.0 [])

    module _ (g : Fact) (at_g : slice_get s.state.facts x.0 ≡ Some g) where
      pub hands : HandsOnBy s.state.problem.forms m g f
      hands = (N10 i j, at, subst (λ e. HandsOn (N10 i j) e f) (same_Some handed.fact g (sym given_at ∙ at_g)) handed.hands)

      -- no fact stands twice
      pub two_facts : g ≡ f → ⊥
      two_facts e =
          let low = rests_below s n x.0 f r born (saturated.born.born n f r there born) (r, born, rests) in
          let same : x.0 ≡ n = saturated.born.distinct x.0 n f (at_g ∙ ap Some e) there in
          omega (arith, low, same)

-- the lines of an edge of a saturation are some
has_edges_said : (o : Ontology) {b : Prefixes} {lines : List Line} {ns : List ℕ} {x y : Context} {p : PropId2} {g : definition.Fact} → SaysFact b (Edge x p y) g → FactIsDerivable o g → AreShowing b lines ns (Edge x p y) → 0 < length ns
has_edges_said o {lines = lines} {ns = ns} {x = x} {y = y} (edge {x' = v} {y' = w} {r' = r'} says_x says_r says_y) derivable shown =
    let (cs, at, is_walk) = edge_shown says_r shown in
    let some : 0 < length (steps_of r') = steps_there o v w r' derivable in
    omega (arith, some, walk_long (subject_in x) (steps_of r') (subject_in y) cs is_walk, numbers_long (conclusions lines) ns cs at)

pub has_edges : (o : Ontology) (s : Saturated) (w : IsOntology o) (saturated : IsSaturated o s) (n : ℕ) (f : Fact) → slice_get s.state.facts n ≡ Some f → (lines : List Line) (numbers : List ℕ) → AreShowing (prefixes_of s.normal) lines numbers f → HasEdges f numbers
has_edges o s w saturated n (In a x) there lines numbers shown = tt
has_edges o s w saturated n (Edge x p y) there lines numbers shown =
    let (g, says, fact) = saturated.facts.each (Edge x p y) (Contains-from_slice_get s.state.facts n (Edge x p y) there) in
    has_edges_said o says (fact_derivable o s.normal.asked w fact) shown
