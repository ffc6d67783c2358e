-- A plain property form leads an edge up by the axiom that gave it.
use Rattle.std.proofs.Common.{◌≡◌, ℕ, zero, suc, ◌+◌, ◌<◌, ◌⊎◌, inl, inr, List, [], ◌∷◌, length, drop, get_or, slice_get, Option, Some, Contains, refl, sym, ap, ap₂, ◌∙◌, subst, arith}
use Rattle.std.proofs.lemmas.Option.{none-some, same_Some, slice_get_within}
use Rattle.std.proofs.lemmas.List.Elements.{All-contains}
use Rattle.axioms.specs.declared.ids.PropId.{PropId}
use Rattle.axioms.specs.Ontology.{Ontology, Axiom, Node, Class, And, Exists, SubProperty, EquivalentProperties}
use Rattle.axioms.specs.WellFormedness.{IsOntology, IsAxiomOf}
use Rattle.certificate.specs.Certificate.{Subject, Conclusion, Edge, Line}
use Rattle.certificate.specs.Writability.{IsConclusionOf}
use Rattle.certificate.specs.declared.line.Rule.TheVariants.{K12}
use Rattle.cert_check.specs.Derivation.{at_numbers, IsDerivation, IsDerived}
use Rattle.cert_check.specs.Lines.{Follows}
use Rattle.closure.specs.Denotations.{property}
use Rattle.exactness.proofs.Derivable.{conclusions, at_conclusion, at_numbers_derivable, derivable_from_line}
use Rattle.exactness.proofs.Rules.{derivable_within}
use Rattle.exactness.specs.Derivability.{AreDerivable, none, more}
use Rattle.engine.specs.Saturations.{Saturated, IsSaturated}
use Rattle.explain.proofs.Conclusions.{property_shown}
use Rattle.explain.specs.LiftedEdges.{GivesStep}
use Rattle.explain.specs.LinesOfFacts.{AreShowing}
use Rattle.explain.specs.Step.{LeadTo, subject_in}
use Rattle.facts.specs.declared.contexts.Context as code_context
use Rattle.facts.specs.declared.contexts.Fact.TheVariants as facts
use Rattle.lemmas.proofs.Mapped.{slice_get_map_from}
use Rattle.lemmas.proofs.Members.{Contains-from_slice_get}
use Rattle.normal_forms.specs.declared.forms.Form.{Form}
use Rattle.normal_forms.specs.declared.forms.Form.TheVariants as forms
use Rattle.normal_forms.specs.declared.forms.Origin.{Origin}
use Rattle.normal_forms.specs.declared.forms.Origin.TheVariants as origins
use Rattle.normal_forms.specs.declared.forms.PropId2.{PropId2}
use Rattle.normal_forms.specs.declared.forms.PropId2.TheVariants as properties
use Rattle.normal_forms.specs.Forms as given
use Rattle.normal_forms.specs.Forms.{N5}
use Rattle.normal_forms.specs.Origins.{AxiomGives, RightGives, LeftGives, GivenBy}
use Rattle.normal_forms.specs.Properties.{IsAtOrBelow, same, step}
use Rattle.explain.specs.Paths.{IsPath}
use Rattle.normalise.specs.declared.entries.Entry.{Entry}
use Rattle.normalise.specs.Entries.{form_in, origin_in}
use Rattle.normalise.specs.Listing.{Listing}
use Rattle.normalise.specs.View.{Says}
use Rattle.normalise.specs.Problem.{prefixes_of}

-- ---- what gave a plain form

in_circle : (rs : List ℕ) (r s n : ℕ) → slice_get rs n ≡ Some r → ((slice_get rs (n + 1) ≡ Some s) ⊎ ((n + 1 ≡ length rs) × (slice_get rs 0 ≡ Some s))) → Contains rs r × Contains rs s
in_circle rs r s n at next = (
  Contains-from_slice_get rs n r at,
  elim next [ inl k ↦ Contains-from_slice_get rs (n + 1) s k | inr k ↦ Contains-from_slice_get rs 0 s k.1 ],
)

-- the axiom leads an edge up, and the property above is there
axiom_leads : (o : Ontology) (a : Axiom) (r s : ℕ) (x y : Subject) → IsAxiomOf o a → AxiomGives a (N5 r s) → Follows o K12 (Edge x r y ∷ []) (Some a) (Edge x s y) × (s < length o.names.properties)
axiom_leads o (SubProperty rs t) r s x y w (inl (q, one, e)) =
    let i : r ≡ q = cc in
    let j : s ≡ t = cc in
    ((refl, refl, one ∙ ap (λ p. p ∷ []) (sym i), sym j), subst (λ (p : ℕ). p < length o.names.properties) (sym j) w.2)
axiom_leads o (EquivalentProperties rs) r s x y w (n, (p, q, at, next, e)) =
    let i : r ≡ p = cc in
    let j : s ≡ q = cc in
    let both = in_circle rs p q n at next in
    let up : Contains rs s = subst (Contains rs) (sym j) both.1 in
    ((refl, refl, subst (Contains rs) (sym i) both.0, up), All-contains (λ p. p < length o.names.properties) rs s w.within up)
axiom_leads o (SubProperty rs t) r s x y w (inr h) = absurd cc
axiom_leads o _ r s x y w h = absurd cc

right_none : (e : ℕ) (node : Node) (r s : ℕ) → RightGives e node (N5 r s) → ⊥
right_none e (Class c) r s h = h
right_none e (And ds) r s (d, m, i) = cc
right_none e (Exists q c) r s h = cc

left_none : (e : ℕ) (node : Node) (r s : ℕ) → LeftGives e node (N5 r s) → ⊥
left_none e (Class c) r s h = h
left_none e (And ds) r s (n, (d, l, at, i)) = cc
left_none e (Exists q c) r s h = cc

-- it was an axiom
by_an_axiom : (o : Ontology) (asked : List ℕ) (by : Origin) (r s : ℕ) → GivenBy o asked by (N5 r s) → (n : ℕ) × (by ≡ origins.Axiom n)
by_an_axiom o asked (origins.Axiom n) r s h = (n, refl)
by_an_axiom o asked (origins.Expr e) r s (node, at, inl (occurs, h)) = absurd (right_none e.0 node r s h)
by_an_axiom o asked (origins.Expr e) r s (node, at, inr (occurs, h)) = absurd (left_none e.0 node r s h)

form_there : (entries : List Entry) (n : ℕ) (f : Form) (by : Origin) (e : Entry) → slice_get entries n ≡ Some (record { form = f; origin = by }) → slice_get entries n ≡ Some e → f ≡ e.form
form_there entries n f by e there at = ap form_in (same_Some (record { form = f; origin = by }) e (sym there ∙ at))

given_at : (o : Ontology) (v : Listing) (form : ℕ) (r s : PropId) (by : Origin) (f : Form) (g : given.Form) → slice_get v.entries form ≡ Some (record { form = f; origin = by }) → Says v.operands v.steps f g → GivenBy o v.asked by g → f ≡ forms.N5 r s
    → (n : ℕ) × GivesStep v form r s n × GivenBy o v.asked (origins.Axiom n) (N5 r.0 s.0)
given_at o v form r s by f g there says gives is =
    let said : g ≡ N5 r.0 s.0 = subst (λ (x : Form). Says v.operands v.steps x g) is says in
    let here : GivenBy o v.asked by (N5 r.0 s.0) = subst (GivenBy o v.asked by) said gives in
    let (n, axiom') = by_an_axiom o v.asked by r.0 s.0 here in
    (n, there ∙ ap₂ (λ x y. Some (record { form = x; origin = y })) is axiom', subst (λ (x : Origin). GivenBy o v.asked x (N5 r.0 s.0)) axiom' here)

-- what a plain form of a saturation comes from
pub given_step : (o : Ontology) (t : Saturated) (form : ℕ) (r s : PropId) → IsSaturated o t → slice_get t.state.problem.forms form ≡ Some (forms.N5 r s)
    → (n : ℕ) × GivesStep t.normal form r s n × GivenBy o t.normal.asked (origins.Axiom n) (N5 r.0 s.0)
given_step o t form r s w at =
    let v = t.normal in
    let e = slice_get_map_from form_in v.entries form (forms.N5 r s) (subst (λ (fs : List Form). slice_get fs form ≡ Some (forms.N5 r s)) w.forms at) in
    let (by, (g, (f, there, says), gives)) = w.normal.each form (slice_get_within v.entries form e.0 e.1) in
    given_at o v form r s by f g there says gives (form_there v.entries form f by e.0 there e.1 ∙ e.2)

-- the properties and the axiom of a plain form are told by its entry alone
pub one_step : (o : Ontology) (t : Saturated) (form : ℕ) (p q r s : PropId) (m n : ℕ) → GivesStep t.normal form p q m → GivesStep t.normal form r s n → (p ≡ r) × (q ≡ s) × (m ≡ n)
one_step o t form p q r s m n g h =
    let make : PropId → PropId → ℕ → Entry = λ x y k. record { form = forms.N5 x y; origin = origins.Axiom k } in
    let e : make p q m ≡ make r s n = same_Some (make p q m) (make r s n) (sym g ∙ h) in
    let f : forms.N5 p q ≡ forms.N5 r s = ap form_in e in
    let k : origins.Axiom m ≡ origins.Axiom n = ap origin_in e in
    (cc, cc, cc)

-- ---- an edge lifted

-- what lines of a derivation conclude is in range
concluded_within : (o : Ontology) (lines : List Line) (numbers : List ℕ) (c : Conclusion) → IsDerivation o lines → at_numbers (conclusions lines) numbers ≡ Some (c ∷ []) → IsConclusionOf o c
concluded_within o lines numbers c d e =
    go (at_numbers_derivable (conclusions lines) (λ n k at. let a = at_conclusion lines n k at in derivable_from_line lines k d (n, a.0, a.1, a.2)) numbers (c ∷ []) e)
  where
    go : AreDerivable o (c ∷ []) → IsConclusionOf o c
    go (more p none) = derivable_within p

pub edge_leads : (o : Ontology) (t : Saturated) (lines : List Line) (numbers : List ℕ) (x y : code_context.Context) (r s : PropId) (n : ℕ) → IsOntology o → IsDerivation o lines
    → AreShowing (prefixes_of t.normal) lines numbers (facts.Edge x (properties.Property r) y) → GivenBy o t.normal.asked (origins.Axiom n) (N5 r.0 s.0)
    → LeadTo o (prefixes_of t.normal) lines K12 (Some n) numbers (facts.Edge x (properties.Property s) y)
edge_leads o t lines numbers x y r s zero w d shown (a, at, gives) = absurd (none-some a at)
edge_leads o t lines numbers x y r s (suc n) w d shown (a, at, gives) =
    let premise : Conclusion = Edge (subject_in x) r.0 (subject_in y) in
    let above : Conclusion = Edge (subject_in x) s.0 (subject_in y) in
    let there : at_numbers (conclusions lines) numbers ≡ Some (premise ∷ []) = property_shown (property refl) shown in
    let within : IsConclusionOf o premise = concluded_within o lines numbers premise d there in
    let follows = axiom_leads o a r.0 s.0 (subject_in x) (subject_in y) (All-contains (IsAxiomOf o) o.axioms a w.axioms (Contains-from_slice_get o.axioms n a at)) gives in
    let low : n < length o.axioms = slice_get_within o.axioms n a at in
    let line : IsDerived o lines (record { conclusion = above; rule = K12; axiom' = Some (suc n); premises = numbers }) = record {
      within = record { conclusion = (within.0, follows.1, within.2); axiom' = (omega arith, omega arith) };
      premises = premise ∷ [];
      premises_at = there;
      follows = subst (λ (b : Option Axiom). Follows o K12 (premise ∷ []) b above) (sym at) follows.0;
    } in record {
      line = λ c e. subst (λ (z : Conclusion). IsDerived o lines (record { conclusion = z; rule = K12; axiom' = Some (suc n); premises = numbers })) (same_Some above c e) line;
      prefix = λ e. absurd (none-some above (sym e));
    }

-- ---- an edge that no path lifts

-- a prefix of chains is below itself alone
partial_above : (fs : List Form) (n : ℕ) (q : PropId2) → IsAtOrBelow fs (properties.Partial n) q → q ≡ properties.Partial n
partial_above fs n _ same = refl
partial_above fs n _ (step s t h form) = absurd (let e : properties.Property s ≡ properties.Partial n = partial_above fs n (properties.Property s) h in cc)

above_partial : (fs : List Form) (n : ℕ) (p q : PropId2) → IsAtOrBelow fs p q → q ≡ properties.Partial n → p ≡ q
above_partial fs n p _ same e = refl
above_partial fs n p _ (step s t h form) e = absurd cc

pub stays : (fs : List Form) (n : ℕ) (p q : PropId2) → IsAtOrBelow fs p q → (p ≡ properties.Partial n) ⊎ (q ≡ properties.Partial n) → p ≡ q
stays fs n p q below (inl e) = e ∙ sym (partial_above fs n q (subst (λ (x : PropId2). IsAtOrBelow fs x q) e below))
stays fs n p q below (inr e) = above_partial fs n p q below e

-- a path from its first form on
pub path_on : (fs : List Form) (r to : PropId) (path : List ℕ) (i d : ℕ) → i < length path → IsPath fs r (drop i path) to → (t : PropId) × (slice_get fs (get_or path i d) ≡ Some (forms.N5 r t)) × IsPath fs t (drop (i + 1) path) to
path_on fs r to [] i d l p = absurd (omega arith)
path_on fs r to (n ∷ ns) zero d l p = p
path_on fs r to (n ∷ ns) (suc i) d l p =
    let (t, at, rest) = path_on fs r to ns i d (omega arith) p in
    let e : suc i + 1 ≡ suc (i + 1) = omega arith in
    (t, at, subst (λ k. IsPath fs t (drop k (n ∷ ns)) to) (sym e) rest)
