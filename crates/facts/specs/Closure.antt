-- The facts that normal forms, and lists of what is apart, lead to.
use Rattle.std.specs.Prelude.{◌≡◌, ◌⊎◌, ℕ, List, [], ◌∷◌, slice_get, Option, Some, None}
use Rattle.std.specs.List.{Contains}
use Rattle.axioms.specs.declared.ids.ExprId.{ExprId}
use Rattle.axioms.specs.declared.ids.IndId.{IndId}
use Rattle.normal_forms.specs.declared.forms.Class2.{Class2}
use Rattle.normal_forms.specs.declared.forms.Class2.TheVariants as classes
use Rattle.normal_forms.specs.declared.forms.PropId2.{PropId2}
use Rattle.normal_forms.specs.declared.forms.PropId2.TheVariants.{Property}
use Rattle.normal_forms.specs.declared.forms.Form.{Form}
use Rattle.normal_forms.specs.declared.forms.Form.TheVariants.{N1, N2, N3, N4, N5, N6, N7, N8, N9, N10, N12}
use Rattle.normal_forms.specs.declared.apart.ApartLists.{ApartLists}
use Rattle.normal_forms.specs.Apart.{AreListedAt}
use Rattle.normal_forms.specs.Properties.{IsAtOrBelow}
use Rattle.facts.specs.declared.contexts.Context.{Context}
use Rattle.facts.specs.declared.contexts.Context.TheVariants.{Expr, Individual}
use Rattle.facts.specs.declared.contexts.Fact.{Fact}
use Rattle.facts.specs.declared.contexts.Fact.TheVariants.{In, Edge}

-- normal forms, lists of what is apart, and the contexts that are there from the start: named classes, individuals, expressions that are
-- asked about
pub record Problem : Type 0 where
  pub forms : List Form
  pub apart : ApartLists
  pub roots : List Context

abbrev pub thing : Class2
thing = classes.Expr (record { 0 = 0 })

abbrev pub nothing : Class2
nothing = classes.Expr (record { 0 = 1 })

-- the edge leads to it
abbrev pub IsTarget : Fact → Context → Type 0
IsTarget (Edge x r y) z = y ≡ z
IsTarget (In a x) z = ⊥

-- x is a context because of these facts: a root because of none, the target of an edge because of the edge
abbrev pub IsContextBy : Problem → List Fact → Context → Type 0
IsContextBy k [] x = Contains k.roots x
IsContextBy k (f ∷ []) x = IsTarget f x
IsContextBy k (f ∷ g ∷ more) x = ⊥

-- what a form gives from no fact
abbrev pub FromNone : Form → Fact → Type 0
FromNone (N8 i a) f = f ≡ In a (Individual i)
FromNone (N9 i r j) f = f ≡ Edge (Individual i) (Property r) (Individual j)
FromNone _ f = ⊥

-- what a form gives from one fact
abbrev pub FromOne : Problem → Form → Fact → Fact → Type 0
FromOne k (N1 a b) (In c x) f = (c ≡ a) × (f ≡ In b x)
FromOne k (N3 a r b) (In c x) f = (c ≡ a) × (f ≡ Edge x (Property r) (Expr b))
FromOne k (N12 a r b) (Edge x q y) f = (x ≡ Individual a) × (y ≡ Individual b) × IsAtOrBelow k.forms q (Property r) × (f ≡ In nothing x)
FromOne k _ _ f = ⊥

-- what a form gives from two facts, in their order
abbrev pub FromTwo : Problem → Form → Fact → Fact → Fact → Type 0
FromTwo k (N2 a b c) (In d x) (In e y) f = (d ≡ a) × (e ≡ b) × (x ≡ y) × (f ≡ In c x)
FromTwo k (N4 r a b) (Edge x q y) (In c z) f = IsAtOrBelow k.forms q (Property r) × (c ≡ a) × (y ≡ z) × (f ≡ In b x)
FromTwo k (N6 r s t) (Edge x p y) (Edge z q w) f = IsAtOrBelow k.forms p r × IsAtOrBelow k.forms q s × (y ≡ z) × (f ≡ Edge x t w)
FromTwo k _ _ _ f = ⊥

-- what a form gives from these facts, in their order
abbrev pub Concludes : Problem → Form → List Fact → Fact → Type 0
Concludes k form [] f = FromNone form f
Concludes k form (g ∷ []) f = FromOne k form g f
Concludes k form (g ∷ h ∷ []) f = FromTwo k form g h f
Concludes k form (g ∷ h ∷ i ∷ more) f = ⊥

-- the condition that such a form stands in
abbrev pub condition : Form → ℕ
condition (N1 _ _) = 4
condition (N2 _ _ _) = 5
condition (N3 _ _ _) = 6
condition (N4 _ _ _) = 7
condition (N5 _ _) = 0
condition (N6 _ _ _) = 9
condition (N7 _) = 10
condition (N8 _ _) = 2
condition (N9 _ _ _) = 3
condition (N10 _ _) = 11
condition (N12 _ _ _) = 13

-- the form makes the two one, in either order
abbrev pub Links : Form → IndId → IndId → Type 0
Links (N10 a b) i j = ((i ≡ a) × (j ≡ b)) ⊎ ((i ≡ b) × (j ≡ a))
Links _ i j = ⊥

-- one of the two stands for the other, once
pub data HandsOn (form : Form) : Fact → Fact → Type 0 where
  class : {i j : IndId} {c : Class2} → Links form i j → HandsOn form (In c (Individual i)) (In c (Individual j))
  source : {i j : IndId} {r : PropId2} {y : Context} → Links form i j → HandsOn form (Edge (Individual i) r y) (Edge (Individual j) r y)
  target : {i j : IndId} {r : PropId2} {x : Context} → Links form i j → HandsOn form (Edge x r (Individual i)) (Edge x r (Individual j))

-- forms lead from one individual to the other, each in either direction, or it is itself
pub data AreSame (forms : List Form) : IndId → IndId → Type 0 where
  itself : {i : IndId} → AreSame forms i i
  step : {i j : IndId} (h : IndId) (form : Form) → AreSame forms i h → Contains forms form → Links form h j → AreSame forms i j

-- owl:Nothing at the target of an edge is carried to its source
abbrev pub Carries : Fact → Fact → Fact → Type 0
Carries (Edge x r y) (In c z) f = (c ≡ nothing) × (y ≡ z) × (f ≡ In nothing x)
Carries _ _ f = ⊥

abbrev pub CarriesBack : List Fact → Fact → Type 0
CarriesBack (g ∷ h ∷ []) f = Carries g h f
CarriesBack _ f = ⊥

-- the edge is the loop of a reflexive property at a context
abbrev pub IsLoop : Context → Form → Fact → Type 0
IsLoop x (N7 r) f = f ≡ Edge x (Property r) x
IsLoop x _ f = ⊥

-- the list of disjoint classes of that number has the two, the first at an earlier place
abbrev pub AreDisjointAt : Problem → ℕ → Class2 → Class2 → Type 0
AreDisjointAt k l a b = (c : ExprId) × (d : ExprId) × (a ≡ classes.Expr c) × (b ≡ classes.Expr d) × AreListedAt k.apart.classes l c d

-- the facts, in their order, give the fact by that condition, and by the form of that number where the condition has one: 12 and 14 are of
-- lists, by the list of that number. What two classes give by 14 they would give by 5, had each two of the list a form
pub data Gives (k : Problem) : ℕ → Option ℕ → List Fact → Fact → Type 0 where
  in_thing : {older : List Fact} {x : Context} → IsContextBy k older x → Gives k 1 None older (In thing x)
  in_itself : {older : List Fact} {e : ExprId} → IsContextBy k older (Expr e) → Gives k 1 None older (In (classes.Expr e) (Expr e))
  by_form : {older : List Fact} {f : Fact} (n : ℕ) (form : Form) → slice_get k.forms n ≡ Some form → Concludes k form older f → Gives k (condition form) (Some n) older f
  unsatisfiable : {older : List Fact} {f : Fact} → CarriesBack older f → Gives k 8 None older f
  loop : {older : List Fact} {f : Fact} (x : Context) (n : ℕ) (form : Form) → slice_get k.forms n ≡ Some form → IsLoop x form f → IsContextBy k older x → Gives k 10 (Some n) older f
  handed_on : {g f : Fact} (n : ℕ) (form : Form) → slice_get k.forms n ≡ Some form → HandsOn form g f → Gives k 11 (Some n) (g ∷ []) f
  different : (l : ℕ) (a b : IndId) → AreListedAt k.apart.individuals l a b → AreSame k.forms a b → Gives k 12 (Some l) [] (In nothing (Individual a))
  apart : (l : ℕ) (a b : Class2) (x : Context) → AreDisjointAt k l a b → Gives k 14 (Some l) (In a x ∷ In b x ∷ []) (In nothing x)

-- the closure: the facts with a finite derivation tree
mutual
  pub data IsFact (k : Problem) : Fact → Type 0 where
    given : {f : Fact} (condition : ℕ) (form : Option ℕ) (older : List Fact) → Gives k condition form older f → AreFacts k older → IsFact k f

  pub data AreFacts (k : Problem) : List Fact → Type 0 where
    none : AreFacts k []
    more : {f : Fact} {facts : List Fact} → IsFact k f → AreFacts k facts → AreFacts k (f ∷ facts)
