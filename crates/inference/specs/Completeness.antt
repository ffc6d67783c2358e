-- What the engine keeps while it works.
use Rattle.std.specs.Prelude.{◌≡◌, ℕ, ◌↔◌, ◌⊎◌, List, [], ◌∷◌, slice_get, take, map, Option, Some}
use Rattle.std.specs.List.{Contains, AllByRecursion}
use Rattle.axioms.specs.declared.ids.ExprId.{ExprId}
use Rattle.normal_forms.specs.declared.forms.Form.{Form}
use Rattle.normal_forms.specs.declared.forms.Form.TheVariants.{N6}
use Rattle.normal_forms.specs.declared.forms.PropId2.{PropId2}
use Rattle.normal_forms.specs.declared.forms.Class2.{Class2}
use Rattle.normal_forms.specs.declared.forms.Class2.TheVariants as class
use Rattle.normal_forms.specs.Properties.{IsAtOrBelow}
use Rattle.facts.specs.declared.contexts.Context.{Context}
use Rattle.facts.specs.declared.contexts.Context.TheVariants.{Expr}
use Rattle.facts.specs.declared.contexts.Fact.{Fact}
use Rattle.facts.specs.declared.contexts.Fact.TheVariants.{In}
use Rattle.facts.specs.Closure.{Problem, Concludes, CarriesBack, IsContextBy, IsLoop, Gives, IsFact, thing}
use Rattle.facts.specs.Births.{Reason}
use Rattle.inference.specs.Derivations.{Derived}

-- the facts of these numbers
abbrev pub AreAt : List Fact → List ℕ → List Fact → Type 0
AreAt facts numbers older = map (slice_get facts) numbers ≡ map Some older

-- x is a context because of the facts of these numbers
abbrev pub IsContextAt : Problem → List Fact → List ℕ → Context → Type 0
IsContextAt k facts numbers x = (older : List Fact) × AreAt facts numbers older × IsContextBy k older x

-- what is drawn from each of the forms is there
abbrev pub AllDrawn : (Form → Fact → Type 0) → List Form → List Fact → Type 0
AllDrawn D forms facts = (form : Form) → Contains forms form → (f : Fact) → D form f → Contains facts f

-- what is drawn from the form at the place is there
abbrev pub DrawnAt : (Form → Fact → Type 0) → List Form → List Fact → ℕ → Type 0
DrawnAt D forms facts n = (form : Form) → slice_get forms n ≡ Some form → (f : Fact) → D form f → Contains facts f

-- what the form at the place gives from these facts is there
abbrev pub IsDrawnFrom : Problem → List Fact → List Fact → ℕ → Type 0
IsDrawnFrom k older facts n = DrawnAt (λ form. Concludes k form older) k.forms facts n

-- what the forms at the places give from these facts is there
abbrev pub AreDrawnFrom : Problem → List Fact → List Fact → List ℕ → Type 0
AreDrawnFrom k older facts places = (n : ℕ) → Contains places n → IsDrawnFrom k older facts n

-- what the form at the place gives from two classes that were in the context is there
abbrev pub IsDrawnIn : Problem → List Fact → Context → List Fact → ℕ → Type 0
IsDrawnIn k old x new n = (a b : Class2) → Contains old (In a x) → Contains old (In b x) → IsDrawnFrom k (In a x ∷ In b x ∷ []) new n

-- what the forms at the places give from two classes that were in the context is there
abbrev pub AreDrawnIn : Problem → List Fact → Context → List Fact → List ℕ → Type 0
AreDrawnIn k old x new places = (n : ℕ) → Contains places n → IsDrawnIn k old x new n

-- what the forms at the places of both kinds give from two classes that were in the context is there
pub record MeetsOperands (k : Problem) (old : List Fact) (firsts seconds : List ℕ) (x : Context) (new : List Fact) : Type 0 where
  pub first : AreDrawnIn k old x new firsts
  pub second : AreDrawnIn k old x new seconds

-- what the forms give from these facts is there
abbrev pub AreDrawn : Problem → List Fact → List Fact → Type 0
AreDrawn k older facts = AllDrawn (λ form. Concludes k form older) k.forms facts

-- what the forms give from these facts is there, and so is what the facts carry back
pub record AreConcluded (k : Problem) (older facts : List Fact) : Type 0 where
  pub forms : AreDrawn k older facts
  pub back : (f : Fact) → CarriesBack older f → Contains facts f

-- an expression is in itself
abbrev pub IsInItself : Context → List Fact → Type 0
IsInItself x facts = (e : ExprId) → x ≡ Expr e → Contains facts (In (class.Expr e) x)

-- the fact of that number is an entry of x: it puts owl:Thing into x because x is a context
pub record IsEntry (d : Derived) (x : Context) (n : ℕ) : Type 0 where
  pub there : slice_get d.facts n ≡ Some (In thing x)
  pub birth : Reason
  pub born : slice_get d.births n ≡ Some birth
  pub of_context : birth.condition ≡ 1

-- x has an entry
abbrev pub HasEntry : Derived → Context → Type 0
HasEntry d x = (n : ℕ) × IsEntry d x n

-- the loops at x are there, or x has an entry: they are drawn when that is served
abbrev pub AreLoopsDrawn : Problem → Context → Derived → Type 0
AreLoopsDrawn k x d = (form : Form) → Contains k.forms form → (f : Fact) → IsLoop x form f → Contains d.facts f ⊎ HasEntry d x

-- what is in each context is in this one
pub record IsEntered (k : Problem) (x : Context) (d : Derived) : Type 0 where
  pub top : Contains d.facts (In thing x)
  pub itself : IsInItself x d.facts
  pub loops : AreLoopsDrawn k x d

-- what is in each context is in the first so many roots
abbrev pub AreEntered : Problem → ℕ → Derived → Type 0
AreEntered k many d = (x : Context) → Contains (take many k.roots) x → IsEntered k x d

-- what these facts give is there
abbrev pub Drawn : Problem → List Fact → List Fact → Type 0
Drawn k older facts = (condition : ℕ) (form : Option ℕ) (f : Fact) → Gives k condition form older f → Contains facts f

-- the form, which is one of the problem's, gave the fact
pub record IsGivenBy (k : Problem) (d : Derived) (chain : Form) (f : Fact) : Type 0 where
  pub form : ℕ
  pub is : slice_get k.forms form ≡ Some chain
  pub place : ℕ
  pub there : slice_get d.facts place ≡ Some f
  pub birth : Reason
  pub born : slice_get d.births place ≡ Some birth
  pub by : birth.form ≡ Some form

-- a chain joins an edge by p and one by q behind it to one by t
pub record IsJoined (forms : List Form) (p q t : PropId2) : Type 0 where
  pub first : PropId2
  pub second : PropId2
  pub chain : Contains forms (N6 first second t)
  pub begins : IsAtOrBelow forms p first
  pub ends : IsAtOrBelow forms q second

-- chains join edges by p, a and b, one behind the other, to one by t: the first two to one by u, and that and the third
pub record AreJoined (forms : List Form) (p a b t : PropId2) : Type 0 where
  pub middle : PropId2
  pub front : IsJoined forms p a middle
  pub rest : IsJoined forms middle b t

-- what the chain gives from an edge and, behind it, what another chain gave from edges by a and b comes from those three edges in the other order too
abbrev pub IsSparedBy : List Form → PropId2 → PropId2 → Form → Type 0
IsSparedBy forms a b (N6 r s t) = ∥ AreJoined forms r a b t ∥₁
IsSparedBy forms a b _ = ⊥

-- the chain ends with a property at or above that one
abbrev pub EndsAbove : List Form → PropId2 → Form → Type 0
EndsAbove forms p (N6 r s t) = IsAtOrBelow forms p s
EndsAbove forms p _ = ⊥

-- the edge is redundant as the second premise of the chain, where another chain gave it from two edges: from the first premise and the older of the two
-- comes an edge that gives the same conclusion with the other
pub record IsRedundantFor (k : Problem) (d : Derived) (form : Form) (f : Fact) : Type 0 where
  pub first : PropId2
  pub second : PropId2
  pub whole : PropId2
  pub given : IsGivenBy k d (N6 first second whole) f
  pub spared : IsSparedBy k.forms first second form

-- the fact is a loop at a context that has an entry: it is drawn when that is served
pub record IsOwed (k : Problem) (d : Derived) (f : Fact) : Type 0 where
  pub context : Context
  pub form : Form
  pub there : Contains k.forms form
  pub is_loop : IsLoop context form f
  pub entry : HasEntry d context

-- what a form gives from two facts is redundant, where the second is redundant for it; what is given from none or one is, where it is owed
abbrev pub AreRedundant : Problem → Derived → List Fact → Option ℕ → Fact → Type 0
AreRedundant k d [] form f = IsOwed k d f
AreRedundant k d (g ∷ []) form f = IsOwed k d f
AreRedundant k d (f ∷ g ∷ []) (Some n) h = (form : Form) × (slice_get k.forms n ≡ Some form) × IsRedundantFor k d form g
AreRedundant k d _ _ _ = ⊥

-- the fact need not be a second premise: all that it gives as one is redundant
abbrev pub IsRedundantAsSecond : Problem → Derived → Fact → Type 0
IsRedundantAsSecond k d g = (f h : Fact) (condition : ℕ) (form : Option ℕ) → Gives k condition form (f ∷ g ∷ []) h → AreRedundant k d (f ∷ g ∷ []) form h

-- what these facts give is there, but for what is redundant
abbrev pub DrawnUpToRedundancy : Problem → List Fact → Derived → Type 0
DrawnUpToRedundancy k older d = (condition : ℕ) (form : Option ℕ) (f : Fact) → Gives k condition form older f → Contains d.facts f ⊎ AreRedundant k d older form f

-- what two facts give is there or redundant, whichever is first
pub record MeetEachOther (k : Problem) (f g : Fact) (d : Derived) : Type 0 where
  pub first : DrawnUpToRedundancy k (f ∷ g ∷ []) d
  pub second : DrawnUpToRedundancy k (g ∷ f ∷ []) d

-- it is so for each of the facts with these numbers
abbrev pub ForEach : (Fact → Type 0) → List Fact → List ℕ → Type 0
ForEach P facts numbers = (n : ℕ) → Contains numbers n → (f : Fact) → slice_get facts n ≡ Some f → P f

-- what the fact gives with each of those with these numbers is there or redundant
abbrev pub AreMet : Problem → Fact → List Fact → List ℕ → Derived → Type 0
AreMet k f old numbers new = ForEach (λ g. MeetEachOther k f g new) old numbers

-- what the fact gives as the first of two, with each of those with these numbers as the second, is there or redundant
abbrev pub AreMetBefore : Problem → Fact → List Fact → List ℕ → Derived → Type 0
AreMetBefore k f old numbers new = ForEach (λ g. DrawnUpToRedundancy k (f ∷ g ∷ []) new) old numbers

-- what the fact gives as the second of two, with each of those with these numbers as the first, is there or redundant
abbrev pub AreMetBehind : Problem → Fact → List Fact → List ℕ → Derived → Type 0
AreMetBehind k f old numbers new = ForEach (λ g. DrawnUpToRedundancy k (g ∷ f ∷ []) new) old numbers

-- the fact is one of those with these numbers
abbrev pub IsServed : List Fact → List ℕ → Fact → Type 0
IsServed facts numbers f = (n : ℕ) × Contains numbers n × (slice_get facts n ≡ Some f)

-- what served facts give is there, but for what is redundant, and so are the loops at contexts whose entry was served
pub record IsCompleteUpToRedundancy (k : Problem) (d : Derived) (served : List ℕ) : Type 0 where
  pub given : (older : List Fact) → AllByRecursion (IsServed d.facts served) older → DrawnUpToRedundancy k older d
  pub loops : (x : Context) (n : ℕ) → Contains served n → IsEntry d x n → AllDrawn (IsLoop x) k.forms d.facts

-- the facts are exactly the closure
abbrev pub IsClosure : Problem → List Fact → Type 0
IsClosure k facts = (f : Fact) → Contains facts f ↔ IsFact k f
