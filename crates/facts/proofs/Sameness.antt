-- Individuals that forms make one: what is one with a third is one, in either order, and a fact of the closure is handed on to them.
use Rattle.std.proofs.Common.{List, [], ◌∷◌, Contains, Some, inl, inr}
use Rattle.lemmas.proofs.Members.{slice_get-from_Contains}
use Rattle.axioms.specs.declared.ids.IndId.{IndId}
use Rattle.normal_forms.specs.declared.forms.Class2.{Class2}
use Rattle.normal_forms.specs.declared.forms.PropId2.{PropId2}
use Rattle.normal_forms.specs.declared.forms.Form.{Form}
use Rattle.normal_forms.specs.declared.forms.Form.TheVariants.{N10}
use Rattle.facts.specs.declared.contexts.Context.{Context}
use Rattle.facts.specs.declared.contexts.Context.TheVariants.{Individual}
use Rattle.facts.specs.declared.contexts.Fact.{Fact}
use Rattle.facts.specs.declared.contexts.Fact.TheVariants.{In, Edge}
use Rattle.facts.specs.Closure.{Problem, Links, HandsOn, AreSame, itself, step, IsFact, given, none, more, handed_on}

pub turned_link : (form : Form) (i j : IndId) → Links form i j → Links form j i
turned_link (N10 a b) i j (inl (e, f)) = inr (f, e)
turned_link (N10 a b) i j (inr (e, f)) = inl (f, e)
turned_link _ i j h = absurd h

pub one_link : {forms : List Form} (form : Form) (i j : IndId) → Contains forms form → Links form i j → AreSame forms i j
one_link form i j there link = step i form itself there link

pub and_then : {forms : List Form} {i j h : IndId} → AreSame forms i j → AreSame forms j h → AreSame forms i h
and_then p itself = p
and_then p (step h form q there link) = step h form (and_then p q) there link

pub turned : {forms : List Form} {i j : IndId} → AreSame forms i j → AreSame forms j i
turned itself = itself
turned (step {j = j} h form p there link) = and_then (one_link form j h there (turned_link form h j link)) (turned p)

-- by these forms, and so by more
pub of_more : {forms others : List Form} → ((form : Form) → Contains forms form → Contains others form) → {i j : IndId} → AreSame forms i j → AreSame others i j
of_more all itself = itself
of_more all (step h form p there link) = step h form (of_more all p) (all form there) link

-- what goes along each link goes to all that are one
pub along : {forms : List Form} (P : IndId → Type 0) → ((form : Form) (i j : IndId) → Contains forms form → Links form i j → P i → P j) →
    {i j : IndId} → AreSame forms i j → P i → P j
along P each itself p = p
along P each (step {j = j} h form same there link) p = each form h j there link (along P each same p)

-- ---- facts of the closure

handed : (k : Problem) (form : Form) (f g : Fact) → Contains k.forms form → HandsOn form f g → IsFact k f → IsFact k g
handed k form f g there hands fact =
    let (n, at) = slice_get-from_Contains k.forms form there in
    given 11 (Some n) (f ∷ []) (handed_on n form at hands) (more fact none)

pub class_handed_on : (k : Problem) {i j : IndId} (c : Class2) → AreSame k.forms i j → IsFact k (In c (Individual i)) → IsFact k (In c (Individual j))
class_handed_on k c = along (λ i. IsFact k (In c (Individual i))) (λ form i j there link. handed k form (In c (Individual i)) (In c (Individual j)) there (HandsOn.class link))

pub source_handed_on : (k : Problem) {i j : IndId} (r : PropId2) (y : Context) → AreSame k.forms i j → IsFact k (Edge (Individual i) r y) → IsFact k (Edge (Individual j) r y)
source_handed_on k r y =
    along (λ i. IsFact k (Edge (Individual i) r y)) (λ form i j there link. handed k form (Edge (Individual i) r y) (Edge (Individual j) r y) there (HandsOn.source link))

pub target_handed_on : (k : Problem) {i j : IndId} (x : Context) (r : PropId2) → AreSame k.forms i j → IsFact k (Edge x r (Individual i)) → IsFact k (Edge x r (Individual j))
target_handed_on k x r =
    along (λ i. IsFact k (Edge x r (Individual i))) (λ form i j there link. handed k form (Edge x r (Individual i)) (Edge x r (Individual j)) there (HandsOn.target link))
