-- The thirteen conditions as steps between facts.
use Rattle.std.proofs.Common.{ℕ, List, [], ◌∷◌}
use Rattle.axioms.specs.Ontology.{Ontology, thing, nothing}
use Rattle.normal_forms.specs.Forms.{Class2, Whole, Property2, Property, N1, N2, N3, N4, N6, N7, N8, N9, N11, N12, IsForm}
use Rattle.closure.specs.Closure.{Context, Expression, Individual, Fact, In, Edge, IsAtOrBelow, AreSame, IsRoot, IsContextBy, Gives, IsFact, AreFacts, given, none, more, IsContext}

one : {o : Ontology} {asked : List ℕ} {f : Fact} → IsFact o asked f → AreFacts o asked (f ∷ [])
one p = more p none

two : {o : Ontology} {asked : List ℕ} {f g : Fact} → IsFact o asked f → IsFact o asked g → AreFacts o asked (f ∷ g ∷ [])
two p q = more p (more q none)

pub root : {o : Ontology} {asked : List ℕ} {x : Context} → IsRoot o asked x → IsContext o asked x
root r = ([], IsContextBy.root r, none)

pub target : {o : Ontology} {asked : List ℕ} {y : Context} (x : Context) (r : Property2) → IsFact o asked (Edge x r y) → IsContext o asked y
target {y = y} x r p = (Edge x r y ∷ [], IsContextBy.target x r, one p)

pub in_thing : {o : Ontology} {asked : List ℕ} {x : Context} → IsContext o asked x → IsFact o asked (In (Whole thing) x)
in_thing c = given c.0 (Gives.in_thing c.1) c.2

pub in_itself : {o : Ontology} {asked : List ℕ} {e : ℕ} → IsContext o asked (Expression e) → IsFact o asked (In (Whole e) (Expression e))
in_itself c = given c.0 (Gives.in_itself c.1) c.2

pub asserted : {o : Ontology} {asked : List ℕ} {i : ℕ} {a : Class2} → IsForm o asked (N8 i a) → IsFact o asked (In a (Individual i))
asserted form = given [] (Gives.asserted form) none

pub asserted_edge : {o : Ontology} {asked : List ℕ} {i r j : ℕ} → IsForm o asked (N9 i r j) → IsFact o asked (Edge (Individual i) (Property r) (Individual j))
asserted_edge form = given [] (Gives.asserted_edge form) none

pub subsumed : {o : Ontology} {asked : List ℕ} {x : Context} {b : Class2} (a : Class2) → IsForm o asked (N1 a b) → IsFact o asked (In a x) → IsFact o asked (In b x)
subsumed {x = x} a form p = given (In a x ∷ []) (Gives.subsumed a form) (one p)

pub both : {o : Ontology} {asked : List ℕ} {x : Context} {c : Class2} (a b : Class2) → IsForm o asked (N2 a b c) → IsFact o asked (In a x) → IsFact o asked (In b x) → IsFact o asked (In c x)
both {x = x} a b form p q = given (In a x ∷ In b x ∷ []) (Gives.both a b form) (two p q)

pub successor : {o : Ontology} {asked : List ℕ} {x : Context} {r b : ℕ} (a : Class2) → IsForm o asked (N3 a r b) → IsFact o asked (In a x) → IsFact o asked (Edge x (Property r) (Expression b))
successor {x = x} a form p = given (In a x ∷ []) (Gives.successor a form) (one p)

pub predecessor : {o : Ontology} {asked : List ℕ} {x : Context} {b : Class2} (r : ℕ) (a : Class2) (q : Property2) (y : Context) → IsForm o asked (N4 r a b) → IsFact o asked (Edge x q y) → IsAtOrBelow o asked q (Property r) → IsFact o asked (In a y) → IsFact o asked (In b x)
predecessor {x = x} r a q y form edge below p = given (Edge x q y ∷ In a y ∷ []) (Gives.predecessor r a q y form below) (two edge p)

pub unsatisfiable : {o : Ontology} {asked : List ℕ} {x : Context} (r : Property2) (y : Context) → IsFact o asked (Edge x r y) → IsFact o asked (In (Whole nothing) y) → IsFact o asked (In (Whole nothing) x)
unsatisfiable {x = x} r y edge p = given (Edge x r y ∷ In (Whole nothing) y ∷ []) (Gives.unsatisfiable r y) (two edge p)

pub chained : {o : Ontology} {asked : List ℕ} {x z : Context} {t : Property2} (r s p q : Property2) (y : Context) → IsForm o asked (N6 r s t) → IsFact o asked (Edge x p y) → IsFact o asked (Edge y q z) → IsAtOrBelow o asked p r → IsAtOrBelow o asked q s → IsFact o asked (Edge x t z)
chained {x = x} {z = z} r s p q y form first second below below' =
    given (Edge x p y ∷ Edge y q z ∷ []) (Gives.chained r s p q y form below below') (two first second)

pub loop : {o : Ontology} {asked : List ℕ} {x : Context} (r : ℕ) → IsForm o asked (N7 r) → IsContext o asked x → IsFact o asked (Edge x (Property r) x)
loop r form c = given c.0 (Gives.loop r form c.1) c.2

pub same_class : {o : Ontology} {asked : List ℕ} {b : ℕ} {c : Class2} (a : ℕ) → AreSame o asked a b → IsFact o asked (In c (Individual a)) → IsFact o asked (In c (Individual b))
same_class {c = c} a same p = given (In c (Individual a) ∷ []) (Gives.same_class a same) (one p)

pub same_source : {o : Ontology} {asked : List ℕ} {b : ℕ} {r : Property2} {y : Context} (a : ℕ) → AreSame o asked a b → IsFact o asked (Edge (Individual a) r y) → IsFact o asked (Edge (Individual b) r y)
same_source {r = r} {y = y} a same p = given (Edge (Individual a) r y ∷ []) (Gives.same_source a same) (one p)

pub same_target : {o : Ontology} {asked : List ℕ} {b : ℕ} {r : Property2} {x : Context} (a : ℕ) → AreSame o asked a b → IsFact o asked (Edge x r (Individual a)) → IsFact o asked (Edge x r (Individual b))
same_target {r = r} {x = x} a same p = given (Edge x r (Individual a) ∷ []) (Gives.same_target a same) (one p)

pub different : {o : Ontology} {asked : List ℕ} {a : ℕ} (b : ℕ) → IsForm o asked (N11 a b) → AreSame o asked a b → IsFact o asked (In (Whole nothing) (Individual a))
different b form same = given [] (Gives.different b form same) none

pub denied : {o : Ontology} {asked : List ℕ} {a : ℕ} (r b : ℕ) (q : Property2) → IsForm o asked (N12 a r b) → IsFact o asked (Edge (Individual a) q (Individual b)) → IsAtOrBelow o asked q (Property r) → IsFact o asked (In (Whole nothing) (Individual a))
denied {a = a} r b q form edge below = given (Edge (Individual a) q (Individual b) ∷ []) (Gives.denied r b q form below) (one edge)
