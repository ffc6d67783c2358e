-- Marks and what is noted of them: none, one, those of two steps, those of a list; and all that marks reach.
use Rattle.std.proofs.Common.{◌≡◌, ℕ, zero, suc, ◌+◌, ◌<◌, ◌≤◌, ◌⊎◌, ◌↔◌, inl, inr, Bool, true, false, List, [], ◌∷◌, ◌++◌, length, set, slice_get, Some, Contains, refl, sym, ap, ◌∙◌, subst, arith, length-set, length-append}
use Rattle.std.proofs.lemmas.Bool.{cases_eq, true≢false}
use Rattle.std.proofs.lemmas.Option.{none-some, same_Some, slice_get_within}
use Rattle.std.proofs.lemmas.List.Elements.{All-contains, Contains-push_cases}
use Rattle.axioms.specs.Ontology.{Ontology, Node, Class, And, Exists, IsPart}
use Rattle.axioms.specs.WellFormedness.{IsOntology}
use Rattle.lemmas.proofs.Choices.{one_value}
use Rattle.lemmas.proofs.Members.{Contains-from_slice_get, slice_get-from_Contains}
use Rattle.lemmas.proofs.Places.{keeps_push, slice_get_push, slice_get_there}
use Rattle.normal_forms.specs.Occurrences.{Reached, itself, part}
use Rattle.number_sets.specs.Members.{has}
use Rattle.normalise.specs.declared.marks.Marked.{Marked}
use Rattle.normalise.specs.Marks.{AreNotedMarked, IsMarked, IsPartOf, Marks, MarksMore, Notes, Closes, EachFrom, EachOf, unmarked}
use Rattle.normalise.specs.View.{Keeps}

set_same : {X : Type 0} (xs : List X) (n : ℕ) (x : X) → n < length xs → slice_get (set xs n x) n ≡ Some x
set_same [] n x l = absurd (omega arith)
set_same (y ∷ xs) zero x l = refl
set_same (y ∷ xs) (suc n) x l = set_same xs n x (omega arith)

set_other : {X : Type 0} (xs : List X) (n : ℕ) (x : X) (m : ℕ) → (m ≡ n → ⊥) → slice_get (set xs n x) m ≡ slice_get xs m
set_other [] n x m ne = refl
set_other (y ∷ xs) zero x zero ne = absurd (ne refl)
set_other (y ∷ xs) zero x (suc m) ne = refl
set_other (y ∷ xs) (suc n) x zero ne = refl
set_other (y ∷ xs) (suc n) x (suc m) ne = set_other xs n x m (λ e. ne (ap suc e))

pub marks_set : (m : List Bool) (n : ℕ) → n < length m → Marks m (set m n true) (λ e. e ≡ n)
marks_set m n l = record {
  same_length = length-set m n true;
  kept = λ e h. elim (cases_eq e n) [ inl i ↦ here e i | inr ne ↦ set_other m n true e ne ∙ h ];
  only = λ e h. elim (cases_eq e n) [ inl i ↦ inr i | inr ne ↦ inl (sym (set_other m n true e ne) ∙ h) ];
  all = λ e _ i. here e i;
}
  where
    here : (e : ℕ) → e ≡ n → slice_get (set m n true) e ≡ Some true
    here e i = ap (slice_get (set m n true)) i ∙ set_same m n true l

pub marks_same : {a b : List Bool} (P Q : ℕ → Type 0) → ((e : ℕ) → P e → Q e) → ((e : ℕ) → Q e → P e) → Marks a b P → Marks a b Q
marks_same P Q to from m = record {
  same_length = m.same_length;
  kept = m.kept;
  only = λ e h. elim (m.only e h) [ inl k ↦ inl k | inr p ↦ inr (to e p) ];
  all = λ e l q. m.all e l (from e q);
}

pub marks_both : {a b c : List Bool} (P Q : ℕ → Type 0) → Marks a b P → Marks b c Q → Marks a c (λ e. P e ⊎ Q e)
marks_both P Q m n = record {
  same_length = n.same_length ∙ m.same_length;
  kept = λ e h. n.kept e (m.kept e h);
  only = λ e h. elim (n.only e h) [
    | inl k ↦ elim (m.only e k) [ inl j ↦ inl j | inr p ↦ inr (inl p) ]
    | inr q ↦ inr (inr q)
  ];
  all = λ e l h. elim h [
    | inl p ↦ n.kept e (m.all e l p)
    | inr q ↦ n.all e (omega (arith, m.same_length)) q
  ];
}

-- what a set has is marked, and what it lacks below its bound is unset
pub has_mark : (marks : List Bool) (n : ℕ) → (has marks n ≡ true) ↔ IsMarked marks n
has_mark [] n = (λ h. absurd (true≢false (sym h)), λ h. absurd (none-some true h))
has_mark (b ∷ marks) zero = (λ h. ap Some h, λ h. same_Some b true h)
has_mark (b ∷ marks) (suc n) = has_mark marks n

pub lacks_mark : (marks : List Bool) (n : ℕ) → n < length marks → has marks n ≡ false → slice_get marks n ≡ Some false
lacks_mark [] n l h = absurd (omega arith)
lacks_mark (b ∷ marks) zero l h = ap Some h
lacks_mark (b ∷ marks) (suc n) l h = lacks_mark marks n (omega arith) h

-- ---- with what is noted

pub contains_kept : {X : Type 0} (xs ys : List X) → Keeps xs ys → (x : X) → Contains xs x → Contains ys x
contains_kept xs ys keeps x c = let p = slice_get-from_Contains xs x c in Contains-from_slice_get ys p.0 x (keeps p.0 x p.1)

pub notes_both : {a b c : Marked} → ((e : ℕ) → IsMarked b.marks e → IsMarked c.marks e) → Notes a b → Notes b c → Notes a c
notes_both {a} {b} {c} kept m n = record {
  keeps = λ k x g. n.keeps k x (m.keeps k x g);
  each = λ e h. elim (n.each e h) [
    | inl i ↦ elim (m.each e i) [ inl j ↦ inl j | inr j ↦ inr (kept e j) ]
    | inr i ↦ inr i
  ];
  all = λ e h. elim (n.all e h) [
    | inl i ↦ elim (m.all e i) [ inl j ↦ inl j | inr j ↦ inr (contains_kept b.noted.items c.noted.items n.keeps e j) ]
    | inr i ↦ inr i
  ];
  count = n.count ∙ m.count;
}

-- nothing changes, where what P says is marked
pub more_there : (m : Marked) (P : ℕ → Type 0) → ((e : ℕ) → e < length m.marks → P e → IsMarked m.marks e) → MarksMore m m P
more_there m P there = record {
  marks = record { same_length = refl; kept = λ e h. h; only = λ e h. inl h; all = there };
  notes = record { keeps = λ n x g. g; each = λ e h. inl h; all = λ e h. inl h; count = refl };
}

pub more_none : (m : Marked) (P : ℕ → Type 0) → ((e : ℕ) → e < length m.marks → P e → ⊥) → MarksMore m m P
more_none m P none = more_there m P (λ e l p. absurd (none e l p))

-- nothing changes, where it has no mark that could be set
pub more_kept : (m : Marked) (n : ℕ) → (slice_get m.marks n ≡ Some false → ⊥) → MarksMore m m (λ e. e ≡ n)
more_kept m n out = more_there m (λ e. e ≡ n) (λ e l i. go e i (slice_get_there m.marks e l))
  where
    go : (e : ℕ) → e ≡ n → ((b : Bool) × (slice_get m.marks e ≡ Some b)) → IsMarked m.marks e
    go e i (true, g) = g
    go e i (false, g) = absurd (out (subst (λ k. slice_get m.marks k ≡ Some false) i g))

unmarked_set : (xs : List Bool) (n : ℕ) → slice_get xs n ≡ Some false → unmarked (set xs n true) + 1 ≡ unmarked xs
unmarked_set [] n h = absurd (none-some false h)
unmarked_set (true ∷ xs) zero h = absurd cc
unmarked_set (false ∷ xs) zero h = omega arith
unmarked_set (true ∷ xs) (suc n) h = unmarked_set xs n h
unmarked_set (false ∷ xs) (suc n) h = omega (arith, unmarked_set xs n h)

-- one is marked, and noted
pub more_set : (old new : Marked) (n : ℕ) → slice_get old.marks n ≡ Some false → new.marks ≡ set old.marks n true → new.noted.items ≡ old.noted.items ++ n ∷ [] → MarksMore old new (λ e. e ≡ n)
more_set old new n unset em en = record {
  marks = marks;
  notes = record {
    keeps = λ k x g. ap (λ xs. slice_get xs k) en ∙ keeps_push old.noted.items n k x g;
    each = λ e h. elim (Contains-push_cases old.noted.items n e (subst (λ xs. Contains xs e) en h)) [ inl i ↦ inl i | inr i ↦ inr (subst (IsMarked new.marks) i here) ];
    all = λ e h. elim (marks.only e h) [ inl k ↦ inl k | inr q ↦ inr (subst (Contains new.noted.items) (sym q) noted) ];
    count = omega (arith, ap unmarked em, ap length en, length-append old.noted.items (n ∷ []), unmarked_set old.marks n unset);
  };
}
  where
    within : n < length old.marks
    within = slice_get_within old.marks n false unset

    marks : Marks old.marks new.marks (λ e. e ≡ n)
    marks = let P : List Bool → Type 0 = λ xs. Marks old.marks xs (λ e. e ≡ n) in subst P (sym em) (marks_set old.marks n within)

    here : IsMarked new.marks n
    here = marks.all n within refl

    noted : Contains new.noted.items n
    noted = subst (λ xs. Contains xs n) (sym en) (Contains-from_slice_get (old.noted.items ++ n ∷ []) (length old.noted.items) n (slice_get_push old.noted.items n))

pub more_same : {a b : Marked} (P Q : ℕ → Type 0) → ((e : ℕ) → P e → Q e) → ((e : ℕ) → Q e → P e) → MarksMore a b P → MarksMore a b Q
more_same P Q to from m = record { marks = marks_same P Q to from m.marks; notes = m.notes }

pub more_both : {a b c : Marked} (P Q : ℕ → Type 0) → MarksMore a b P → MarksMore b c Q → MarksMore a c (λ e. P e ⊎ Q e)
more_both P Q m n = record { marks = marks_both P Q m.marks n.marks; notes = notes_both n.marks.kept m.notes n.notes }

-- ---- the marks of a list, one after the other

pub each_more : {X : Type 0} (xs : List X) (F : X → ℕ → Type 0) (k : ℕ) (x : X) {a b c : Marked} → slice_get xs k ≡ Some x → MarksMore a b (EachOf xs F k) → MarksMore b c (F x) → MarksMore a c (EachOf xs F (k + 1))
each_more xs F k x g m n = more_same (λ e. EachOf xs F k e ⊎ F x e) (EachOf xs F (k + 1)) to from (more_both (EachOf xs F k) (F x) m n)
  where
    to : (e : ℕ) → EachOf xs F k e ⊎ F x e → EachOf xs F (k + 1) e
    to e (inl (i, l, y)) = (i, omega arith, y)
    to e (inr f) = (k, omega arith, (x, g, f))

    from : (e : ℕ) → EachOf xs F (k + 1) e → EachOf xs F k e ⊎ F x e
    from e (i, l, (y, gy, f)) = elim (cases_eq i k) [
      | inl s ↦ inr (let P : _ → Type 0 = λ z. F z e in subst P (same_Some y x (sym gy ∙ ap (slice_get xs) s ∙ g)) f)
      | inr ne ↦ inl (i, omega arith, (y, gy, f))
    ]

-- at the end it is the members, where each marks itself
pub each_member : (xs : List ℕ) (k : ℕ) {a b : Marked} → length xs ≤ k → MarksMore a b (EachOf xs (λ x e. e ≡ x) k) → MarksMore a b (Contains xs)
each_member xs k l m = more_same (EachOf xs (λ x e. e ≡ x) k) (Contains xs) to from m
  where
    to : (e : ℕ) → EachOf xs (λ x e. e ≡ x) k e → Contains xs e
    to e (i, l', (y, gy, f)) = subst (Contains xs) (sym f) (Contains-from_slice_get xs i y gy)

    from : (e : ℕ) → Contains xs e → EachOf xs (λ x e. e ≡ x) k e
    from e c = let p = slice_get-from_Contains xs e c in let w : p.0 < length xs = slice_get_within xs p.0 e p.1 in (p.0, omega arith, (e, p.1, refl))

pub from_none : {X : Type 0} (xs : List X) (F : X → ℕ → Type 0) (from : ℕ) (m : Marked) → MarksMore m m (EachFrom xs F from from)
from_none xs F from m = more_none m (EachFrom xs F from from) (λ e l h. absurd (omega (arith, h.1, h.2)))

pub from_more : {X : Type 0} (xs : List X) (F : X → ℕ → Type 0) (start k : ℕ) (x : X) {a b c : Marked} → start ≤ k → slice_get xs k ≡ Some x → MarksMore a b (EachFrom xs F start k) → MarksMore b c (F x) → MarksMore a c (EachFrom xs F start (k + 1))
from_more xs F start k x low g m n = more_same (λ e. EachFrom xs F start k e ⊎ F x e) (EachFrom xs F start (k + 1)) to back (more_both (EachFrom xs F start k) (F x) m n)
  where
    to : (e : ℕ) → EachFrom xs F start k e ⊎ F x e → EachFrom xs F start (k + 1) e
    to e (inl (i, s, l, y)) = (i, s, omega arith, y)
    to e (inr f) = (k, low, omega arith, (x, g, f))

    back : (e : ℕ) → EachFrom xs F start (k + 1) e → EachFrom xs F start k e ⊎ F x e
    back e (i, s, l, (y, gy, f)) = elim (cases_eq i k) [
      | inl j ↦ inr (let P : _ → Type 0 = λ z. F z e in subst P (same_Some y x (sym gy ∙ ap (slice_get xs) j ∙ g)) f)
      | inr ne ↦ inl (i, s, omega arith, (y, gy, f))
    ]

-- ---- all that marks reach

-- a part has a smaller number
pub part_smaller : (o : Ontology) → IsOntology o → (d : ℕ) (node : Node) (e : ℕ) → slice_get o.nodes d ≡ Some node → IsPart node e → e < d
part_smaller o ok d (Class c) e g p = absurd p
part_smaller o ok d (And ds) e g p = All-contains (λ x. x < d) ds e (ok.nodes d (And ds) g).within p
part_smaller o ok d (Exists r c) e g p = let l : c < d = (ok.nodes d (Exists r c) g).1 in omega (arith, p)

-- the parts are marked of what is noted before the place
pub record IsClosing (nodes : List Node) (old now : Marked) (next : ℕ) : Type 0 where
  pub same_length : length now.marks ≡ length old.marks
  pub kept : (e : ℕ) → IsMarked old.marks e → IsMarked now.marks e
  pub only : (e : ℕ) → IsMarked now.marks e → Reached nodes (IsMarked old.marks) e
  pub notes : Notes old now
  pub noted : AreNotedMarked now
  pub closed : (i d : ℕ) (node : Node) (e : ℕ) → i < next → slice_get now.noted.items i ≡ Some d → slice_get nodes d ≡ Some node → IsPart node e → e < length now.marks → IsMarked now.marks e

pub closing_begins : (nodes : List Node) (m : Marked) → AreNotedMarked m → IsClosing nodes m m 0
closing_begins nodes m noted = record {
  same_length = refl;
  kept = λ e h. h;
  only = λ e h. itself h;
  notes = record { keeps = λ n x g. g; each = λ e h. inl h; all = λ e h. inl h; count = refl };
  noted = noted;
  closed = λ i d node e l at g p w. absurd (omega arith);
}

pub closing_more : (nodes : List Node) (old now new : Marked) (next d : ℕ) → slice_get now.noted.items next ≡ Some d → IsClosing nodes old now next → MarksMore now new (IsPartOf nodes d) → IsClosing nodes old new (next + 1)
closing_more nodes old now new next d here h step = record {
  same_length = step.marks.same_length ∙ h.same_length;
  kept = λ e m. step.marks.kept e (h.kept e m);
  only = λ e m. elim (step.marks.only e m) [
    | inl k ↦ h.only e k
    | inr p ↦ part d p.0 (h.only d (h.noted d (Contains-from_slice_get now.noted.items next d here))) p.1 p.2
  ];
  notes = notes_both step.marks.kept h.notes step.notes;
  noted = λ e c. elim (step.notes.each e c) [ inl i ↦ step.marks.kept e (h.noted e i) | inr i ↦ i ];
  closed = λ i k node e l at g p w. closed i k node e l at g p (omega (arith, w, step.marks.same_length));
}
  where
    closed : (i k : ℕ) (node : Node) (e : ℕ) → i < next + 1 → slice_get new.noted.items i ≡ Some k → slice_get nodes k ≡ Some node → IsPart node e → e < length now.marks → IsMarked new.marks e
    closed i k node e l at g p w = elim (cases_eq i next) [
      | inl s ↦ (let same : d ≡ k = one_value _ d k (step.notes.keeps next d here) (subst (λ n. slice_get new.noted.items n ≡ Some k) s at) in
          step.marks.all e w (node, subst (λ n. slice_get nodes n ≡ Some node) (sym same) g, p))
      | inr ne ↦ (let q = slice_get_there now.noted.items i (omega (arith, l, slice_get_within now.noted.items next d here)) in
          let same : q.0 ≡ k = one_value _ q.0 k (step.notes.keeps i q.0 q.1) at in
          step.marks.kept e (h.closed i k node e (omega arith) (q.1 ∙ ap Some same) g p w))
    ]

pub closed_all : (nodes : List Node) (old now : Marked) (next : ℕ) → length now.noted.items ≤ next → IsClosing nodes old now next → Closes nodes old now
closed_all nodes old now next end h = record {
  same_length = h.same_length;
  kept = h.kept;
  only = h.only;
  notes = h.notes;
  closed = λ d node e c g p w. (let q = slice_get-from_Contains now.noted.items d c in h.closed q.0 d node e (omega (arith, end, slice_get_within now.noted.items q.0 d q.1)) q.1 g p w);
}
