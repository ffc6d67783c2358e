-- What marks say of a whole ontology that has grown at its end.
use Rattle.std.proofs.Common.{◌≡◌, ◌++◌, ◌-◌, ◌+◌, ℕ, zero, suc, ◌<◌, ◌≤◌, inl, inr, Bool, true, false, List, [], ◌∷◌, length, slice_get, replicate, Some, Contains, refl, sym, ap, ◌∙◌, subst, arith, length-append}
use Rattle.std.proofs.lemmas.Bool.{cases_order}
use Rattle.std.proofs.lemmas.Option.{none-some, slice_get_within}
use Rattle.axioms.specs.Ontology.{Ontology, Axiom}
use Rattle.axioms.specs.WellFormedness.{IsOntology}
use Rattle.lemmas.proofs.Choices.{one_value}
use Rattle.lemmas.proofs.Members.{Contains-from_slice_get, slice_get-from_Contains}
use Rattle.lemmas.proofs.Places.{slice_get_there}
use Rattle.normal_forms.specs.Occurrences.{Occurs, Reached, itself, part, AtSome}
use Rattle.normalise.specs.declared.marks.Marked.{Marked}
use Rattle.normalise.specs.Growth.{AreNoted, AreThere, Grows}
use Rattle.normalise.specs.Marks.{IsMarked, MarksMore, Closes, EachFrom, MarksOccurring, Notes}
use Rattle.normalise.specs.View.{Keeps}
use Rattle.normalise.proofs.Adding.{keeps_long}
use Rattle.normalise.proofs.Marking.{more_both, notes_both, part_smaller}

pub more_occurs : (At : Axiom → ℕ → Type 0) (o p : Ontology) (before asked : List ℕ) → Keeps o.nodes p.nodes → Keeps o.axioms p.axioms → ((e : ℕ) → Contains before e → Contains asked e) → (e : ℕ) → Occurs At o before e → Occurs At p asked e
more_occurs At o p before asked nodes axioms more e (itself (inl (a, c, at))) = let q = slice_get-from_Contains o.axioms a c in itself (inl (a, Contains-from_slice_get p.axioms q.0 a (axioms q.0 a q.1), at))
more_occurs At o p before asked nodes axioms more e (itself (inr c)) = itself (inr (more e c))
more_occurs At o p before asked nodes axioms more e (part d node r g h) = part d node (more_occurs At o p before asked nodes axioms more d r) (nodes d node g) h

-- an element of the longer list, at a place of the shorter one
pub kept_back : {X : Type 0} (xs ys : List X) → Keeps xs ys → (n : ℕ) (x : X) → n < length xs → slice_get ys n ≡ Some x → slice_get xs n ≡ Some x
kept_back xs ys keeps n x l g = let q = slice_get_there xs n l in q.1 ∙ ap Some (one_value _ q.0 x (keeps n q.0 q.1) g)

pub none_marked : (n e : ℕ) → slice_get (replicate n false) e ≡ Some true → ⊥
none_marked zero e h = absurd (none-some true h)
none_marked (suc n) zero h = cc
none_marked (suc n) (suc e) h = none_marked n e h

-- what unset marks stand behind
marked_before : (old : List Bool) (n e : ℕ) → IsMarked (old ++ replicate n false) e → IsMarked old e
marked_before [] n e h = absurd (none_marked n e h)
marked_before (b ∷ old) n zero h = h
marked_before (b ∷ old) n (suc e) h = marked_before old n e h

marked_still : (old more : List Bool) (e : ℕ) → IsMarked old e → IsMarked (old ++ more) e
marked_still [] more e h = absurd (none-some true h)
marked_still (b ∷ old) more zero h = h
marked_still (b ∷ old) more (suc e) h = marked_still old more e h

pub replicate_long : (n : ℕ) → length (replicate n false) ≡ n
replicate_long zero = refl
replicate_long (suc n) = ap suc (replicate_long n)

-- what is reached from what occurs, occurs
reached_occurs : (At : Axiom → ℕ → Type 0) (p : Ontology) (asked : List ℕ) (P : ℕ → Type 0) → ((e : ℕ) → P e → Occurs At p asked e) → (e : ℕ) → Reached p.nodes P e → Occurs At p asked e
reached_occurs At p asked P to e (itself h) = to e h
reached_occurs At p asked P to e (part d node r g h) = part d node (reached_occurs At p asked P to d r) g h

module _ (At : Axiom → ℕ → Type 0) (p : Ontology) (ok : IsOntology p) (from : ℕ) (asked : List ℕ) (old : List Bool) (start a b c : Marked) (begins : start.marks ≡ old ++ replicate (length p.nodes - length old) false)
    (first : MarksMore start a (EachFrom p.axioms At from (length p.axioms))) (second : MarksMore a b (Contains asked)) (closed : Closes p.nodes b c) where
  notes : Notes start c
  notes = notes_both closed.kept (more_both (EachFrom p.axioms At from (length p.axioms)) (Contains asked) first second).notes closed.notes

  long : length c.marks ≡ length old + (length p.nodes - length old)
  long = omega (arith, closed.same_length, second.marks.same_length, first.marks.same_length, ap length begins, length-append old (replicate (length p.nodes - length old) false), replicate_long (length p.nodes - length old))

  pub noted_again : AreNoted old c
  unfolding notes
  noted_again e h = elim (notes.all e h) [
    | inl k ↦ inl (marked_before old (length p.nodes - length old) e (subst (λ xs. IsMarked xs e) begins k))
    | inr k ↦ inr k
  ]

  pub long_again : length c.marks ≡ length old + (length p.nodes - length old)
  unfolding long
  long_again = long

  still : (e : ℕ) → IsMarked old e → IsMarked c.marks e
  still e h = closed.kept e (second.marks.kept e (first.marks.kept e (subst (λ xs. IsMarked xs e) (sym begins) (marked_still old (replicate (length p.nodes - length old) false) e h))))

  module _ (o : Ontology) (before : List ℕ) (marks : MarksOccurring At o before old) (there : AreThere At o) (w : Grows o p from) (more : (e : ℕ) → Contains before e → Contains asked e) where
    occurs_before : (e : ℕ) → IsMarked old e → Occurs At o before e
    occurs_before e h = (marks.1 e (omega (arith, marks.0, slice_get_within old e true h))).0 h

    occurs : (e : ℕ) → IsMarked b.marks e → Occurs At p asked e
    unfolding occurs_before
    occurs e h = elim (second.marks.only e h) [
      | inl k ↦ elim (first.marks.only e k) [
        | inl j ↦ more_occurs At o p before asked w.nodes w.axioms more e (occurs_before e (marked_before old (length p.nodes - length old) e (subst (λ xs. IsMarked xs e) begins j)))
        | inr j ↦ (let q = j.3 in itself (inl (q.0, Contains-from_slice_get p.axioms j.0 q.0 q.1, q.2)))
      ]
      | inr k ↦ itself (inr k)
    ]

    -- the numbers that are there have marks
    within : (e : ℕ) → e < length p.nodes → e < length c.marks
    unfolding long
    within e l = omega (arith, long)

    marked : (e : ℕ) → e < length p.nodes → Occurs At p asked e → IsMarked c.marks e
    unfolding still occurs_before notes within long
    marked e l (itself (inl (x, c', at))) =
        let q = slice_get-from_Contains p.axioms x c' in
        elim (cases_order q.0 from) [
          | inl i ↦ new_axiom e l q.0 x (omega arith) q.1 at
          | inr (inl low) ↦ (let in_o = kept_back o.axioms p.axioms w.axioms q.0 x (omega (arith, low, w.new_from)) q.1 in
              let at_some : AtSome At o.axioms e = (x, Contains-from_slice_get o.axioms q.0 x in_o, at) in
              still e ((marks.1 e (there e at_some)).1 (itself (inl at_some))))
          | inr (inr high) ↦ new_axiom e l q.0 x (omega arith) q.1 at
        ]
      where
        new_axiom : (e : ℕ) → e < length p.nodes → (n : ℕ) (x : Axiom) → from ≤ n → slice_get p.axioms n ≡ Some x → At x e → IsMarked c.marks e
        new_axiom e l n x high g at = closed.kept e (second.marks.kept e (first.marks.all e (omega (arith, within e l, closed.same_length, second.marks.same_length, first.marks.same_length)) (n, high, slice_get_within p.axioms n x g, (x, g, at))))
    marked e l (itself (inr k)) = closed.kept e (second.marks.all e (omega (arith, within e l, closed.same_length, second.marks.same_length)) k)
    marked e l (part d node r g h) =
        let d_there : d < length p.nodes = slice_get_within p.nodes d node g in
        let low : e < d = part_smaller p ok d node e g h in
        elim (notes.all d (marked d d_there r)) [
          | inl k ↦ (let was : IsMarked old d = marked_before old (length p.nodes - length old) d (subst (λ xs. IsMarked xs d) begins k) in
              let d_old : d < length o.nodes = omega (arith, marks.0, slice_get_within old d true was) in
              still e ((marks.1 e (omega (arith, low, d_old))).1 (part d node (occurs_before d was) (kept_back o.nodes p.nodes w.nodes d node d_old g) h)))
          | inr k ↦ closed.closed d node e k g h (within e l)
        ]

    pub marked_again : MarksOccurring At p asked c.marks
    unfolding occurs marked long
    marked_again = (
      omega (arith, long, keeps_long o.nodes p.nodes w.nodes, marks.0),
      λ e l. (
        (λ h. reached_occurs At p asked (IsMarked b.marks) occurs e (closed.only e h)),
        (λ h. marked e l h),
      ),
    )
