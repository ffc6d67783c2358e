-- What is derivable has a derivation, and a derivation has no others.
use Rattle.std.proofs.Common.{◌≡◌, ℕ, zero, suc, ◌<◌, ◌≤◌, ◌↔◌, inl, inr, List, [], ◌∷◌, ◌++◌, map, length, slice_get, take, Option, Some, None, refl, ap, ◌∙◌, subst, arith}
use Rattle.std.proofs.lemmas.Option.{slice_get_within, same_Some, none-some}
use Rattle.std.proofs.lemmas.List.{take_all, take-append-le}
use Rattle.axioms.specs.Ontology.{Ontology}
use Rattle.lemmas.proofs.Places.{slice_get_push, slice_get_push_cases, Keeps, keeps_push, slice_get_take}
use Rattle.certificate.specs.Certificate.{Conclusion}
use Rattle.certificate.specs.Certificate.{Line}
use Rattle.cert_check.specs.Derivation.{IsDerived, IsDerivation, HasLine, at_numbers, prepended_list}
use Rattle.exactness.specs.Trimming.{EndsWith}
use Rattle.axioms.specs.View.{at_number}
use Rattle.exactness.specs.Derivability.{IsDerivable, AreDerivable, derived, none, more}

-- ---- premises by their numbers

abbrev pub conclusions : List Line → List Conclusion
conclusions lines = map (λ l. l.conclusion) lines

pub conclusion_at : (lines : List Line) (n : ℕ) (line : Line) → slice_get lines n ≡ Some line → slice_get (conclusions lines) n ≡ Some line.conclusion
conclusion_at [] n line e = absurd (none-some line e)
conclusion_at (l ∷ lines) zero line e = ap (λ (m : Line). Some m.conclusion) (same_Some l line e)
conclusion_at (l ∷ lines) (suc n) line e = conclusion_at lines n line e

pub at_conclusion : (lines : List Line) (n : ℕ) (c : Conclusion) → slice_get (conclusions lines) n ≡ Some c → (line : Line) × (slice_get lines n ≡ Some line) × (line.conclusion ≡ c)
at_conclusion [] n c e = absurd (none-some c e)
at_conclusion (l ∷ lines) zero c e = (l, refl, same_Some l.conclusion c e)
at_conclusion (l ∷ lines) (suc n) c e = at_conclusion lines n c e

pub prepended_list_parts : {A : Type 0} (x : Option A) (xs : Option (List A)) (ys : List A) → prepended_list x xs ≡ Some ys → (z : A) × (zs : List A) × (x ≡ Some z) × (xs ≡ Some zs) × (z ∷ zs ≡ ys)
prepended_list_parts (Some x) (Some xs) ys e = (x, xs, refl, refl, same_Some (x ∷ xs) ys e)
prepended_list_parts (Some x) None ys e = absurd (none-some ys e)
prepended_list_parts None xs ys e = absurd (none-some ys e)

at_numbers_more : {A : Type 0} (xs : List A) (n : ℕ) (ns : List ℕ) (y : A) (ys : List A) → at_number xs n ≡ Some y → at_numbers xs ns ≡ Some ys → at_numbers xs (n ∷ ns) ≡ Some (y ∷ ys)
at_numbers_more xs n ns y ys e h = rw (e, h)

-- what stands at numbers all has a property that all elements have
pub at_numbers_derivable : {o : Ontology} (cs : List Conclusion) → ((n : ℕ) (c : Conclusion) → slice_get cs n ≡ Some c → IsDerivable o c) → (ns : List ℕ) (ds : List Conclusion) → at_numbers cs ns ≡ Some ds → AreDerivable o ds
at_numbers_derivable cs each [] ds e = rw (← same_Some [] ds e) none
at_numbers_derivable cs each (zero ∷ ns) ds e = absurd (none-some ds e)
at_numbers_derivable cs each (suc n ∷ ns) ds e =
    let h = prepended_list_parts (slice_get cs n) (at_numbers cs ns) ds e in
    rw (← h.4) (more (each n h.0 h.2) (at_numbers_derivable cs each ns h.1 h.3))

-- ---- derivations

pub derivation_nil : {o : Ontology} → IsDerivation o []
derivation_nil n line e = absurd (none-some line e)

-- a line that follows from the lines of a derivation may be put behind them
pub derivation_push : {o : Ontology} (lines : List Line) (line : Line) → IsDerivation o lines → IsDerived o lines line → IsDerivation o (lines ++ line ∷ [])
derivation_push {o} lines line d new n l e =
    elim (slice_get_push_cases lines line n l e) [
      | inl h ↦ (let k : n ≤ length lines = omega (arith, slice_get_within lines n l h) in rw (take-append-le n lines (line ∷ []) k) (d n l h))
      | inr h ↦ (let k : n ≤ length lines = omega arith in rw (take-append-le n lines (line ∷ []) k, take_all n lines (omega arith), ← h.1) new)
    ]

-- a derivation that keeps the lines of another, and ends in the conclusion
pub record Longer (o : Ontology) (before : List Line) (conclusion : Conclusion) : Type 0 where
  pub lines : List Line
  pub last : Line
  pub derivation : IsDerivation o (lines ++ last ∷ [])
  pub keeps : Keeps before (lines ++ last ∷ [])
  pub says : last.conclusion ≡ conclusion

-- a derivation that keeps the lines of another, and has each of the conclusions, at numbers
pub record LongerEach (o : Ontology) (before : List Line) (conclusions : List Conclusion) : Type 0 where
  pub lines : List Line
  pub numbers : List ℕ
  pub derivation : IsDerivation o lines
  pub keeps : Keeps before lines
  pub at : at_numbers (map (λ l. l.conclusion) lines) numbers ≡ Some conclusions

mutual
  pub longer : {o : Ontology} {c : Conclusion} → IsDerivable o c → (before : List Line) → IsDerivation o before → Longer o before c
  longer {c = c} (derived rule premises axiom' within said follows ps) before d =
      let e = longer_each ps before d in
      let last : Line = record { conclusion = c; rule = rule; axiom' = axiom'; premises = e.numbers } in
      record {
        lines = e.lines;
        last = last;
        derivation = derivation_push e.lines last e.derivation (record { within = record { conclusion = within; axiom' = said }; premises = premises; premises_at = e.at; follows = follows });
        keeps = λ n l h. keeps_push e.lines last n l (e.keeps n l h);
        says = refl;
      }

  pub longer_each : {o : Ontology} {cs : List Conclusion} → AreDerivable o cs → (before : List Line) → IsDerivation o before → LongerEach o before cs
  longer_each none before d = record { lines = before; numbers = []; derivation = d; keeps = λ n l h. h; at = refl }
  longer_each (more {c = c} {cs = cs} p ps) before d =
      let e = longer p before d in
      let f = longer_each ps (e.lines ++ e.last ∷ []) e.derivation in
      let h : slice_get (conclusions f.lines) (length e.lines) ≡ Some c = conclusion_at f.lines (length e.lines) e.last (f.keeps (length e.lines) e.last (slice_get_push e.lines e.last)) ∙ ap Some e.says in
      record {
        lines = f.lines;
        numbers = suc (length e.lines) ∷ f.numbers;
        derivation = f.derivation;
        keeps = λ n l k. f.keeps n l (e.keeps n l k);
        at = at_numbers_more (conclusions f.lines) (suc (length e.lines)) f.numbers c cs h f.at;
      }

-- what is derivable has a derivation that ends in it
pub derivation_from_derivable : {o : Ontology} {c : Conclusion} → IsDerivable o c → (lines : List Line) × IsDerivation o lines × EndsWith lines c
derivation_from_derivable p =
    let e = longer p [] derivation_nil in
    (e.lines ++ e.last ∷ [], e.derivation, record { front = e.lines; last = e.last; lines_are = refl; says = e.says })

pub HasLine-from_ends : {lines : List Line} {c : Conclusion} → EndsWith lines c → HasLine lines c
HasLine-from_ends {c = c} e = (length e.front, e.last, rw (e.lines_are) (slice_get_push e.front e.last), e.says)

pub HasLine-from_derivable : {o : Ontology} {c : Conclusion} → IsDerivable o c → (lines : List Line) × IsDerivation o lines × HasLine lines c
HasLine-from_derivable p = let e = derivation_from_derivable p in (e.0, e.1, HasLine-from_ends e.2)

-- ---- from a derivation

derivable_up_to : {o : Ontology} (lines : List Line) → IsDerivation o lines → (n m : ℕ) (line : Line) → m < n → slice_get lines m ≡ Some line → IsDerivable o line.conclusion
derivable_up_to lines d zero m line l e = absurd (omega arith)
derivable_up_to {o} lines d (suc n) m line l e =
    let h = d m line e in
    let before : (k : ℕ) (c : Conclusion) → slice_get (conclusions (take m lines)) k ≡ Some c → IsDerivable o c =
    λ k c at. (let a = at_conclusion (take m lines) k c at in let b = slice_get_take m lines k a.0 a.1 in subst (IsDerivable o) a.2 (derivable_up_to lines d n k a.0 (omega arith) b.1)) in
    derived line.rule h.premises line.axiom' h.within.conclusion h.within.axiom' h.follows (at_numbers_derivable (conclusions (take m lines)) before line.premises h.premises h.premises_at)

pub derivable_from_line : {o : Ontology} (lines : List Line) (c : Conclusion) → IsDerivation o lines → HasLine lines c → IsDerivable o c
derivable_from_line {o} lines c d h = subst (IsDerivable o) h.3 (derivable_up_to lines d (suc h.0) h.0 h.1 (omega arith) h.2)

pub derivable_iff : (o : Ontology) (c : Conclusion) → IsDerivable o c ↔ ((lines : List Line) × IsDerivation o lines × HasLine lines c)
derivable_iff o c = (λ p. HasLine-from_derivable p, λ (lines, d, h). derivable_from_line lines c d h)
