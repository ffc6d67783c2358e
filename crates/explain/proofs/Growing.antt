-- How derivations grow: what is shown stays shown, numbers one behind the other show conclusions one behind the other, and the number of the last line shows its conclusion.
use Rattle.std.proofs.Common.{◌≡◌, ℕ, zero, suc, List, [], ◌∷◌, ◌++◌, length, slice_get, Some, sym, ap, ◌∙◌, subst, arith}
use Rattle.axioms.specs.Ontology.{Ontology}
use Rattle.std.proofs.lemmas.List.{append_assoc, map-append, length-append, length-map}
use Rattle.std.proofs.lemmas.Option.{none-some}
use Rattle.axioms.specs.View.{at_number}
use Rattle.certificate.specs.Certificate.{Conclusion, Line}
use Rattle.cert_check.specs.Derivation.{IsDerivation, IsDerived, at_numbers}
use Rattle.closure.specs.Denotations.{Prefixes}
use Rattle.exactness.proofs.Derivable.{conclusions, derivation_push, prepended_list_parts}
use Rattle.explain.specs.LinesOfFacts.{AreShowing, Lengthens}
use Rattle.facts.specs.declared.contexts.Fact.{Fact}
use Rattle.lemmas.proofs.Places.{slice_get_push}

-- ---- elements by their numbers

-- what stands at a place stays there
pub slice_get_grown : {X : Type 0} (xs ys : List X) (n : ℕ) (x : X) → slice_get xs n ≡ Some x → slice_get (xs ++ ys) n ≡ Some x
slice_get_grown [] ys n x e = absurd (none-some x e)
slice_get_grown (z ∷ xs) ys zero x e = e
slice_get_grown (z ∷ xs) ys (suc n) x e = slice_get_grown xs ys n x e

at_number_grown : {X : Type 0} (xs ys : List X) (n : ℕ) (x : X) → at_number xs n ≡ Some x → at_number (xs ++ ys) n ≡ Some x
at_number_grown xs ys zero x e = absurd (none-some x e)
at_number_grown xs ys (suc n) x e = slice_get_grown xs ys n x e

-- what stands at numbers stays there
pub at_numbers_grown : {X : Type 0} (xs ys : List X) (ns : List ℕ) (zs : List X) → at_numbers xs ns ≡ Some zs → at_numbers (xs ++ ys) ns ≡ Some zs
at_numbers_grown xs ys [] zs e = e
at_numbers_grown xs ys (n ∷ ns) zs e =
    let p = prepended_list_parts (at_number xs n) (at_numbers xs ns) zs e in
    rw (at_number_grown xs ys n p.0 p.2, at_numbers_grown xs ys ns p.1 p.3) (ap Some p.4)

-- at numbers behind numbers stands what stands at the first ones, and behind that what stands at the others
pub at_numbers_joined : {X : Type 0} (xs : List X) (ms ns : List ℕ) (ys zs : List X) → at_numbers xs ms ≡ Some ys → at_numbers xs ns ≡ Some zs → at_numbers xs (ms ++ ns) ≡ Some (ys ++ zs)
at_numbers_joined xs [] ns ys zs e h = go ys e
  where
    go : (us : List _) → Some [] ≡ Some us → at_numbers xs ns ≡ Some (us ++ zs)
    go [] e = h
    go (u ∷ us) e = absurd cc
at_numbers_joined xs (m ∷ ms) ns ys zs e h =
    let p = prepended_list_parts (at_number xs m) (at_numbers xs ms) ys e in
    rw (p.2, at_numbers_joined xs ms ns p.1 zs p.3 h) (ap (λ us. Some (us ++ zs)) p.4)

-- the number of the last is how many there are
pub at_last_number : {X : Type 0} (xs : List X) (x : X) (n : ℕ) → n ≡ length (xs ++ x ∷ []) → at_numbers (xs ++ x ∷ []) (n ∷ []) ≡ Some (x ∷ [])
at_last_number xs x n e =
    let k : n ≡ suc (length xs) = omega (arith, e, length-append xs (x ∷ [])) in
    rw (k, slice_get_push xs x)

-- ---- lines

pub lengthened_twice : {first second third : List Line} → Lengthens first second → Lengthens second third → Lengthens first third
lengthened_twice {first} g h = record {
  more = g.more ++ h.more;
  new_is = h.new_is ∙ ap (λ lines. lines ++ h.more) g.new_is ∙ append_assoc first g.more h.more;
}

pub conclusions_grown : {old new : List Line} (numbers : List ℕ) (cs : List Conclusion) → Lengthens old new → at_numbers (conclusions old) numbers ≡ Some cs → at_numbers (conclusions new) numbers ≡ Some cs
conclusions_grown {old} numbers cs g e =
    rw (g.new_is, map-append (λ l. l.conclusion) old g.more) (at_numbers_grown (conclusions old) (conclusions g.more) numbers cs e)

pub conclusion_grown : {old new : List Line} (n : ℕ) (c : Conclusion) → Lengthens old new → at_number (conclusions old) n ≡ Some c → at_number (conclusions new) n ≡ Some c
conclusion_grown {old} n c g e = rw (g.new_is, map-append (λ l. l.conclusion) old g.more) (at_number_grown (conclusions old) (conclusions g.more) n c e)

-- the number of the last line shows its conclusion
pub last_conclusion : (lines : List Line) (line : Line) (n : ℕ) → n ≡ length (lines ++ line ∷ []) → at_numbers (conclusions (lines ++ line ∷ [])) (n ∷ []) ≡ Some (line.conclusion ∷ [])
last_conclusion lines line n e =
    rw (map-append (λ l. l.conclusion) lines (line ∷ []))
    (at_last_number (conclusions lines) line.conclusion n (omega (arith, e, length-append lines (line ∷ []), length-append (conclusions lines) (line.conclusion ∷ []), length-map lines (λ l. l.conclusion))))

pub added_line_at : (lines new : List Line) (line : Line) (numbers : List ℕ) (n : ℕ) → new ≡ lines ++ line ∷ [] → n ≡ length new → numbers ≡ n ∷ [] → at_numbers (conclusions new) numbers ≡ Some (line.conclusion ∷ [])
added_line_at lines new line numbers n added number is = rw (is, added) (last_conclusion lines line n (number ∙ ap length added))

pub derivation_pushed : (o : Ontology) (old new : List Line) (line : Line) → new ≡ old ++ line ∷ [] → IsDerivation o old → IsDerived o old line → IsDerivation o new
derivation_pushed o old new line e derivation derived = subst (IsDerivation o) (sym e) (derivation_push old line derivation derived)

-- ---- facts

pub showing_grown : {b : Prefixes} {old new : List Line} {numbers : List ℕ} {f : Fact} → Lengthens old new → AreShowing b old numbers f → AreShowing b new numbers f
showing_grown {numbers = numbers} g s = record {
  fact = s.fact;
  says = s.says;
  conclusions = s.conclusions;
  at = conclusions_grown numbers s.conclusions g s.at;
  shown = s.shown;
}
