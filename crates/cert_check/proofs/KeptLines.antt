-- Lines of which no more premises are kept than one more than a rule can take: what follows is the same, and what is said.
use Rattle.std.proofs.Common.{◌≡◌, ◌↔◌, ℕ, zero, suc, ◌≤◌, List, [], ◌∷◌, ◌++◌, length, map, take, Some, None, Option, MatchOption, Bool, true, refl, sym, ap, ◌∙◌, subst, arith}
use Rattle.std.specs.Prelude.{min}
use Rattle.std.proofs.lemmas.List.{length-take, take_all, map_push}
use Rattle.std.proofs.lemmas.Option.{none-some, same_Some}
use Rattle.lemmas.proofs.Mapped.{slice_get_map, slice_get_map_from}
use Rattle.axioms.specs.Ontology.{Ontology}
use Rattle.axioms.specs.View.{at_number}
use Rattle.certificate.specs.Certificate.{Conclusion, Line}
use Rattle.certificate.specs.SourceReading.{kept_line}
use Rattle.certificate.specs.Tests.{fits_line}
use Rattle.certificate.specs.Writability.{IsLineOf}
use Rattle.certificate.proofs.LineMeaning.{line_means}
use Rattle.cert_check.specs.Derivation.{IsDerived, IsDerivation, at_numbers, prepended_list, axiom_at}
use Rattle.cert_check.specs.Faults.{IsFirstBadLine}
use Rattle.cert_check.specs.Lists.{said_by, AreSuperclasses, AreTypes}
use Rattle.cert_check.specs.Premises.{RulesTakeAtMost}
use Rattle.cert_check.specs.Tests.{AreKept, AreKeptIn}
use Rattle.cert_check.specs.declared.derivation.TestedLines.{TestedLines}
use Rattle.cert_check.specs.Verdict.{AreShown, HasContradiction, IsContradiction}
use Rattle.cert_check.proofs.Derivations.{axiom_there}

-- ---- one line

one_more_there : {A : Type 0} (n : ℕ) (x : Option A) (others : Option (List A)) (ys : List A) → ((zs : List A) → others ≡ Some zs → n ≡ length zs) → prepended_list x others ≡ Some ys → suc n ≡ length ys
one_more_there n (Some x) (Some zs) ys h e = ap suc (h zs refl) ∙ ap length (same_Some (x ∷ zs) ys e)
one_more_there n (Some x) None ys h e = absurd (none-some ys e)
one_more_there n None others ys h e = absurd (none-some ys e)

as_many : {A : Type 0} (xs : List A) (ns : List ℕ) (ys : List A) → at_numbers xs ns ≡ Some ys → length ns ≡ length ys
as_many xs [] ys e = ap length (same_Some [] ys e)
as_many xs (n ∷ ns) ys e = one_more_there (length ns) (at_number xs n) (at_numbers xs ns) ys (λ zs g. as_many xs ns zs g) e

-- where no more are there, all are kept
all_kept : (most : ℕ) (premises : List ℕ) → length premises ≤ most → take (suc most) premises ≡ premises
all_kept most premises l = take_all (suc most) premises (omega (arith, l))

-- where no more are kept than a rule takes, no more are there
few_there : (most : ℕ) (premises : List ℕ) → length (take (suc most) premises) ≤ most → length premises ≤ most
few_there most premises l =
    let e : length (take (suc most) premises) ≡ min (suc most) (length premises) = length-take (suc most) premises in
    omega (arith, e, l)

module _ (o : Ontology) (most : ℕ) (rules : RulesTakeAtMost o most) where
  premises_few : (before : List Line) (line : Line) → IsDerived o before line → length line.premises ≤ most
  premises_few before line d =
      let n = as_many (said_by before) line.premises d.premises d.premises_at in
      let l = rules line.rule d.premises (axiom_at o line.axiom') line.conclusion (axiom_there o line.axiom') d.follows in
      omega (arith, n, l)

  same_line : (line : Line) → length line.premises ≤ most → kept_line (Some most) line ≡ line
  same_line line l = ap (λ (ns : List ℕ). record line { premises = ns }) (all_kept most line.premises l)

  -- the line follows where what is kept of it does
  pub derived_kept : (before : List Line) (line : Line) → IsDerived o before (kept_line (Some most) line) ↔ IsDerived o before line
  derived_kept before line = (
    λ d. subst (IsDerived o before) (same_line line (few_there most line.premises (premises_few before (kept_line (Some most) line) d))) d,
    λ d. subst (IsDerived o before) (sym (same_line line (premises_few before line d))) d,
  )

-- what is kept of the line names what the ontology has
pub kept_within : (o : Ontology) (most : Option ℕ) (line kept : Line) → fits_line o line ≡ true → kept ≡ kept_line most line → IsLineOf o kept
kept_within o most line kept fits e =
    let w = (line_means o line fits).within in
    subst (IsLineOf o) (sym e) (record { conclusion = w.conclusion; axiom' = w.axiom' })

-- ---- all lines

-- what is kept of each
abbrev pub kept_lines : Option ℕ → List Line → List Line
kept_lines most lines = map (kept_line most) lines

-- this is what is kept of what is kept of the lines
abbrev pub AreKeptOf : Option ℕ → TestedLines → Ontology → List Line → Type 0
AreKeptOf most tested o lines = AreKeptIn tested o (kept_lines most lines)

pub one_more_kept : (most : Option ℕ) (lines : List Line) (line : Line) → kept_lines most (lines ++ line ∷ []) ≡ kept_lines most lines ++ kept_line most line ∷ []
one_more_kept most lines line = map_push (kept_line most) lines line

-- what is kept of one line more
pub kept_more : (o : Ontology) (most now : Option ℕ) (tested : TestedLines) (lines : List Line) (line kept : Line) → now ≡ most → kept ≡ kept_line now line
    → AreKeptIn tested o (kept_lines most lines ++ kept ∷ []) → AreKeptOf most tested o (lines ++ line ∷ [])
kept_more o most now tested lines line kept e f k =
    let same : kept ≡ kept_line most line = f ∙ ap (λ (m : Option ℕ). kept_line m line) e in
    subst (AreKeptIn tested o) (ap (λ (l : Line). kept_lines most lines ++ l ∷ []) same ∙ sym (one_more_kept most lines line)) k

said_same : (most : Option ℕ) (lines : List Line) → said_by (kept_lines most lines) ≡ said_by lines
said_same most [] = refl
said_same most (line ∷ lines) = ap (λ (cs : List Conclusion). line.conclusion ∷ cs) (said_same most lines)

taken_same : (most : Option ℕ) (n : ℕ) (lines : List Line) → take n (kept_lines most lines) ≡ kept_lines most (take n lines)
taken_same most zero lines = refl
taken_same most (suc n) [] = refl
taken_same most (suc n) (line ∷ lines) = ap (λ (ls : List Line). kept_line most line ∷ ls) (taken_same most n lines)

-- only what the lines before say matters
derived_by_said : (o : Ontology) (before others : List Line) (line : Line) → said_by before ≡ said_by others → IsDerived o before line → IsDerived o others line
derived_by_said o before others line e d = record {
  within = d.within;
  premises = d.premises;
  premises_at = subst (λ (said : List Conclusion). at_numbers said line.premises ≡ Some d.premises) e d.premises_at;
  follows = d.follows;
}

module _ (o : Ontology) (most : ℕ) (rules : RulesTakeAtMost o most) where
  derived_at : (lines : List Line) (n : ℕ) (line : Line) → IsDerived o (take n (kept_lines (Some most) lines)) (kept_line (Some most) line) ↔ IsDerived o (take n lines) line
  derived_at lines n line =
      let e : said_by (take n (kept_lines (Some most) lines)) ≡ said_by (take n lines) = ap said_by (taken_same (Some most) n lines) ∙ said_same (Some most) (take n lines) in (
        λ d. (derived_kept o most rules (take n lines) line).0 (derived_by_said o _ (take n lines) (kept_line (Some most) line) e d),
        λ d. derived_by_said o (take n lines) _ (kept_line (Some most) line) (sym e) ((derived_kept o most rules (take n lines) line).1 d),
      )

  derivation_full : (lines : List Line) → IsDerivation o (kept_lines (Some most) lines) → IsDerivation o lines
  derivation_full lines d n line g =
      (derived_at lines n line).0 (d n (kept_line (Some most) line) (slice_get_map (kept_line (Some most)) lines n line g))

  first_bad_full : (lines : List Line) (n : ℕ) → IsFirstBadLine o (kept_lines (Some most) lines) n → IsFirstBadLine o lines n
  first_bad_full lines n b =
      let (line, there, is) = slice_get_map_from (kept_line (Some most)) lines b.place b.line b.there in
      record {
        place = b.place;
        number_is = b.number_is;
        line = line;
        there = there;
        bad = λ d. b.bad (subst (IsDerived o (take b.place (kept_lines (Some most) lines))) is ((derived_at lines b.place line).1 d));
        before = λ k earlier l g. (derived_at lines k earlier).0 (b.before k (kept_line (Some most) earlier) l (slice_get_map (kept_line (Some most)) lines k earlier g));
      }

  bad_full : (lines : List Line) (bad : Option ℕ) → MatchOption bad (IsDerivation o (kept_lines (Some most) lines)) (IsFirstBadLine o (kept_lines (Some most) lines))
      → MatchOption bad (IsDerivation o lines) (IsFirstBadLine o lines)
  bad_full lines None d = derivation_full lines d
  bad_full lines (Some n) b = first_bad_full lines n b

  contradiction_full : (lines : List Line) → HasContradiction (kept_lines (Some most) lines) ↔ HasContradiction lines
  contradiction_full lines = (
    λ (k, kept, g, c). (let (line, there, is) = slice_get_map_from (kept_line (Some most)) lines k kept g in (k, line, there, subst (λ (l : Line). IsContradiction l.conclusion) (sym is) c)),
    λ (k, line, g, c). (k, kept_line (Some most) line, slice_get_map (kept_line (Some most)) lines k line g, c),
  )

  shown_full : (lines : List Line) (contradictory : Bool) (above types : List (List ℕ)) → AreShown o (kept_lines (Some most) lines) contradictory above types → AreShown o lines contradictory above types
  shown_full lines contradictory above types s =
      let c = contradiction_full lines in
      record {
        contradiction = (λ t. c.0 (s.contradiction.0 t), λ h. s.contradiction.1 (c.1 h));
        superclasses = subst (λ (said : List Conclusion). AreSuperclasses o said above) (said_same (Some most) lines) s.superclasses;
        members = subst (λ (said : List Conclusion). AreTypes o said types) (said_same (Some most) lines) s.members;
      }

  -- what was found of what is kept of the lines holds of the lines
  pub kept_full : (lines : List Line) (said : List Conclusion) (bad : Option ℕ) (contradictory : Bool) (above types : List (List ℕ))
      → AreKept o (kept_lines (Some most) lines) said bad contradictory above types → AreKept o lines said bad contradictory above types
  kept_full lines said bad contradictory above types k = record {
    tested = record { said_is = k.tested.said_is ∙ said_same (Some most) lines; bad_is = bad_full lines bad k.tested.bad_is };
    shown = shown_full lines contradictory above types k.shown;
  }
