-- Lines for one fact, the goal, whose line is the last.
use Rattle.std.proofs.Common.{◌≡◌, ◌↔◌, ℕ, zero, suc, ◌+◌, ◌<◌, ◌≤◌, ◌⊎◌, inl, inr, List, Bool, length, slice_get, get_or, take, Some, All, Contains, refl, sym, ap, ◌∙◌, subst, arith}
use Rattle.std.proofs.lemmas.Option.{none-some, slice_get-get_or, slice_get_within}
use Rattle.lemmas.proofs.Members.{Contains-one}
use Rattle.lemmas.proofs.Places.{slice_get_push, take_push}
use Rattle.axioms.specs.Ontology.{Ontology}
use Rattle.axioms.specs.View.{at_number}
use Rattle.axioms.specs.declared.ids.ExprId.{ExprId}
use Rattle.cert_check.specs.Derivation.{HasLine, IsDerivation}
use Rattle.certificate.specs.Certificate.{Conclusion, Line, Sub}
use Rattle.certificate.specs.Writability.{IsLineOf}
use Rattle.closure.specs.Denotations.{context_of}
use Rattle.engine.specs.Saturations.{Saturated}
use Rattle.exactness.specs.Derivability.{subject_of}
use Rattle.exactness.specs.Trimming.{EndsWith}
use Rattle.explain.proofs.Saying.{IsLineOfFact, line_of_fact}
use Rattle.explain.proofs.Used.{taken_whole}
use Rattle.explain.specs.Marks.{IsGoal, IsMarked, ShowMarked}
use Rattle.explain.specs.Needs.{Derives}
use Rattle.explain.specs.Uses.{IsPremise}
use Rattle.facts.specs.declared.contexts.Context.{Context}
use Rattle.facts.specs.declared.contexts.Fact.{Fact}
use Rattle.facts.specs.declared.contexts.Fact.TheVariants.{In}
use Rattle.normal_forms.specs.declared.forms.Class2.TheVariants.{Expr}
use Rattle.normalise.specs.Problem.{prefixes_of}
use Rattle.number_sets.specs.Pieces.{list_at}

pub goal_within : (P : Fact → Type 0) (facts : List Fact) (goal : ℕ) → IsGoal P facts goal → (0 < goal) × (goal ≤ length facts)
goal_within P facts zero (f, at, is) = absurd (none-some f at)
goal_within P facts (suc n) (f, at, is) = (omega arith, omega (arith, slice_get_within facts n f at))

-- a text of a derivation can be written
pub lines_of_ontology : (o : Ontology) (lines : List Line) → IsDerivation o lines → All (IsLineOf o) lines
lines_of_ontology o lines d = λ k e l. (d k (get_or lines k e) (slice_get-get_or lines k e l)).within

pub has_last : (lines : List Line) (c : Conclusion) → EndsWith lines c → HasLine lines c
has_last lines c e = (length e.front, e.last, subst (λ (ls : List Line). slice_get ls (length e.front) ≡ Some e.last) (sym e.lines_are) (slice_get_push e.front e.last), e.says)

-- one line has the conclusion, and each other line is a premise of a later one
module _ (o : Ontology) (lines : List Line) (derivation : IsDerivation o lines) (place : ℕ) (line : Line) (there : slice_get lines place ≡ Some line)
    (sole : (n : ℕ) → n < length lines → IsPremise lines n ⊎ (n ≡ place)) where
  last_or_not : (n : ℕ) → length lines ≡ suc n → IsPremise lines n ⊎ (n ≡ place) → length lines ≡ place + 1
  last_or_not n long (inl (m, later, l, at, c)) = absurd (omega (arith, long, l, slice_get_within lines m later at))
  last_or_not n long (inr e) = omega (arith, long, e)

  is_last : length lines ≡ place + 1
  is_last = go (length lines) refl
    where
      go : (n : ℕ) → length lines ≡ n → length lines ≡ place + 1
      go zero e = absurd (omega (arith, e, slice_get_within lines place line there))
      go (suc n) e = last_or_not n e (sole n (omega (arith, e)))

  pub derives_last : Derives o line.conclusion lines
  derives_last = record {
    derivation = derivation;
    ends = record {
      front = take place lines;
      last = line;
      lines_are = sym (taken_whole lines) ∙ ap (λ n. take n lines) is_last ∙ take_push lines place line there;
      says = refl;
    };
    serves = λ n l. elim (sole n (omega (arith, l))) [ inl p ↦ p | inr e ↦ absurd (omega (arith, l, e, is_last)) ];
    text = lines_of_ontology o lines derivation;
  }

-- the goal alone was marked
module _ (o : Ontology) (s : Saturated) (marks : List Bool) (lines : List Line) (derivation : IsDerivation o lines) (h : ShowMarked s marks (IsMarked marks) lines) (class : ExprId) (x : Context) where
  goal_last : (n : ℕ) → ((m : ℕ) → IsMarked marks m → m ≡ n) → IsLineOfFact lines (list_at h.numbers n) class x → Derives o (Sub (subject_of (context_of x)) class.0) lines
  goal_last n only l = subst (λ c. Derives o c lines) l.says (derives_last o lines derivation l.place l.line l.there sole)
    where
      among : (k m : ℕ) → IsMarked marks m → Contains (list_at h.numbers m) (suc k) → k ≡ l.place
      among k m marked c =
          let number : suc l.place ≡ suc k = Contains-one (suc l.place) (suc k) (subst (λ ns. Contains ns (suc k)) l.number_is (subst (λ i. Contains (list_at h.numbers i) (suc k)) (only m marked) c)) in
          omega (arith, number)

      sole : (k : ℕ) → k < length lines → IsPremise lines k ⊎ (k ≡ l.place)
      sole k low = elim (h.needed k low) [ inl p ↦ inl p | inr (m, marked, c) ↦ inr (among k m marked c) ]

  pub goal_derived : (goal : ℕ) → ((n : ℕ) → IsMarked marks n ↔ (suc n ≡ goal)) → at_number s.state.facts goal ≡ Some (In (Expr class) x) → Derives o (Sub (subject_of (context_of x)) class.0) lines
  goal_derived zero exact at = absurd (none-some (In (Expr class) x) at)
  goal_derived (suc n) exact at =
      goal_last n (λ m marked. let e = (exact m).0 marked in omega (arith, e))
      (line_of_fact (prefixes_of s.normal) lines (list_at h.numbers n) class x (h.each n (In (Expr class) x) ((exact n).1 refl) at))
