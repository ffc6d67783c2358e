-- Marks on the lines that a line rests on, made from the last line to the first.
use Rattle.std.proofs.Common.{◌≡◌, ℕ, zero, suc, ◌+◌, ◌<◌, ◌≤◌, ◌⊎◌, ◌↔◌, inl, inr, List, [], ◌∷◌, ◌++◌, length, take, slice_get, Some, Bool, true, false, refl, sym, ap, ◌∙◌, subst, arith}
use Rattle.std.proofs.lemmas.Bool.{false≢true}
use Rattle.std.proofs.lemmas.Option.{slice_get_within, slice_get-get_or}
use Rattle.std.specs.Prelude.{slice_index_or}
use Rattle.std.specs.List.{Contains}
use Rattle.certificate.specs.Certificate.{Line}
use Rattle.exactness.specs.Trimming.{RestsOn, itself, premise}
use Rattle.lemmas.proofs.Choices.{one_value}
use Rattle.lemmas.proofs.Members.{Contains-from_slice_get}
use Rattle.lemmas.proofs.Places.{take_push}
use Rattle.std.proofs.lemmas.List.Elements.{Contains-append_left, Contains-push, Contains-push_cases}
use Rattle.explain.specs.LineMarks.{ArePremisesBefore, ArePremisesMarked, MarksRests}
use Rattle.explain.specs.Marks.{IsMarked}
use Rattle.explain.proofs.Below.{from_next}

-- what marked lines from the k-th on have as premises is marked, and the goal rests on whatever is marked
pub record AreHandedOn (lines : List Line) (first marks : List Bool) (k : ℕ) : Type 0 where
  pub long : length marks ≡ length first
  pub kept : (n : ℕ) → IsMarked first n → IsMarked marks n
  pub closed : (n m : ℕ) (line : Line) → k ≤ n → IsMarked marks n → slice_get lines n ≡ Some line → Contains line.premises (suc m) → IsMarked marks m
  pub only : (goal : ℕ) → ((n : ℕ) → IsMarked first n → suc n ≡ goal) → (n : ℕ) → IsMarked marks n → RestsOn lines goal (suc n)

rests_self : (lines : List Line) (goal m : ℕ) → m ≡ goal → RestsOn lines goal m
rests_self lines goal m e = subst (RestsOn lines goal) (sym e) itself

pub handed_on_start : (lines : List Line) (marks : List Bool) (k : ℕ) → length marks ≤ k → AreHandedOn lines marks marks k
handed_on_start lines marks k long = record {
  long = refl;
  kept = λ n h. h;
  closed = λ n m line l h e c. (let w = slice_get_within marks n true h in absurd (omega arith));
  only = λ goal all n h. rests_self lines goal (suc n) (all n h);
}

-- the premises of a marked line are marked too
pub handed_on_more : (lines : List Line) (first marks new : List Bool) (j k : ℕ) (line : Line) → j ≡ k + 1 → ArePremisesBefore lines → AreHandedOn lines first marks j → IsMarked marks k → slice_get lines k ≡ Some line → length new ≡ length marks → ((n : ℕ) → IsMarked new n ↔ (IsMarked marks n ⊎ Contains line.premises (suc n))) → AreHandedOn lines first new k
handed_on_more lines first marks new j k line one before h marked at long adds = record {
  long = long ∙ h.long;
  kept = λ n g. keep n (h.kept n g);
  closed = λ n m other l g e c. elim ((adds n).0 g) [
    | inl o ↦ closed n m other l o e c
    | inr d ↦ (let b = before k (suc n) line at d in absurd (omega (arith, b.1)))
  ];
  only = λ goal all n g. elim ((adds n).0 g) [
    | inl o ↦ h.only goal all n o
    | inr d ↦ premise (suc k) line (h.only goal all k marked) at d
  ];
}
  where
    keep : (n : ℕ) → IsMarked marks n → IsMarked new n
    keep n g = (adds n).1 (inl g)

    closed : (n m : ℕ) (other : Line) → k ≤ n → IsMarked marks n → slice_get lines n ≡ Some other → Contains other.premises (suc m) → IsMarked new m
    closed n m other l g e c = elim (from_next k n l) [
      | inl z ↦ keep m (h.closed n m other (omega (arith, one)) g e c)
      | inr q ↦ (
          let same : other ≡ line = one_value (slice_get lines k) other line (subst (λ i. slice_get lines i ≡ Some other) q e) at in
          (adds m).1 (inr (subst (λ (x : Line). Contains x.premises (suc m)) same c)))
    ]

-- a line that is not marked hands on nothing
pub handed_on_not : (lines : List Line) (first marks : List Bool) (j k : ℕ) → j ≡ k + 1 → AreHandedOn lines first marks j → slice_get marks k ≡ Some false → AreHandedOn lines first marks k
handed_on_not lines first marks j k one h unmarked = record {
  long = h.long;
  kept = h.kept;
  closed = closed;
  only = h.only;
}
  where
    closed : (n m : ℕ) (line : Line) → k ≤ n → IsMarked marks n → slice_get lines n ≡ Some line → Contains line.premises (suc m) → IsMarked marks m
    closed n m line l g e c = elim (from_next k n l) [
      | inl z ↦ h.closed n m line (omega (arith, one)) g e c
      | inr q ↦ absurd (false≢true (one_value (slice_get marks k) false true unmarked (subst (λ i. IsMarked marks i) q g)))
    ]

-- at the end exactly what the goal rests on is marked
all_marked : (lines : List Line) (goal : ℕ) (first marks : List Bool) → ArePremisesBefore lines → AreHandedOn lines first marks 0 → ((n : ℕ) → suc n ≡ goal → IsMarked first n) → {m : ℕ} → RestsOn lines goal m → (n : ℕ) → m ≡ suc n → IsMarked marks n
all_marked lines goal first marks before h has itself n e = h.kept n (has n (sym e))
all_marked lines goal first marks before h has (premise zero line r at c) n e = absurd cc
all_marked lines goal first marks before h has (premise (suc k) line r at c) n e =
    h.closed k n line (omega arith) (all_marked lines goal first marks before h has r k refl) at (subst (Contains line.premises) e c)

pub handed_on_all : (lines : List Line) (goal : ℕ) (first marks : List Bool) → ArePremisesBefore lines → AreHandedOn lines first marks 0 → ((n : ℕ) → IsMarked first n ↔ (suc n ≡ goal)) → MarksRests lines goal marks
handed_on_all lines goal first marks before h exact n = (
  λ g. h.only goal (λ k. (exact k).0) n g,
  λ r. all_marked lines goal first marks before h (λ k. (exact k).1) r n refl,
)

-- the premises of marked lines are marked lines before them
pub premises_marked : (lines : List Line) (goal : ℕ) (marks : List Bool) → ArePremisesBefore lines → MarksRests lines goal marks → ArePremisesMarked lines marks
premises_marked lines goal marks before exact n zero line h e c = absurd (omega (arith, (before n zero line e c).0))
premises_marked lines goal marks before exact n (suc k) line h e c =
    (k, refl, omega (arith, (before n (suc k) line e c).1), (exact k).1 (premise (suc n) line ((exact n).0 h) e c))

-- ---- the lines of numbers, one after the other

-- marked are those of the first numbers
pub next_marked : (first marks new : List Bool) (numbers : List ℕ) (i number place : ℕ) → slice_get numbers i ≡ Some number → number ≡ suc place → ((n : ℕ) → IsMarked marks n ↔ (IsMarked first n ⊎ Contains (take i numbers) (suc n))) → ((n : ℕ) → IsMarked new n ↔ (IsMarked marks n ⊎ (n ≡ place))) → (n : ℕ) → IsMarked new n ↔ (IsMarked first n ⊎ Contains (take (i + 1) numbers) (suc n))
next_marked first marks new numbers i number place at one h k n = (
  λ g. elim ((k n).0 g) [
    | inl o ↦ elim ((h n).0 o) [ inl f ↦ inl f | inr c ↦ inr (subst (λ ns. Contains ns (suc n)) (sym (take_push numbers i number at)) (Contains-append_left (take i numbers) (number ∷ []) (suc n) c)) ]
    | inr e ↦ inr (subst (λ ns. Contains ns (suc n)) (sym (take_push numbers i number at)) (subst (λ m. Contains (take i numbers ++ number ∷ []) m) (one ∙ ap suc (sym e)) (Contains-push (take i numbers) number)))
  ],
  λ g. elim g [
    | inl f ↦ (k n).1 (inl ((h n).1 (inl f)))
    | inr c ↦ elim (Contains-push_cases (take i numbers) number (suc n) (subst (λ ns. Contains ns (suc n)) (take_push numbers i number at) c)) [
      | inl d ↦ (k n).1 (inl ((h n).1 (inr d)))
      | inr e ↦ (let f : suc n ≡ suc place = sym e ∙ one in (k n).1 (inr (omega (arith, f))))
    ]
  ],
)

-- the premises of a line are among the lines before it
pub premises_within : (lines : List Line) (line : Line) (n bound : ℕ) → ArePremisesBefore lines → slice_get lines n ≡ Some line → n ≤ bound → (k d : ℕ) → k < length line.premises → (0 < slice_index_or line.premises k d) × (slice_index_or line.premises k d ≤ bound)
premises_within lines line n bound before at within k d l =
    let number = slice_index_or line.premises k d in
    let b = before n number line at (Contains-from_slice_get line.premises k number (slice_get-get_or line.premises k d l)) in
    (b.0, omega (arith, b.1))
