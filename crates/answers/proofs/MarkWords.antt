-- Names by the marks of one word, taken from the lowest on.
use Rattle.std.proofs.Common.{◌≡◌, ℕ, ◌+◌, ◌*◌, ◌^◌, ◌<◌, ◌≤◌, Bool, List, length, sym, ◌∙◌, subst, arith, w64}
use Rattle.std.proofs.lemmas.Bool.{false≢true}
use Rattle.std.proofs.lemmas.Option.{slice_get_within}
use Rattle.std.specs.Int.{trailing_zeros}
use Rattle.axioms.specs.Expression.{Iri}
use Rattle.interpretation_spec.proofs.SetWords.{PassesOver, before_lowest, member_within}
use Rattle.interpretation_spec.proofs.SetWords as words
use Rattle.answers.specs.Names.{AreMarkedBelow, IsMarked}
use Rattle.answers.proofs.Naming.{none_between}

-- the names are found whose marks are taken
abbrev pub AreTaken : (marks : List Bool) (names found : List Iri) (first left k : ℕ) → Type 0
AreTaken marks names found first left k = words.AreTaken marks (λ n. AreMarkedBelow n names marks found) first left k

-- no name is found at a number without a mark
pub passes : (marks : List Bool) (names found : List Iri) → PassesOver marks (λ n. AreMarkedBelow n names marks found)
passes marks names found n none are = none_between n names marks found are (n + 1) (omega arith) (λ m name above below at mark.
    (let same : m ≡ n = omega (arith, above, below) in
    false≢true (sym none ∙ subst (IsMarked marks) same mark)))

-- behind the last word there is no mark
pub through_words : (marks : List Bool) (names found : List Iri) (words : ℕ) → length marks ≤ 64 * words → AreMarkedBelow (64 * words) names marks found → AreMarkedBelow (length names) names marks found
through_words marks names found words many are = record {
  distinct = are.distinct;
  each = λ m name h. (let (n, at, (low, mark)) = are.each m name h in (n, at, (slice_get_within names n name at, mark)));
  all = λ n name at (low, mark). are.all n name at (omega (arith, many, member_within marks n mark), mark);
}

-- the same names where the number of the lowest mark has none
pub lowest_unnamed : (marks : List Bool) (names found : List Iri) (first left k : ℕ) → AreTaken marks names found first left k → 0 < left → left < 2 ^ 64
    → length names ≤ first + trailing_zeros w64 left → AreMarkedBelow (first + trailing_zeros w64 left + 1) names marks found
lowest_unnamed marks names found first left k taken some fits past =
    let n = first + trailing_zeros w64 left in
    none_between n names marks found (before_lowest marks (λ n. AreMarkedBelow n names marks found) first left k (passes marks names found) taken some fits) (n + 1) (omega arith)
    (λ m name above below at mark. absurd (omega (arith, above, below, past, slice_get_within names m name at)))
