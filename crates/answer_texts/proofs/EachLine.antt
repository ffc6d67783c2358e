-- Lines in texts, counted from 1, one more at a time.
use Rattle.std.proofs.Common.{◌≡◌, ℕ, ◌+◌, ◌<◌, List, ◌++◌, All, length, map, take, get_or, arith, sym, subst, ap, ◌∙◌}
use Rattle.std.specs.List.{flat_map, enumerate_from}
use Rattle.axioms.specs.Ontology.{Ontology}
use Rattle.certificate.specs.Certificate as certificate
use Rattle.certificate.specs.Writability.{IsLineOf}
use Rattle.certificate.specs.View.{line_of, lines_of}
use Rattle.certificate.specs.declared.line.Line.{Line}
use Rattle.lemmas.proofs.Mapped.{All-from_map}
use Rattle.answer_texts.proofs.More.{added, numbered_more}

module _ (lines : List Line) (n : ℕ) (line : Line) (low : n < length lines) (is : line ≡ get_or lines n line) where
  pub line_there : (o : Ontology) → All (IsLineOf o) (lines_of lines) → IsLineOf o (line_of line)
  line_there o all = subst (λ (l : Line). IsLineOf o (line_of l)) (sym is) (All-from_map (IsLineOf o) line_of lines all n line low)

  pub line_added : (f : ℕ × certificate.Line → List ℕ) (old out new : List ℕ) → out ≡ old ++ flat_map f (enumerate_from 1 (lines_of (take n lines))) → new ≡ out ++ f (n + 1, line_of line)
      → new ≡ old ++ flat_map f (enumerate_from 1 (lines_of (take (n + 1) lines)))
  line_added f old out new before step =
      added old out new (flat_map f (enumerate_from 1 (map line_of (take n lines)))) (f (n + 1, line_of (get_or lines n line))) (flat_map f (enumerate_from 1 (map line_of (take (n + 1) lines))))
      before (step ∙ ap (λ (l : Line). out ++ f (n + 1, line_of l)) is) (numbered_more f 1 line_of lines n (n + 1) line low (omega arith))
