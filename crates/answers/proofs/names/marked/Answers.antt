use Rattle.std.proofs.Common.{ℕ, ◌*◌, map, sym, subst, arith}
use Rattle.std.specs.Prelude.{slice_index}
use Rattle.std.proofs.lemmas.List.{length-map}
use Rattle.std.specs.String.{string_bytes}
use Rattle.answers.specs.Names.{AreMarkedBelow}
use Rattle.interpretation_spec.proofs.SetWords.{blank}
use Rattle.answers.proofs.MarkWords.{passes, through_words}
use Rattle.answers.proofs.names.marked.Goals as goal
use Rattle.answers.proofs.names.marked.Goals.{then-words-j-ne0+in_ok-push_marked, else-words-j-ne0}

pub loop-j-preserved : goal.loop-j-preserved
loop-j-preserved c =
    let names = map string_bytes c.args.names.now in
    let found = map (λ s. s.now) c.loop-j.found.items in
    let j : ℕ = c.loop-j.j in
    elim c.if-words-j-ne0.branch [
      | then-words-j-ne0+in_ok-push_marked w ↦ rw w.found-is w.in_ok-push_marked.ensures
      | else-words-j-ne0 w ↦ rw w.found-is
          (subst (λ n. AreMarkedBelow n names c.args.marks.now found) (omega arith) (blank c.args.marks.now (λ n. AreMarkedBelow n names c.args.marks.now found) (64 * j) (slice_index c.words-words.result.now j) (passes c.args.marks.now names found) (c.words-words.ensures.bits j) w.if-words-j-ne0.false c.loop-j.invariant))
    ]

pub returns : goal.returns
returns c = rw (sym (length-map c.args.names.now string_bytes)) (through_words c.args.marks.now (map string_bytes c.args.names.now) (map (λ s. s.now) c.loop-j.found.items) c.loop-j.j (omega arith) c.loop-j.invariant)
