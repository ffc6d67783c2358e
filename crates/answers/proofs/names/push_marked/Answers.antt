use Rattle.std.proofs.Common.{◌≡◌, ℕ, ◌*◌, ◌+◌, ◌<◌, length, map, slice_get, Some, sym, ap, ◌∙◌, subst, arith, w64}
use Rattle.std.proofs.lemmas.List.{length-map}
use Rattle.std.proofs.lemmas.Option.{slice_get-get_or}
use Rattle.std.specs.Int.{trailing_zeros}
use Rattle.std.specs.String.{string_bytes}
use Rattle.lemmas.proofs.Mapped.{slice_get_map}
use Rattle.answers.specs.Names.{AreMarkedBelow}
use Rattle.interpretation_spec.proofs.SetWords.{all_taken, before_lowest, lowest_member, lowest_taken, lowest_within, smaller}
use Rattle.answers.proofs.MarkWords.{lowest_unnamed, passes}
use Rattle.answers.proofs.Naming.{pushed}
use Rattle.answers.proofs.names.push_marked.Goals as goal
use Rattle.answers.proofs.names.push_marked.Goals.{in-Some+in_ok-push, in_default}

pub overflow_mul-j : goal.overflow_mul-j
overflow_mul-j c = record { fits = omega (arith, c.requires.within.0, c.requires.within.1) }

pub overflow_add-j : goal.overflow_add-j
overflow_add-j c = record {
  fits = omega (arith, lowest_within _ _ _ _ _ (passes c.args.marks.now (map string_bytes c.args.names.now) (map (λ s. s.now) c.loop-left.found.items)) c.loop-left.invariant.1 (omega arith) c.loop-left.auto.left-fits.fits, c.requires.within.1);
}

pub loop-left-smaller : goal.loop-left-smaller
loop-left-smaller c = smaller _ _ _ _ _ (passes c.args.marks.now (map string_bytes c.args.names.now) (map (λ s. s.now) c.loop-left.found.items)) c.loop-left.invariant.1 (omega arith) c.loop-left.auto.left-fits.fits

pub loop-left-preserved : goal.loop-left-preserved
loop-left-preserved c =
    let strings = c.args.names.now in
    let names = map string_bytes strings in
    let marks = c.args.marks.now in
    let taken = c.loop-left.invariant.1 in
    let some : 0 < c.loop-left.left = omega arith in
    let fits = c.loop-left.auto.left-fits.fits in
    let over = passes marks names (map (λ s. s.now) c.loop-left.found.items) in
    let n : ℕ = 64 * c.args.j + trailing_zeros w64 c.loop-left.left in (
      trailing_zeros w64 c.loop-left.left + 1,
      lowest_taken _ _ _ _ _ over taken some fits (λ n. AreMarkedBelow n names marks (map (λ s. s.now) c.match-get.found.items))
          (elim c.match-get.branch [
            | in-Some+in_ok-push w ↦
                let s = w.in-Some.name.now in
                let lookup = w.in-Some.ensures.lookup in
                let low : n < length strings = omega arith in
                let there : slice_get strings n ≡ Some s = slice_get-get_or strings n s low ∙ ap (λ x. Some x) (sym lookup.1) in
                let here : slice_get names n ≡ Some w.as_str.result.now = slice_get_map string_bytes strings n s there ∙ ap (λ x. Some x) (sym w.as_str.ensures.value) in
                pushed n names marks c.loop-left.found.items c.match-get.found.items w.as_str.result (before_lowest _ _ _ _ _ over taken some fits) (rw w.found-is w.in_ok-push.ensures.items) c.requires.distinct here (lowest_member _ _ _ _ _ over taken some fits)
            | in_default w ↦ rw w.found-is (lowest_unnamed _ _ _ _ _ _ taken some fits (omega (arith, w.in_default.ensures.lookup, length-map strings string_bytes)))
          ]),
    )

pub returns : goal.returns
returns c =
    let names = map string_bytes c.args.names.now in
    let found = map (λ s. s.now) c.loop-left.found.items in
    subst (λ n. AreMarkedBelow n names c.args.marks.now found) (omega arith) (all_taken _ _ _ _ _ (passes c.args.marks.now names found) c.loop-left.invariant.1 (omega arith))
