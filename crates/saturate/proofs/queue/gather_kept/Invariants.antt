use Rattle.std.proofs.Common.{◌≡◌, ◌≤◌, length, take, vec_capacity}
use Rattle.std.proofs.lemmas.List.Filters.{FiltersInPlace}
use Rattle.saturate.specs.Flags.{asked, is_kept}
use Rattle.saturate.proofs.queue.gather_kept.Given as goal

abbrev pub invariant-loop-place : goal.invariant-loop-place
invariant-loop-place l = record {
  front : FiltersInPlace (is_kept l.flags) l.fn.numbers l.numbers l.kept l.place;
  again : l.again.items ≡ asked l.flags (take l.place l.fn.numbers);
  room : length (asked l.flags (take l.served l.fn.numbers)) ≤ vec_capacity l.again;
}
