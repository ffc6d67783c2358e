use Rattle.std.proofs.Common.{◌≡◌, ◌≤◌, ◌<◌, ◌+◌, ◌-◌, ℕ, List, length, drop, get_or, ltb, true, false, sym, ap, ◌∙◌, subst, arith}
use Rattle.std.specs.List.Sorted.{IsPartitionPoint}
use Rattle.std.proofs.lemmas.Bool.{ltb-true}
use Rattle.std.proofs.lemmas.List.{get_or-drop}
use Rattle.listed_model.proofs.Members.{to_end}
use Rattle.listed_model.proofs.meeting.next_place.Goals as goal

pub returns-clause-below : goal.returns-clause-below
returns-clause-below c = λ k l m.
    let list = c.args.list.now in
    let place = c.args.place in
    let bound = c.args.bound in
    let n = c.count_below.result in
    let Parted : List ℕ → Type 0 = λ (ys : List ℕ). IsPartitionPoint (λ (k : ℕ). ltb k bound ≡ true) (λ (k : ℕ). ltb k bound ≡ false) ys n in
    let at = subst Parted (sym (to_end list place)) c.count_below.ensures.place in
    let within : n ≤ length (drop place list) = subst (λ (ys : List ℕ). n ≤ length ys) (sym (to_end list place)) c.count_below.ensures.within in
    let j = k - place in
    let same : place + j ≡ k = omega arith in
    let below = ltb-true (get_or (drop place list) j 0) bound (at.0 j 0 (omega arith) (omega arith)) in
    subst (λ (v : ℕ). v < bound) (get_or-drop place list j 0 ∙ ap (λ n. get_or list n 0) same) below
