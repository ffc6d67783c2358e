use Rattle.std.proofs.Common.{◌≡◌, suc, ◌-◌, inl, inr, [], ◌∷◌, Contains, sym, ap, ◌∙◌, subst, arith}
use Rattle.std.proofs.lemmas.Bool.{cases_eq, cases_lt}
use Rattle.std.proofs.lemmas.List.Elements.{Contains-append_left, Contains-append_right}
use Rattle.lemmas.proofs.Members.{Contains-first, slice_get-from_Contains}
use Rattle.std.proofs.lemmas.Option.{same_Some}
use Rattle.facts.specs.Chains.{IsNewest, key_of}
use Rattle.facts.proofs.Placing.{same_table}
use Rattle.facts.proofs.Tabling.{marked_more}
use Rattle.facts.proofs.marks.Marks.fill.Goals as goal

pub loop-number-preserved : goal.loop-number-preserved
loop-number-preserved c =
    let now = c.args.table.now in
    let (marked, none, within, leads, held) = c.loop-number.invariant in
    let last = c.loop-number.number - 1 in
    let is : c.loop-number.number ≡ suc last = omega (arith, c.loop-number-test.true) in
    let (fact, there, same) = leads last is in
    let next = subst (λ k. IsNewest now k last c.before-number.result) same (c.before-number.ensures fact there) in
    let facts = c.loop-number.self.facts.facts in
    let one = c.get.result in (
      marked_more now.facts c.loop-number.self c.mark.new.self one last none c.mark.ensures.owner c.get.ensures c.in_ok-mark.ensures.facts c.in_ok-mark.ensures.places marked,
      c.mark.ensures.owner ∙ none,
      omega (arith, next.within, within),
      next.leads,
      λ place other at key from.
          rw c.in_ok-mark.ensures.facts (elim (cases_eq place last) [
            | inl e ↦
                let it : one ≡ other = same_table now.facts last one other c.get.ensures (rw (← e) at) in
                Contains-append_right facts (one ∷ []) other (subst (λ f. Contains (one ∷ []) f) it (Contains-first one []))
            | inr ne ↦
                elim (cases_lt place c.loop-number.number) [
                  | inl low ↦ absurd (omega (arith, next.newest place other (omega (arith, low, ne)) at key, from))
                  | inr high ↦ Contains-append_left facts (one ∷ []) other (held place other at key high)
                ]
          ]),
    )

pub returns : goal.returns
returns c =
    let now = c.args.table.now in
    let (marked, none, within, leads, held) = c.loop-number.invariant in
    record {
      long = marked.long;
      right = marked.right;
      all = λ home is fact member same.
          let (place, at) = slice_get-from_Contains now.facts fact member in
          held place fact at (ap (λ b. key_of b fact) c.requires.home ∙ same ∙ sym (same_Some c.args.home home is)) (omega (arith, c.loop-number-test.false));
    }
