use Rattle.std.proofs.Common.{inl, inr, ⊎_elim, arith}
use Rattle.std.proofs.lemmas.Result.{on_ok_weaker}
use Rattle.facts.specs.declared.contexts.Context.TheVariants.{Individual}
use Rattle.saturate.proofs.Flagging.{flagged_as, flagged_both}
use Rattle.saturate.proofs.asked_facts.flag_individual.Goals as goal

pub flag_numbers-requires : goal.flag_numbers-requires
flag_numbers-requires c = λ n there. c.requires (Individual c.args.individual) n (inl (rw c.classes_in.ensures at there))

pub flag_numbers-requires-2 : goal.flag_numbers-requires-2
flag_numbers-requires-2 c = λ n there. omega (arith, c.requires (Individual c.args.individual) n (inr (inl (rw c.edges_from.ensures at there))), c.flag_numbers.ensures.long)

pub flag_numbers-requires-3 : goal.flag_numbers-requires-3
flag_numbers-requires-3 c = λ n there. omega (arith, c.requires (Individual c.args.individual) n (inr (inr (rw c.edges_into.ensures at there))), c.flag_numbers.ensures.long, c.flag_numbers-2.ensures.long)

pub returns-clause-ok : goal.returns-clause-ok
returns-clause-ok c = on_ok_weaker c.flag_numbers-3.result
    (λ last. flagged_as _ _ (λ n. (
      (λ h. ⊎_elim (λ w. ⊎_elim (λ a. inl a) (λ b. inr (inl b)) w) (λ d. inr (inr d)) h),
      (λ h. ⊎_elim (λ a. inl (inl a)) (λ w. ⊎_elim (λ b. inl (inr b)) (λ d. inr d) w) h),
    ))
    (flagged_both _ _ (flagged_both _ _ (rw c.classes_in.ensures at c.in_ok-flag_numbers.ensures.ok) (rw c.edges_from.ensures at c.in_ok-flag_numbers-2.ensures.ok)) (rw c.edges_into.ensures at last)))
    c.flag_numbers-3.ensures.ok
