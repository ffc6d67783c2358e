use Rattle.std.proofs.Common.{◌≡◌, ◌+◌, ◌<◌, ℕ, zero, suc, List, [], ◌∷◌, ◌++◌, All, true, eqb, length, subst, ap, sym, inl, inr, ◌∙◌, arith}
use Rattle.std.specs.Prelude.{◌==◌}
use Rattle.std.specs.List.{list_any}
use Rattle.std.proofs.lemmas.Bool.{eqb-true, false≢true, or_cases}
use Rattle.std.proofs.lemmas.List.{length-append}
use Rattle.std.proofs.lemmas.List.Elements.{All-head, All-tail}
use Rattle.taxonomy.specs.Relation.{is_listed}
use Rattle.checking_tests.proofs.relations.type_lists.Goals as goal

among_all : (n : ℕ) (xs : List ℕ) (d : ℕ) → All (λ k. k < n) xs → list_any (λ x. x == d) xs ≡ true → d < n
among_all n [] d all e = absurd (false≢true e)
among_all n (x ∷ xs) d all e =
    elim (or_cases (eqb x d) (list_any (λ y. y == d) xs) e) [
      | inl q ↦ let same = eqb-true x d q in let low : x < n = All-head (λ k. k < n) x xs all in omega (arith, same, low)
      | inr q ↦ among_all n xs d (All-tail (λ k. k < n) x xs all) q
    ]

pushed_within : (lists : List (List ℕ)) (list : List ℕ) (n : ℕ) → ((a d : ℕ) → is_listed lists a d ≡ true → d < n) → All (λ k. k < n) list → (a d : ℕ) → is_listed (lists ++ list ∷ []) a d ≡ true → d < n
pushed_within [] list n h all zero d e = among_all n list d all e
pushed_within [] list n h all (suc a) d e = absurd (false≢true e)
pushed_within (first ∷ lists) list n h all zero d e = h 0 d e
pushed_within (first ∷ lists) list n h all (suc a) d e = pushed_within lists list n (λ b f m. h (suc b) f m) all a d e

pub loop-a-preserved : goal.loop-a-preserved
loop-a-preserved c =
    let lists = c.loop-a.lists in
    let list = c.deref.result.now in
    let grown = c.in_ok-push_list.ensures.ok in
    let all : All (λ k. k < c.args.n) list = subst (All (λ k. k < c.args.n)) (sym c.deref.ensures.value) c.in_ok-list_of.ensures in
    record {
      long = ap length grown ∙ length-append lists (list ∷ []) ∙ ap (λ m. m + 1) c.loop-a.invariant.long;
      within = λ a d e. pushed_within lists list c.args.n c.loop-a.invariant.within all a d (ap (λ ls. is_listed ls a d) (sym grown) ∙ e);
    }
