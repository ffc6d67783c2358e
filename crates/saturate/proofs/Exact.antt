-- What the index lists, but for the number in hand, are exactly served facts.
use Rattle.std.proofs.Common.{◌≡◌, ℕ, ⊎_elim, inl, inr, List, [], ◌∷◌, ◌++◌, Option, Some, None, Contains, refl, sym, ◌∙◌, subst}
use Rattle.std.proofs.lemmas.List.{append-nil, append_cancel_right}
use Rattle.std.proofs.lemmas.List.Elements.{Contains-append_left, Contains-push, Contains-push_cases}
use Rattle.facts.specs.declared.contexts.Context.{Context}
use Rattle.facts.specs.declared.contexts.Fact.{Fact}
use Rattle.indexes.specs.declared.by_context.ByContext.{ByContext}
use Rattle.indexes.specs.Contexts.{at_context}
use Rattle.indexes.specs.FactIndex.{ListsIn}
use Rattle.indexes.specs.Parts.{ArePartOf}
use Rattle.indexes.proofs.Parts.{part_cases, part_contains, part_distinct}
use Rattle.saturate.specs.Turns.{Queued, IsServedOnce, IsWithoutHand, option_list}
use Rattle.saturate.specs.ServedFacts.{AreExactly}
use Rattle.saturate.specs.State.{Seen}

-- the rest of what is listed is a part of the served numbers, and has each of these that is listed
record IsRest (served list rest : List ℕ) : Type 0 where
  part : ArePartOf rest served
  listed : (n : ℕ) → Contains rest n → Contains list n
  all : (n : ℕ) → Contains list n → Contains served n → Contains rest n

without_none : (served list rest : List ℕ) → ArePartOf list (served ++ []) → rest ≡ list → IsRest served list rest
without_none served list rest p same = record {
  part = rw (same) (subst (λ (l : List ℕ). ArePartOf list l) (append-nil served) p);
  listed = λ n c. rw (same) at c;
  all = λ n c there. rw (same) c;
}

without_hand : (served list rest : List ℕ) (hand : ℕ) → (Contains served hand → ⊥) → ArePartOf list (served ++ hand ∷ []) → list ≡ rest ++ hand ∷ [] → IsRest served list rest
without_hand served list rest hand fresh p is = record {
  part = ⊎_elim
      (λ (q : ArePartOf list served). absurd (fresh (part_contains q hand (rw is (Contains-push rest hand)))))
      (λ v. subst (λ (l : List ℕ). ArePartOf l served) (append_cancel_right v.0 rest (hand ∷ []) (sym v.1 ∙ is)) v.2)
      (part_cases served hand p);
  listed = λ n c. rw is (Contains-append_left rest (hand ∷ []) n c);
  all = λ n c there. ⊎_elim
      (λ (d : Contains rest n). d)
      (λ e. absurd (fresh (subst (λ (i : ℕ). Contains served i) (sym e) there)))
      (Contains-push_cases rest hand n (subst (λ (l : List ℕ). Contains l n) is c));
}

hand_not_listed : (served list rest : List ℕ) (hand : ℕ) → ((front : List ℕ) → list ≡ front ++ hand ∷ [] → ⊥) → ArePartOf list (served ++ hand ∷ []) → rest ≡ list → IsRest served list rest
hand_not_listed served list rest hand other p same = record {
  part = rw (same) (⊎_elim (λ (q : ArePartOf list served). q) (λ v. absurd (other v.0 v.1)) (part_cases served hand p));
  listed = λ n c. rw (same) at c;
  all = λ n c there. rw (same) c;
}

is_rest : (served list rest : List ℕ) (hand : Option ℕ) → ((n : ℕ) → hand ≡ Some n → Contains served n → ⊥) → ArePartOf list (served ++ option_list hand) → IsWithoutHand hand list rest → IsRest served list rest
is_rest served list rest None fresh p same = without_none served list rest p same
is_rest served list rest (Some n) fresh p (inl is) = without_hand served list rest n (fresh n refl) p is
is_rest served list rest (Some n) fresh p (inr w) = hand_not_listed served list rest n (λ front e. w.1 (front, e)) p w.0

pub exactly : (has : Context → Fact → Type 0) (s : Seen) (q : Queued) (table : ByContext) (x : Context) (list numbers : List ℕ) → s.served ≡ q.served → ListsIn has s.facts q.served (q.served ++ option_list q.hand) table → IsServedOnce q → list ≡ at_context table x → IsWithoutHand q.hand list numbers
    → AreExactly (has x) s numbers
exactly has s q table x list numbers same lists turns is without =
    let part : ArePartOf list (q.served ++ option_list q.hand) = rw is (lists.order x) in
    let rest = is_rest q.served list numbers q.hand turns.fresh part without in
    record {
      once = part_distinct rest.part turns.distinct;
      each = λ n. (
        λ c.
            let there = part_contains rest.part n c in
            let o = lists.only x n (subst (λ (l : List ℕ). Contains l n) is (rest.listed n c)) in
            (rw same there, o.1, o.2, o.3),
        λ w. rest.all n (rw is (lists.all x n w.1 (rw same at w.0) w.2 w.3)) (rw same at w.0),
      );
      order = rw same rest.part;
    }
