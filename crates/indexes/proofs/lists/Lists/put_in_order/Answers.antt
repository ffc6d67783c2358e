use Rattle.std.proofs.Common.{◌≡◌, ◌↔◌, ◌+◌, ◌≤◌, ℕ, List, length, slice_index, Contains, sym, ap, subst, subst₂, ◌∙◌, arith}
use Rattle.std.proofs.lemmas.List.{with_items_is}
use Rattle.indexes.specs.Lists.{list_at, AreAllListed}
use Rattle.indexes.specs.Seconds.{IsInOrder}
use Rattle.indexes.proofs.Order.{still_listed}
use Rattle.indexes.proofs.lists.Lists.put_in_order.Goals as goal

pub invariant_of-self : goal.invariant_of-self
invariant_of-self c =
    let lists = c.args.self.now in
    let starts = lists.starts.items in
    let new = c.put_all_in_order.new.numbers in
    let long : length new ≡ length lists.numbers.items = c.put_all_in_order.ensures.long ∙ ap length c.deref_mut.ensures.value in
    let is = with_items_is lists.numbers new (c.put_all_in_order.ensures.long ∙ c.deref_mut.ensures.len) in
    let same = subst₂ (λ (s old : List ℕ). (k n : ℕ) → Contains (list_at s new k) n ↔ Contains (list_at s old k) n) c.deref.ensures.value c.deref_mut.ensures.value c.put_all_in_order.ensures.same in
    record {
      within = λ k low. let w = lists.within k low in (w.0, subst (λ (numbers : List ℕ). slice_index starts (k + 1) ≤ length numbers) (sym is) (omega (arith, w.1, long)));
      listed = subst (AreAllListed starts) (sym is) (still_listed starts lists.numbers.items new long same lists.listed);
    }

pub returns-clause-same : goal.returns-clause-same
returns-clause-same c =
    let lists = c.args.self.now in
    let new = c.put_all_in_order.new.numbers in
    let is = with_items_is lists.numbers new (c.put_all_in_order.ensures.long ∙ c.deref_mut.ensures.len) in
    subst (λ (numbers : List ℕ). (k n : ℕ) → Contains (list_at lists.starts.items numbers k) n ↔ Contains (list_at lists.starts.items lists.numbers.items k) n) (sym is)
    (subst₂ (λ (s old : List ℕ). (k n : ℕ) → Contains (list_at s new k) n ↔ Contains (list_at s old k) n) c.deref.ensures.value c.deref_mut.ensures.value c.put_all_in_order.ensures.same)

pub returns-clause-order : goal.returns-clause-order
returns-clause-order c =
    let lists = c.args.self.now in
    let forms = c.args.forms.now in
    let new = c.put_all_in_order.new.numbers in
    let is = with_items_is lists.numbers new (c.put_all_in_order.ensures.long ∙ c.deref_mut.ensures.len) in
    subst (λ (numbers : List ℕ). (k : ℕ) → IsInOrder forms (list_at lists.starts.items numbers k)) (sym is)
    (subst (λ (s : List ℕ). (k : ℕ) → IsInOrder forms (list_at s new k)) c.deref.ensures.value c.put_all_in_order.ensures.order)
