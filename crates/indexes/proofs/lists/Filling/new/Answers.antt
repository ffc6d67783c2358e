use Rattle.std.proofs.Common.{◌≡◌, ◌-◌, ◌++◌, List, ℕ, length, slice_index, ap, ap₂, ◌∙◌, arith}
use Rattle.indexes.proofs.Counting.{last_end}
use Rattle.indexes.proofs.lists.Filling.new.Goals as goal

pub returns : goal.returns
returns c =
    let starts = c.in_ok-starts.starts.items in
    record {
      starts = c.in_ok-starts.ensures;
      next = c.in_ok-extend_from_slice.ensures.items ∙ ap₂ (λ (xs ys : List ℕ). xs ++ ys) c.in_ok-next.ensures.items c.deref.ensures.value;
      long =
          let end : c.last_of.result ≡ slice_index starts (length starts - 1) = c.last_of.ensures ∙ ap (λ (xs : List ℕ). slice_index xs (length xs - 1)) c.deref-2.ensures.value in
          let long : length c.in_ok-numbers.numbers.items ≡ c.last_of.result = omega (arith, c.in_ok-numbers.ensures.len) in
          long ∙ end ∙ last_end c.args.counts.now starts c.in_ok-starts.ensures;
    }
