use Rattle.std.proofs.Common.{ℕ, List, Contains, sym, subst}
use Rattle.std.specs.declared.cmp.Ordering.TheVariants.{Less}
use Rattle.std.proofs.lemmas.Cmp.{ranked}
use Rattle.answer_texts.proofs.cited.cited.Goals as goal

pub returns : goal.returns
returns c =
    let sorted = c.sort_ascending.ensures in record {
      exactly = λ n. let same = sorted.same n in (
        λ h. subst (λ (xs : List ℕ). Contains xs n) c.in_ok-numbers.ensures (same.0 h),
        λ h. same.1 (subst (λ (xs : List ℕ). Contains xs n) (sym c.in_ok-numbers.ensures) h),
      );
      ascend = λ i j d l within. ranked _ _ Less (sym (sorted.ascending i j d l within));
    }
