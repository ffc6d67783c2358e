use Rattle.std.proofs.Common.{Bool, List, ℕ, count_by, ap, sym, ◌∙◌, subst}
use Rattle.number_sets.specs.Words.{IsRow, bits_of}
use Rattle.number_sets.proofs.row.Row.count.Goals as goal

pub count_words-requires : goal.count_words-requires
count_words-requires c = subst (IsRow c.self.inside.len) (sym c.as_slice.ensures) c.self.invariant

pub returns : goal.returns
returns c =
    let n = c.self.inside.len in
    c.count_words.ensures ∙ ap (λ (ws : List ℕ). count_by (λ (b : Bool). b) (bits_of n ws)) c.as_slice.ensures ∙ ap (count_by (λ (b : Bool). b)) c.self.view_is
