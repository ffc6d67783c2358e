use Rattle.std.proofs.Common.{◌≡◌, ◌<◌, ◌↔◌, All, Bool, IsTrue, List, length, sym, ◌∙◌, subst, arith}
use Rattle.std.proofs.lemmas.Bool.{false≢true}
use Rattle.narrowing.specs.Gathered.{elements_of_lines}
use Rattle.narrowing.specs.Marked.{marked}
use Rattle.narrowing.proofs.Each.{counted, in_range_of, no_more}
use Rattle.narrowing.proofs.marks.stands_in_each.Goals as goal

pub returns-then-domain-count_of : goal.returns-then-domain-count_of
returns-then-domain-count_of c = (
  λ t. absurd (false≢true t),
  λ each. (let few = no_more c.args.listed.now each in absurd (omega (arith, few, c.if-domain-count_of.true, c.count_of.ensures))),
)

pub returns-then-not-mark_lines : goal.returns-then-not-mark_lines
returns-then-not-mark_lines c =
    let l = c.args.listed.now in
    let said = subst (λ (row : List Bool). IsTrue c.mark_lines.result ↔ All (λ x. x < length row) (elements_of_lines l)) c.in_ok-row.ensures c.mark_lines.ensures.in_range in (
      λ t. absurd (false≢true t),
      λ each. sym c.if-not-mark_lines.true ∙ said.1 (in_range_of l each),
    )

pub returns : goal.returns
returns c =
    let l = c.args.listed.now in
    let new = c.mark_lines.new.row in
    let said = subst (λ (row : List Bool). IsTrue c.mark_lines.result ↔ All (λ x. x < length row) (elements_of_lines l)) c.in_ok-row.ensures c.mark_lines.ensures.in_range in
    let after = subst (λ (row : List Bool). IsTrue c.mark_lines.result → new ≡ marked row (elements_of_lines l)) c.in_ok-row.ensures c.mark_lines.ensures.after in
    counted l new (said.0 c.if-not-mark_lines.false) (after c.if-not-mark_lines.false) c.count.result c.len.result c.count.ensures c.len.ensures
