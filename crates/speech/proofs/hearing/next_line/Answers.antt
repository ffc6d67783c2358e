use Rattle.std.proofs.Common.{◌∙◌, ◌∷◌, [], sym, subst}
use Rattle.std.proofs.lemmas.Bool.Decides.{Decides-eqb}
use Rattle.std.proofs.lemmas.Slice.Eq.{strip_suffix_is}
use Rattle.source_lines.specs.Sources.{source_state}
use Rattle.speech.specs.Conversations.{LacksLine}
use Rattle.speech.specs.declared.input_fault.InputFault.{InputFault}
use Rattle.speech.proofs.Coming.{cut_line, lacks_line, some_bytes}
use Rattle.speech.proofs.hearing.next_line.Goals as goal

pub returns-in-Err : goal.returns-in-Err
returns-in-Err g c =
    let P : InputFault → Type 0 = λ fault. LacksLine fault c.args.lines.now.ahead (source_state g.S.Source c.args.source.now) (source_state g.S.Source c.advance.new.source) in
    subst P (sym c.input_fault.ensures) (lacks_line c.in-Err.fault c.args.lines.now (source_state g.S.Source c.args.source.now) (source_state g.S.Source c.advance.new.source) c.in-Err.ensures.fault)

pub returns-else-is_empty : goal.returns-else-is_empty
returns-else-is_empty g c =
    let none = rw c.in_default-strip_suffix.is at (strip_suffix_is Decides-eqb c.line.result.now (10 ∷ []) c.strip_suffix.result c.strip_suffix.ensures.cases) in
    cut_line c.args.lines.now c.advance.new.self (source_state g.S.Source c.args.source.now) (source_state g.S.Source c.advance.new.source) c.in_default.ensures.ok
    (λ front e. none front (c.line.ensures ∙ e))
    (λ e. some_bytes c.line-in_default-strip_suffix.result.now c.is_empty.result c.is_empty.ensures c.if-is_empty.false (c.line-in_default-strip_suffix.ensures ∙ e))
