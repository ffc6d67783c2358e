use Rattle.std.proofs.Common.{◌≡◌, ◌-◌, ◌++◌, ℕ, get_or, Result, Ok, Err, OnOk, subst, sym, ap, ◌∙◌, arith}
use Rattle.std.proofs.lemmas.Grind.{get_or_default_zero}
use Rattle.indexes.specs.Tables.{by_key, list_of, PutsLast}
use Rattle.indexes.proofs.Tables.{listed_first, puts_among, puts_behind}
use Rattle.indexes.proofs.table.put.Goals.{then-stands-eq0, else-stands-eq0}
use Rattle.indexes.proofs.table.put.Goals as goal

on_ok : {A E : Type 0} (r : Result A E) {P Q : Type 0} → OnOk r P → (P → Q) → OnOk r Q
on_ok (Ok x) h f = f h
on_ok (Err e) h f = tt

pub returns-then-stands-first-clause-ok : goal.returns-then-stands-first-clause-ok
returns-then-stands-first-clause-ok c =
    let keys = c.args.keys.now.items in
    let firsts = c.args.packed.now in
    let others = c.args.lists.now.items in
    let first = c.len-first.result in
    let place = c.index.result.now - 1 - first in
    on_ok c.push.result c.push.ensures.ok (λ is.
    subst (λ lists. PutsLast (by_key keys (firsts ++ others)) (by_key keys (firsts ++ lists)) c.args.key c.args.number) (sym is)
    (puts_among keys firsts others c.args.key first place c.args.number c.requires.table c.len-first.ensures
    (omega (arith, c.if-stands-first.true, c.index.ensures, get_or_default_zero keys c.args.key c.index.result.now c.requires.there))))

pub returns-clause-ok : goal.returns-clause-ok
returns-clause-ok c =
    let keys = c.args.keys.now.items in
    let firsts = c.args.packed.now in
    let others = c.args.lists.now.items in
    let stands : ℕ = get_or keys c.args.key 0 in
    let read : c.index.result.now ≡ stands = omega (arith, c.index.ensures, get_or_default_zero keys c.args.key c.index.result.now c.requires.there) in
    let is : c.if-stands-eq0.numbers.now ≡ list_of (firsts ++ others) stands = elim c.if-stands-eq0.branch [
      | then-stands-eq0 w ↦ rw w.numbers-is (sym (ap (list_of (firsts ++ others)) (let none : stands ≡ 0 = omega (arith, read, w.if-stands-eq0.true) in none)))
      | else-stands-eq0 w ↦ rw w.numbers-is (w.of-numbers.ensures ∙ sym (listed_first firsts others stands (c.index.result.now - 1) (omega (arith, read, w.if-stands-eq0.false)) (omega (arith, w.if-stands-eq0.false, c.if-stands-first.false, c.len-first.ensures))))
    ] in
    puts_behind keys firsts others c.begin.new.lists.items c.args.key c.args.number c.in_ok-keys.field-0 c.if-stands-eq0.numbers.now c.requires.table c.requires.there
    (omega (arith, c.in_ok-keys.ensures.stands, c.len-first.ensures)) is c.in_ok-keys.ensures.ok
