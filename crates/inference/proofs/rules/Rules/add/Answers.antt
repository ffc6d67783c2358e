use Rattle.std.proofs.Common.{◌≡◌, true, false, length, slice_get, Some, ap, sym, subst, arith}
use Rattle.std.proofs.lemmas.List.{length-map}
use Rattle.facts.specs.Births.{IsBirth}
use Rattle.facts.proofs.Premises.{two_suffice}
use Rattle.inference.proofs.Growth.{grows_same, one_too_many, put, put_there}
use Rattle.inference.proofs.Drawing.{draws}
use Rattle.inference.proofs.rules.Rules.add.Goals as goal

pub returns-then-len-self : goal.returns-then-len-self
returns-then-len-self c = record {
  grows = grows_same c.requires.derived;
  limit = λ e. one_too_many c.args.self.now.problem.now c.args.facts.now c.args.fact _ c.args.self.now.max_facts c.requires.derived c.requires.birth (c.found_at_limit.ensures.not e) (omega (arith, c.if-len-self.true, c.len.ensures.value));
  full = λ _. omega (arith, c.if-len-self.true, c.len.ensures.value);
  drawn = c.found_at_limit.ensures.there;
}

pub new-requires : goal.new-requires
new-requires c =
    let birth = c.requires.birth in
    omega (arith, two_suffice c.args.self.now.problem.now _ _ birth.0 c.args.fact birth.2, ap length birth.1, length-map c.args.older.now (slice_get c.args.facts.now.facts), length-map birth.0 (λ f. Some f))

pub returns : goal.returns
returns c =
    let birth = subst (IsBirth c.args.self.now.problem.now c.args.facts.now.facts c.args.fact) (sym c.new.ensures) c.requires.birth in
    let fresh = λ (yes : c.in_ok-put.field-0 ≡ true). c.in_ok-put.ensures.new cc in
    let known = λ (no : c.in_ok-put.field-0 ≡ false). c.in_ok-put.ensures.known cc in
    rw c.mark.ensures (draws
    (put c.args.self.now.problem.now c.args.self.now.max_facts c.args.facts.now _ c.args.fact _ c.in_ok-put.field-0 c.requires.derived birth (omega (arith, c.if-len-self.false, c.len.ensures.value)) fresh known)
    (put_there c.args.facts.now _ c.args.fact _ c.in_ok-put.field-0 fresh known))
