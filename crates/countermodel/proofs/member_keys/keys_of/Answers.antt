use Rattle.std.proofs.Common.{◌+◌, ℕ, List, take, ap, sym, ◌∙◌, subst}
use Rattle.std.specs.Global.{Vec}
use Rattle.countermodel.specs.Members.{HasKey, SayMembers}
use Rattle.countermodel.proofs.MemberKeys.{all_said, none_said, nothing_said, one_said}
use Rattle.countermodel.proofs.member_keys.keys_of.Goals as goal
use Rattle.countermodel.proofs.member_keys.keys_of.Goals.{in-Some+in_ok-push, in_default}

pub loop-fact-init : goal.loop-fact-init
loop-fact-init c =
    subst (λ (ks : List ℕ). SayMembers c.args.ontology.now c.args.elements.now (take 0 c.args.facts.now) (HasKey ks)) (sym c.new-keys.ensures.items) (none_said c.args.ontology.now c.args.elements.now c.args.facts.now)

pub loop-fact-preserved : goal.loop-fact-preserved
loop-fact-preserved c =
    let o = c.args.ontology.now in
    let elements = c.args.elements.now in
    let facts = c.args.facts.now in
    let k = c.loop-fact.fact-index in
    elim c.match-member.branch [
      | in-Some+in_ok-push w ↦
          subst (λ (ks : List ℕ). SayMembers o elements (take (k + 1) facts) (HasKey ks)) (sym (ap (λ (v : Vec ℕ). v.items) w.keys-is ∙ w.in_ok-push.ensures.items))
          (one_said o elements facts c.loop-fact.keys.items k _ c.loop-fact-test.true c.loop-fact.invariant c.requires _ w.in-Some.element (rw c.fact-item.is at w.in-Some.ensures) w.key_of.result w.key_of.ensures.class w.key_of.ensures.element)
      | in_default w ↦
          subst (λ (ks : List ℕ). SayMembers o elements (take (k + 1) facts) (HasKey ks)) (sym (ap (λ (v : Vec ℕ). v.items) w.keys-is))
          (nothing_said o elements facts c.loop-fact.keys.items k _ c.loop-fact-test.true c.loop-fact.invariant (rw c.fact-item.is at w.in_default.ensures))
    ]

pub returns : goal.returns
returns c = all_said c.args.ontology.now c.args.elements.now c.args.facts.now c.loop-fact.keys.items c.loop-fact.fact-index c.loop-fact-test.false c.loop-fact.invariant
