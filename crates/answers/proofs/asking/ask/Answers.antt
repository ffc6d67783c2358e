use Rattle.std.proofs.Common.{◌≡◌, ◌↔◌, List, ℕ, Option, IfSome, false, map, subst, sym, true}
use Rattle.std.specs.Borrow.{Bor}
use Rattle.std.specs.Global.{Vec}
use Rattle.answers.proofs.Knowing.{both_are_known, class_is_known, individual_is_known, none_known, some_known}
use Rattle.answers.specs.Questions.{AreKnown, AreRelated, IsAnswerTo}
use Rattle.answers.specs.declared.answer.Answer.TheVariants as answers
use Rattle.program.specs.declared.question.Question.{Question}
use Rattle.answers.proofs.asking.ask.Goals as goal

pub returns-in-Some-clause-exact : goal.returns-in-Some-clause-exact
returns-in-Some-clause-exact c =
    let o = c.args.indexed.now.ontology in
    let P : Option (Vec (Bor (List ℕ))) → Type 0 = λ found. IfSome found (λ v. AreRelated o c.in-Names.related c.in-Names.class.now (map (λ s. s.now) v.items)) in
    subst (λ (q : Question). IsAnswerTo o q (answers.Names c.in-Some.names)) (sym c.in-Names.is) (subst P c.in-Some.is c.in_ok-names-in-Names.ensures.exact)

pub returns-in-None-clause-known : goal.returns-in-None-clause-known
returns-in-None-clause-known c =
    let o = c.args.indexed.now.ontology in
    subst (λ (q : Question). (false ≡ true) ↔ AreKnown o q) (sym c.in-Names.is) (none_known c.in_ok-names-in-Names.field-0 c.in-None.is (class_is_known o c.in-Names.class.now) c.in_ok-names-in-Names.ensures.known)

pub returns-in-None-2-clause-known : goal.returns-in-None-2-clause-known
returns-in-None-2-clause-known c =
    let o = c.args.indexed.now.ontology in
    subst (λ (q : Question). (false ≡ true) ↔ AreKnown o q) (sym c.in-Groups.is) (none_known c.in_ok-groups-in-Groups.field-0 c.in-None-2.is (class_is_known o c.in-Groups.class.now) c.in_ok-groups-in-Groups.ensures.known)

pub returns-in-Some-3-clause-known : goal.returns-in-Some-3-clause-known
returns-in-Some-3-clause-known c =
    let o = c.args.indexed.now.ontology in
    subst (λ (q : Question). (true ≡ true) ↔ AreKnown o q) (sym c.in-Why.is) (some_known c.in_ok-explanation-in-Why.field-0 c.in-Some-3.explanation c.in-Some-3.is (both_are_known o c.in-Why.asked c.in-Why.class.now) c.in_ok-explanation-in-Why.ensures.known)

pub returns-in-None-4-clause-known : goal.returns-in-None-4-clause-known
returns-in-None-4-clause-known c =
    let o = c.args.indexed.now.ontology in
    subst (λ (q : Question). (false ≡ true) ↔ AreKnown o q) (sym c.in-Types.is) (none_known c.in_ok-names-in-Types.field-0 c.in-None-4.is (individual_is_known o c.in-Types.individual.now) c.in_ok-names-in-Types.ensures.known)

pub returns-in-None-5-clause-known : goal.returns-in-None-5-clause-known
returns-in-None-5-clause-known c =
    let o = c.args.indexed.now.ontology in
    subst (λ (q : Question). (false ≡ true) ↔ AreKnown o q) (sym c.in-DirectTypes.is)
    (none_known c.in_ok-groups-in-DirectTypes.field-0 c.in-None-5.is (individual_is_known o c.in-DirectTypes.individual.now) c.in_ok-groups-in-DirectTypes.ensures.known)

pub returns-in-Some-6-clause-known : goal.returns-in-Some-6-clause-known
returns-in-Some-6-clause-known c =
    let o = c.args.indexed.now.ontology in
    subst (λ (q : Question). (true ≡ true) ↔ AreKnown o q) (sym c.in-Lacks.is) (some_known c.in_ok-lacking-in-Lacks.field-0 c.in-Some-6.lacking c.in-Some-6.is (both_are_known o c.in-Lacks.asked c.in-Lacks.class.now) c.in_ok-lacking-in-Lacks.ensures.known)
