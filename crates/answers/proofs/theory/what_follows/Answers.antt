use Rattle.classification.proofs.Following.{below_by_facts, members_by_facts, contradictory}
use Rattle.answers.proofs.LeftFollowing.{below_by_left, member_by_left}
use Rattle.answers.proofs.theory.what_follows.Goals as goal

pub returns-clause-classes : goal.returns-clause-classes
returns-clause-classes c = λ o s w h e f. below_by_facts o w s h e f

pub returns-clause-types : goal.returns-clause-types
returns-clause-types c = λ o s w h a f. members_by_facts o w s h a f

pub returns-clause-left_of_classes : goal.returns-clause-left_of_classes
returns-clause-left_of_classes c = λ o s w h e f root occurs. below_by_left o w s h f occurs e root

pub returns-clause-left_of_individuals : goal.returns-clause-left_of_individuals
returns-clause-left_of_individuals c = λ o s w h a f low occurs. member_by_left o w s h f occurs a low

pub returns-clause-contradiction : goal.returns-clause-contradiction
returns-clause-contradiction c = λ o s w h. contradictory o w s h
