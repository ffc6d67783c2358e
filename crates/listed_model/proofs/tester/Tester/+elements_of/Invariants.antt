use Rattle.listed_model.proofs.tester.Tester.+elements_of.Given as goal

abbrev pub decreases-elements_of : goal.decreases-elements_of
decreases-elements_of l = l.expression.0
