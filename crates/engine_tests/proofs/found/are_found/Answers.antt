use Rattle.engine_tests.proofs.found.are_found.Goals as goal

-- src/found.rt:78:9
pub finds_and_lists-are_found-requires : goal.finds_and_lists-are_found-requires
finds_and_lists-are_found-requires c = (c.resume.ensures.saturates c.args.ontology.now c.in-Ok.ensures.sound).sound
