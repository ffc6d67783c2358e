use Rattle.exactness.proofs.Complete.{listed_is_model, listed_agrees, groups_are_elements, complete_below, complete_types}
use Rattle.exactness.proofs.Listed.{listed_exists, determined}
use Rattle.exactness.proofs.listed_interpretation.Goals as goal

pub returns : goal.returns
returns c = record {
  model = listed_is_model;
  agrees = listed_agrees;
  groups = groups_are_elements;
  complete = complete_below;
  types = complete_types;
  exists = listed_exists;
  determined = determined;
}
