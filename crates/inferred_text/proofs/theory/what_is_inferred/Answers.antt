use Rattle.inferred_text.proofs.ReadsBack.{reads_back}
use Rattle.inferred_text.proofs.SameSaid.{found_say_the_same}
use Rattle.inferred_text.proofs.theory.what_is_inferred.Goals as goal

pub returns-clause-same : goal.returns-clause-same
returns-clause-same c = found_say_the_same

pub returns-clause-reads : goal.returns-clause-reads
returns-clause-reads c = reads_back

pub returns-clause-says : goal.returns-clause-says
returns-clause-says c = λ o outcome taken made follows. record {
  axioms = _;
  same = found_say_the_same o outcome taken.well_formed made follows;
  reads = λ version. reads_back version o outcome taken.well_formed taken.few_names taken.sayable made;
}
