use Rattle.exactness.proofs.Derivable.{derivable_iff}
use Rattle.exactness.proofs.Facts.{fact_derivable}
use Rattle.exactness.proofs.Trimmed.{trimmed_all, trimmed_is_trimmed}
use Rattle.exactness.proofs.derivations.Goals as goal

pub returns : goal.returns
returns c = record {
  derivable = derivable_iff;
  facts = λ o asked w fact f. fact_derivable o asked w f;
  trimmed = trimmed_all;
  computed = λ o lines goal line d e. trimmed_is_trimmed lines goal line d e;
}
