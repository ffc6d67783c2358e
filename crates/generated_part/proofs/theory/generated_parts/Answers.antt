use Rattle.generated_part.proofs.Keeping.{same, axiom_kept, model_kept}
use Rattle.generated_part.proofs.theory.generated_parts.Goals as goal

pub returns : goal.returns
returns c = record {
  hold = λ o w i part from new v g e m x le at. same o w i part from new v g e le m x at;
  satisfy = λ o w i part from new v g a of h. axiom_kept o w i part from new v g a of h;
  model = λ o w i part from new g p m. model_kept o w i part from new g p m;
}
