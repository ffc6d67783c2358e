use Rattle.std.proofs.Common.{◌≡◌, ℕ, List, Option, None, subst}
use Rattle.std.specs.Global.{Vec}
use Rattle.std.specs.Prelude.{option_map}
use Rattle.speech.specs.Answers.{IsLineTold, Tells, axiom_at}
use Rattle.speech.proofs.session_service.SessionService.axiom.Goals as goal

pub returns-in-Ok-None : goal.returns-in-Ok-None
returns-in-Ok-None c =
    let s = c.args.self.now.session in
    let P : Option (Vec ℕ) → Type 0 = λ found. option_map (λ (v : Vec ℕ). v.items) found ≡ axiom_at s.ontology c.args.number in
    let Q : Option (List ℕ) → Type 0 = λ line. Tells (IsLineTold s c.args.spelling c.args.number line) c.no_axiom.result in
    let none : None ≡ axiom_at s.ontology c.args.number = subst P c.in-Ok-None.field-0-is c.in-Ok-None.ensures in
    subst Q none c.no_axiom.ensures
