use Rattle.std.proofs.Common.{◌≡◌, All, false, refl, subst, sym, true}
use Rattle.answers.specs.Questions.{HasName, IsAnswerTo, names_in}
use Rattle.engine.specs.Closed.{Closed}
use Rattle.session.specs.Sessions.{Opened}
use Rattle.session.proofs.session.Session.ask.Goals as goal

pub returns-in-Ok-Some-clause-exact : goal.returns-in-Ok-Some-clause-exact
returns-in-Ok-Some-clause-exact c =
    let P : Closed → Type 0 = λ i. IsAnswerTo i.ontology c.args.question c.in-Ok-Some.answer in
    subst P c.in-Some.ensures.some (rw (c.in-Ok-Some.field-0-is) at c.in-Ok-Some.ensures.exact)

pub returns-in-Ok-Some-clause-asked : goal.returns-in-Ok-Some-clause-asked
returns-in-Ok-Some-clause-asked c =
    let P : Closed → Type 0 = λ i. All (HasName i.ontology) (names_in c.args.question) in
    let known = rw (c.in-Ok-Some.field-0-is) at c.in-Ok-Some.ensures.known in
    record { finished = c.in-Some.ensures.finished.0 refl; known = subst P c.in-Some.ensures.some (known.0 refl) }

pub first_unknown-name-requires : goal.first_unknown-name-requires
first_unknown-name-requires c =
    let P : Closed → Type 0 = λ i. All (HasName i.ontology) (names_in c.args.question) → ⊥ in
    let Q : Opened → Type 0 = λ s. All (HasName s.ontology) (names_in c.args.question) → ⊥ in
    let known = rw (c.in-Ok-None.field-0-is) at c.in-Ok-None.ensures.known in
    let none : P c.in-Some.indexed = λ all. let bad : false ≡ true = known.1 all in absurd (cc) in
    subst Q (sym c.self.view_is) (subst P c.in-Some.ensures.some none)
