use Rattle.std.proofs.Common.{◌≡◌, ◌<◌, Contains, Some, slice_get, length, string_bytes, refl, sym, subst, ap, ◌∙◌, arith}
use Rattle.std.proofs.lemmas.List.{length-map}
use Rattle.lemmas.proofs.Members.{Contains-from_slice_get}
use Rattle.axioms.specs.Fields.{kept_ontology}
use Rattle.axioms.specs.WellFormedness.{IsOntology}
use Rattle.std.proofs.lemmas.Option.{slice_get-get_or, slice_get_within}
use Rattle.axioms.proofs.Keeping.{declares_present, declares_new}
use Rattle.axioms.proofs.Insertions.{text_placed, text_absent}
use Rattle.axioms.proofs.ontology.Ontology.class.Goals as goal

pub returns-in-Some-clause-ok : goal.returns-in-Some-clause-ok
returns-in-Some-clause-ok c =
    let items = c.self.inside.class_expressions.items in
    let within : c.in-Some.number < length items = omega (arith, slice_get_within c.self.inside.classes.keys c.in-Some.number c.in-Some.ensures.found.0 c.in-Some.ensures.found.1, c.self.invariant.long) in
    let at : slice_get items c.in-Some.number ≡ Some c.index.result.now = slice_get-get_or items c.in-Some.number c.index.result.now within ∙ ap Some (sym c.index.ensures) in
    rw (← c.self.view_is) (declares_present (kept_ontology c.self.inside) c.args.iri.now c.in-Some.number c.index.result.now.0
    (text_placed c.args.iri.now c.self.inside.classes.keys c.in-Some.number c.in-Some.ensures.found) (c.self.invariant.each c.in-Some.number c.index.result.now at))

pub returns-in-Some-clause-full : goal.returns-in-Some-clause-full
returns-in-Some-clause-full c =
    let at = text_placed c.args.iri.now c.self.inside.classes.keys c.in-Some.number c.in-Some.ensures.found in
    let there : Contains c.args.self.now.names.classes c.args.iri.now = rw (← c.self.view_is) (Contains-from_slice_get _ c.in-Some.number c.args.iri.now at) in
    (λ h. cc, λ full. absurd (full.0 there))

pub returns-then-len-ge-MOST_NAMES-clause-full : goal.returns-then-len-ge-MOST_NAMES-clause-full
returns-then-len-ge-MOST_NAMES-clause-full c =
    let absent = text_absent c.args.iri.now c.self.inside.classes.keys c.in_default.ensures.absent in
    rw (← c.self.view_is) (λ h. (absent, omega (arith, length-map c.self.inside.classes.keys string_bytes)), λ full. refl)

pub new_class-requires : goal.new_class-requires
new_class-requires c = record {
  new = rw (← c.self.view_is, c.in_ok-text.ensures.ok) (text_absent c.args.iri.now c.self.inside.classes.keys c.in_default.ensures.absent);
  room = rw (← c.self.view_is) (omega (arith, length-map c.self.inside.classes.keys string_bytes));
}

pub returns-clause-ok : goal.returns-clause-ok
returns-clause-ok c =
    let absent = subst (λ o. Contains o.names.classes c.args.iri.now → ⊥) c.self.view_is (text_absent c.args.iri.now c.self.inside.classes.keys c.in_default.ensures.absent) in
    let whole = subst IsOntology c.self.view_is c.self.invariant.ontology in
    let grown = rw c.in_ok-text.ensures.ok at c.in_ok-new_class.ensures.ok in
    declares_new c.args.self.now whole c.args.iri.now absent c.new_class.new.self _ _ c.in_ok-new_class.ensures.number c.in_ok-new_class.ensures.place grown
