-- Normal forms and roots make what the closure speaks of.
use Rattle.std.proofs.Common.{◌≡◌, ℕ, List, map, slice_get, Some, Contains, refl, sym, ap, ◌∙◌, subst}
use Rattle.std.proofs.lemmas.Option.{same_Some, slice_get_within}
use Rattle.lemmas.proofs.Mapped.{slice_get_map, slice_get_map_from}
use Rattle.lemmas.proofs.Members.{Contains-from_slice_get, slice_get-from_Contains}
use Rattle.axioms.specs.Ontology.{Ontology}
use Rattle.normal_forms.specs.declared.forms.Class2 as code_class
use Rattle.normal_forms.specs.declared.forms.Class2.TheVariants as classes
use Rattle.normal_forms.specs.declared.forms.PropId2 as code_property
use Rattle.normal_forms.specs.declared.forms.PropId2.TheVariants as properties
use Rattle.normal_forms.specs.declared.forms.Form as code_form
use Rattle.normal_forms.specs.declared.forms.Form.TheVariants as forms
use Rattle.normal_forms.specs.declared.forms.Origin.{Origin}
use Rattle.normal_forms.specs.Forms.{Class2, Property2, Form, IsForm}
use Rattle.facts.specs.declared.contexts.Context.{Context}
use Rattle.closure.specs.Denotations as closure
use Rattle.closure.specs.Denotations.{Prefixes, whole, prefix, property, steps, n1, n2, n3, n4, n5, n6, n7, n8, n9, n10, n12, SaysForm, IsSaid, by_form, by_classes, by_individuals, IsProblemOf}
use Rattle.normalise.specs.declared.entries.Entry.{Entry}
use Rattle.normalise.specs.Entries.{form_in}
use Rattle.normalise.specs.Growth.{IsHeldAt, IsNormalFor}
use Rattle.normalise.specs.Listing.{Listing}
use Rattle.normalise.specs.View.{SaysClass, SaysProperty, Says, Place, AtEntry, AtClasses, AtIndividuals}
use Rattle.normalise.proofs.Grown.{listed_forms}
use Rattle.normalise.specs.Problem.{prefixes_of, problem_of}
use Rattle.normalise.specs.Roots.{AreRoots}

module _ (b : Prefixes) where
  says_class : (a : code_class.Class2) (c : Class2) → SaysClass b.operands a c → closure.SaysClass b a c
  says_class (classes.Expr e) c is = subst (closure.SaysClass b (classes.Expr e)) (sym is) (whole refl)
  says_class (classes.Partial n) c (ds, at, is) = subst (closure.SaysClass b (classes.Partial n)) (sym is) (prefix at)

  says_property : (p : code_property.PropId2) (q : Property2) → SaysProperty b.steps p q → closure.SaysProperty b p q
  says_property (properties.Property p) q is = subst (closure.SaysProperty b (properties.Property p)) (sym is) (property refl)
  says_property (properties.Partial n) q (rs, at, is) = subst (closure.SaysProperty b (properties.Partial n)) (sym is) (steps at)

  pub says_form : (f : code_form.Form) (g : Form) → Says b.operands b.steps f g → SaysForm b f g
  says_form (forms.N1 a c) g (x, y, sx, sy, is) = subst (SaysForm b (forms.N1 a c)) (sym is) (n1 (says_class a x sx) (says_class c y sy))
  says_form (forms.N2 a c d) g (x, y, z, sx, sy, sz, is) = subst (SaysForm b (forms.N2 a c d)) (sym is) (n2 (says_class a x sx) (says_class c y sy) (says_class d z sz))
  says_form (forms.N3 a r e) g (x, sx, is) = subst (SaysForm b (forms.N3 a r e)) (sym is) (n3 (says_class a x sx) refl refl)
  says_form (forms.N4 r a c) g (x, y, sx, sy, is) = subst (SaysForm b (forms.N4 r a c)) (sym is) (n4 refl (says_class a x sx) (says_class c y sy))
  says_form (forms.N5 r s) g is = subst (SaysForm b (forms.N5 r s)) (sym is) (n5 refl refl)
  says_form (forms.N6 p q r) g (x, y, z, sx, sy, sz, is) = subst (SaysForm b (forms.N6 p q r)) (sym is) (n6 (says_property p x sx) (says_property q y sy) (says_property r z sz))
  says_form (forms.N7 r) g is = subst (SaysForm b (forms.N7 r)) (sym is) (n7 refl)
  says_form (forms.N8 i a) g (x, sx, is) = subst (SaysForm b (forms.N8 i a)) (sym is) (n8 refl (says_class a x sx))
  says_form (forms.N9 i r j) g is = subst (SaysForm b (forms.N9 i r j)) (sym is) (n9 refl refl refl)
  says_form (forms.N10 i j) g is = subst (SaysForm b (forms.N10 i j)) (sym is) (n10 refl refl)
  says_form (forms.N12 i r j) g is = subst (SaysForm b (forms.N12 i r j)) (sym is) (n12 refl refl refl)

module _ (o : Ontology) (v : Listing) (normal : IsNormalFor o v) where
  -- the form of an entry says a form of the definition
  entry_says : (n : ℕ) (entry : Entry) → slice_get v.entries n ≡ Some entry → (g : Form) × SaysForm (prefixes_of v) entry.form g × IsForm o v.asked g
  entry_says n entry at =
      let (by, (g, (f, there, says), form)) = (listed_forms o v normal).0 n (slice_get_within v.entries n entry at) in
      let same : f ≡ entry.form = ap form_in (same_Some _ entry (sym there ∙ at)) in
      (g, subst (λ (x : code_form.Form). SaysForm (prefixes_of v) x g) same (says_form (prefixes_of v) f g says), form)

  each_form : (f : code_form.Form) → Contains (map form_in v.entries) f → (g : Form) × SaysForm (prefixes_of v) f g × IsForm o v.asked g
  each_form f there =
      let (n, at) = slice_get-from_Contains (map form_in v.entries) f there in
      let (entry, at_n, is) = slice_get_map_from form_in v.entries n f at in
      let (g, says, form) = entry_says n entry at_n in
      (g, subst (λ (x : code_form.Form). SaysForm (prefixes_of v) x g) is says, form)

  module _ (roots : List Context) where
    -- what is held is said: by an entry, or by a list of what is apart
    held_said : (p : Place) (by : Origin) (g : Form) → IsHeldAt v p by g → IsSaid (prefixes_of v) (problem_of v roots) g
    held_said (AtEntry n) by g (f, at, says) =
        by_form f (Contains-from_slice_get (map form_in v.entries) n f (slice_get_map form_in v.entries n _ at)) (says_form (prefixes_of v) f g says)
    held_said (AtClasses l m n) by g h =
        subst (IsSaid (prefixes_of v) (problem_of v roots)) (sym h.form) (by_classes l h.one h.other (h.members, h.there, (m, n, h.later, h.at_first, h.at_second)))
    held_said (AtIndividuals l m n) by g h =
        subst (IsSaid (prefixes_of v) (problem_of v roots)) (sym h.form) (by_individuals l h.one h.other (h.members, h.there, (m, n, h.later, h.at_first, h.at_second)))

    all_forms : (g : Form) → IsForm o v.asked g → IsSaid (prefixes_of v) (problem_of v roots) g
    all_forms g form =
        let (by, (p, held)) = (listed_forms o v normal).3 g form in
        held_said p by g held

  pub makes_the_problem : (roots : List Context) → AreRoots o v.asked roots → IsProblemOf o v.asked (prefixes_of v) (problem_of v roots)
  makes_the_problem roots are = record {
    distinct_operands = normal.operands;
    distinct_steps = normal.steps;
    each_form = each_form;
    each_disjoint = (listed_forms o v normal).1;
    each_different = (listed_forms o v normal).2;
    all_forms = all_forms roots;
    each_root = are.each;
    all_roots = are.all;
  }
