use Rattle.std.proofs.Common.{ℕ, OnOk, Result, Ok, Err, length, refl, subst, sym}
use Rattle.std.proofs.lemmas.Result.{on_ok_weaker}
use Rattle.normal_forms.specs.declared.forms.Form.{Form}
use Rattle.indexes.specs.declared.form_lists.FormLists.{FormLists}
use Rattle.indexes.specs.declared.keys.Key.{Key}
use Rattle.indexes.specs.declared.roles.ByRole.{ByRole}
use Rattle.indexes.specs.FormIndex.{listed_at}
use Rattle.indexes.specs.Insertions.{AddsForm, PutsUnder}
use Rattle.indexes.proofs.grown_index.add.Goals as goal

both : {T E : Type 0} {P Q R : Type 0} (r : Result T E) → OnOk r P → OnOk r Q → (P → Q → R) → OnOk r R
both (Ok x) p q f = f p q
both (Err e) p q f = tt

pub returns-in-N4 : goal.returns-in-N4
returns-in-N4 c =
    let old = c.args.index.now in
    let new : ByRole FormLists = record old { fillers = c.put_in_place.new.self } in
    let number = c.args.number in
    both c.put_in_place.result c.put_in_place.ensures.put c.put_in_place.ensures.order
    (λ puts order. subst (λ (form : Form). AddsForm c.args.forms.now old new form number) (sym c.in-N4.is) (record {
      kinds = refl;
      alone = refl;
      first = refl;
      second = refl;
      fillers = (subst (λ (k : Key). (many : ℕ) × PutsUnder old.fillers c.put_in_place.new.self k many number) c.key_of_class-in-N4.ensures puts, order);
      chains = refl;
      ends = refl;
      plain = refl;
      linked_first = refl;
      linked_second = refl;
      denied = refl;
    }))

pub returns-in_ok-put_in_place-in-N6 : goal.returns-in_ok-put_in_place-in-N6
returns-in_ok-put_in_place-in-N6 c =
    let old = c.args.index.now in
    let new : ByRole FormLists = record old { chains = c.put_in_place-in-N6.new.self; ends = c.push-in-N6.new.self } in
    let number = c.args.number in
    let put = c.in_ok-put_in_place-in-N6.ensures in
    on_ok_weaker c.push-in-N6.result
    (λ puts. subst (λ (form : Form). AddsForm c.args.forms.now old new form number) (sym c.in-N6.is) (record {
      kinds = refl;
      alone = refl;
      first = refl;
      second = refl;
      fillers = refl;
      chains = (subst (λ (k : Key). (many : ℕ) × PutsUnder old.chains c.put_in_place-in-N6.new.self k many number) c.key_of_property.ensures put.put, put.order);
      ends = subst (λ (k : Key). PutsUnder old.ends c.push-in-N6.new.self k (length (listed_at old.ends k)) number) c.key_of_property-in-N6.ensures puts;
      plain = refl;
      linked_first = refl;
      linked_second = refl;
      denied = refl;
    }))
    c.push-in-N6.ensures
