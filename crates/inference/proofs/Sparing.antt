-- Chains of which no chain needs what they give: how they are found.
use Rattle.std.proofs.Common.{◌≡◌, ◌↔◌, ◌<◌, ℕ, List, length, get_or, slice_get, Some, Contains, refl, subst}
use Rattle.std.proofs.lemmas.Option.{slice_get-get_or}
use Rattle.normal_forms.specs.declared.forms.Form.{Form}
use Rattle.normal_forms.specs.declared.forms.Form.TheVariants.{N6}
use Rattle.normal_forms.specs.declared.forms.PropId2.{PropId2}
use Rattle.normal_forms.specs.Properties.{IsAtOrBelow, IsChainFrom}
use Rattle.normal_forms.proofs.Suffice.{suffice}
use Rattle.property_closure.specs.PropertyClosures.{Known, Has}
use Rattle.indexes.specs.FormsUnderKeys.{IsUnder}
use Rattle.indexes.specs.Keys.{by_end, property_key}
use Rattle.inference.specs.PropertyClosures.{IsClosureOf}
use Rattle.inference.specs.Completeness.{AreJoined, IsJoined, IsSparedBy}
use Rattle.inference.specs.Visits.{NoneNeeds}
use Rattle.inference.proofs.Lists.{Contains-from_slice_get, one_value}

-- a chain from a property at or above the first, over the second, to the whole
pub joined_by : (forms : List Form) (closure : Known) (p q t : PropId2) (items : List PropId2) (i : ℕ) (d : PropId2) → IsClosureOf forms closure
    → ((s : PropId2) → Contains items s ↔ (Has closure p × IsAtOrBelow closure.forms p s)) → i < length items
    → (chains : List (PropId2 × PropId2)) → ((c : PropId2 × PropId2) → Contains chains c ↔ IsChainFrom closure.forms (get_or items i d) c)
    → (s : PropId2) × Contains chains (s, t) × IsAtOrBelow forms q s → IsJoined forms p q t
joined_by forms closure p q t items i d closed above low chains from link =
    let first : PropId2 = get_or items i d in
    let pair : PropId2 × PropId2 = (link.0, t) in
    let there = (above first).0 (Contains-from_slice_get items i first (slice_get-get_or items i d low)) in
    record {
      first = first;
      second = link.0;
      chain = (suffice forms first first pair).2.0 (subst (λ (list : List Form). IsChainFrom list first pair) closed.same ((from pair).0 link.1));
      begins = (suffice forms p first pair).0.0 (subst (λ (list : List Form). IsAtOrBelow list p first) closed.same there.1);
      ends = link.2;
    }

-- chains that end with a property, each of which is spared
pub none_needs : (forms : List Form) (a b s : PropId2) (numbers : List ℕ) → ((n : ℕ) → Contains numbers n ↔ IsUnder by_end forms (property_key s) n)
    → ((n : ℕ) → Contains numbers n → (form : Form) → slice_get forms n ≡ Some form → IsSparedBy forms a b form) → NoneNeeds forms a b s
none_needs forms a b s numbers exact spared n r t at = spared n ((exact n).1 (N6 r s t, at, refl)) (N6 r s t) at

-- the form that is read is the chain
pub spared_as : (forms : List Form) (n : ℕ) (r s t a b : PropId2) (form : Form) → slice_get forms n ≡ Some (N6 r s t) → slice_get forms n ≡ Some form → AreJoined forms r a b t → IsSparedBy forms a b form
spared_as forms n r s t a b form is at joined = subst (IsSparedBy forms a b) (one_value _ (N6 r s t) form is at) ∣ joined ∣₁
