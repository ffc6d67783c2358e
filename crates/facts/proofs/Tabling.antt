-- Tables of facts: slots of homes, and marks, with one fact more, one home more, or fewer facts.
use Rattle.std.proofs.Common.{◌≡◌, ◌≢◌, ℕ, zero, suc, ◌+◌, ◌<◌, inl, inr, List, [], ◌∷◌, ◌++◌, length, get_or, set, take, slice_get, None, Some, Contains, refl, sym, ap, ◌∙◌, subst, arith}
use Rattle.std.specs.List.{AllZip}
use Rattle.std.proofs.lemmas.Bool.{cases_eq}
use Rattle.std.proofs.lemmas.List.{length_push}
use Rattle.std.proofs.lemmas.List.Elements.{Contains-append_cases, Contains-append_left, Contains-append_right}
use Rattle.std.proofs.lemmas.Option.{none-some, same_Some, slice_get_within}
use Rattle.lemmas.proofs.Members.{Contains-one, slice_get-from_Contains}
use Rattle.lemmas.proofs.Places.{keeps_push, slice_get_push, slice_get_push_cases, slice_get_take}
use Rattle.facts.specs.declared.contexts.Fact.{Fact}
use Rattle.facts.specs.declared.links.TheConstants.{MANY}
use Rattle.facts.specs.declared.marks.Marks.{Marks}
use Rattle.facts.specs.declared.seeds.Seeds.{Seeds}
use Rattle.facts.specs.declared.slots.Slots.{Slots}
use Rattle.facts.specs.Chains.{home_of}
use Rattle.facts.specs.Slots.{AreSame, HasSlots, Holds, StillHolds}
use Rattle.facts.specs.Tables.{AreMarked, HasHome, HoldHome}
use Rattle.facts.proofs.Placing.{read_at, same_table, set_elsewhere, set_here}

-- homes lead to slots that hold their facts
abbrev pub Lead : Seeds → List Fact → List ℕ → List Slots → Type 0
Lead seeds facts numbers slots = (home place : ℕ) → get_or numbers home 0 ≡ place + MANY → HasHome seeds facts slots home place

-- the slots that are read where a home leads
pub read_slots : (slots : List Slots) (place : ℕ) (table read : Slots) → slice_get slots place ≡ Some table → read ≡ get_or slots place read → table ≡ read
read_slots slots place table read at is = same_table slots place table read at (read_at slots place read (slice_get_within slots place table at) is)

-- a fact that is not held is not there
pub none_there : (seeds : Seeds) (facts : List Fact) (table : Slots) (fact : Fact) → HoldHome seeds facts (home_of fact) table →
    ((place : ℕ) → slice_get facts place ≡ Some fact → Holds seeds table fact place → ⊥) → Contains facts fact → ⊥
none_there seeds facts table fact holds absent member =
    let (place, there) = slice_get-from_Contains facts fact member in
    absent place there (holds place fact there refl)

-- slots that hold what they held
pub lead_grown : (seeds : Seeds) (facts : List Fact) (numbers : List ℕ) (slots : List Slots) (place : ℕ) (old new : Slots) → slice_get slots place ≡ Some old → HasSlots new →
    StillHolds seeds facts old new → Lead seeds facts numbers slots → Lead seeds facts numbers (set slots place new)
lead_grown seeds facts numbers slots place old new there has still leads home p is =
    let was = leads home p is in
    elim (cases_eq p place) [
      | inl e ↦ record {
        table = new;
        at = rw e (set_here slots place new old there);
        has = has;
        holds = λ q fact at same. still q fact at (subst (λ t. Holds seeds t fact q) (same_table slots place was.table old (rw (← e) was.at) there) (was.holds q fact at same));
      }
      | inr ne ↦ record {
        table = was.table;
        at = set_elsewhere slots place p new ne ∙ was.at;
        has = was.has;
        holds = was.holds;
      }
    ]

-- a fact more, which the slots of its home hold
pub lead_push : (seeds : Seeds) (facts : List Fact) (numbers : List ℕ) (slots : List Slots) (place : ℕ) (old new : Slots) (fact : Fact) →
    get_or numbers (home_of fact) 0 ≡ place + MANY → slice_get slots place ≡ Some old → HasSlots new → StillHolds seeds facts old new → Holds seeds new fact (length facts) →
    Lead seeds facts numbers slots → Lead seeds (facts ++ fact ∷ []) numbers (set slots place new)
lead_push seeds facts numbers slots place old new fact leads_here there has still holds leads home p is =
    let was = leads home p is in
    elim (cases_eq p place) [
      | inl e ↦ record {
        table = new;
        at = rw e (set_here slots place new old there);
        has = has;
        holds = λ q other at same. elim (slice_get_push_cases facts fact q other at) [
          | inl before ↦ still q other before (subst (λ t. Holds seeds t other q) (same_table slots place was.table old (rw (← e) was.at) there) (was.holds q other before same))
          | inr (last, one) ↦ subst (λ f. Holds seeds new f q) one (rw last holds)
        ];
      }
      | inr ne ↦ record {
        table = was.table;
        at = set_elsewhere slots place p new ne ∙ was.at;
        has = was.has;
        holds = λ q other at same. elim (slice_get_push_cases facts fact q other at) [
          | inl before ↦ was.holds q other before same
          | inr (last, one) ↦ absurd (ne (omega (arith, is, leads_here, ap (λ h. get_or numbers h 0) (ap home_of one ∙ same))))
        ];
      }
    ]

-- a fact more, whose home leads nowhere
pub lead_other : (seeds : Seeds) (facts : List Fact) (numbers : List ℕ) (slots : List Slots) (fact : Fact) → get_or numbers (home_of fact) 0 < MANY →
    Lead seeds facts numbers slots → Lead seeds (facts ++ fact ∷ []) numbers slots
lead_other seeds facts numbers slots fact nowhere leads home p is =
    let was = leads home p is in
    record {
      table = was.table;
      at = was.at;
      has = was.has;
      holds = λ q other at same. elim (slice_get_push_cases facts fact q other at) [
        | inl before ↦ was.holds q other before same
        | inr (last, one) ↦ absurd (omega (arith, is, nowhere, ap (λ h. get_or numbers h 0) (ap home_of one ∙ same)))
      ];
    }

-- slots more, to which a home leads
pub lead_more : (seeds : Seeds) (facts : List Fact) (numbers numbers' : List ℕ) (slots : List Slots) (home : ℕ) (table : Slots) → HasSlots table → HoldHome seeds facts home table →
    get_or numbers' home 0 ≡ length slots + MANY → ((i : ℕ) → i ≢ home → get_or numbers' i 0 ≡ get_or numbers i 0) → Lead seeds facts numbers slots → Lead seeds facts numbers' (slots ++ table ∷ [])
lead_more seeds facts numbers numbers' slots home table has holds here others leads h p is =
    elim (cases_eq h home) [
      | inl e ↦
          let last : p ≡ length slots = omega (arith, is, here, ap (λ i. get_or numbers' i 0) e) in
          record { table = table; at = rw last (slice_get_push slots table); has = has; holds = rw e holds }
      | inr ne ↦
          let was = leads h p (sym (others h ne) ∙ is) in
          record { table = was.table; at = keeps_push slots table p was.table was.at; has = was.has; holds = was.holds }
    ]

-- the first so many facts
pub lead_take : (seeds : Seeds) (facts : List Fact) (numbers : List ℕ) (slots : List Slots) (len : ℕ) → Lead seeds facts numbers slots → Lead seeds (take len facts) numbers slots
lead_take seeds facts numbers slots len leads home p is =
    let was = leads home p is in
    record {
      table = was.table;
      at = was.at;
      has = was.has;
      holds = λ q fact at. was.holds q fact (slice_get_take len facts q fact at).1;
    }

-- ---- copies of slots

-- the slots at that place have a copy there
pub record HasCopy (copies : List Slots) (place : ℕ) (table : Slots) : Type 0 where
  pub copy : Slots
  pub at : slice_get copies place ≡ Some copy
  pub same : AreSame table copy

has_copy : (slots copies : List Slots) → AllZip AreSame slots copies → (place : ℕ) (table : Slots) → slice_get slots place ≡ Some table → HasCopy copies place table
has_copy [] copies all place table there = absurd (none-some table there)
has_copy (t ∷ slots) [] all place table there = absurd all
has_copy (t ∷ slots) (u ∷ copies) all zero table there = record {
  copy = u;
  at = refl;
  same = subst (λ t. AreSame t u) (same_Some t table there) all.0;
}
has_copy (t ∷ slots) (u ∷ copies) all (suc place) table there =
    let rest = has_copy slots copies all.1 place table there in
    record { copy = rest.copy; at = rest.at; same = rest.same }

pub lead_copied : (seeds : Seeds) (facts : List Fact) (numbers : List ℕ) (slots copies : List Slots) → AllZip AreSame slots copies →
    Lead seeds facts numbers slots → Lead seeds facts numbers copies
lead_copied seeds facts numbers slots copies all leads home p is =
    let was = leads home p is in
    let copied = has_copy slots copies all p was.table was.at in
    record {
      table = copied.copy;
      at = copied.at;
      has = rw (copied.same.0, copied.same.1) was.has;
      holds = λ q fact at same. rw (copied.same.0, copied.same.1) (was.holds q fact at same);
    }

-- ---- marks

pub marked_none : (table : List Fact) (m : Marks) → m.owner ≡ None → m.facts.facts ≡ [] → m.places.items ≡ [] → AreMarked table m
marked_none table m owner facts places = record {
  long = ap length places ∙ sym (ap length facts);
  right = λ n place fact there at. absurd (none-some fact (subst (λ fs. slice_get fs n ≡ Some fact) facts there));
  all = λ home is. absurd (none-some home (sym owner ∙ is));
}

-- the place of one mark more
place_of : (marked : List Fact) (places : List ℕ) (fact : Fact) (place : ℕ) (table : List Fact) → length places ≡ length marked → slice_get table place ≡ Some fact →
    ((n p : ℕ) (f : Fact) → slice_get marked n ≡ Some f → slice_get places n ≡ Some p → slice_get table p ≡ Some f) →
    (n p : ℕ) (f : Fact) → slice_get (marked ++ fact ∷ []) n ≡ Some f → slice_get (places ++ place ∷ []) n ≡ Some p → slice_get table p ≡ Some f
place_of marked places fact place table long here right n p f there at =
    elim (slice_get_push_cases marked fact n f there) [
      | inl before ↦ elim (slice_get_push_cases places place n p at) [
        | inl old ↦ right n p f before old
        | inr (last, one) ↦ absurd (omega (arith, last, long, slice_get_within marked n f before))
      ]
      | inr (last, one) ↦ elim (slice_get_push_cases places place n p at) [
        | inl old ↦ absurd (omega (arith, last, long, slice_get_within places n p old))
        | inr (last', one') ↦ rw (← one, ← one') here
      ]
    ]

-- a mark more, of a fact in the table, where there is no owner
pub marked_more : (table : List Fact) (m m' : Marks) (fact : Fact) (place : ℕ) → m.owner ≡ None → m'.owner ≡ m.owner → slice_get table place ≡ Some fact →
    m'.facts.facts ≡ m.facts.facts ++ fact ∷ [] → m'.places.items ≡ m.places.items ++ place ∷ [] → AreMarked table m → AreMarked table m'
marked_more table m m' fact place none owner here facts places old = record {
  long = ap length places ∙ length_push m.places.items place ∙ ap (λ n. n + 1) old.long ∙ sym (length_push m.facts.facts fact) ∙ sym (ap length facts);
  right = λ n p f there at. place_of m.facts.facts m.places.items fact place table old.long here old.right n p f (rw facts at there) (rw places at at);
  all = λ home is. absurd (none-some home (sym none ∙ sym owner ∙ is));
}

-- a fact more in the table, and a mark more
pub marked_push : (table : List Fact) (m m' : Marks) (fact : Fact) (place : ℕ) → place ≡ length table → m'.owner ≡ m.owner →
    m'.facts.facts ≡ m.facts.facts ++ fact ∷ [] → m'.places.items ≡ m.places.items ++ place ∷ [] → AreMarked table m → AreMarked (table ++ fact ∷ []) m'
marked_push table m m' fact place last owner facts places old = record {
  long = ap length places ∙ length_push m.places.items place ∙ ap (λ n. n + 1) old.long ∙ sym (length_push m.facts.facts fact) ∙ sym (ap length facts);
  right = λ n p f there at. place_of m.facts.facts m.places.items fact place (table ++ fact ∷ []) old.long (rw last (slice_get_push table fact))
      (λ n p f there at. keeps_push table fact p f (old.right n p f there at)) n p f (rw facts at there) (rw places at at);
  all = λ home is f member same. rw facts (elim (Contains-append_cases table (fact ∷ []) f member) [
    | inl before ↦ Contains-append_left m.facts.facts (fact ∷ []) f (old.all home (sym owner ∙ is) f before same)
    | inr new ↦ Contains-append_right m.facts.facts (fact ∷ []) f new
  ]);
}

-- a fact more in the table that is not of the owner
pub marked_other : (table : List Fact) (m : Marks) (fact : Fact) → (m.owner ≡ Some (home_of fact) → ⊥) → AreMarked table m → AreMarked (table ++ fact ∷ []) m
marked_other table m fact apart old = record {
  long = old.long;
  right = λ n p f there at. keeps_push table fact p f (old.right n p f there at);
  all = λ home is f member same. elim (Contains-append_cases table (fact ∷ []) f member) [
    | inl before ↦ old.all home is f before same
    | inr new ↦ absurd (apart (is ∙ ap Some (sym same ∙ ap home_of (sym (Contains-one fact f new)))))
  ];
}
