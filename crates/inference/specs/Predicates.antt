-- Facts by what they say of contexts: lists of those of each class, and of each property, from the last to the first.
use Rattle.std.specs.Prelude.{◌≡◌, ◌<◌, ◌≤◌, ℕ, suc, List, length, slice_get, slice_index, MatchOption, Option, Some, None}
use Rattle.normal_forms.specs.declared.forms.Class2.TheVariants as classes
use Rattle.normal_forms.specs.declared.forms.PropId2.TheVariants as properties
use Rattle.facts.specs.declared.contexts.Fact.{Fact}
use Rattle.facts.specs.declared.contexts.Fact.TheVariants.{In, Edge}
use Rattle.inference.specs.declared.predicates.Predicate.{Predicate}
use Rattle.inference.specs.declared.predicates.Predicate.TheVariants.{Class, Property}

-- the class into which the fact puts something, or the property of the edge
abbrev pub predicate_of : Fact → Predicate
predicate_of (In a x) = Class a
predicate_of (Edge x p y) = Property p

-- the fact of that number says so
abbrev pub SaysAt : Predicate → List Fact → ℕ → Type 0
SaysAt q facts n = (f : Fact) × (slice_get facts n ≡ Some f) × (predicate_of f ≡ q)

-- one more than the number, or 0 where there is none
abbrev pub end_of : Option ℕ → ℕ
end_of None = 0
end_of (Some n) = suc n

-- of the first so many facts the last that says so stands just before the end; where none says so, the end is 0
pub record IsLast (q : Predicate) (facts : List Fact) (bound end : ℕ) : Type 0 where
  pub within : end ≤ bound
  pub there : (n : ℕ) → end ≡ suc n → SaysAt q facts n
  pub rest : (n : ℕ) → n < bound → SaysAt q facts n → n < end

-- of the facts before the one of that number the last that says the same is found; none where there is no fact of that number
abbrev pub IsBefore : List Fact → ℕ → Option ℕ → Type 0
IsBefore facts number found = MatchOption (slice_get facts number) (found ≡ None) (λ f. IsLast (predicate_of f) facts number (end_of found))

-- by number the ends of lists: each is 0 past the last
pub record Ends : Type 0 where
  pub classes : List ℕ
  pub partial_classes : List ℕ
  pub properties : List ℕ
  pub partial_properties : List ℕ

-- the end of the list of the predicate
abbrev pub end_at : Ends → Predicate → ℕ
end_at ends (Class (classes.Expr e)) = slice_index ends.classes e.0
end_at ends (Class (classes.Partial n)) = slice_index ends.partial_classes n
end_at ends (Property (properties.Property p)) = slice_index ends.properties p.0
end_at ends (Property (properties.Partial n)) = slice_index ends.partial_properties n

-- the list of the predicate has an end, at a place
abbrev pub HasPlace : Ends → Predicate → Type 0
HasPlace ends (Class (classes.Expr e)) = e.0 < length ends.classes
HasPlace ends (Class (classes.Partial n)) = n < length ends.partial_classes
HasPlace ends (Property (properties.Property p)) = p.0 < length ends.properties
HasPlace ends (Property (properties.Partial n)) = n < length ends.partial_properties

-- ends, and by number of a fact the end of the list of its predicate before it
pub record Linked : Type 0 where
  pub ends : Ends
  pub before : List ℕ

-- each list ends with the last of the facts that say so, and each fact leads to the last of those before it
pub record AreListed (facts : List Fact) (lists : Linked) : Type 0 where
  pub long : length lists.before ≡ length facts
  pub last : (q : Predicate) → IsLast q facts (length facts) (end_at lists.ends q)
  pub before : (n : ℕ) (f : Fact) → slice_get facts n ≡ Some f → IsLast (predicate_of f) facts n (slice_index lists.before n)
