-- What facts give, form by form.
use Rattle.std.proofs.Common.{◌≡◌, ℕ, ◌+◌, ◌<◌, ◌≤◌, ⊎_elim, inl, inr, List, [], ◌∷◌, length, get_or, take, slice_get, Option, Some, Ok, Contains, refl, ap, subst, arith}
use Rattle.std.proofs.lemmas.Bool.Decides.{eqb_tells}
use Rattle.std.proofs.lemmas.List.{take_all}
use Rattle.std.proofs.lemmas.List.Elements.{Contains-get_or, Contains-push_cases}
use Rattle.std.proofs.lemmas.Option.{slice_get-get_or}
use Rattle.normal_forms.specs.declared.forms.Form.{Form}
use Rattle.facts.specs.declared.contexts.Context.{Context}
use Rattle.facts.specs.declared.contexts.Context.TheVariants.{Expr}
use Rattle.facts.specs.declared.contexts.Fact.{Fact}
use Rattle.facts.specs.declared.contexts.Fact.TheVariants.{In}
use Rattle.facts.specs.Closure.{Problem, IsContextBy, in_thing, in_itself, by_form, unsatisfiable, loop, handed_on, different, apart}
use Rattle.inference.specs.declared.rules.Rules.{Rules}
use Rattle.inference.specs.Derivations.{Derived, Grows}
use Rattle.inference.specs.Draws.{Draws}
use Rattle.inference.specs.Visits.{AreWithin}
use Rattle.inference.specs.Entry.{LoopIsDrawn}
use Rattle.inference.specs.Partings.{IsPartingDrawn}
use Rattle.inference.specs.Sameness.{AreDifferencesDrawn, IsHandedOn}
use Rattle.inference.specs.Completeness.{AreConcluded, AreRedundant, IsContextAt, AllDrawn, DrawnAt, DrawnUpToRedundancy, ForEach, IsEntered, IsOwed, Drawn, MeetEachOther, AreMet, AreMetBefore}
use Rattle.inference.proofs.Growth.{there_still}
use Rattle.inference.proofs.Owing.{loops_still}
pub use Rattle.inference.proofs.Places.{at_still}
use Rattle.inference.proofs.Redundancy.{up_to_redundancy_still}
use Rattle.inference.proofs.Lists.{Contains-from_slice_get, one_value, take_push}

-- where nothing stops the work, what is drawn is there
pub draws : {rules : Rules} {old new : Derived} {IsDrawn : Type 0} → Grows rules.problem.now rules.max_facts old new → IsDrawn → Draws rules old new (Ok tt) IsDrawn
draws grows drawn = record { grows = grows; limit = λ e. absurd (cc); full = λ e. absurd (cc); drawn = drawn }

-- a context is one still
pub context_still : {k : Problem} {most : ℕ} {a b : Derived} → Grows k most a b → (numbers : List ℕ) (x : Context) → IsContextAt k a.facts numbers x → IsContextAt k b.facts numbers x
context_still s numbers x w = (w.0, at_still _ _ s.facts numbers w.0 w.1, w.2)

-- what holds of each member of a list so far, and of the next
pub each_next : {X : Type 0} (P Q : X → Type 0) (xs : List X) (i : ℕ) (y : X) → slice_get xs i ≡ Some y → ((x : X) → Contains (take i xs) x → P x) → ((x : X) → P x → Q x) → Q y → (x : X) → Contains (take (i + 1) xs) x → Q x
each_next P Q xs i y at before still here x there = ⊎_elim (λ w. still x (before x w)) (λ e. subst Q e here) (Contains-push_cases (take i xs) y x (rw (take_push xs i y at) at there))

pub each_more : {X : Type 0} (P Q : X → Type 0) (xs items : List X) (i : ℕ) (d : X) → items ≡ xs → i < length items → ((x : X) → Contains (take i xs) x → P x) → ((x : X) → P x → Q x) → Q (get_or items i d) → (x : X) → Contains (take (i + 1) xs) x → Q x
each_more {X} P Q xs items i d same low = each_next P Q xs i (get_or items i d) (subst (λ (ys : List X). slice_get ys i ≡ Some (get_or items i d)) same (slice_get-get_or items i d low))

pub each : {X : Type 0} (P : X → Type 0) (xs items : List X) (i : ℕ) → items ≡ xs → length items ≤ i → ((x : X) → Contains (take i xs) x → P x) → (x : X) → Contains xs x → P x
each P xs items i same long before x there =
    let long' : length xs ≤ i = omega (arith, ap length same) in
    before x (rw (take_all i xs long') there)

-- the member that is read at a place
pub member_at : {X : Type 0} (xs items : List X) (i : ℕ) (d : X) → items ≡ xs → i < length items → Contains xs (get_or items i d)
member_at {X} xs items i d same low = subst (λ (ys : List X). Contains ys (get_or items i d)) same (Contains-get_or items i d low)

-- what the form that is read at a place gives is there
pub drawn_here : (D : Form → Fact → Type 0) (forms : List Form) (n : ℕ) (read : Form) (facts : List Fact) → slice_get forms n ≡ Some read → ((f : Fact) → D read f → Contains facts f) → DrawnAt D forms facts n
drawn_here D forms n read facts is here form at f w = here f (subst (λ (x : Form). D x f) (one_value _ form read at is) w)

-- what the form at a place gives is there still
pub drawn_at_still : {k : Problem} {most : ℕ} {a b : Derived} → Grows k most a b → (D : Form → Fact → Type 0) (forms : List Form) (n : ℕ) → DrawnAt D forms a.facts n → DrawnAt D forms b.facts n
drawn_at_still s D forms n drawn form at f d = there_still s f (drawn form at f d)

pub all_still : {k : Problem} {most : ℕ} {a b : Derived} → Grows k most a b → (D : Form → Fact → Type 0) (forms : List Form) → AllDrawn D forms a.facts → AllDrawn D forms b.facts
all_still s D forms all form there f d = there_still s f (all form there f d)

pub concluded_still : {k : Problem} {most : ℕ} {a b : Derived} → Grows k most a b → (older : List Fact) → AreConcluded k older a.facts → AreConcluded k older b.facts
concluded_still s older all = record { forms = all_still s _ _ all.forms; back = λ f b. there_still s f (all.back f b) }

-- what the forms give, owl:Nothing carried back, what is in each context, and what there is of individuals that are one are all that facts give,
-- but for loops that are owed
pub drawn : (k : Problem) (older : List Fact) (d : Derived) → ((form : Option ℕ) (f : Fact) → IsOwed k d f → AreRedundant k d older form f) → AreConcluded k older d.facts → ((x : Context) → IsContextBy k older x → IsEntered k x d)
    → ((g : Fact) → older ≡ g ∷ [] → IsHandedOn k g d.facts) → (older ≡ [] → AreDifferencesDrawn k d.facts) → ((g h : Fact) → older ≡ g ∷ h ∷ [] → IsPartingDrawn k g h d.facts) → DrawnUpToRedundancy k older d
drawn k older d owed all enter hand differ part _ _ _ (in_thing {x = x} c) = inl ((enter x c).top)
drawn k older d owed all enter hand differ part _ _ _ (in_itself {e = e} c) = inl ((enter (Expr e) c).itself e refl)
drawn k older d owed all enter hand differ part _ _ _ (by_form {f = f} n form at gives) = inl (all.forms form (Contains-from_slice_get k.forms n form at) f gives)
drawn k older d owed all enter hand differ part _ _ _ (unsatisfiable {f = f} b) = inl (all.back f b)
drawn k older d owed all enter hand differ part _ _ _ (loop {f = f} x n form at l c) =
    let there = Contains-from_slice_get k.forms n form at in
    ⊎_elim (λ w. inl w) (λ entry. inr (owed (Some n) f (record { context = x; form = form; there = there; is_loop = l; entry = entry }))) ((enter x c).loops form there f l)
drawn k _ d owed all enter hand differ part _ _ _ (handed_on {g = g} {f = f} n form at h) = inl (hand g refl form (Contains-from_slice_get k.forms n form at) f h)
drawn k _ d owed all enter hand differ part _ _ _ (different l a b at same) = inl (differ refl l a b at same)
drawn k _ d owed all enter hand differ part _ _ _ (apart l a b x w) = inl (part (In a x) (In b x) refl l a b x w refl refl)

-- two facts make no context one, and hand nothing on
pub drawn_by_two : (k : Problem) (g h : Fact) (facts : List Fact) → AreConcluded k (g ∷ h ∷ []) facts → IsPartingDrawn k g h facts → Drawn k (g ∷ h ∷ []) facts
drawn_by_two k g h facts all part _ _ _ (in_thing c) = absurd c
drawn_by_two k g h facts all part _ _ _ (in_itself c) = absurd c
drawn_by_two k g h facts all part _ _ f (by_form n form at gives) = all.forms form (Contains-from_slice_get k.forms n form at) f gives
drawn_by_two k g h facts all part _ _ f (unsatisfiable b) = all.back f b
drawn_by_two k g h facts all part _ _ _ (loop x n form at l c) = absurd c
drawn_by_two k _ _ facts all part _ _ _ (apart l a b x w) = part l a b x w refl refl

-- one fact is no other
pub one_in_hand : (P : Fact → Type 0) (f g : Fact) → f ∷ [] ≡ g ∷ [] → P f → P g
one_in_hand P f g e p = let same : f ≡ g = cc in subst P same p

pub drawn_still : {k : Problem} {most : ℕ} {a b : Derived} → Grows k most a b → (older : List Fact) → Drawn k older a.facts → Drawn k older b.facts
drawn_still s older drawn condition form f gives = there_still s f (drawn condition form f gives)

pub entered_still : {k : Problem} {most : ℕ} {a b : Derived} → Grows k most a b → (x : Context) → IsEntered k x a → IsEntered k x b
entered_still s x w = record { top = there_still s _ w.top; itself = λ e h. there_still s _ (w.itself e h); loops = loops_still s x w.loops }

pub met_still : {k : Problem} {most : ℕ} {a b : Derived} → Grows k most a b → (f g : Fact) → MeetEachOther k f g a → MeetEachOther k f g b
met_still s f g w = record { first = up_to_redundancy_still s (f ∷ g ∷ []) w.first; second = up_to_redundancy_still s (g ∷ f ∷ []) w.second }

pub all_met_still : {k : Problem} {most : ℕ} {a b : Derived} → Grows k most a b → (f : Fact) (old : List Fact) (numbers : List ℕ) → AreMet k f old numbers a → AreMet k f old numbers b
all_met_still s f old numbers met n there g at = met_still s f g (met n there g at)

-- what the fact gives as the first of two is there or redundant still
pub before_still : {k : Problem} {most : ℕ} {a b : Derived} → Grows k most a b → (f : Fact) (old : List Fact) (numbers : List ℕ) → AreMetBefore k f old numbers a → AreMetBefore k f old numbers b
before_still s f old numbers met n there g at = up_to_redundancy_still s (f ∷ g ∷ []) (met n there g at)

-- facts that were there later were there before, if they are asked about there
pub for_each_earlier : {k : Problem} {most : ℕ} {a b : Derived} → Grows k most a b → (P : Fact → Type 0) (numbers : List ℕ) → ForEach P b.facts numbers → ForEach P a.facts numbers
for_each_earlier s P numbers each_is n there g at = each_is n there g (s.facts n g at)

-- what holds of each fact with the numbers so far, and of the next, which is read where facts have grown
pub for_each_more : {k : Problem} {most : ℕ} {a b : Derived} → Grows k most a b → (P Q : Fact → Type 0) (numbers : List ℕ) (i : ℕ) (read : Fact) → i < length numbers → slice_get b.facts (get_or numbers i 0) ≡ Some read
    → ForEach P a.facts (take i numbers) → ((f : Fact) → P f → Q f) → Q read → ForEach Q a.facts (take (i + 1) numbers)
for_each_more {a = a} s P Q numbers i read low is before still here =
    each_more (λ n. (f : Fact) → slice_get a.facts n ≡ Some f → P f) (λ n. (f : Fact) → slice_get a.facts n ≡ Some f → Q f) numbers numbers i 0 refl low before
    (λ n all f at. still f (all f at)) (λ f at. subst Q (one_value _ read f is (s.facts _ f at)) here)

-- and of the next that is not read, but is known by its number
pub for_each_but : {k : Problem} {most : ℕ} {a b : Derived} → Grows k most a b → (P : Fact → Type 0) (numbers : List ℕ) (i : ℕ) → i < length numbers
    → ForEach P a.facts (take i numbers) → ((f : Fact) → slice_get b.facts (get_or numbers i 0) ≡ Some f → P f) → ForEach P a.facts (take (i + 1) numbers)
for_each_but {a = a} s P numbers i low before here =
    each_more (λ n. (f : Fact) → slice_get a.facts n ≡ Some f → P f) (λ n. (f : Fact) → slice_get a.facts n ≡ Some f → P f) numbers numbers i 0 refl low before
    (λ n all. all) (λ f at. here f (s.facts _ f at))

pub for_each : (P : Fact → Type 0) (facts : List Fact) (numbers : List ℕ) (i : ℕ) → length numbers ≤ i → ForEach P facts (take i numbers) → ForEach P facts numbers
for_each P facts numbers i = each (λ n. (f : Fact) → slice_get facts n ≡ Some f → P f) numbers numbers i refl

-- the fact of the next number is there
pub next_there : {k : Problem} {most : ℕ} {a b : Derived} → Grows k most a b → (numbers : List ℕ) (i : ℕ) → AreWithin a.facts numbers → i < length numbers → get_or numbers i 0 < length b.facts
next_there s numbers i within low = omega (arith, within _ (Contains-get_or numbers i 0 low), s.longer)

-- the loops at the targets of the first so many facts, and of the next
pub loops_more : {k : Problem} {most : ℕ} {a b d : Derived} (i : ℕ) → Grows k most a b → Grows k most b d → ((n : ℕ) → n < i → LoopIsDrawn k a.facts b n) → LoopIsDrawn k b.facts d i → (n : ℕ) → n < i + 1 → LoopIsDrawn k a.facts d n
loops_more {k} {b = b} i s t before here n low f x at target top = ⊎_elim
    (λ w. here f x (subst (λ (j : ℕ). slice_get b.facts j ≡ Some f) w.1 (s.facts n f at)) target (there_still s _ top))
    (λ w. loops_still t x (before n (omega (arith, low, w.1)) f x at target top))
    (eqb_tells n i)
