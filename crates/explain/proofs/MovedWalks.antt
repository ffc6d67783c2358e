-- Walks with another first source or another last target, by the numbers of their lines.
use Rattle.std.proofs.Common.{◌≡◌, ℕ, ◌+◌, ◌-◌, ◌<◌, ◌≤◌, List, [], ◌∷◌, ◌++◌, length, option_map, slice_get, get_or, take, drop, Some, refl, sym, ap, ◌∙◌, subst, arith}
use Rattle.std.proofs.lemmas.List.{length-map, length-take-le, take_all, take_more}
use Rattle.std.proofs.lemmas.Option.{same_Some, get_or_from_slice_get}
use Rattle.lemmas.proofs.Choices.{one_value}
use Rattle.lemmas.proofs.Mapped.{slice_get_map_from}
use Rattle.lemmas.proofs.Places.{slice_get_push}
use Rattle.axioms.specs.View.{at_number, prop_numbers}
use Rattle.axioms.specs.declared.ids.IndId.{IndId}
use Rattle.axioms.specs.declared.ids.PropId.{PropId}
use Rattle.certificate.specs.Certificate.{Subject, Conclusion, Edge, Line}
use Rattle.certificate.specs.Certificate.{source_of}
use Rattle.cert_check.specs.Derivation.{at_numbers}
use Rattle.cert_check.specs.Lines.{IsWalk}
use Rattle.closure.specs.Closure as definition
use Rattle.closure.specs.Denotations.{Prefixes, SaysProperty, SaysFact, edge}
use Rattle.exactness.proofs.Derivable.{conclusions, prepended_list_parts}
use Rattle.explain.proofs.Births.{heads, tails}
use Rattle.explain.proofs.Conclusions.{edge_shown, showing_edge}
use Rattle.explain.proofs.Exchanging.{first_of_walk, last_of_walk, numbers_long, walk_long, walk_with}
use Rattle.explain.proofs.Growing.{at_numbers_joined, conclusions_grown}
use Rattle.explain.proofs.Walking.{at_numbers_split, at_one_more, no_edge, one_number}
use Rattle.explain.specs.Exchanges.{AreStepsOf, LeadsFirstTo, WalksAlong}
use Rattle.explain.specs.LinesOfFacts.{AreShowing, Lengthens, steps_of}
use Rattle.explain.specs.Step.{subject_in}
use Rattle.facts.specs.declared.contexts.Context.{Context}
use Rattle.facts.specs.declared.contexts.Context.TheVariants.{Individual}
use Rattle.facts.specs.declared.contexts.Fact.TheVariants as facts
use Rattle.normal_forms.specs.Forms.{Property2}
use Rattle.normal_forms.specs.declared.forms.PropId2.{PropId2}
use Rattle.normalise.specs.Listing.{Listing}
use Rattle.normalise.specs.Problem.{prefixes_of}

-- ---- the walk that shows an edge

pub record IsShownWalk (b : Prefixes) (lines : List Line) (walk : List ℕ) (x : Context) (p : PropId2) (y : Context) : Type 0 where
  pub property : Property2
  pub says : SaysProperty b p property
  pub walks : WalksAlong lines walk (subject_in x) (steps_of property) (subject_in y)

pub shown_walk : {b : Prefixes} {lines : List Line} {walk : List ℕ} {x y : Context} {p : PropId2} → AreShowing b lines walk (facts.Edge x p y) → IsShownWalk b lines walk x p y
shown_walk {b} {lines} {walk} {x} {y} {p} shown = go shown.fact shown.says
  where
    go : (g : definition.Fact) → SaysFact b (facts.Edge x p y) g → IsShownWalk b lines walk x p y
    go _ (edge {r' = r'} says_x says_r says_y) = record { property = r'; says = says_r; walks = edge_shown says_r shown }

-- as many steps as lines
pub steps_long : (lines : List Line) (walk : List ℕ) (x : Subject) (rs : List ℕ) (y : Subject) → WalksAlong lines walk x rs y → length rs ≡ length walk
steps_long lines walk x rs y (cs, at, w) = walk_long x rs y cs w ∙ sym (numbers_long (conclusions lines) walk cs at)

-- ---- the first edge

pub head_tail : (xs : List ℕ) (d : ℕ) → 0 < length xs → xs ≡ get_or xs 0 d ∷ drop 1 xs
head_tail [] d l = absurd (omega arith)
head_tail (x ∷ xs) d l = refl

-- the rest of a walk, as the code reads it
pub rest_read : (xs : List ℕ) → take (length xs - 1) (drop 1 xs) ≡ drop 1 xs
rest_read [] = refl
rest_read (x ∷ xs) = let long : length xs ≤ length (x ∷ xs) - 1 = omega arith in take_all (length (x ∷ xs) - 1) xs long

-- the first edge, and the walk behind it
first_at : (lines : List Line) (walk : List ℕ) (x y : Subject) (r : ℕ) (rs : List ℕ) → WalksAlong lines walk x (r ∷ rs) y
    → (z : Subject) × (n : ℕ) × (ns : List ℕ) × (walk ≡ n ∷ ns) × (at_number (conclusions lines) n ≡ Some (Edge x r z)) × WalksAlong lines ns z rs y
first_at lines [] x y r rs (cs, at, w) =
    let (z, ds, is, rest) = first_of_walk x y r rs cs w in
    absurd (let e : [] ≡ Edge x r z ∷ ds = same_Some [] cs at ∙ is in cc)
first_at lines (n ∷ ns) x y r rs (cs, at, w) =
    let (z, ds, is, rest) = first_of_walk x y r rs cs w in
    let (c, others, at_n, at_ns, are) = prepended_list_parts (at_number (conclusions lines) n) (at_numbers (conclusions lines) ns) cs at in
    (z, n, ns, refl, at_n ∙ ap Some (heads (are ∙ is)), (ds, at_ns ∙ ap Some (tails (are ∙ is)), rest))

-- a walk of no line stays where it is
stays : (lines : List Line) (x : Subject) (rs : List ℕ) (y : Subject) → WalksAlong lines [] x rs y → x ≡ y
stays lines x rs y (cs, at, w) = no_edge x y rs (subst (IsWalk x rs y) (sym (same_Some [] cs at)) w)

-- a walk of one line leads to its end
pub alone_leads : (lines : List Line) (walk : List ℕ) (x y : Subject) (r : ℕ) (rs : List ℕ) (d : ℕ) → length walk < 2 → WalksAlong lines walk x (r ∷ rs) y → at_number (conclusions lines) (get_or walk 0 d) ≡ Some (Edge x r y)
alone_leads lines walk x y r rs d few walks =
    let (z, n, ns, is, at, rest) = first_at lines walk x y r rs walks in
    let none : ns ≡ [] = empty ns (omega (arith, few, ap length is)) in
    let end : z ≡ y = stays lines z rs y (subst (λ ms. WalksAlong lines ms z rs y) none rest) in
    subst (λ ms. at_number (conclusions lines) (get_or ms 0 d) ≡ Some (Edge x r y)) (sym is) (at ∙ ap (λ t. Some (Edge x r t)) end)
  where
    empty : (ms : List ℕ) → length ms < 1 → ms ≡ []
    empty [] l = refl
    empty (m ∷ ms) l = absurd (omega arith)

-- a walk of more lines leads to where the next begins
pub next_leads : (lines : List Line) (walk : List ℕ) (x y : Subject) (r : ℕ) (rs : List ℕ) (d : ℕ) → 2 ≤ length walk → WalksAlong lines walk x (r ∷ rs) y
    → (z : Subject) × (at_number (conclusions lines) (get_or walk 0 d) ≡ Some (Edge x r z)) × (option_map source_of (at_number (conclusions lines) (get_or walk 1 d)) ≡ Some z)
next_leads lines walk x y r rs d many walks =
    let (z, n, ns, is, at, rest) = first_at lines walk x y r rs walks in
    let begins = second rs ns z (omega (arith, many, ap length is)) rest in (
      z,
      subst (λ ms. at_number (conclusions lines) (get_or ms 0 d) ≡ Some (Edge x r z)) (sym is) at,
      subst (λ ms. option_map source_of (at_number (conclusions lines) (get_or ms 1 d)) ≡ Some z) (sym is) begins,
    )
  where
    second : (ss ms : List ℕ) (z : Subject) → 0 < length ms → WalksAlong lines ms z ss y → option_map source_of (at_number (conclusions lines) (get_or ms 0 d)) ≡ Some z
    second [] ms z l also = absurd (omega (arith, l, steps_long lines ms z [] y also))
    second (s ∷ ss) ms z l also =
        let (u, m, others, is, at, rest) = first_at lines ms z y s ss also in
        subst (λ ks. option_map source_of (at_number (conclusions lines) (get_or ks 0 d)) ≡ Some z) (sym is) (ap (option_map source_of) at)

-- what two edges name, where they are one
edge_target : {x y z w : Subject} {r s : ℕ} → Edge x r y ≡ Edge z s w → y ≡ w
edge_target e = cc

-- the numbers of a walk from i, from those of a walk from j
pub source_shown : (b : Prefixes) (old new : List Line) (walk numbers : List ℕ) (d n r : ℕ) (ss : List ℕ) (z : Subject) (i j : IndId) (p : PropId2) (y : Context) (w : IsShownWalk b old walk (Individual j) p y)
    → Lengthens old new → steps_of w.property ≡ r ∷ ss → at_number (conclusions old) (get_or walk 0 d) ≡ Some (Edge (subject_in (Individual j)) r z) → at_number (conclusions new) n ≡ Some (Edge (subject_in (Individual i)) r z)
    → numbers ≡ n ∷ drop 1 walk → AreShowing b new numbers (facts.Edge (Individual i) p y)
source_shown b old new walk numbers d n r ss z i j p y w longer steps at_first at_n are =
    let (z', m, ns, is, at, rest) = first_at old walk (subject_in (Individual j)) (subject_in y) r ss (subst (λ rs. WalksAlong old walk (subject_in (Individual j)) rs (subject_in y)) steps w.walks) in
    let (ds, at_ns, on) = rest in
    let here : at_number (conclusions old) m ≡ Some (Edge (subject_in (Individual j)) r z) = subst (λ ms. at_number (conclusions old) (get_or ms 0 d) ≡ Some (Edge (subject_in (Individual j)) r z)) is at_first in
    let same : z' ≡ z = edge_target (one_value (at_number (conclusions old) m) (Edge (subject_in (Individual j)) r z') (Edge (subject_in (Individual j)) r z) at here) in
    let numbers_are : numbers ≡ n ∷ ns = are ∙ ap (λ ms. n ∷ drop 1 ms) is in
    let moved : IsWalk (subject_in (Individual i)) (r ∷ ss) (subject_in y) (Edge (subject_in (Individual i)) r z ∷ ds) = (z, refl, subst (λ u. IsWalk u ss (subject_in y) ds) same on) in
    showing_edge (Edge (subject_in (Individual i)) r z ∷ ds) w.says
    (subst (λ ms. at_numbers (conclusions new) ms ≡ Some (Edge (subject_in (Individual i)) r z ∷ ds)) (sym numbers_are) (at_one_more (conclusions new) n ns (Edge (subject_in (Individual i)) r z) ds at_n (conclusions_grown ns ds longer at_ns)))
    (subst (λ rs. IsWalk (subject_in (Individual i)) rs (subject_in y) (Edge (subject_in (Individual i)) r z ∷ ds)) (sym steps) moved)

-- ---- the last edge

pub all_but_last : (xs : List ℕ) (d : ℕ) → 0 < length xs → xs ≡ take (length xs - 1) xs ++ get_or xs (length xs - 1) d ∷ []
all_but_last xs d some =
    let counted : length xs - 1 + 1 ≡ length xs = omega (arith, some) in
    sym (ap (λ k. take k xs) counted ∙ take_all (length xs) xs (omega arith)) ∙ take_more xs (length xs - 1) d (omega (arith, some))

-- the last edge, and the walk before it
pub record EndsIn (lines : List Line) (walk : List ℕ) (d : ℕ) (x : Subject) (rs : List ℕ) (y : Subject) : Type 0 where
  pub source : Subject
  pub steps : List ℕ
  pub last : ℕ
  pub steps_are : rs ≡ steps ++ last ∷ []
  pub at : at_number (conclusions lines) (get_or walk (length walk - 1) d) ≡ Some (Edge source last y)
  pub before : WalksAlong lines (take (length walk - 1) walk) x steps source
  pub long : length steps ≡ length walk - 1

pub ends_in : (lines : List Line) (walk : List ℕ) (d : ℕ) (x : Subject) (rs : List ℕ) (y : Subject) → 0 < length walk → WalksAlong lines walk x rs y → EndsIn lines walk d x rs y
ends_in lines walk d x rs y some (all, at, w) =
    let front = take (length walk - 1) walk in
    let number = get_or walk (length walk - 1) d in
    let (cs, ds, first, second, joined) = at_numbers_split (conclusions lines) front (number ∷ []) all (subst (λ ns. at_numbers (conclusions lines) ns ≡ Some all) (all_but_last walk d some) at) in
    let (c, at_number', only) = one_number (conclusions lines) number ds second in
    let (z, ss, r, before, is, steps) = last_of_walk x y rs cs c (subst (IsWalk x rs y) (joined ∙ ap (λ es. cs ++ es) only) w) in
    record {
      source = z;
      steps = ss;
      last = r;
      steps_are = steps;
      at = at_number' ∙ ap Some is;
      before = (cs, first, before);
      long = steps_long lines front x ss z (cs, first, before) ∙ length_before walk;
    }
  where
    length_before : (xs : List ℕ) → length (take (length xs - 1) xs) ≡ length xs - 1
    length_before xs = length-take-le (length xs - 1) xs (omega arith)

-- the numbers of a walk to i, from those of a walk to j
pub target_shown : (b : Prefixes) (old new : List Line) (walk numbers : List ℕ) (d n : ℕ) (i j : IndId) (p : PropId2) (x : Context) (w : IsShownWalk b old walk x p (Individual j))
    → (e : EndsIn old walk d (subject_in x) (steps_of w.property) (subject_in (Individual j))) → Lengthens old new → at_number (conclusions new) n ≡ Some (Edge e.source e.last (subject_in (Individual i)))
    → numbers ≡ take (length walk - 1) walk ++ n ∷ [] → AreShowing b new numbers (facts.Edge x p (Individual i))
target_shown b old new walk numbers d n i j p x w e longer at_n are =
    let front = take (length walk - 1) walk in
    let (cs, first, before) = e.before in
    let last : Conclusion = Edge e.source e.last (subject_in (Individual i)) in
    let at_last : at_numbers (conclusions new) (n ∷ []) ≡ Some (last ∷ []) = at_one_more (conclusions new) n [] last [] at_n refl in
    showing_edge (cs ++ last ∷ []) w.says
    (subst (λ ms. at_numbers (conclusions new) ms ≡ Some (cs ++ last ∷ [])) (sym are) (at_numbers_joined (conclusions new) front (n ∷ []) cs (last ∷ []) (conclusions_grown front cs longer first) at_last))
    (subst (λ rs. IsWalk (subject_in x) rs (subject_in (Individual i)) (cs ++ last ∷ [])) (sym e.steps_are) (walk_with (subject_in x) (subject_in (Individual i)) e.source e.steps e.last cs before))

-- ---- the steps by number

pub first_step : (ids : List PropId) (rs : List ℕ) (d : PropId) → prop_numbers ids ≡ rs → 0 < length rs → rs ≡ (get_or ids 0 d).0 ∷ drop 1 rs
first_step [] rs d e l = absurd (omega (arith, l, ap length e))
first_step (p ∷ ids) rs d e l = sym e ∙ ap (λ ns. p.0 ∷ drop 1 ns) e

pub last_step : (ids : List PropId) (ss : List ℕ) (r k : ℕ) (d : PropId) → prop_numbers ids ≡ ss ++ r ∷ [] → k ≡ length ss → (get_or ids k d).0 ≡ r
last_step ids ss r k d e k_is =
    let there : slice_get (prop_numbers ids) k ≡ Some r = ap (slice_get (prop_numbers ids)) k_is ∙ ap (λ ns. slice_get ns (length ss)) e ∙ slice_get_push ss r in
    let (id, at, is) = slice_get_map_from (λ (p : PropId). p.0) ids k r there in
    ap (λ (p : PropId). p.0) (get_or_from_slice_get ids k id d at) ∙ is

pub ids_long : (ids : List PropId) (rs : List ℕ) → prop_numbers ids ≡ rs → length ids ≡ length rs
ids_long ids rs e = sym (length-map ids (λ (p : PropId). p.0)) ∙ ap length e

-- ---- what the code reads

steps_said : (v u : Listing) (p : PropId2) (ids : List PropId) (r : Property2) → v ≡ u → AreStepsOf (prefixes_of v) p ids → SaysProperty (prefixes_of u) p r → prop_numbers ids ≡ steps_of r
steps_said v u p ids r e steps says = subst (λ (x : Listing). AreStepsOf (prefixes_of x) p ids) e steps r says

module _ (v u : Listing) (e : v ≡ u) (lines : List Line) (walk : List ℕ) (p : PropId2) (ids : List PropId) (steps : AreStepsOf (prefixes_of v) p ids) where
  -- there are as many steps as lines
  pub steps_there : (x y : Context) → AreShowing (prefixes_of u) lines walk (facts.Edge x p y) → length ids ≡ length walk
  steps_there x y shown =
      let w = shown_walk shown in
      ids_long ids (steps_of w.property) (steps_said v u p ids w.property e steps w.says) ∙ steps_long lines walk (subject_in x) (steps_of w.property) (subject_in y) w.walks

  module _ (some : 0 < length walk) (d : PropId) where
    -- the first edge, where it leads to z
    pub record IsFirstEdge (x y : Context) (z : Subject) : Type 0 where
      pub walk_is : IsShownWalk (prefixes_of u) lines walk x p y
      pub steps_are : steps_of walk_is.property ≡ (get_or ids 0 d).0 ∷ drop 1 (steps_of walk_is.property)
      pub at : at_number (conclusions lines) (get_or walk 0 0) ≡ Some (Edge (subject_in x) (get_or ids 0 d).0 z)

    pub first_edge : (x y : Context) (z : Subject) → AreShowing (prefixes_of u) lines walk (facts.Edge x p y) → LeadsFirstTo lines walk (subject_in y) z → IsFirstEdge x y z
    first_edge x y z shown leads =
        let w = shown_walk shown in
        let long = steps_long lines walk (subject_in x) (steps_of w.property) (subject_in y) w.walks in
        let are = first_step ids (steps_of w.property) d (steps_said v u p ids w.property e steps w.says) (omega (arith, some, long)) in
        record {
          walk_is = w;
          steps_are = are;
          at = leads (subject_in x) (get_or ids 0 d).0 (drop 1 (steps_of w.property)) (subst (λ rs. WalksAlong lines walk (subject_in x) rs (subject_in y)) are w.walks);
        }

    -- the last edge
    pub record IsLastEdge (x y : Context) : Type 0 where
      pub walk_is : IsShownWalk (prefixes_of u) lines walk x p y
      pub ends : EndsIn lines walk 0 (subject_in x) (steps_of walk_is.property) (subject_in y)
      pub step_is : (get_or ids (length walk - 1) d).0 ≡ ends.last

    pub last_edge : (x y : Context) → AreShowing (prefixes_of u) lines walk (facts.Edge x p y) → IsLastEdge x y
    last_edge x y shown =
        let w = shown_walk shown in
        let ends = ends_in lines walk 0 (subject_in x) (steps_of w.property) (subject_in y) some w.walks in
        record {
          walk_is = w;
          ends = ends;
          step_is = last_step ids ends.steps ends.last (length walk - 1) d (steps_said v u p ids w.property e steps w.says ∙ ends.steps_are) (sym ends.long);
        }
