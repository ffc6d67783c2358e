-- Walks into owl:Nothing, from their end to their start.
use Rattle.std.proofs.Common.{◌≡◌, ℕ, zero, suc, ◌+◌, ◌-◌, ◌<◌, ◌≤◌, List, [], ◌∷◌, ◌++◌, length, slice_get, get_or, take, Some, None, refl, sym, ap, ◌∙◌, subst, arith}
use Rattle.std.proofs.lemmas.Option.{same_Some, none-some, slice_get-get_or}
use Rattle.std.specs.Option.{option_map}
use Rattle.lemmas.proofs.Places.{take_push}
use Rattle.axioms.specs.Ontology.{Ontology, nothing}
use Rattle.axioms.specs.WellFormedness.{IsOntology}
use Rattle.axioms.specs.View.{at_number}
use Rattle.certificate.specs.Certificate.{Subject, Conclusion, Sub, Edge, Line}
use Rattle.certificate.specs.Writability.{IsConclusionOf}
use Rattle.certificate.specs.Certificate.{source_of}
use Rattle.certificate.specs.declared.line.Rule.TheVariants.{K11}
use Rattle.cert_check.specs.Derivation.{IsDerivation, IsDerived, at_numbers}
use Rattle.cert_check.specs.Lines.{IsWalk}
use Rattle.exactness.proofs.Derivable.{conclusions, prepended_list_parts, at_conclusion}
use Rattle.exactness.proofs.Rules.{nothing_within}
use Rattle.explain.proofs.Births.{heads, tails}
use Rattle.explain.proofs.Growing.{conclusions_grown, last_conclusion}
use Rattle.explain.specs.LinesOfFacts.{Lengthens}
use Rattle.explain.specs.Walks.{LeadsToNothing}

apart : {X : Type 0} {x : X} {xs : List X} → [] ≡ x ∷ xs → ⊥
apart e = cc

-- ---- walks

-- a walk of one edge
one_edge : (x y : Subject) (rs : List ℕ) (c : Conclusion) → IsWalk x rs y (c ∷ []) → (r : ℕ) × (c ≡ Edge x r y)
one_edge x y [] c w = absurd w
one_edge x y (r ∷ []) c (z, is, e) = (r, is ∙ ap (Edge x r) e)
one_edge x y (r ∷ s ∷ rs) c (z, is, w) = absurd w

pub no_edge : (x y : Subject) (rs : List ℕ) → IsWalk x rs y [] → x ≡ y
no_edge x y [] w = w
no_edge x y (r ∷ rs) w = absurd w

walk_split : (x y : Subject) (rs : List ℕ) (cs ds : List Conclusion) → IsWalk x rs y (cs ++ ds) → (z : Subject) × (ss : List ℕ) × (ts : List ℕ) × IsWalk x ss z cs × IsWalk z ts y ds
walk_split x y rs [] ds w = (x, [], rs, refl, w)
walk_split x y [] (c ∷ cs) ds w = absurd w
walk_split x y (r ∷ rs) (c ∷ cs) ds (u, is, w) =
    let (z, ss, ts, before, after) = walk_split u y rs cs ds w in
    (z, r ∷ ss, ts, (u, is, before), after)

pub at_one_more : {X : Type 0} (xs : List X) (n : ℕ) (ns : List ℕ) (y : X) (ys : List X) → at_number xs n ≡ Some y → at_numbers xs ns ≡ Some ys → at_numbers xs (n ∷ ns) ≡ Some (y ∷ ys)
at_one_more xs n ns y ys e h = rw (e, h)

-- what stands at numbers one behind the other
pub at_numbers_split : {X : Type 0} (xs : List X) (ms ns : List ℕ) (zs : List X) → at_numbers xs (ms ++ ns) ≡ Some zs → (as' : List X) × (bs : List X) × (at_numbers xs ms ≡ Some as') × (at_numbers xs ns ≡ Some bs) × (zs ≡ as' ++ bs)
at_numbers_split xs [] ns zs e = ([], zs, refl, e, refl)
at_numbers_split xs (m ∷ ms) ns zs e =
    let (y, ys, at, rest, is) = prepended_list_parts (at_number xs m) (at_numbers xs (ms ++ ns)) zs e in
    let (cs, ds, first, second, joined) = at_numbers_split xs ms ns ys rest in
    (y ∷ cs, ds, at_one_more xs m ms y cs at first, second, sym is ∙ ap (λ us. y ∷ us) joined)

pub one_number : {X : Type 0} (xs : List X) (n : ℕ) (zs : List X) → at_numbers xs (n ∷ []) ≡ Some zs → (z : X) × (at_number xs n ≡ Some z) × (zs ≡ z ∷ [])
one_number xs n zs e =
    let (y, ys, at, rest, is) = prepended_list_parts (at_number xs n) (Some []) zs e in
    (y, at, sym is ∙ ap (λ us. y ∷ us) (sym (same_Some [] ys rest)))

-- the numbers of one thing are one
pub alone : {X : Type 0} (xs : List X) (ns : List ℕ) (z : X) → at_numbers xs ns ≡ Some (z ∷ []) → (n : ℕ) × (ns ≡ n ∷ []) × (at_number xs n ≡ Some z)
alone xs [] z e = absurd (apart (same_Some [] (z ∷ []) e))
alone xs (n ∷ []) z e =
    let (y, at, is) = one_number xs n (z ∷ []) e in
    (n, refl, at ∙ ap Some (sym (heads is)))
alone xs (n ∷ m ∷ ns) z e =
    let (y, ys, at, rest, is) = prepended_list_parts (at_number xs n) (at_numbers xs (m ∷ ns)) (z ∷ []) e in
    let (u, us, at_m, more, are) = prepended_list_parts (at_number xs m) (at_numbers xs ns) ys rest in
    absurd (apart (sym (are ∙ tails is)))

-- ---- lines

edges_as : (lines : List Line) (walk : List ℕ) (end : ℕ) (x : Subject) (l : LeadsToNothing lines walk end x) (cs : List Conclusion) → l.edges ≡ cs → IsWalk x l.steps l.target cs
edges_as lines walk end x l cs e = subst (IsWalk x l.steps l.target) e l.is_walk

-- the edge and what its target lies in
pub edge_into_nothing : (lines : List Line) (edge end : ℕ) (x : Subject) → LeadsToNothing lines (edge ∷ []) end x
    → (r : ℕ) × (y : Subject) × (at_number (conclusions lines) edge ≡ Some (Edge x r y)) × (at_number (conclusions lines) end ≡ Some (Sub y nothing))
edge_into_nothing lines edge end x l =
    let (c, at, alone) = one_number (conclusions lines) edge l.edges l.at in
    let (r, is) = one_edge x l.target l.steps c (edges_as lines (edge ∷ []) end x l (c ∷ []) alone) in
    (r, l.target, at ∙ ap Some is, l.at_end)

-- a line of a derivation names what is there
pub line_within : (o : Ontology) (lines : List Line) (n : ℕ) (c : Conclusion) → IsDerivation o lines → at_number (conclusions lines) n ≡ Some c → IsConclusionOf o c
line_within o lines zero c d e = absurd (none-some c e)
line_within o lines (suc n) c d e =
    let (line, at, is) = at_conclusion lines n c e in
    subst (IsConclusionOf o) is (d n line at).within.conclusion

carried_over_derived : (o : Ontology) (lines : List Line) (edge end : ℕ) (x : Subject) → IsOntology o → IsDerivation o lines → LeadsToNothing lines (edge ∷ []) end x
    → IsDerived o lines (record { conclusion = Sub x nothing; rule = K11; axiom' = None; premises = edge ∷ end ∷ [] })
carried_over_derived o lines edge end x w d l =
    let (r, y, at_edge, at_end) = edge_into_nothing lines edge end x l in
    record {
      within = record { conclusion = ((line_within o lines edge (Edge x r y) d at_edge).0, nothing_within o w); axiom' = tt };
      premises = Edge x r y ∷ Sub y nothing ∷ [];
      premises_at = rw (at_edge, at_end) refl;
      follows = (refl, refl, refl, refl);
    }

-- the source of the edge, where the line of its number is asked
pub same_source : (lines : List Line) (edge end : ℕ) (x y : Subject) → LeadsToNothing lines (edge ∷ []) end x → Some y ≡ option_map source_of (at_number (conclusions lines) edge) → y ≡ x
same_source lines edge end x y l e =
    let (s, t, at_edge, at_end) = edge_into_nothing lines edge end x l in
    same_Some y x (e ∙ ap (option_map source_of) at_edge)

pub carried_line : (o : Ontology) (lines : List Line) (edge end : ℕ) (x y : Subject) (premises : List ℕ) → IsOntology o → IsDerivation o lines → LeadsToNothing lines (edge ∷ []) end x → y ≡ x → premises ≡ edge ∷ end ∷ []
    → IsDerived o lines (record { conclusion = Sub y nothing; rule = K11; axiom' = None; premises = premises })
carried_line o lines edge end x y premises w d l same are =
    subst (λ (ns : List ℕ). IsDerived o lines (record { conclusion = Sub y nothing; rule = K11; axiom' = None; premises = ns })) (sym are)
    (subst (λ (z : Subject). IsDerived o lines (record { conclusion = Sub z nothing; rule = K11; axiom' = None; premises = edge ∷ end ∷ [] })) (sym same)
    (carried_over_derived o lines edge end x w d l))

-- what the last line says
pub last_says : (lines new : List Line) (line : Line) (n : ℕ) → new ≡ lines ++ line ∷ [] → n ≡ length new → at_number (conclusions new) n ≡ Some line.conclusion
last_says lines new line n e k =
    let at = last_conclusion lines line n (k ∙ ap (λ (ls : List Line). length ls) e) in
    let (c, at_n, alone) = one_number (conclusions (lines ++ line ∷ [])) n (line.conclusion ∷ []) at in
    ap (λ (ls : List Line). at_number (conclusions ls) n) e ∙ at_n ∙ ap Some (sym (heads alone))

-- an empty walk ends where it starts
pub no_walk : (lines : List Line) (end : ℕ) (x : Subject) → LeadsToNothing lines [] end x → at_number (conclusions lines) end ≡ Some (Sub x nothing)
no_walk lines end x l =
    let e = no_edge x l.target l.steps (edges_as lines [] end x l [] (sym (same_Some [] l.edges l.at))) in
    l.at_end ∙ ap (λ y. Some (Sub y nothing)) (sym e)

-- the last edge of a walk, and what is left when its source is in owl:Nothing too
pub record Shortens (lines : List Line) (walk : List ℕ) (edge end : ℕ) (x : Subject) : Type 0 where
  pub source : Subject
  pub last : LeadsToNothing lines (edge ∷ []) end source
  pub left : (new : List Line) (n : ℕ) → Lengthens lines new → at_number (conclusions new) n ≡ Some (Sub source nothing) → LeadsToNothing new walk n x

shortens_joined : (lines : List Line) (walk : List ℕ) (edge end : ℕ) (x : Subject) → LeadsToNothing lines (walk ++ edge ∷ []) end x → Shortens lines walk edge end x
shortens_joined lines walk edge end x l =
    let (cs, ds, first, second, joined) = at_numbers_split (conclusions lines) walk (edge ∷ []) l.edges l.at in
    let (z, ss, ts, before, after) = walk_split x l.target l.steps cs ds (edges_as lines (walk ++ edge ∷ []) end x l (cs ++ ds) joined) in
    record {
      source = z;
      last = record { target = l.target; steps = ts; edges = ds; at = second; is_walk = after; at_end = l.at_end };
      left = λ new n longer at_end. record { target = z; steps = ss; edges = cs; at = conclusions_grown walk cs longer first; is_walk = before; at_end = at_end };
    }

pub shortens : (lines : List Line) (walk : List ℕ) (k edge end : ℕ) (x : Subject) → slice_get walk k ≡ Some edge → LeadsToNothing lines (take (k + 1) walk) end x → Shortens lines (take k walk) edge end x
shortens lines walk k edge end x at l = shortens_joined lines (take k walk) edge end x (subst (λ ns. LeadsToNothing lines ns end x) (take_push walk k edge at) l)

pub shortens_by_one : (lines : List Line) (walk : List ℕ) (k end : ℕ) (x : Subject) (d : ℕ) → 0 < k → k ≤ length walk → LeadsToNothing lines (take k walk) end x → Shortens lines (take (k - 1) walk) (get_or walk (k - 1) d) end x
shortens_by_one lines walk k end x d low high l =
    let e : k ≡ k - 1 + 1 = omega arith in
    shortens lines walk (k - 1) (get_or walk (k - 1) d) end x (slice_get-get_or walk (k - 1) d (omega arith)) (subst (λ j. LeadsToNothing lines (take j walk) end x) e l)
