-- What the forms, lists and roots of a grown ontology lead to is of its closure.
use Rattle.std.proofs.Common.{◌≡◌, ℕ, ◌<◌, inl, inr, List, [], ◌∷◌, ◌++◌, length, map, take, drop, ap, ◌∙◌, sym, subst, arith}
use Rattle.std.proofs.lemmas.List.{append_assoc, length-map, take-append-drop, take-map}
use Rattle.std.proofs.lemmas.List.Elements.{All-push, All-weaker}
use Rattle.axioms.specs.Growth.{Numbers}
use Rattle.axioms.specs.Ontology.{Ontology}
use Rattle.axioms.specs.WellFormedness.{IsOntology}
use Rattle.axioms.specs.declared.ids.ExprId.{ExprId}
use Rattle.normal_forms.specs.Apart.{AreContinuedBy}
use Rattle.normal_forms.specs.declared.apart.ApartLists.{ApartLists}
use Rattle.normal_forms.specs.declared.forms.Form.{Form}
use Rattle.facts.specs.declared.contexts.Context.{Context}
use Rattle.facts.specs.declared.contexts.Context.TheVariants as contexts
use Rattle.facts.specs.Closure.{Problem}
use Rattle.closure.specs.Closure.{AreAsked}
use Rattle.normalise.specs.Entries.{form_in}
use Rattle.normalise.specs.Growth.{Grown, IsNormalFor}
use Rattle.normalise.specs.Listing.{Listing}
use Rattle.normalise.specs.Roots.{AreRoots, AreRootsAgain, HasMoreNames}
use Rattle.normalise.specs.View.{Keeps}
use Rattle.normalise.proofs.Adding.{keeps_long}
use Rattle.normalise.proofs.AddingRoots.{roots_with_it}
use Rattle.normalise.proofs.FreshNames.{kept_front}
use Rattle.saturate.specs.Growth.{HasGrown}
use Rattle.saturate.specs.Run.{IsState}
use Rattle.saturate.specs.State.{Seen}
use Rattle.engine.specs.Saturations.{IsSound, Saturating}
use Rattle.engine.proofs.Saturating.{is_problem, is_sound}

-- the old forms come first in the list of the grown ones
pub old_first : (o : Ontology) (old : Saturating) (v : Listing) → IsSound o old → Grown old.normal v → take (length (map form_in old.normal.entries)) (map form_in v.entries) ≡ old.state.problem.forms
old_first o old v sound grown =
    take-map form_in (length (map form_in old.normal.entries)) v.entries
    ∙ ap (map form_in) (ap (λ n. take n v.entries) (length-map old.normal.entries form_in) ∙ kept_front old.normal.entries v.entries grown.entries)
    ∙ sym sound.forms

-- the old lists come first among the grown ones
pub old_lists_first : (o : Ontology) (old : Saturating) (v : Listing) → IsSound o old → Grown old.normal v → AreContinuedBy old.state.problem.apart v.apart
old_lists_first o old v sound grown = subst (λ (ls : ApartLists). AreContinuedBy ls v.apart) (sym sound.apart) grown.apart

-- what was asked about is there still
still_asked : (o p : Ontology) (asked : List ℕ) → Keeps o.nodes p.nodes → AreAsked o asked → AreAsked p asked
still_asked o p asked nodes are = All-weaker (λ e. e < length o.nodes) (λ e. e < length p.nodes) (λ e l. omega (arith, l, keeps_long o.nodes p.nodes nodes)) asked are

module _ (o p : Ontology) (w : IsOntology o) (old : Saturating) (v : Listing) (new : Seen) (classes individuals : ℕ) (roots : List Context)
    (sound : IsSound o old) (normal : IsNormalFor p v) (grown : Grown old.normal v) (names : HasMoreNames o p classes individuals) (again : AreRootsAgain p classes individuals roots) (state : IsState new) where
  abbrev new_forms : List Form
  new_forms = drop (length (map form_in old.normal.entries)) (map form_in v.entries)

  -- where a state has grown by the new forms and by contexts, and these are the roots behind the old ones
  sound_by : (more : List Context) → AreAsked p v.asked → AreRoots p v.asked (old.state.problem.roots ++ more) → HasGrown new_forms v.apart more old.state new → IsSound p (record { normal = v; state = new })
  sound_by more asked are has =
      let forms : new.problem.forms ≡ map form_in v.entries =
      ap (λ (k : Problem). k.forms) has.problem ∙ ap (λ fs. fs ++ new_forms) (sym (old_first o old v sound grown)) ∙ take-append-drop (length (map form_in old.normal.entries)) (map form_in v.entries) in
      let lists : new.problem.apart ≡ v.apart = ap (λ (k : Problem). k.apart) has.problem in
      is_sound p v new normal asked forms lists (is_problem p v (old.state.problem.roots ++ more) new.problem normal are forms lists (ap (λ (k : Problem). k.roots) has.problem)) state

  asked_before : AreAsked p old.normal.asked
  asked_before = still_asked o p old.normal.asked names.nodes sound.asked

  roots_before : AreRoots p old.normal.asked (old.state.problem.roots ++ roots)
  roots_before = again o old.normal.asked old.state.problem.roots w sound.asked names (record { each = sound.problem.each_root; all = sound.problem.all_roots })

  -- with the new names, where the same is asked about
  pub extended_sound : v.asked ≡ old.normal.asked → HasGrown new_forms v.apart roots old.state new → IsSound p (record { normal = v; state = new })
  extended_sound same has = sound_by roots (subst (AreAsked p) (sym same) asked_before) (subst (λ a. AreRoots p a (old.state.problem.roots ++ roots)) (sym same) roots_before) has

  more_asked : (e n : ℕ) → Numbers old.normal.asked e v.asked n → e < length p.nodes → AreAsked p v.asked
  more_asked e n (inl h) low = subst (AreAsked p) (sym h.1) asked_before
  more_asked e n (inr h) low = subst (AreAsked p) (sym h.2) (All-push (λ x. x < length p.nodes) old.normal.asked e asked_before low)

  -- and with the context of an expression that is asked about, too
  pub asked_sound : (e : ExprId) (n : ℕ) → Numbers old.normal.asked e.0 v.asked n → e.0 < length p.nodes → HasGrown new_forms v.apart (roots ++ contexts.Expr e ∷ []) old.state new → IsSound p (record { normal = v; state = new })
  asked_sound e n numbers low has =
      sound_by (roots ++ contexts.Expr e ∷ []) (more_asked e.0 n numbers low)
      (subst (AreRoots p v.asked) (append_assoc old.state.problem.roots roots (contexts.Expr e ∷ [])) (roots_with_it p old.normal.asked v.asked (old.state.problem.roots ++ roots) e n roots_before numbers low)) has
