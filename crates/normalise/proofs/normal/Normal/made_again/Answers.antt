use Rattle.std.proofs.Common.{◌≡◌, inl, inr, length, Contains, take, sym, ap, ◌∙◌, subst}
use Rattle.std.proofs.lemmas.List.{length-map}
use Rattle.axioms.specs.View.{axiom_of}
use Rattle.axioms.specs.WellFormedness.{AreDistinct}
use Rattle.normalise.specs.FreshNames.{NameChains}
use Rattle.normalise.specs.Listing.{Listing}
use Rattle.normalise.specs.Steps.{StatedFrom}
use Rattle.normalise.specs.View.{Adds}
use Rattle.normalise.proofs.Differing.{all_differ}
use Rattle.normalise.proofs.Marked.{express_at}
use Rattle.normalise.proofs.normal.Normal.made_again.Goals as goal

pub state_all-requires-clause-distinct : goal.state_all-requires-clause-distinct
state_all-requires-clause-distinct c = all_differ c.args.ontology.now c.well_formed-2.ensures _ c.axioms.ensures

pub express_all-requires : goal.express_all-requires
express_all-requires c = subst AreDistinct (sym c.deref-3.ensures.value) c.in_ok-numbers.ensures.distinct

pub returns : goal.returns
returns c =
    let p = c.args.ontology.now in
    let many : length c.axioms.result.now ≡ length p.axioms = sym (length-map c.axioms.result.now axiom_of) ∙ ap length c.axioms.ensures in
    record {
      begun = c.in_ok-made.made;
      no_entries = c.in_ok-made.ensures.entries;
      no_apart = c.in_ok-made.ensures.apart;
      operands = c.in_ok-made.ensures.operands ∙ ap (λ (v : Listing). v.operands) c.self.view_is;
      steps = c.in_ok-made.ensures.steps ∙ ap (λ (v : Listing). v.steps) c.self.view_is;
      stated = c.state_all.new.self;
      states = subst (λ n. Adds c.in_ok-made.made c.state_all.new.self (StatedFrom p.axioms c.args.from n)) many
          (subst (λ xs. Adds c.in_ok-made.made c.state_all.new.self (StatedFrom xs c.args.from (length c.axioms.result.now))) c.axioms.ensures c.in_ok-state_all.ensures.forms);
      chains = subst (λ xs. NameChains (take c.args.from xs) c.in_ok-made.made.steps → NameChains xs c.state_all.new.self.steps) c.axioms.ensures c.in_ok-state_all.ensures.names;
      numbers = c.in_ok-numbers.numbers.items;
      fresh = λ e h. c.in_ok-numbers.ensures.all e (elim h [
        | inl x ↦ inl (subst (λ xs. Contains xs e) (sym c.deref.ensures.value) (elim (c.requires.right e x.0) [ inl old ↦ absurd (x.1 old) | inr new ↦ new ]))
        | inr x ↦ inr (subst (λ xs. Contains xs e) (sym c.deref-2.ensures.value) (elim (c.requires.left e x.0) [ inl old ↦ absurd (x.1 old) | inr new ↦ new ]))
      ]);
      expresses = express_at p.nodes _ _ _ _ _ _ _ _ (ap (λ (v : Listing). v.right) c.self.view_is) (ap (λ (v : Listing). v.left) c.self.view_is) c.deref-3.ensures.value c.in_ok-express_all.ensures;
    }
