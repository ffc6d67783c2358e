-- The relation and the types that lines give, from lists.
use Rattle.std.proofs.Common.{◌≡◌, ◌↔◌, ℕ, ◌<◌, List, length, Bool, true, false, ◌||◌, Option, sym, ap, ◌∙◌, subst, subst₂, arith}
use Rattle.std.proofs.lemmas.Bool.{false_from_ne_true}
use Rattle.lemmas.proofs.Mapped.{slice_get_map, slice_get_map_from}
use Rattle.axioms.specs.Ontology.{Ontology, Class, IsClassAt, nothing}
use Rattle.axioms.specs.WellFormedness.{IsOntology}
use Rattle.certificate.specs.Certificate.{Conclusion, Line, Sub, Expression, Individual}
use Rattle.taxonomy.specs.Relation.{lies_below, is_listed, is_below, IsPreorder}
use Rattle.taxonomy.specs.Texts.{taxonomy_text, instances_text}
use Rattle.cert_check.specs.declared.verdict.Reason.{Reason}
use Rattle.cert_check.specs.Acceptance.{LiesBelow, Belongs}
use Rattle.cert_check.specs.Additions.{SomeRow}
use Rattle.cert_check.specs.Derivation.{HasLine}
use Rattle.cert_check.specs.Lists.{said_by, PutsBelow, PutsInto, AreSuperclasses, AreTypes, AreLists, ArePreorder}
use Rattle.cert_check.proofs.Listwise.{listed_within}
use Rattle.cert_check.specs.Verdict.{RelationAgainst, TextsAgainst}

module _ (o : Ontology) (w : IsOntology o) (lines : List Line) where
  pub below_line : (c d e f : ℕ) → IsClassAt o c e → IsClassAt o d f → SomeRow (said_by lines) (λ a. PutsBelow o a c d) ↔ HasLine lines (Sub (Expression e) f)
  below_line c d e f ge gf = (
    λ (k, said, g, (e', f', s, ge', gf')).
        let (line, there, same) = slice_get_map_from (λ (l : Line). l.conclusion) lines k said g in
        (k, line, there, same ∙ subst₂ (λ x y. said ≡ Sub (Expression x) y) (w.distinct_nodes e' e (Class c) ge' ge) (w.distinct_nodes f' f (Class d) gf' gf) s),
    λ (k, line, g, s). (k, line.conclusion, slice_get_map (λ (l : Line). l.conclusion) lines k line g, (e, f, s, ge, gf)),
  )

  pub type_line : (a d f : ℕ) → IsClassAt o d f → SomeRow (said_by lines) (λ b. PutsInto o b a d) ↔ HasLine lines (Sub (Individual a) f)
  type_line a d f gf = (
    λ (k, said, g, (f', s, gf')).
        let (line, there, same) = slice_get_map_from (λ (l : Line). l.conclusion) lines k said g in
        (k, line, there, same ∙ s ∙ ap (Sub (Individual a)) (w.distinct_nodes f' f (Class d) gf' gf)),
    λ (k, line, g, s). (k, line.conclusion, slice_get_map (λ (l : Line). l.conclusion) lines k line g, (f, s, gf)),
  )

  module _ (above types : List (List ℕ)) (class : AreSuperclasses o (said_by lines) above) (type : AreTypes o (said_by lines) types) (below : ℕ → ℕ → Bool)
      (says : (c d : ℕ) → c < length o.names.classes → d < length o.names.classes → below c d ≡ is_below above c d) where
    in_range : (c e : ℕ) → IsClassAt o c e → c < length o.names.classes
    in_range c e ge = w.nodes e (Class c) ge

    there : (c e : ℕ) → IsClassAt o c e → c < length above
    there c e ge = let lc = in_range c e ge in let long = class.long in omega arith

    relation : LiesBelow o lines below
    relation = record {
      unsatisfiable = λ c e d ge ld empty.
          let none : is_listed above c nothing ≡ true = (class.each c nothing (there c e ge)).1 ((below_line c nothing e nothing ge w.nothing_node).1 empty) in
          says c d (in_range c e ge) ld ∙ ap (λ b. b || is_listed above c d) none;
      by_line = λ c e d f ge gf some.
          let here = there c e ge in
          let not_empty : is_listed above c nothing ≡ false = false_from_ne_true (is_listed above c nothing) (λ t. some ((below_line c nothing e nothing ge w.nothing_node).0 ((class.each c nothing here).0 t))) in
          let same : below c d ≡ is_listed above c d = says c d (in_range c e ge) (in_range d f gf) ∙ ap (λ b. b || is_listed above c d) not_empty in
          (λ t. (below_line c d e f ge gf).0 ((class.each c d here).0 (sym same ∙ t)), λ h. same ∙ (class.each c d here).1 ((below_line c d e f ge gf).1 h));
    }

    belongs : Belongs o lines (is_listed types)
    belongs a d f la gf =
        let here : a < length types = subst (λ n. a < n) (sym type.long) la in
        (λ t. (type_line a d f gf).0 ((type.each a d here).0 t), λ h. (type.each a d here).1 ((type_line a d f gf).1 h))

    pub relation_against : (t i : List ℕ) (reason : Option Reason)
        → TextsAgainst t i (taxonomy_text o.names.classes below) (instances_text o.names.classes o.names.individuals below (is_listed types)) reason
        → RelationAgainst o t i lines reason
    relation_against t i reason texts = record {
      lies_below = below;
      belongs = is_listed types;
      relation = relation;
      types = belongs;
      texts = texts;
    }

-- the lists are of classes
pub superclasses_fit : (o : Ontology) → IsOntology o → (said : List Conclusion) (above : List (List ℕ)) → AreSuperclasses o said above → AreLists (length o.names.classes) (length o.names.classes) above
superclasses_fit o w said above class = record {
  long = class.long;
  within = λ c d t.
      let s = (class.each c d (listed_within above c d t)).0 t in
      w.nodes s.3.1 (Class d) s.3.4;
}

pub types_fit : (o : Ontology) → IsOntology o → (said : List Conclusion) (types : List (List ℕ)) → AreTypes o said types → AreLists (length o.names.individuals) (length o.names.classes) types
types_fit o w said types type = record {
  long = type.long;
  within = λ a d t.
      let s = (type.each a d (listed_within types a d t)).0 t in
      w.nodes s.3.0 (Class d) s.3.2;
}

-- a relation that says what the lists do is a preorder where they are
pub preorder_of : (rows : List (List Bool)) (above : List (List ℕ)) → length rows ≡ length above
    → ((c d : ℕ) → c < length rows → d < length rows → lies_below rows c d ≡ is_below above c d) → ArePreorder above → IsPreorder rows
preorder_of rows above long says p = record {
  reflexive = λ c lc. says c c lc lc ∙ p.reflexive c (fit c lc);
  transitive = λ c d e lc ld le first second.
      says c e lc le ∙ p.transitive c d e (fit c lc) (fit d ld) (fit e le) (sym (says c d lc ld) ∙ first) (sym (says d e ld le) ∙ second);
}
  where
    fit : (c : ℕ) → c < length rows → c < length above
    fit c l = subst (λ n. c < n) long l

-- a relation that says what the lists do says so of the classes of the ontology
pub relation_says : (o : Ontology) (rows reduced : List (List Bool)) (above : List (List ℕ)) → reduced ≡ rows → length rows ≡ length above → length above ≡ length o.names.classes
    → ((c d : ℕ) → c < length rows → d < length rows → lies_below rows c d ≡ is_below above c d)
    → (c d : ℕ) → c < length o.names.classes → d < length o.names.classes → lies_below reduced c d ≡ is_below above c d
relation_says o rows reduced above same long many says c d lc ld =
    ap (λ rs. lies_below rs c d) same ∙ says c d (omega arith) (omega arith)
