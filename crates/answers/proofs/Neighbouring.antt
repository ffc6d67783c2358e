-- Classes next to a class, by marks.
use Rattle.std.proofs.Common.{◌≡◌, ◌↔◌, ℕ, ◌<◌, Bool, true, false, ◌&&◌, not, List, [], ◌∷◌, length, get_or, replicate, Some, Contains, inl, inr, sym, ap, ◌∙◌, subst, subst₂, arith}
use Rattle.std.proofs.lemmas.Bool.{and_from, and_parts, cases_Bool, false_from_ne_true, false≢true, not-true, not_from_false}
use Rattle.std.proofs.lemmas.List.{get_or-replicate}
use Rattle.std.proofs.lemmas.List.Elements.{Contains-get_or}
use Rattle.std.proofs.lemmas.Option.{slice_get-get_or, slice_get_within}
use Rattle.lemmas.proofs.Members.{Contains-first, Contains-from_slice_get, Contains-none, Contains-one, slice_get-from_Contains}
use Rattle.axioms.specs.Expression.{Iri, owl_nothing}
use Rattle.axioms.specs.Ontology.{Ontology, name_at}
use Rattle.number_sets.proofs.Members.{has_within}
use Rattle.number_sets.specs.Members.{has}
use Rattle.answers.specs.Entailment.{LiesBelow}
use Rattle.answers.specs.Names.{AreThose, HasMark, IsMarked}
use Rattle.answers.specs.Neighbours.{AreGroups, AreMarksAmong, AreMarksOf, AreOneGroup, AreSame, AreSatisfiable, IsNearer, IsNearest, LiesDirectlyBelow, LiesStrictlyBelow}
use Rattle.program.specs.declared.question.Side.TheVariants.{Above, Below}
use Rattle.answers.proofs.Below.{below_all, nothing_below, strictly_same_left, strictly_same_right}
use Rattle.answers.proofs.Naming.{mark_tells, name_is}

-- ---- marks

pub apart_is : (marks others left : List Bool) (n : ℕ) → has left n ≡ (has marks n && not (has others n)) → IsMarked left n ↔ (IsMarked marks n × (IsMarked others n → ⊥))
apart_is marks others left n is = (
  λ mark. (let (a, b) = and_parts _ _ (sym is ∙ mark) in (a, λ other. false≢true (sym (not-true _ b) ∙ other))),
  λ (a, b). is ∙ and_from _ _ a (not_from_false _ (false_from_ne_true _ b)),
)

-- among all names, the marks are on exactly those that have the property
pub among_all : (names : List Iri) (P : Iri → Type 0) (all : List Bool) → all ≡ replicate (length names) true → (others : List Bool) → AreMarksAmong all names P others → AreMarksOf names P others
among_all names P all is others are = record { long = are.long; exact = λ n low. are.exact n (ap (λ (ms : List Bool). has ms n) is ∙ get_or-replicate (length names) n true false low) }

module _ (names : List Iri) (P Q : Iri → Type 0) where
  pub marks_same : ((name : Iri) → P name ↔ Q name) → (marks : List Bool) → AreMarksOf names P marks → AreMarksOf names Q marks
  marks_same same marks are = record {
    long = are.long;
    exact = λ n low. (λ mark. (same (name_at names n)).0 ((are.exact n low).0 mark), λ q. (are.exact n low).1 ((same (name_at names n)).1 q));
  }

  pub among_same : ((name : Iri) → P name ↔ Q name) → (marks others : List Bool) → AreMarksAmong marks names P others → AreMarksAmong marks names Q others
  among_same same marks others are = record {
    long = are.long;
    exact = λ n there. (λ mark. (same (name_at names n)).0 ((are.exact n there).0 mark), λ q. (are.exact n there).1 ((same (name_at names n)).1 q));
  }

  module _ (marks others left : List Bool) (are : AreMarksOf names P marks) (others_are : AreMarksAmong marks names Q others) (long : length left ≡ length marks) where
    pub marks_both : ((n : ℕ) → has left n ≡ (has marks n && has others n)) → AreMarksOf names (λ name. P name × Q name) left
    marks_both each = record {
      long = long ∙ are.long;
      exact = λ n low. (
        λ mark. (let (a, b) = and_parts _ _ (sym (each n) ∙ mark) in ((are.exact n low).0 a, (others_are.exact n a).0 b)),
        λ h. (let there = (are.exact n low).1 h.0 in each n ∙ and_from _ _ there ((others_are.exact n there).1 h.1)),
      );
    }

    pub marks_apart : ((n : ℕ) → has left n ≡ (has marks n && not (has others n))) → AreMarksOf names (λ name. P name × (Q name → ⊥)) left
    marks_apart each = record {
      long = long ∙ are.long;
      exact = λ n low.
          let is = apart_is marks others left n (each n) in (
            λ mark. (let (a, b) = is.0 mark in ((are.exact n low).0 a, λ q. b ((others_are.exact n a).1 q))),
            λ h. (let there = (are.exact n low).1 h.0 in is.1 (there, λ other. h.1 ((others_are.exact n there).0 other))),
          );
    }

-- ---- groups of classes by another property

pub groups_same : (o : Ontology) (P Q : Iri → Type 0) → ((name : Iri) → Contains o.names.classes name → P name ↔ Q name) → (groups : List (List Iri)) → AreGroups o P groups → AreGroups o Q groups
groups_same o P Q same groups are = record {
  ordered = are.ordered;
  each = λ group there. (let (class, known, p, those) = are.each group there in (class, known, (same class known).0 p, those));
  all = λ class known q. are.all class known ((same class known).1 q);
}

-- ---- classes that are next

module _ (o : Ontology) (marks : List Bool) (class : Iri) where
  abbrev classes : List Iri
  classes = o.names.classes

  known_at : (n : ℕ) → n < length classes → Contains classes (name_at classes n)
  known_at n low = (let at = slice_get-get_or classes n [] low in Contains-from_slice_get classes n (name_at classes n) (at ∙ ap (λ x. Some x) (sym (name_is classes n (get_or classes n []) at))))

  module _ (above : AreMarksOf classes (IsNearer o Above class) marks) where
    marks_above : (name : Iri) → Contains classes name → HasMark classes marks name ↔ LiesStrictlyBelow o class name
    marks_above name known = mark_tells classes marks (IsNearer o Above class) above.exact name known

    strictly_at : (n : ℕ) → IsMarked marks n → LiesStrictlyBelow o class (name_at classes n)
    strictly_at n mark = (above.exact n (subst (λ (k : ℕ). n < k) above.long (has_within marks n mark))).0 mark

    pub satisfiable_above : AreSatisfiable o marks
    satisfiable_above = record {
      satisfiable = λ n mark empty. (strictly_at n mark).1 (below_all o (name_at classes n) owl_nothing class empty (nothing_below o class));
      closed = λ n m mark low same. (above.exact m low).1 (strictly_same_right o class (name_at classes n) (name_at classes m) same (strictly_at n mark));
    }

    pub parents_are : (groups : List (List Iri)) → AreGroups o (IsNearest o (HasMark classes marks) Above) groups → AreGroups o (LiesDirectlyBelow o class) groups
    parents_are groups are = groups_same o (IsNearest o (HasMark classes marks) Above) (LiesDirectlyBelow o class)
        (λ name known. (
          λ nearest. record {
            strictly = (marks_above name known).0 nearest.has;
            next = λ e there up down. nearest.next e there ((marks_above e there).1 up) down;
          },
          λ direct. record {
            has = (marks_above name known).1 direct.strictly;
            next = λ e there mark down. direct.next e there ((marks_above e there).0 mark) down;
          },
        ))
        groups are

  module _ (below : AreMarksOf classes (IsNearer o Below class) marks) where
    marks_below : (name : Iri) → Contains classes name → HasMark classes marks name ↔ LiesStrictlyBelow o name class
    marks_below name known = mark_tells classes marks (IsNearer o Below class) below.exact name known

    strictly_under : (n : ℕ) → IsMarked marks n → LiesStrictlyBelow o (name_at classes n) class
    strictly_under n mark = (below.exact n (subst (λ (k : ℕ). n < k) below.long (has_within marks n mark))).0 mark

    module _ (empty : List Bool) (empty_are : AreMarksAmong marks classes (λ name. LiesBelow o name owl_nothing) empty) where
      -- the satisfiable ones
      module _ (left : List Bool) (long : length left ≡ length marks) (each : (n : ℕ) → has left n ≡ (has marks n && not (has empty n))) where
        left_are : AreMarksOf classes (λ name. LiesStrictlyBelow o name class × (LiesBelow o name owl_nothing → ⊥)) left
        left_are = marks_apart classes (λ name. LiesStrictlyBelow o name class) (λ name. LiesBelow o name owl_nothing) marks empty left below empty_are long each

        left_tells : (name : Iri) → Contains classes name → HasMark classes left name ↔ (LiesStrictlyBelow o name class × (LiesBelow o name owl_nothing → ⊥))
        left_tells name known = mark_tells classes left (λ name. LiesStrictlyBelow o name class × (LiesBelow o name owl_nothing → ⊥)) left_are.exact name known

        left_at : (n : ℕ) → IsMarked left n → LiesStrictlyBelow o (name_at classes n) class × (LiesBelow o (name_at classes n) owl_nothing → ⊥)
        left_at n mark = (left_are.exact n (subst (λ (k : ℕ). n < k) left_are.long (has_within left n mark))).0 mark

        pub satisfiable_below : AreSatisfiable o left
        satisfiable_below = record {
          satisfiable = λ n mark. (left_at n mark).1;
          closed = λ n m mark low same. (left_are.exact m low).1 (
            strictly_same_left o (name_at classes n) (name_at classes m) class same (left_at n mark).0,
            λ empty. (left_at n mark).1 (below_all o (name_at classes n) (name_at classes m) owl_nothing same.0 empty),
          );
        }

        -- where there are some, those without elements are not next
        pub children_are : (((k : ℕ) → IsMarked marks k → IsMarked empty k) → ⊥) → (groups : List (List Iri)) → AreGroups o (IsNearest o (HasMark classes left) Below) groups → AreGroups o (λ name. LiesDirectlyBelow o name class) groups
        children_are some groups are_groups = groups_same o (IsNearest o (HasMark classes left) Below) (λ name. LiesDirectlyBelow o name class)
            (λ name known. (
              λ nearest. record {
                strictly = ((left_tells name known).0 nearest.has).0;
                next = λ e there up down. nearest.next e there ((left_tells e there).1 (down, λ empty. up.1 (below_all o e owl_nothing name empty (nothing_below o name)))) up;
              },
              λ direct. record {
                has = (left_tells name known).1 (
                  direct.strictly,
                  λ bottom. some (λ k mark. elim (cases_Bool (has empty k)) [
                    | inl t ↦ t
                    | inr f ↦
                        let known_one = known_at k (subst (λ (j : ℕ). k < j) below.long (has_within marks k mark)) in
                        absurd (direct.next (name_at classes k) known_one
                        (below_all o name owl_nothing (name_at classes k) bottom (nothing_below o (name_at classes k)), λ up. false≢true (sym f ∙ (empty_are.exact k mark).1 (below_all o (name_at classes k) name owl_nothing up bottom)))
                        (strictly_under k mark))
                  ]),
                );
                next = λ e there mark up. direct.next e there up ((left_tells e there).0 mark).0;
              },
            ))
            groups are_groups

      -- where there are none, all are without elements
      module _ (all : (k : ℕ) → IsMarked marks k → IsMarked empty k) where
        without : (n : ℕ) → IsMarked marks n → LiesBelow o (name_at classes n) owl_nothing
        without n mark = (empty_are.exact n mark).0 (all n mark)

        pub one_group_below : AreOneGroup o marks
        one_group_below n m mark low =
            let bottom = without n mark in (
              λ other.
                  let bottom_m = without m other in
                  (below_all o (name_at classes n) owl_nothing (name_at classes m) bottom (nothing_below o (name_at classes m)), below_all o (name_at classes m) owl_nothing (name_at classes n) bottom_m (nothing_below o (name_at classes n))),
              λ same. (below.exact m low).1 (strictly_same_left o (name_at classes n) (name_at classes m) class same (strictly_under n mark)),
            )

        pub lone_children_are : (groups : List (List Iri)) → AreGroups o (HasMark classes marks) groups → AreGroups o (λ name. LiesDirectlyBelow o name class) groups
        lone_children_are groups are_groups = groups_same o (HasMark classes marks) (λ name. LiesDirectlyBelow o name class)
            (λ name known. (
              λ mark. record {
                strictly = (marks_below name known).0 mark;
                next = λ e there up down.
                    let (n, at, marked) = (marks_below e there).1 down in
                    up.1 (below_all o e owl_nothing name (subst (λ (x : Iri). LiesBelow o x owl_nothing) (name_is classes n e at) (without n marked)) (nothing_below o name));
              },
              λ direct. (marks_below name known).1 direct.strictly,
            ))
            groups are_groups

-- ---- one group, or none

module _ (o : Ontology) (marks : List Bool) (names : List Iri) (those : AreThose o.names.classes (HasMark o.names.classes marks) names) where
  pub no_group : length names ≡ 0 → (groups : List (List Iri)) → groups ≡ [] → AreGroups o (HasMark o.names.classes marks) groups
  no_group none groups is = subst (AreGroups o (HasMark o.names.classes marks)) (sym is) (record {
    ordered = λ i j d low high. absurd (omega (arith, high));
    each = λ group there. absurd (Contains-none group there);
    all = λ class known mark. (let (n, at) = slice_get-from_Contains names class (those.all class known mark) in absurd (omega (arith, none, slice_get_within names n class at)));
  })

  module _ (one : AreOneGroup o marks) where
    group_of_one : (class : Iri) → Contains names class → AreThose o.names.classes (AreSame o class) names
    group_of_one class there =
        let classes = o.names.classes in
        let (n, at, mark) = (those.each class there).1 in
        let here = name_is classes n class at in record {
          ordered = those.ordered;
          each = λ name in_names.
              let (known, (m, at', mark')) = those.each name in_names in
              let same = (one n m mark (slice_get_within classes m name at')).0 mark' in
              (known, subst₂ (λ (a b : Iri). AreSame o a b) here (name_is classes m name at') same);
          all = λ name known same.
              let (m, at') = slice_get-from_Contains classes name known in
              let there' = (one n m mark (slice_get_within classes m name at')).1 (subst₂ (λ (a b : Iri). AreSame o a b) (sym here) (sym (name_is classes m name at')) same) in
              those.all name known (m, at', there');
        }

    pub one_group : 0 < length names → (groups : List (List Iri)) → groups ≡ names ∷ [] → AreGroups o (HasMark o.names.classes marks) groups
    one_group some groups is = subst (AreGroups o (HasMark o.names.classes marks)) (sym is) (record {
      ordered = λ i j d low high. absurd (omega (arith, low, high));
      each = λ group there.
          let first = get_or names 0 [] in
          let in_names = Contains-get_or names 0 [] some in
          let (known, mark) = those.each first in_names in
          (first, known, mark, subst (AreThose o.names.classes (AreSame o first)) (Contains-one names group there) (group_of_one first in_names));
      all = λ class known mark. (names, Contains-first names [], those.all class known mark);
    })
