-- Expressions that are classes, as operands, and what they say.
use Rattle.std.proofs.Common.{◌≡◌, ℕ, zero, suc, ◌+◌, ◌<◌, ◌≤◌, List, [], ◌∷◌, ◌++◌, length, map, get_or, slice_get, take, Some, All, refl, sym, ap, ap₂, ◌∙◌, arith, subst}
use Rattle.std.specs.List.{flat_map}
use Rattle.std.proofs.lemmas.List.{append-nil, map-append, take_more}
use Rattle.std.proofs.lemmas.List.Elements.{All-nil, All-cons}
use Rattle.std.proofs.lemmas.Option.{none-some, same_Some}
use Rattle.axioms.specs.Axiom.{EquivalentClasses}
use Rattle.axioms.specs.Numbering.{States}
use Rattle.axioms.specs.Ontology.{IsClassAt, Names, Ontology, expressions}
use Rattle.axioms.specs.View.{expr_numbers}
use Rattle.axioms.specs.WellFormedness.{AreDistinct, AreOperands}
use Rattle.axioms.specs.declared.ids.ExprId.{ExprId}
use Rattle.axioms.proofs.Trees.{class_tree, one_class}
use Rattle.inferred_text.specs.Inferred.{sameness}
use Rattle.statements_text.specs.Texts.{statement_line}
use Rattle.taxonomy.specs.Following.{class_at}

-- each number is that of the expression that the class is
abbrev pub AreClassesAt : Ontology → List ℕ → List ℕ → Type 0
AreClassesAt o [] [] = Unit {0}
AreClassesAt o (c ∷ cs) (e ∷ es) = IsClassAt o c e × (e < length o.nodes) × AreClassesAt o cs es
AreClassesAt o _ _ = ⊥

pub one_more : (o : Ontology) (cs es : List ℕ) (c e : ℕ) → AreClassesAt o cs es → IsClassAt o c e → e < length o.nodes → AreClassesAt o (cs ++ c ∷ []) (es ++ e ∷ [])
one_more o [] [] c e h is within = (is, within, tt)
one_more o [] (f ∷ es) c e h is within = elim h [ ]
one_more o (d ∷ cs) [] c e h is within = elim h [ ]
one_more o (d ∷ cs) (f ∷ es) c e h is within = (h.0, h.1, one_more o cs es c e h.2 is within)

pub as_many : (o : Ontology) (cs es : List ℕ) → AreClassesAt o cs es → length es ≡ length cs
as_many o [] [] h = refl
as_many o [] (e ∷ es) h = elim h [ ]
as_many o (c ∷ cs) [] h = elim h [ ]
as_many o (c ∷ cs) (e ∷ es) h = ap suc (as_many o cs es h.2)

pub all_meant : (o : Ontology) (cs es : List ℕ) → AreClassesAt o cs es → expressions o es ≡ map (class_at o.names) cs
all_meant o [] [] h = refl
all_meant o [] (e ∷ es) h = elim h [ ]
all_meant o (c ∷ cs) [] h = elim h [ ]
all_meant o (c ∷ cs) (e ∷ es) h = ap₂ (λ t ts. t ∷ ts) (class_tree o c e h.0) (all_meant o cs es h.2)

all_within : (o : Ontology) (cs es : List ℕ) → AreClassesAt o cs es → All (λ e. e < length o.nodes) es
all_within o [] [] h = All-nil (λ e. e < length o.nodes)
all_within o [] (e ∷ es) h = elim h [ ]
all_within o (c ∷ cs) [] h = elim h [ ]
all_within o (c ∷ cs) (e ∷ es) h = All-cons (λ e. e < length o.nodes) e es h.1 (all_within o cs es h.2)

at_place : (o : Ontology) (cs es : List ℕ) → AreClassesAt o cs es → (n e : ℕ) → slice_get es n ≡ Some e → (c : ℕ) × (slice_get cs n ≡ Some c) × IsClassAt o c e
at_place o [] [] h n e g = absurd (none-some e g)
at_place o [] (f ∷ es) h n e g = elim h [ ]
at_place o (c ∷ cs) [] h n e g = elim h [ ]
at_place o (c ∷ cs) (f ∷ es) h zero e g = (c, refl, subst (IsClassAt o c) (same_Some f e g) h.0)
at_place o (c ∷ cs) (f ∷ es) h (suc n) e g = at_place o cs es h.2 n e g

all_distinct : (o : Ontology) (cs es : List ℕ) → AreClassesAt o cs es → AreDistinct cs → AreDistinct es
all_distinct o cs es h distinct m n e g k =
    let (c, at_m, is_c) = at_place o cs es h m e g in
    let (d, at_n, is_d) = at_place o cs es h n e k in
    distinct m n c at_m (at_n ∙ ap Some (sym (one_class o c d e is_c is_d)))

-- two or more classes, each once, are operands
pub are_operands : (o : Ontology) (cs es : List ℕ) → AreClassesAt o cs es → 2 ≤ length cs → AreDistinct cs → AreOperands (length o.nodes) es
are_operands o cs es h many distinct = record {
  many = omega (arith, as_many o cs es h, many);
  distinct = all_distinct o cs es h distinct;
  within = all_within o cs es h;
}

-- one expression more is found
pub pushed : (o : Ontology) (cs : List ℕ) (i : ℕ) (old now : List ExprId) (e : ExprId) → i < length cs → now ≡ old ++ e ∷ [] → AreClassesAt o (take i cs) (expr_numbers old)
    → IsClassAt o (get_or cs i 0) e.0 → e.0 < length o.nodes → AreClassesAt o (take (i + 1) cs) (expr_numbers now)
pushed o cs i old now e l added before is within =
    let numbers : expr_numbers now ≡ expr_numbers old ++ e.0 ∷ [] = ap expr_numbers added ∙ map-append (λ (x : ExprId). x.0) old (e ∷ []) in
    rw (numbers, take_more cs i 0 l) (one_more o (take i cs) (expr_numbers old) (get_or cs i 0) e.0 before is within)

-- ---- what is said of them

pub nothing_said : (names : Names) (cs : List ℕ) → length cs < 2 → sameness names cs ≡ []
nothing_said names [] l = refl
nothing_said names (c ∷ []) l = refl
nothing_said names (c ∷ d ∷ cs) l = absurd (omega arith)

pub said_same : (names : Names) (cs : List ℕ) → 2 ≤ length cs → sameness names cs ≡ States (EquivalentClasses (map (class_at names) cs)) ∷ []
said_same names [] l = absurd (omega arith)
said_same names (c ∷ []) l = absurd (omega arith)
said_same names (c ∷ d ∷ cs) l = refl

-- the line of the axiom is that of what is said
pub line_of_operands : (o : Ontology) (cs es : List ℕ) → AreClassesAt o cs es → 2 ≤ length cs → statement_line (States (EquivalentClasses (expressions o es))) ≡ flat_map statement_line (sameness o.names cs)
line_of_operands o cs es h many =
    ap (λ ts. statement_line (States (EquivalentClasses ts))) (all_meant o cs es h)
    ∙ sym (append-nil (statement_line (States (EquivalentClasses (map (class_at o.names) cs)))))
    ∙ sym (ap (flat_map statement_line) (said_same o.names cs many))
