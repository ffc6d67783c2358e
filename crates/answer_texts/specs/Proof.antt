-- The text of a derivation: its lines, with names in place of numbers.
use Rattle.std.specs.Prelude.{ℕ, List, [], ◌∷◌, ◌++◌, Some, None, codes}
use Rattle.std.specs.declared.option.Option.{Option}
use Rattle.std.specs.List.{flat_map, enumerate_from}
use Rattle.std.specs.Fmt.{decimal}
use Rattle.axioms.specs.Ontology.{Ontology, expression, property_name, individual_name}
use Rattle.certificate.specs.Certificate.{Subject, Expression, Individual, Conclusion, Sub, Edge, Same, Line}
use Rattle.certificate.specs.Text.{rule_number}
use Rattle.answer_texts.specs.Names.{line_feed, name_text, expression_text}

-- as <x:A> or individual <x:a>
abbrev pub subject_text : Ontology → Subject → List ℕ
subject_text o (Expression e) = expression_text (expression o e)
subject_text o (Individual a) = codes "individual " ++ name_text (individual_name o a)

-- as sub <x:A> <x:B>, edge <x:A> <x:r> <x:B> or same individual <x:a> individual <x:b>
abbrev pub conclusion_text : Ontology → Conclusion → List ℕ
conclusion_text o (Sub x c) = codes "sub " ++ subject_text o x ++ codes " " ++ expression_text (expression o c)
conclusion_text o (Edge x r y) = codes "edge " ++ subject_text o x ++ codes " " ++ name_text (property_name o r) ++ codes " " ++ subject_text o y
conclusion_text o (Same a b) = codes "same " ++ subject_text o (Individual a) ++ codes " " ++ subject_text o (Individual b)

-- as axiom 1
abbrev pub citation_text : Option ℕ → List ℕ
citation_text None = []
citation_text (Some n) = codes " axiom " ++ decimal n

-- as from 1, 2
abbrev pub premises_text : List ℕ → List ℕ
premises_text [] = []
premises_text (n ∷ ns) = codes " from " ++ decimal n ++ flat_map (λ m. codes ", " ++ decimal m) ns

-- as 2. sub <x:A> <x:B> by K4 axiom 1 from 1
abbrev pub numbered_text : Ontology → ℕ × Line → List ℕ
numbered_text o (n, line) =
    decimal n ++ codes ". " ++ conclusion_text o line.conclusion ++ codes " by K" ++ decimal (rule_number line.rule)
    ++ citation_text line.axiom' ++ premises_text line.premises

abbrev pub line_text : Ontology → ℕ × Line → List ℕ
line_text o line = numbered_text o line ++ line_feed

-- the lines in order, counted from 1
abbrev pub proof_text : Ontology → List Line → List ℕ
proof_text o lines = flat_map (line_text o) (enumerate_from 1 lines)
