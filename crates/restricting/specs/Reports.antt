-- The report of a restriction, with lines and columns where they are asked for.
use Rattle.std.specs.Prelude.{◌≡◌, ◌++◌, ℕ, Bool, true, false, List, [], length, string_bytes}
use Rattle.std.specs.List.{flat_map}
use Rattle.program.specs.declared.version.Version.{Version}
use Rattle.receiving.specs.Places.{lined_fault}
use Rattle.shapes.specs.Faults.{Fault, document_faults}
use Rattle.statements_text.specs.Restrictions.{AreRestricted, fault_line, faulty, kept_statements, report_text}
use Rattle.statements_text.specs.declared.restriction.Restriction.{Restriction}

-- the line of a fault of a document of these bytes, by line and column or without
abbrev pub fault_line_by : (lines : Bool) → (bytes : List ℕ) → Fault → List ℕ
fault_line_by false bytes = fault_line
fault_line_by true bytes = lined_fault bytes

-- the report of these faults: a line for each, and behind them what the report of no fault says
abbrev pub report_by : (lines : Bool) → (bytes : List ℕ) → List Fault → (kept left_out : ℕ) → List ℕ
report_by lines bytes found kept left_out = flat_map (fault_line_by lines bytes) found ++ report_text [] kept left_out

-- the bytes are the text of a document, which is restricted so, but for its report, which tells its faults by lines or without
pub record AreReported (lines : Bool) (version : Version) (bytes : List ℕ) (r : Restriction) : Type 0 where
  pub plain : Restriction
  pub are : AreRestricted version bytes plain
  pub text : r.text ≡ plain.text
  pub report :
      string_bytes r.report
      ≡ report_by lines bytes (document_faults version are.document.trees) (length (kept_statements version are.document.trees)) (faulty version are.document.trees)
