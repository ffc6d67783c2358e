-- Words ask for one task.
use Rattle.std.proofs.Common.{◌≡◌, List, Bool, true, false, codes, refl}
use Rattle.lemmas.proofs.Choices.{one_value}
use Rattle.clap.specs.Words.{Row, Text}
use Rattle.command_line.proofs.Numbers.{one_number}
use Rattle.command_line.specs.CommandLine.{ArePaths, IsCommand, IsFormat, IsFlag, IsVersion, format_number, version_number}
use Rattle.command_line.specs.Receiver.{command_of, rules_name}
use Rattle.command_line.specs.declared.receiver.Request.{Request}
use Rattle.command_line.specs.declared.receiver.Request.TheVariants.{Check, Convert}
use Rattle.command_line.specs.declared.tasks.FormatNumber.{FormatNumber}
use Rattle.command_line.specs.declared.tasks.FormatNumber.TheVariants as numbers
use Rattle.command_line.specs.declared.tasks.Paths.{Paths}
use Rattle.receiving.specs.Receiver.{is_conversion}
use Rattle.receiving.specs.Theorems.{AreSamePaths}
use Rattle.program.specs.declared.version.Version.{Version}
use Rattle.program.specs.declared.version.Version.TheVariants.{One, Two}

-- paths that the same rows name are the same
pub same_paths : (rows : List Row) (p q : Paths) → ArePaths rows p → ArePaths rows q → AreSamePaths p q
same_paths rows p q a b = record {
  document = one_value _ _ _ a.document b.document;
  taxonomy = one_value _ _ _ a.taxonomy b.taxonomy;
  instances = one_value _ _ _ a.instances b.instances;
  certificate = one_value _ _ _ a.certificate b.certificate;
}

same_format : (v w : FormatNumber) → format_number v ≡ format_number w → v ≡ w
same_format numbers.One numbers.One e = refl
same_format numbers.Two numbers.Two e = refl
same_format numbers.One numbers.Two e = let bad : 1 ≡ 2 = e in absurd (cc)
same_format numbers.Two numbers.One e = let bad : 2 ≡ 1 = e in absurd (cc)

-- an option has one format
pub one_format : (rows : List Row) (v w : FormatNumber) → IsFormat rows v → IsFormat rows w → v ≡ w
one_format rows v w h k = same_format v w (one_number _ _ _ _ h k)

same_version : (v w : Version) → version_number v ≡ version_number w → v ≡ w
same_version One One e = refl
same_version Two Two e = refl
same_version One Two e = let bad : 1 ≡ 2 = e in absurd (cc)
same_version Two One e = let bad : 2 ≡ 1 = e in absurd (cc)

-- an option has one version
pub one_version : (rows : List Row) (v w : Version) → IsVersion rows v → IsVersion rows w → v ≡ w
one_version rows v w h k = same_version v w (one_number _ _ _ _ h k)

-- a flag stands or does not
pub one_flag : (id : Text) (rows : List Row) (a b : Bool) → IsFlag id rows a → IsFlag id rows b → a ≡ b
one_flag id rows true true h k = refl
one_flag id rows false false h k = refl
one_flag id rows true false h k = let bad : codes "true" ≡ codes "false" = one_value _ _ _ h k in cc
one_flag id rows false true h k = let bad : codes "false" ≡ codes "true" = one_value _ _ _ h k in cc

-- by the rules of a check no conversion is asked for
pub not_converting : (converts : Bool) (rows : List Row) (request : Request) → converts ≡ false → IsCommand (rules_name converts) rows (command_of request) → is_conversion request ≡ false
not_converting converts rows (Check paths) none is = refl
not_converting true rows (Convert conversion) none is = none
not_converting false rows (Convert conversion) none is = let bad : codes "check" ≡ codes "convert" = is.0 in absurd (cc)
