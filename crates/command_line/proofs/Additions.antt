-- What a command is with a subcommand that was made.
use Rattle.std.proofs.Common.{◌≡◌, ◌||◌, Result, Ok, Err, IfOk, IsOkAnd, false, refl, subst}
use Rattle.std.proofs.lemmas.Result.{IfOk-weaker}
use Rattle.clap.specs.Words.{App, app_of, with_subcommand}
use Rattle.clap.specs.declared.builder.command.Command.{Command}
use Rattle.clap.specs.declared.builder.command.Command.TheViews.{out-Command as fields_of}

-- it is the old one with what the one that was made is
pub with_made : {E : Type 0} (made : Result Command E) (old new : Command) (app : App) → IsOkAnd made (λ s. (fields_of s).has_globals ≡ false → app_of new ≡ with_subcommand (app_of old) (app_of s).top) → IfOk made (λ s. app_of s ≡ app) → IfOk made (λ s. (fields_of s).has_globals ≡ false) → app_of new ≡ with_subcommand (app_of old) app.top
with_made (Ok s) old new app adds is local =
    let P : App → Type 0 = λ a. app_of new ≡ with_subcommand (app_of old) a.top in
    subst P is (adds local)
with_made (Err e) old new app adds is local = absurd adds

-- the same of a command that is returned
pub returned_with_made : {E F : Type 0} (result : Result Command F) (made : Result Command E) (old : Command) (app : App) → IfOk result (λ new. IsOkAnd made (λ s. (fields_of s).has_globals ≡ false → app_of new ≡ with_subcommand (app_of old) (app_of s).top)) → IfOk made (λ s. app_of s ≡ app) → IfOk made (λ s. (fields_of s).has_globals ≡ false) → IfOk result (λ new. app_of new ≡ with_subcommand (app_of old) app.top)
returned_with_made result made old app adds is local = IfOk-weaker result _ _ (λ new added. with_made made old new app added is local) adds

-- it has no global arguments where neither has
pub local_with_made : {E : Type 0} (made : Result Command E) (old new : Command) → IsOkAnd made (λ s. (fields_of new).has_globals ≡ ((fields_of old).has_globals || (fields_of s).has_globals)) → IfOk made (λ s. (fields_of s).has_globals ≡ false) → (fields_of old).has_globals ≡ false → (fields_of new).has_globals ≡ false
local_with_made (Ok s) old new adds made_local old_local = rw (adds, old_local, made_local) refl
local_with_made (Err e) old new adds made_local old_local = absurd adds

-- the same of a command that is returned
pub returned_local_with_made : {E F : Type 0} (result : Result Command F) (made : Result Command E) (old : Command) → IfOk result (λ new. IsOkAnd made (λ s. (fields_of new).has_globals ≡ ((fields_of old).has_globals || (fields_of s).has_globals))) → IfOk made (λ s. (fields_of s).has_globals ≡ false) → (fields_of old).has_globals ≡ false → IfOk result (λ new. (fields_of new).has_globals ≡ false)
returned_local_with_made result made old adds made_local old_local = IfOk-weaker result _ _ (λ new added. local_with_made made old new added made_local old_local) adds
