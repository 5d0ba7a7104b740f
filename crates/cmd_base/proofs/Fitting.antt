-- Settings that do not fit the arguments of their command.
use Rattle.std.proofs.Common.{◌≡◌, Bool, true, false, not, if◌then◌else◌, ℕ, List, Option, None, Some, refl, ◌∙◌, sym, ap}
use Rattle.std.specs.Prelude.{is_some}
use Rattle.std.specs.Bool.{beq}
use Rattle.std.specs.Option.{option_copied, option_or}
use denote.Ref.{Bor}
use Rattle.mode_set.specs.Document.{IsStatedBy}
use Rattle.mode_set.specs.declared.settings.Settings.{Settings as TheSettings}
use Rattle.cmd_base.specs.declared.refusal.Refusal.{Refusal}
use Rattle.cmd_base.specs.declared.refusal.Refusal.TheVariants.{Settings}
use Rattle.cmd_base.specs.declared.refusal.SettingsRefusal.TheVariants.{Form}
use Rattle.cmd_base.specs.StreamForm.{fits_form, form_refusal}
use Rattle.cmd_base.specs.SettingsFile.{settings_refusal}
use Rattle.cmd_base.specs.StatedSettings.{settings_of}
use Rattle.cmd_base.proofs.Stated.{stated}

-- whether there is LP
pub copied_some : {A : Type 0} (o : Option (Bor A)) → is_some o ≡ is_some (option_copied o)
copied_some None = refl
copied_some (Some name) = refl

pub misfit : (bytes : List ℕ) (lp : Option (List ℕ)) (s : TheSettings) → settings_refusal bytes ≡ None → IsStatedBy s bytes → fits_form s lp ≡ false
    → option_or (settings_refusal bytes) (form_refusal (settings_of bytes) lp) ≡ Some (Settings Form)
misfit bytes lp s accepted is other =
    ap (λ (o : Option Refusal). option_or o (form_refusal (settings_of bytes) lp)) accepted
    ∙ ap (λ (o : Option TheSettings). form_refusal o lp) (stated s bytes is)
    ∙ ap (λ (b : Bool). if b then None else Some (Settings Form)) other

pub differ : (a b : Bool) → not (beq a b) ≡ true → beq a b ≡ false
differ a b e = go (beq a b) e
  where
    go : (c : Bool) → not c ≡ true → c ≡ false
    go true e = sym e
    go false e = refl
