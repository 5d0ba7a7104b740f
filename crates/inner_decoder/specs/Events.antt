-- The steps named in reports.
use Rattle.std.specs.Prelude.{ℕ, List, map}
use Rattle.std.specs.declared.option.Option.{Option}
use Rattle.std.specs.declared.option.Option.TheVariants.{None, Some}
use Rattle.inner_decoder.specs.declared.decoder.Unmerged.{Unmerged}

-- the step of a report, if there is a report
abbrev pub at_of : Option Unmerged → Option ℕ
at_of None = None
at_of (Some e) = Some e.at

-- the steps of these reports
abbrev pub ats : List Unmerged → List ℕ
ats es = map (λ (e : Unmerged). e.at) es
