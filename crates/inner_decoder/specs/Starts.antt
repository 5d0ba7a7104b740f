-- The start of the paths of a stream.
use Rattle.std.specs.Prelude.{Bool, false, List, [], ◌∷◌}
use Rattle.std.specs.declared.option.Option.{Option}
use Rattle.std.specs.declared.option.Option.TheVariants.{None, Some}
use Rattle.inner_decoder.specs.declared.decoder.StartState.{StartState}
use Rattle.inner_decoder.specs.declared.decoder.StartState.TheVariants.{Zero, Any}

-- six zeros, or any register
abbrev pub start_of : StartState → Option (List Bool)
start_of Zero = Some (false ∷ false ∷ false ∷ false ∷ false ∷ false ∷ [])
start_of Any = None
