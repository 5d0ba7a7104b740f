-- A piece that does not exceed the symbol is taken whole, and the output of a measurer is the lines of a measurement.
use Rattle.std.proofs.Common.{◌≡◌, ℕ, ◌+◌, ◌*◌, ◌≤◌, List, ◌++◌, length, ap, ◌∙◌, subst, arith}
use Rattle.std.specs.List.{concat}
use Rattle.std.proofs.lemmas.List.{length-drop, take_all}
use Rattle.std.proofs.lemmas.Nat.{div-add-mod'}
use Rattle.mode_set.specs.declared.settings.Settings.{Settings}
use Rattle.reception.specs.Cells.{symbol_length, symbols, tail}
use Rattle.reception.specs.Laws.{unfinished}
use Rattle.reception.specs.Streams.{so_far, at_end}
use Rattle.measurement.specs.Lines.{MeasureFinal, MeasureLive}
use Rattle.measurer.specs.Seen.{MeasurerState}
use Rattle.measurer.specs.Standing.{StandsFor}
use Rattle.cmd_measure.specs.Feeder.{IsFed}

rest_long : (s : Settings) (bytes : List ℕ) → length (unfinished s bytes) ≡ tail s bytes
rest_long s bytes = let cut = div-add-mod' (length bytes) (symbol_length s) in omega (arith, length-drop (symbols s bytes * symbol_length s) bytes, cut)

pub took : (size : ℕ) (x y : MeasurerState) (bytes piece given : List ℕ) (lines : List (List ℕ)) (n : ℕ) → symbol_length x.settings ≡ size → tail x.settings bytes + length piece ≤ symbol_length x.settings
    → StandsFor so_far x bytes given → IsFed size x piece y lines n → StandsFor so_far y (bytes ++ piece) (given ++ concat lines)
took size x y bytes piece given lines n is fits stands fed =
    let long : length x.rest ≡ tail x.settings bytes = ap length stands.rest ∙ rest_long x.settings bytes in
    let all : length piece ≤ n = omega (arith, fed.count, long, is, fits) in
    subst (λ (l : List ℕ). StandsFor so_far y (bytes ++ l) (given ++ concat lines)) (take_all n piece all) (fed.fed bytes given stands)

pub live : (x y : MeasurerState) (bytes lines : List ℕ) → y.settings ≡ x.settings → StandsFor so_far y bytes lines → MeasureLive x.settings bytes lines
live x y bytes lines same stands = subst (λ (s : Settings). MeasureLive s bytes lines) same stands.lines_are

pub ended : (x y : MeasurerState) (bytes lines : List ℕ) → y.settings ≡ x.settings → StandsFor at_end y bytes lines → MeasureFinal x.settings bytes lines
ended x y bytes lines same stands = subst (λ (s : Settings). MeasureFinal s bytes lines) same stands.lines_are
