-- A symbol taken whole.
use Rattle.std.proofs.Common.{◌≡◌, ◌-◌, ◌*◌, ◌≤◌, ◌++◌, ◌%◌, ℕ, List, [], length, take, ap, ap₂, ◌∙◌, arith}
use Rattle.std.specs.Prelude.{min}
use Rattle.std.proofs.lemmas.List.{take_all}
use Rattle.mode_set.specs.StreamTable.{carriers}
use Rattle.mode_set.specs.declared.modes.Mode.{Mode}
use Rattle.qam_map.specs.declared.cell.Cell.{Cell}
use Rattle.frame_build.specs.Symbol.{cells_from, weights_from}
use Rattle.cell_equal.specs.Equal.{equalised_bytes}
use Rattle.cell_equal.specs.Files.{equalised_symbol}

-- if nothing was taken before, a whole symbol is taken unchanged
pub all_taken : (k : ℕ) (old bytes : List ℕ) (count : ℕ) (new : List ℕ) → old ≡ [] → length bytes ≡ 5 * k → count ≡ min (length bytes) (5 * k - length old) → new ≡ old ++ take count bytes → new ≡ bytes
all_taken k old bytes count new empty whole counted taken =
    let none : length old ≡ 0 = ap length empty in
    let all : length bytes ≤ count = omega (arith, none, whole, counted) in
    taken ∙ ap (λ (l : List ℕ). l ++ take count bytes) empty ∙ take_all count bytes all

-- and these are its cells and weights
pub corrected : (mode : Mode) (k n : ℕ) (taken bytes : List ℕ) (cells : List Cell) (weights : List ℕ) → k ≡ carriers mode → taken ≡ bytes → cells ≡ cells_from taken k → weights ≡ weights_from taken k
    → equalised_bytes mode (n % 68) cells weights ≡ equalised_symbol mode n bytes
unfolding equalised_symbol
corrected mode k n taken bytes cells weights many same are weigh =
    ap₂ (equalised_bytes mode (n % 68)) (are ∙ ap₂ cells_from same many) (weigh ∙ ap₂ weights_from same many)
