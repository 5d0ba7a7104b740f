-- The cells of all whole symbols are those of the symbols in order.
use Rattle.std.proofs.Common.{◌≡◌, ℕ, zero, suc, ◌+◌, ◌-◌, ◌*◌, ◌/◌, ◌≤◌, List, ◌++◌, length, take, drop, ◌∙◌, sym, ap, arith}
use Rattle.std.proofs.lemmas.List.{length-drop, length-take-le, take-append-drop}
use Rattle.mode_set.specs.StreamTable.{carriers}
use Rattle.mode_set.specs.declared.modes.Mode.{Mode}
use Rattle.mode_set.specs.declared.modes.Mode.TheVariants.{M2k, M8k}
use Rattle.frame_build.specs.CellFile.{header}
use Rattle.law_link.specs.OldCells.{old_symbol_length, old_symbols, upgraded_cells}
use Rattle.cmd_convert.specs.Conversion.{new_file, new_symbols, old_symbol}
use Rattle.cmd_convert.proofs.Files.{no_symbols, one_symbol}
use Rattle.cmd_convert.specs.Upgrading.{upgraded_file, upgrading}
use Rattle.cmd_convert.proofs.OldCells.{no_cells, cells_before, cells_behind}

-- ---- numbers of bytes
next_cells : (mode : Mode) (n : ℕ) → suc n * carriers mode ≡ n * carriers mode + carriers mode
next_cells M2k n = omega arith
next_cells M8k n = omega arith

first_cells : (mode : Mode) (n : ℕ) → n * old_symbol_length mode ≡ 4 * (n * carriers mode)
first_cells M2k n = omega arith
first_cells M8k n = omega arith

held : (mode : Mode) (n k : ℕ) → n ≤ k / old_symbol_length mode → n * old_symbol_length mode ≤ k
held M2k n k l = omega (arith, l)
held M8k n k l = omega (arith, l)

one_held : (mode : Mode) (n k : ℕ) → suc n * old_symbol_length mode ≤ k → (n * old_symbol_length mode ≤ k) × (old_symbol_length mode ≤ k - n * old_symbol_length mode)
one_held M2k n k l = (omega (arith, l), omega (arith, l))
one_held M8k n k l = (omega (arith, l), omega (arith, l))

-- ---- the cells after the first n symbols
symbol_more : (mode : Mode) (bytes : List ℕ) (n : ℕ) → suc n * old_symbol_length mode ≤ length bytes
    → upgraded_cells (suc n * carriers mode) bytes ≡ upgraded_cells (n * carriers mode) bytes ++ upgraded_cells (carriers mode) (old_symbol (old_symbol_length mode) bytes n)
symbol_more mode bytes n l = joined
  where
    size : ℕ
    size = old_symbol_length mode

    first : List ℕ
    first = take (n * size) bytes

    rest : List ℕ
    rest = drop (n * size) bytes

    parts : first ++ rest ≡ bytes
    parts = take-append-drop (n * size) bytes

    fits : (n * size ≤ length bytes) × (size ≤ length bytes - n * size)
    fits = one_held mode n (length bytes) l

    first_long : length first ≡ 4 * (n * carriers mode)
    first_long = length-take-le (n * size) bytes fits.0 ∙ first_cells mode n

    symbol_long : length (take size rest) ≡ 4 * carriers mode
    symbol_long = let d = length-drop (n * size) bytes in length-take-le size rest (omega (arith, d, fits.1))

    first_are : upgraded_cells (n * carriers mode) first ≡ upgraded_cells (n * carriers mode) bytes
    first_are = sym (cells_before first rest (n * carriers mode) (omega (arith, first_long))) ∙ ap (upgraded_cells (n * carriers mode)) parts

    rest_are : upgraded_cells (carriers mode) rest ≡ upgraded_cells (carriers mode) (take size rest)
    rest_are = ap (upgraded_cells (carriers mode)) (sym (take-append-drop size rest)) ∙ cells_before (take size rest) (drop size rest) (carriers mode) (omega (arith, symbol_long))

    joined : upgraded_cells (suc n * carriers mode) bytes ≡ upgraded_cells (n * carriers mode) bytes ++ upgraded_cells (carriers mode) (take size rest)
    joined =
        ap (λ (z : ℕ). upgraded_cells z bytes) (next_cells mode n)
        ∙ ap (upgraded_cells (n * carriers mode + carriers mode)) (sym parts)
        ∙ cells_behind first rest (n * carriers mode) (carriers mode) first_long
        ∙ ap (λ (c : List ℕ). c ++ upgraded_cells (carriers mode) rest) first_are
        ∙ ap (λ (c : List ℕ). upgraded_cells (n * carriers mode) bytes ++ c) rest_are

-- ---- all of them
symbols_are : (mode : Mode) (bytes : List ℕ) (n : ℕ) → n * old_symbol_length mode ≤ length bytes → new_symbols (upgrading mode) n bytes ≡ upgraded_cells (n * carriers mode) bytes
symbols_are mode bytes zero l =
    let none : 0 * carriers mode ≡ 0 = omega arith in
    no_symbols (upgrading mode) bytes ∙ sym (no_cells bytes) ∙ ap (λ (z : ℕ). upgraded_cells z bytes) (sym none)
symbols_are mode bytes (suc n) l =
    let next : suc n ≡ n + 1 = omega arith in
    ap (λ (z : ℕ). new_symbols (upgrading mode) z bytes) next
    ∙ one_symbol (upgrading mode) n bytes
    ∙ ap (λ (c : List ℕ). c ++ upgraded_cells (carriers mode) (old_symbol (old_symbol_length mode) bytes n)) (symbols_are mode bytes n (one_held mode n (length bytes) l).0)
    ∙ sym (symbol_more mode bytes n l)

pub whole : (mode : Mode) (bytes : List ℕ) → new_file (upgrading mode) bytes ≡ upgraded_file mode bytes
whole mode bytes = ap (λ (c : List ℕ). header mode ++ c) (symbols_are mode bytes (old_symbols mode bytes) (held mode (old_symbols mode bytes) (length bytes) (omega arith)))
