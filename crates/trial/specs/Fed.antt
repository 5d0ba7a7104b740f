-- The cells that a trial feeds to its receiver (this project's own): a transmission of the random packets, disturbed.
use Rattle.std.specs.Prelude.{ℕ, ◌+◌, ◌*◌, ◌%◌, ◌^◌, ◌==◌, if◌then◌else◌, List, flat_map, sum, ℤ, ◌+ℤ◌, neg_ℤ}
use Rattle.spec_words.specs.Words.{numbers}
use Rattle.mode_set.specs.StreamTable.{carriers}
use Rattle.mode_set.specs.declared.settings.Settings.{Settings}
use Rattle.pilots.specs.declared.carrier_kind.CarrierKind.{CarrierKind}
use Rattle.pilots.specs.declared.carrier_kind.CarrierKind.TheVariants.{Continual, Scattered, Tps, Payload}
use Rattle.pilots.specs.Carriers.{kind}
use Rattle.qam_map.specs.declared.cell.Cell.{Cell}
use Rattle.qam_map.specs.Points.{tolerance}
use Rattle.frame_build.specs.Symbol.{sent_bytes}
use Rattle.load_gen.specs.Draws.{after, shift_of}
use Rattle.symbol_parameters.specs.Spans.{settings_at}
use Rattle.transmission.specs.Transmission.{tx_cell}
use Rattle.trial.specs.Drawn.{before, drawn, shifts_from, trial_symbols}

-- shift i of symbol m, at most the tolerance of the symbol's settings
abbrev pub shift : Settings → ℕ → ℕ → ℕ → ℤ
shift s number m i = shift_of (tolerance (settings_at s m).shape (settings_at s m).hierarchy)
    (after i (shifts_from s number m (before s number m)))

-- the cell on payload carrier q, moved: the real axis by shift 2q, the imaginary one by shift 2q + 1
abbrev pub moved : Settings → ℕ → ℕ → ℕ → Cell → Cell
moved s number m q c = record { re = c.re +ℤ shift s number m (2 * q); im = c.im +ℤ shift s number m (2 * q + 1) }

-- the cell with both axes negated
abbrev pub negated : Cell → Cell
negated c = record { re = neg_ℤ c.re; im = neg_ℤ c.im }

-- every seventeenth symbol has its data cells negated
abbrev pub disturbed : Settings → ℕ → ℕ → Cell → CarrierKind → Cell
disturbed s number m c Continual = c
disturbed s number m c Scattered = c
disturbed s number m c Tps = c
disturbed s number m c (Payload q) = if m % 17 == 16 then negated (moved s number m q c) else moved s number m q c

-- the cell of carrier k in symbol m
unfoldable pub fed_cell : Settings → ℕ → ℕ → ℕ → Cell
fed_cell s number m k = disturbed s number m (tx_cell s (drawn s number) m k) (kind s.mode (m % 68) k)

-- the bytes of symbol m, carriers rising, all cells at full weight
unfoldable pub fed_symbol : Settings → ℕ → ℕ → List ℕ
fed_symbol s number m = flat_map (λ k. sent_bytes (fed_cell s number m k)) (numbers (carriers s.mode))

-- the bytes of all symbols of the trial
unfoldable pub fed : Settings → ℕ → List ℕ
fed s number = flat_map (fed_symbol s number) (numbers (trial_symbols s number))

-- the sum of bytes modulo 2^32
abbrev pub byte_sum : List ℕ → ℕ
byte_sum bytes = sum bytes % 2 ^ 32
