-- The cells of a transmission, from its packets (EN 300 744, 4.3 to 4.6; the cell file is this project's own).
use Rattle.std.specs.Prelude.{ℕ, ◌+◌, ◌/◌, Bool, List, flat_map}
use Rattle.spec_words.specs.Words.{numbers}
use Rattle.mode_set.specs.declared.modes.Stream.{Stream}
use Rattle.mode_set.specs.declared.modes.Stream.TheVariants.{Hp, Lp}
use Rattle.mode_set.specs.declared.settings.Settings.{Settings}
use Rattle.puncture.specs.SentBits.{path_of}
use Rattle.symbol_interleave.specs.Carried.{is_odd}
use Rattle.outer_chain.specs.Sent.{outer_byte}
use Rattle.inner_chain.specs.Labels.{Paths, from_step, label_bit, coded_bits}
use Rattle.qam_map.specs.declared.cell.Cell.{Cell}
use Rattle.frame_build.specs.Announcing.{announcing_cell, announcing_bytes}
use Rattle.symbol_parameters.specs.Spans.{settings_in, settings_at, steps_before}

-- the packets of each stream; null packets follow without end
abbrev pub Inputs : Type 0
Inputs = Stream → List (List ℕ)

-- one value for HP and one for LP
abbrev pub by_stream : {T : Type 0} → T → T → Stream → T
by_stream hp lp Hp = hp
by_stream hp lp Lp = lp

-- the path of each stream through the inner code: six zeros, then the bits of its outer coding (4.3.1 to 4.3.3)
abbrev pub paths_of : Inputs → Paths
paths_of inputs σ = path_of (outer_byte (inputs σ))

-- the paths from the first step of symbol m on
abbrev pub paths_at : Settings → Inputs → ℕ → Paths
paths_at s inputs m σ = from_step (paths_of inputs σ) (steps_before s σ m)

-- bit e of the label on payload carrier q of symbol m: the coded bit of its stream at that position. The symbol has the
-- first sent bits of the paths from its first step on (4.3.3, 4.3.4).
unfoldable pub tx_label : Settings → Inputs → ℕ → ℕ → ℕ → Bool
tx_label s inputs m q e = label_bit (settings_at s m) (is_odd m) (coded_bits (settings_at s m) (paths_at s inputs m)) q
    e

-- the settings announced in symbol m: those of the next super-frame (4.6.2)
abbrev pub announced_at : Settings → ℕ → Settings
announced_at s m = settings_in s (m / 272 + 1)

-- the cell of carrier k in symbol m: a pilot, a TPS cell, or the point of its label (4.3.5, 4.4 to 4.6)
unfoldable pub tx_cell : Settings → Inputs → ℕ → ℕ → Cell
tx_cell s inputs m k = announcing_cell (settings_at s m) (announced_at s m) m (tx_label s inputs m) k

-- the bytes of symbol m, carriers rising
unfoldable pub tx_symbol : Settings → Inputs → ℕ → List ℕ
tx_symbol s inputs m = announcing_bytes (settings_at s m) (announced_at s m) m (tx_label s inputs m)

-- the bytes of the first n symbols
unfoldable pub first_symbols : Settings → Inputs → ℕ → List ℕ
first_symbols s inputs n = flat_map (tx_symbol s inputs) (numbers n)
