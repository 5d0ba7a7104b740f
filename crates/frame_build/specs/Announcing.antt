-- The cells of a symbol. Its TPS cells announce the parameters of the next super-frame (EN 300 744, 4.6.2).
use Rattle.std.specs.Prelude.{ℕ, ◌%◌, Bool, List, flat_map}
use Rattle.spec_words.specs.Words.{numbers}
use Rattle.mode_set.specs.StreamTable.{carriers}
use Rattle.mode_set.specs.declared.settings.Settings.{Settings}
use Rattle.pilots.specs.declared.carrier_kind.CarrierKind.{CarrierKind}
use Rattle.pilots.specs.declared.carrier_kind.CarrierKind.TheVariants.{Continual, Scattered, Tps, Payload}
use Rattle.pilots.specs.Carriers.{kind}
use Rattle.qam_map.specs.declared.cell.Cell.{Cell}
use Rattle.frame_build.specs.Symbol.{cell_of_kind, sent_bytes}

-- TPS cells use the settings of the next super-frame, all others those of this one
abbrev pub settings_for : Settings → Settings → CarrierKind → Settings
settings_for now next Continual = now
settings_for now next Scattered = now
settings_for now next Tps = next
settings_for now next (Payload q) = now

-- the cell of carrier k in symbol m, by the kind of the carrier
unfoldable pub announcing_cell : Settings → Settings → ℕ → (ℕ → ℕ → Bool) → ℕ → Cell
announcing_cell now next m labels k = let kd = kind now.mode (m % 68) k in cell_of_kind (settings_for now next kd) m
    labels k kd

-- the bytes of symbol m, carriers rising
unfoldable pub announcing_bytes : Settings → Settings → ℕ → (ℕ → ℕ → Bool) → List ℕ
announcing_bytes now next m labels = flat_map (λ k. sent_bytes (announcing_cell now next m labels k)) (numbers
    (carriers now.mode))
