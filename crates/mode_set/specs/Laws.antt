-- A symbol holds whole puncturing periods, a super-frame whole outer words (EN 300 744, 4.7).
use Rattle.std.specs.Prelude.{◌≡◌, ℕ, ◌*◌, ◌/◌}
use Rattle.mode_set.specs.StreamTable.{rate, coded, need, steps_in_period, sent_in_period, words_per_super_frame}
use Rattle.mode_set.specs.declared.modes.Stream.{Stream}
use Rattle.mode_set.specs.declared.settings.Settings.{Settings}

-- the puncturing periods of a symbol
abbrev pub periods : Settings → Stream → ℕ
periods s σ = coded s σ / sent_in_period (rate s σ)

-- the steps and the coded bits of a symbol are those of whole puncturing periods
pub record HasWholePeriods (s : Settings) (σ : Stream) : Type 0 where
  pub need : need s σ ≡ periods s σ * steps_in_period (rate s σ)
  pub coded : coded s σ ≡ periods s σ * sent_in_period (rate s σ)

-- every symbol has whole puncturing periods
abbrev pub SymbolsHaveWholePeriods : Type 0
SymbolsHaveWholePeriods = (s : Settings) (σ : Stream) → HasWholePeriods s σ

-- every super-frame has whole outer words, of 1632 bits each
abbrev pub SuperFramesHaveWholeWords : Type 0
SuperFramesHaveWholeWords = (s : Settings) (σ : Stream) → 1632 * words_per_super_frame s σ ≡ 272 * need s σ
