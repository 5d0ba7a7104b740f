-- The number of super-frames that carry the words of a stream.
use Rattle.std.specs.Prelude.{ℕ, ◌≤◌, Option, Some, None}
use Rattle.mode_set.specs.declared.modes.Stream.{Stream}
use Rattle.mode_set.specs.declared.settings.Settings.{Settings}
use Rattle.symbol_parameters.specs.Spans.{words_before}

-- the first n super-frames carry the wanted words, and fewer do not
pub record AreLeastFor (s : Settings) (σ : Stream) (wanted n : ℕ) : Type 0 where
  pub enough : wanted ≤ words_before s σ n
  pub least : (k : ℕ) → wanted ≤ words_before s σ k → n ≤ k

-- such a number, or none if no number of super-frames carries them
abbrev pub IsLeastFor : Settings → Stream → ℕ → Option ℕ → Type 0
IsLeastFor s σ wanted None = (n : ℕ) → wanted ≤ words_before s σ n → ⊥
IsLeastFor s σ wanted (Some n) = AreLeastFor s σ wanted n
