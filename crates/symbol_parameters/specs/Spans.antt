-- The settings of each symbol and super-frame, and how much of a stream comes before them (EN 300 744, 4.4 and 4.7).
use Rattle.std.specs.Prelude.{ℕ, ◌+◌, ◌/◌, ◌<◌, ◌≤◌, Bool, true, sum_by}
use Rattle.spec_words.specs.Words.{numbers}
use Rattle.mode_set.specs.Entries.{entry, has_lp, with_entry}
use Rattle.mode_set.specs.StreamTable.{need, words_per_super_frame}
use Rattle.mode_set.specs.declared.modes.Stream.{Stream}
use Rattle.mode_set.specs.declared.modes.Stream.TheVariants.{Hp, Lp}
use Rattle.mode_set.specs.declared.settings.Settings.{Settings}

-- the settings of super-frame j: those of the transmission, with its own parameters
unfoldable pub settings_in : Settings → ℕ → Settings
settings_in s j = with_entry s (entry s j)

-- the settings of symbol m: a super-frame has 272 symbols
abbrev pub settings_at : Settings → ℕ → Settings
settings_at s m = settings_in s (m / 272)

-- whether a stream exists in a transmission: HP always, LP if some super-frame may have it
unfoldable pub exists_in : Settings → Stream → Bool
exists_in s Hp = true
exists_in s Lp = has_lp s

-- the steps of a stream in symbol m; 0 if it is absent
abbrev pub steps_of : Settings → Stream → ℕ → ℕ
steps_of s σ m = need (settings_at s m) σ

-- the steps of a stream before symbol m
unfoldable pub steps_before : Settings → Stream → ℕ → ℕ
steps_before s σ m = sum_by (steps_of s σ) (numbers m)

-- step t of a stream belongs to symbol m
pub record IsStepOf (s : Settings) (σ : Stream) (m t : ℕ) : Type 0 where
  pub from : steps_before s σ m ≤ t
  pub to : t < steps_before s σ (m + 1)

-- the outer words of a stream in super-frame j
abbrev pub words_in : Settings → Stream → ℕ → ℕ
words_in s σ j = words_per_super_frame (settings_in s j) σ

-- the outer words of a stream in the first n super-frames
unfoldable pub words_before : Settings → Stream → ℕ → ℕ
words_before s σ n = sum_by (words_in s σ) (numbers n)
