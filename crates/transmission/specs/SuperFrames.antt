-- The length of a transmission (EN 300 744, 4.7; using the fewest super-frames is this project's own choice).
use Rattle.std.specs.Prelude.{ℕ, ◌+◌, ◌*◌, ◌≤◌, nat_le, nat_lt, max, ◌&&◌, ◌||◌, not, if◌then◌else◌, Bool, IsTrue, List}
use Rattle.std.specs.Prelude.{length, map, reverse, get_or, Option, Some, None, option_map, unwrap_or}
use Rattle.spec_words.specs.Words.{first_below, rounded_up}
use Rattle.mode_set.specs.Kept.{is_flat}
use Rattle.mode_set.specs.Plans.{entries_of}
use Rattle.mode_set.specs.StreamTable.{words_per_super_frame}
use Rattle.mode_set.specs.declared.modes.Stream.{Stream}
use Rattle.mode_set.specs.declared.modes.Stream.TheVariants.{Hp, Lp}
use Rattle.mode_set.specs.declared.settings.Settings.{Settings}
use Rattle.symbol_parameters.specs.Spans.{exists_in, steps_before, words_before}
use Rattle.transmission.specs.Transmission.{Inputs, first_symbols}

-- the first n super-frames carry all packets of each existing stream, and the eleven words of a receiver's start-up
abbrev pub Suffices : Settings → (Stream → ℕ) → ℕ → Type 0
Suffices s counts n = (σ : Stream) → IsTrue (exists_in s σ) → counts σ + 11 ≤ words_before s σ n

-- the least number of super-frames, at least 1, that suffices
pub record AreSuperFrames (s : Settings) (counts : Stream → ℕ) (n : ℕ) : Type 0 where
  pub some : 1 ≤ n
  pub suffices : Suffices s counts n
  pub least : (k : ℕ) → 1 ≤ k → Suffices s counts k → n ≤ k

-- such a number, or none if no number suffices: a stream may be absent from some super-frame on
abbrev pub IsLength : Settings → (Stream → ℕ) → Option ℕ → Type 0
IsLength s counts None = (n : ℕ) → 1 ≤ n → Suffices s counts n → ⊥
IsLength s counts (Some n) = AreSuperFrames s counts n

-- whether n super-frames carry the packets of a stream, if it exists
abbrev pub carries : Settings → (Stream → ℕ) → ℕ → Stream → Bool
carries s counts n σ = not (exists_in s σ) || nat_le (counts σ + 11) (words_before s σ n)

-- whether n super-frames suffice
abbrev pub is_enough : Settings → (Stream → ℕ) → ℕ → Bool
is_enough s counts n = nat_le 1 n && (carries s counts n Hp && carries s counts n Lp)

-- the super-frame after which nothing changes
abbrev pub last_change : Settings → ℕ
last_change s = get_or (map (λ e. e.after) (reverse (entries_of s.plan))) 0 0

-- After the last change all super-frames are alike, so one super-frame for each packet suffices if any number does.
abbrev pub most_frames : Settings → (Stream → ℕ) → ℕ
most_frames s counts = last_change s + max (counts Hp) (counts Lp) + 12

-- the number found, or none if it is not below the most
abbrev pub found_below : ℕ → ℕ → Option ℕ
found_below most n = if nat_lt n most then Some n else None

-- the number of super-frames, by search
unfoldable pub super_frames : Settings → (Stream → ℕ) → Option ℕ
super_frames s counts = found_below (most_frames s counts) (first_below (most_frames s counts) (is_enough s counts))

-- without a plan the same for one stream, by a formula, as all super-frames are alike
abbrev pub frames_by_formula_for : Settings → (Stream → ℕ) → Stream → ℕ
frames_by_formula_for s counts σ = rounded_up (counts σ + 11) (words_per_super_frame s σ)

-- the same for all streams
abbrev pub frames_by_formula : Settings → (Stream → ℕ) → ℕ
frames_by_formula s counts = if is_flat s.hierarchy then frames_by_formula_for s counts Hp else max
    (frames_by_formula_for s counts Hp) (frames_by_formula_for s counts Lp)

-- the number of packets of each stream
abbrev pub counts_of : Inputs → Stream → ℕ
counts_of inputs σ = length (inputs σ)

-- the number of symbols due: 272 a super-frame; endless work continues to the symbol after the limit
unfoldable pub symbols_of : Settings → Inputs → ℕ
symbols_of s inputs = unwrap_or (option_map (λ n. 272 * n) (super_frames s (counts_of inputs))) (s.max_symbols + 1)

-- the cells of all symbols due
abbrev pub tx : Settings → Inputs → List ℕ
tx s inputs = first_symbols s inputs (symbols_of s inputs)

-- the least number of packets whose outer words, of 1632 bits each, hold the input bits of n symbols
abbrev pub packets_for : Settings → Stream → ℕ → ℕ
packets_for s σ n = rounded_up (steps_before s σ n) 1632

-- `count` is that number
pub record ArePacketsFor (s : Settings) (σ : Stream) (n count : ℕ) : Type 0 where
  pub enough : steps_before s σ n ≤ 1632 * count
  pub least : (k : ℕ) → steps_before s σ n ≤ 1632 * k → count ≤ k
