-- The random values of a trial, in order (this project's own): the counts of packets; then for each symbol the packets
-- that it needs, a shift for each axis of its data cells, and the lengths of the pieces fed to the receiver.
use Rattle.std.specs.Prelude.{ℕ, zero, suc, ◌+◌, ◌-◌, ◌*◌, min, if◌then◌else◌, List, map, flat_map, sum, nat_le, Option}
use Rattle.std.specs.Prelude.{unwrap_or}
use Rattle.spec_words.specs.Words.{numbers, first_below}
use Rattle.mode_set.specs.StreamTable.{payload}
use Rattle.mode_set.specs.declared.modes.Stream.{Stream}
use Rattle.mode_set.specs.declared.modes.Stream.TheVariants.{Hp, Lp}
use Rattle.mode_set.specs.declared.settings.Settings.{Settings}
use Rattle.rand_pcg.specs.Lcg.{Lcg}
use Rattle.load_gen.specs.Draws.{generator, after, count_of, length_of, packet_of, packet_words}
use Rattle.symbol_parameters.specs.Spans.{exists_in}
use Rattle.transmission.specs.Transmission.{Inputs, by_stream}
use Rattle.transmission.specs.SuperFrames.{packets_for, super_frames}
use Rattle.reception.specs.Cells.{symbol_length}

-- the number of random packets of HP, from the first word
abbrev pub hp_count : ℕ → ℕ
hp_count number = count_of (generator number)

-- the number of random packets of LP, from the second word, if LP exists
abbrev pub lp_count : Settings → ℕ → ℕ
lp_count s number = if exists_in s Lp then count_of (after 1 (generator number)) else 0

-- the number of random packets of each stream
abbrev pub drawn_count : Settings → ℕ → Stream → ℕ
drawn_count s number = by_stream (hp_count number) (lp_count s number)

-- the number of words used for these counts
abbrev pub count_words : Settings → ℕ
count_words s = if exists_in s Lp then 2 else 1

-- the number of super-frames for these counts, if there is one, and the number of their symbols, or 0
abbrev pub trial_frames : Settings → ℕ → Option ℕ
trial_frames s number = super_frames s (drawn_count s number)

-- the number of symbols of the trial; 0 if no number of super-frames suffices
abbrev pub trial_symbols : Settings → ℕ → ℕ
trial_symbols s number = 272 * unwrap_or (trial_frames s number) 0

-- the number of a stream's packets generated before symbol m, as many as the symbols need up to the count
abbrev pub drawn_before : Settings → ℕ → Stream → ℕ → ℕ
drawn_before s number σ m = min (drawn_count s number σ) (packets_for s σ m)

-- the number of a stream's packets generated for symbol m
abbrev pub drawn_for : Settings → ℕ → Stream → ℕ → ℕ
drawn_for s number σ m = drawn_before s number σ (m + 1) - drawn_before s number σ m

-- the number of pieces needed to cover `bytes` bytes
unfoldable pub pieces : Lcg → ℕ → ℕ
pieces g bytes = first_below bytes (λ n. nat_le bytes (sum (map (λ i. length_of (after i g)) (numbers n))))

-- the generator at LP's packets of a symbol that begins with generator g
abbrev pub lp_from : Settings → ℕ → ℕ → Lcg → Lcg
lp_from s number m g = after (packet_words * drawn_for s number Hp m) g

-- the generator at the shifts of that symbol
abbrev pub shifts_from : Settings → ℕ → ℕ → Lcg → Lcg
shifts_from s number m g = after (packet_words * drawn_for s number Lp m) (lp_from s number m g)

-- the generator at the pieces of that symbol
abbrev pub pieces_from : Settings → ℕ → ℕ → Lcg → Lcg
pieces_from s number m g = after (2 * payload s.mode) (shifts_from s number m g)

-- the generator after the values of the symbol
abbrev pub symbol_from : Settings → ℕ → ℕ → Lcg → Lcg
symbol_from s number m g = let h = pieces_from s number m g in after (pieces h (symbol_length s)) h

-- the generator before the values of symbol m
unfoldable pub before : Settings → ℕ → ℕ → Lcg
before s number zero = after (count_words s) (generator number)
before s number (suc m) = symbol_from s number m (before s number m)

-- the packets generated for symbol m, for each stream
abbrev pub packets_from : Settings → ℕ → ℕ → Stream → Lcg
packets_from s number m = by_stream (before s number m) (lp_from s number m (before s number m))

-- these packets
unfoldable pub packets_of_symbol : Settings → ℕ → Stream → ℕ → List (List ℕ)
packets_of_symbol s number σ m = map (λ i. packet_of (after (packet_words * i) (packets_from s number m σ))) (numbers
    (drawn_for s number σ m))

-- all packets generated: the symbols of a trial need more than the counts
unfoldable pub drawn : Settings → ℕ → Inputs
drawn s number σ = flat_map (packets_of_symbol s number σ) (numbers (trial_symbols s number))
