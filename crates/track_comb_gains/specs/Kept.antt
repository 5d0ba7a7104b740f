-- The taps of the symbols that count, indexed by a number with one bit for each of the four symbols.
use Rattle.std.specs.Prelude.{◌≡◌, ℕ, zero, suc, ◌+◌, ◌-◌, ◌*◌, ◌/◌, ◌%◌, ◌^◌, ◌==◌, ◌<◌, Bool, if◌then◌else◌, List}
use Rattle.std.specs.Prelude.{map, filter, get_or, ℤ, pos, nat_abs}
use Rattle.spec_words.specs.Words.{numbers}
use Rattle.tracking.specs.InTime.{place, tap_at}
use Rattle.tracking.specs.declared.motion.Motion.{Motion}

-- bit i of n
abbrev pub has : ℕ → ℕ → Bool
has n i = n / 2 ^ i % 2 == 1

-- the number with this bit
abbrev pub digit : Bool → ℕ
digit b = if b then 1 else 0

-- the number of these four bits, lowest first
abbrev pub number_of : Bool → Bool → Bool → Bool → ℕ
number_of a b c d = digit a + 2 * digit b + 4 * digit c + 8 * digit d

-- the places that count, rising
abbrev pub places_of : ℕ → ℕ → List ℕ
places_of d n = map (place d) (filter (has n) (numbers 4))

-- the sum of the taps for the i-th of the four, 0 if it does not count
unfoldable pub kept_tap : Motion → ℕ → ℕ → ℕ → ℤ
kept_tap f d n i = if has n i then tap_at f d (places_of d n) (place d i) else pos 0

-- the same for all four
abbrev pub kept_taps : Motion → ℕ → List ℤ
kept_taps f r = map (kept_tap f (r / 16) (r % 16)) (numbers 4)
