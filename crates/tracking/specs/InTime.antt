-- Interpolation in time: the gain at the comb points of a symbol, from the scattered pilots of the symbols around it
-- (EN 300 744, 4.5.3).
use Rattle.std.specs.Prelude.{ℕ, ◌+◌, ◌-◌, ◌*◌, ◌%◌, ◌==◌, nat_le, not, ◌&&◌, Bool, if◌then◌else◌, List, [], ◌∷◌}
use Rattle.std.specs.Prelude.{filter, find, map, unwrap_or, ℤ, pos, ◌+ℤ◌}
use Rattle.std.specs.List.{list_any}
use Rattle.spec_words.specs.Words.{numbers, least, is_among}
use Rattle.mode_set.specs.declared.modes.Guard.{Guard}
use Rattle.tracking.specs.BadSymbols.{is_bad}
use Rattle.tracking.specs.Comb.{Comb, is_inside, turned_value}
use Rattle.tracking.specs.Moving.{tap, motion}
use Rattle.track_arithmetic.specs.Numbers.{scaled, near, sum_of}
use Rattle.track_arithmetic.specs.declared.complex.Complex.{Complex}
use Rattle.tracking.specs.declared.motion.Motion.{Motion}

-- the number of symbols since point j was last a scattered pilot at symbol m; it is one when the numbers of symbol and
-- point are equal modulo 4
abbrev pub distance : ℕ → ℕ → ℕ
distance m j = (m + 3 * j) % 4

-- The four symbols around symbol m where a point at distance d is a scattered pilot: one before the last, the last, and
-- the two after. Places 0 to 14 are the fifteen symbols around m, place 7 being m; place 15 is eight after m.
abbrev pub place : ℕ → ℕ → ℕ
place d i = 3 + 4 * i - d

-- the symbol at a place
abbrev pub symbol_at : ℕ → ℕ → ℕ
symbol_at m p = m + p - 7

-- whether the file has it, in the window of symbol m
abbrev pub is_there : Comb → ℕ → ℕ → Bool
is_there c m p = nat_le 7 (m + p) && is_inside c m (symbol_at m p)

-- whether the file has it and it is not bad for m
abbrev pub is_good : Comb → ℕ → ℕ → Bool
is_good c m p = is_there c m p && not (is_bad c m (symbol_at m p))

-- the good ones of the four, or all present ones if none is good
abbrev pub counting_of : List ℕ → List ℕ → List ℕ
counting_of [] there = there
counting_of (p ∷ ps) there = p ∷ ps

-- the places that count, rising
unfoldable pub counting : Comb → ℕ → ℕ → List ℕ
counting c m d = counting_of (filter (is_good c m) (map (place d) (numbers 4)))
    (filter (is_there c m) (map (place d) (numbers 4)))

-- the distance of a place from symbol m
abbrev pub apart : ℕ → ℕ
apart p = (p - 7) + (7 - p)

-- the place nearest to symbol m, of two the earlier
abbrev pub nearest_place : List ℕ → ℕ
nearest_place ps = unwrap_or (find (λ p. apart p == least (map apart ps)) ps) 7

-- the place that gets the tap of p: p itself if it counts, otherwise the nearest one that counts
abbrev pub receiver : List ℕ → ℕ → ℕ
receiver ps p = if is_among ps p then p else nearest_place ps

-- the sum of f over a list of places
abbrev pub sum_ℤ : (ℕ → ℤ) → List ℕ → ℤ
sum_ℤ f [] = pos 0
sum_ℤ f (i ∷ is) = f i +ℤ sum_ℤ f is

-- the sum of the taps for place p
unfoldable pub tap_at : Motion → ℕ → List ℕ → ℕ → ℤ
tap_at f d ps p = sum_ℤ (λ i. if receiver ps (place d i) == p then tap f d i else pos 0) (numbers 4)

-- the gain at point j of symbol m from the pilots at the places that count, as 16 times the value of a pilot
abbrev pub gain_by : Comb → ℕ → ℕ → Motion → List ℕ → Complex
gain_by c m j f ps = near 22 (sum_of (λ p. scaled (tap_at f (distance m j) ps p) (turned_value c m (symbol_at m p) j))
    ps)

-- the gain at point j of symbol m
unfoldable pub point_gain : Guard → Comb → ℕ → ℕ → Complex
point_gain g c m j = gain_by c m j (motion g c m) (counting c m (distance m j))
