-- The positions of least margin are valid erasures.
use Rattle.std.proofs.Common.{ℕ, ◌+◌, ◌<◌, List, arith}
use Rattle.std.specs.Prelude.{All}
use Rattle.std.specs.List.Sorted.{IsStrictlyIncreasing}
use Rattle.std.proofs.lemmas.List.Elements.{All-from_get_or}
use Rattle.bit_margin.specs.Places.{AreLeast}

pub they_rise : (margins places : List ℕ) → AreLeast margins 204 places → IsStrictlyIncreasing places
they_rise margins places h k l = h.rising k (k + 1) (omega arith) (omega (arith, l, h.long))

pub they_are_within : (margins places : List ℕ) → AreLeast margins 204 places → All (λ e. e < 204) places
they_are_within margins places h = All-from_get_or (λ e. e < 204) places 0 (λ i l. h.within i (omega (arith, l, h.long)))
