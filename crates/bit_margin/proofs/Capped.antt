-- Margins by sums that are cut off at 65,535.
use Rattle.std.proofs.Common.{◌≡◌, ℕ, ◌+◌, ◌-◌, ◌%◌, ◌^◌, ◌<◌, ◌≤◌, min, List, length, replicate, sym, ap, ap₂, ◌∙◌, arith, get_or}
use Rattle.std.specs.Int.{abs_diff}
use Rattle.std.specs.Simd.Lanes.{zip2, sel_l}
use Rattle.std.proofs.lemmas.Simd.{get_or-zip2, length-zip2}
use Rattle.std.proofs.lemmas.List.{get_or-replicate}
use Rattle.std.specs.Prelude.{slice_index}
use Rattle.code_paths.specs.declared.costs.CostPair.{CostPair}
use Rattle.inner_decoder.specs.declared.decoder.StartState.TheVariants.{Any}
use Rattle.inner_decoder.specs.Starts.{start_of}
use Rattle.acs_lanes.proofs.Sums16.{less}
use Rattle.bit_margin.specs.Margin.{IsMargin}
use Rattle.bit_margin.specs.Sums.{AreLowBackward, AreLowForward, IsApart, IsLeastOf, raised}
use Rattle.bit_margin.proofs.Sixteen.{lesser_at, lesser_len}
use Rattle.bit_margin.proofs.LowSums.{raised_at, apart_raised}

-- the room above a sum
abbrev rooms : List ℕ → List ℕ
rooms ys = zip2 (λ a b. (a + (65536 - b)) % 65536) (replicate 16 65535) ys

-- the sums cut off
abbrev pub capped : List ℕ → List ℕ → List ℕ
capped xs ys = zip2 (λ a b. (a + b) % 65536) (sel_l (less xs (rooms ys)) xs (rooms ys)) ys

module _ (xs ys : List ℕ) (lx : length xs ≡ 16) (ly : length ys ≡ 16) where
  rooms_len : length (rooms ys) ≡ 16
  rooms_len = length-zip2 (λ a b. (a + (65536 - b)) % 65536) (replicate 16 65535) ys (sym ly)

  pub capped_len : length (capped xs ys) ≡ 16
  capped_len = length-zip2 (λ a b. (a + b) % 65536) (sel_l (less xs (rooms ys)) xs (rooms ys)) ys (lesser_len xs (rooms ys) lx rooms_len ∙ sym ly) ∙ lesser_len xs (rooms ys) lx rooms_len

  one_room : (x r y : ℕ) → r ≡ 65535 → y < 65536 → (min x ((r + (65536 - y)) % 65536) + y) % 65536 ≡ min (x + y) 65535
  one_room x r y e h = omega (arith, e, h)

  pub capped_at : ((k : ℕ) → k < 16 → slice_index ys k < 2 ^ 16) → (k : ℕ) → k < 16 → get_or (capped xs ys) k 0 ≡ min (get_or xs k 0 + get_or ys k 0) 65535
  capped_at f k l =
      get_or-zip2 (λ a b. (a + b) % 65536) (sel_l (less xs (rooms ys)) xs (rooms ys)) ys k 0 0 0 (omega (arith, lesser_len xs (rooms ys) lx rooms_len)) (omega (arith, ly))
      ∙ ap (λ z. (z + get_or ys k 0) % 65536) (lesser_at xs (rooms ys) lx rooms_len k l ∙ ap (λ z. min (get_or xs k 0) z) (get_or-zip2 (λ a b. (a + (65536 - b)) % 65536) (replicate 16 65535) ys k 0 0 0 l (omega (arith, ly))))
      ∙ one_room (get_or xs k 0) (get_or (replicate 16 65535) k 0) (get_or ys k 0) (get_or-replicate 16 k 65535 0 l) (f k l)

-- a least sum that is not cut off
pub whole_least : (f : ℕ → ℕ) (m : ℕ) → m < 65535 → IsLeastOf (λ k. min (f k) 65535) 32 m → IsLeastOf f 32 m
whole_least f m l h = record { place = h.place; within = h.within; is = omega (arith, h.is, l); least = λ k i. omega (arith, h.least k i) }

pub moved_least : (f g : ℕ → ℕ) (m n : ℕ) → ((k : ℕ) → k < 32 → g k ≡ f k + n) → IsLeastOf f 32 m → IsLeastOf g 32 (m + n)
moved_least f g m n e h = record { place = h.place; within = h.within; is = omega (arith, h.is, e h.place h.within); least = λ k i. omega (arith, h.least k i, e k i) }

-- ---- the margin of a step

pub apart_whole : (before behind : List ℕ) (u v w : ℕ) → u < 65535 → v < 65535 → IsLeastOf (λ k. min (slice_index before (k + 0) + slice_index behind (k + 0)) 65535) 32 u → IsLeastOf (λ k. min (slice_index before (k + 32) + slice_index behind (k + 32)) 65535) 32 v
    → w ≡ abs_diff u v → IsApart before behind w
apart_whole before behind u v w l m h k e = record {
  zero = u;
  one = v;
  least_zero = whole_least (λ k. slice_index before (k + 0) + slice_index behind (k + 0)) u l h;
  least_one = whole_least (λ k. slice_index before (k + 32) + slice_index behind (k + 32)) v m k;
  is = e;
}
