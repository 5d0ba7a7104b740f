-- The lanes in each of six phases, after which they are as they were.
use Rattle.std.specs.Prelude.{◌≡◌, ℕ, zero, suc, ◌+◌, ◌-◌, ◌*◌, ◌/◌, ◌%◌, ◌^◌, ◌<◌, ◌≤◌, min, false, true, List, ◌++◌}
use Rattle.std.specs.Prelude.{length, map, slice_index}
use Rattle.std.specs.Bool.{nat_lt}
use Rattle.std.specs.List.{range_with_len}
use Rattle.std.specs.Int.{bit_not, w64}
use Rattle.std.specs.Int.Bits.{bit_xor, bit_and}
use Rattle.spec_words.specs.Bits.{is_set}
use Rattle.code_paths.specs.declared.costs.CostPair.{CostPair}
use Rattle.acs_lanes.specs.Lanes.{AreSteps, cost_from, four}
use Rattle.acs_lanes.specs.Lanes16.{joined, way, word_by}

-- the bits of k of these numbers, as those of a lane of two vectors, from bit 4 down
abbrev pub lane_by : ℕ → ℕ → ℕ → ℕ → ℕ → ℕ → ℕ
lane_by e d c b a k = 16 * (k / 2 ^ e % 2) + 8 * (k / 2 ^ d % 2) + 4 * (k / 2 ^ c % 2) + 2 * (k / 2 ^ b % 2)
    + k / 2 ^ a % 2

-- Which lane the states 2k and 2k + 1 have before a step of this phase, in two vectors each. The step leaves the
-- states k and k + 32 in their places.
abbrev pub way_in : ℕ → ℕ → ℕ
way_in zero k = way k
way_in (suc zero) k = lane_by 2 3 0 1 4 k
way_in (suc (suc zero)) k = lane_by 1 2 0 3 4 k
way_in (suc (suc (suc zero))) k = lane_by 0 1 2 3 4 k
way_in (suc (suc (suc (suc zero)))) k = lane_by 1 0 2 3 4 k
way_in (suc (suc (suc (suc (suc p))))) k = lane_by 4 0 1 2 3 k

-- the lane, of 64, that has a state's cost
abbrev pub place_in : ℕ → ℕ → ℕ
place_in p n = 32 * (n % 2) + way_in p (n / 2)

-- the costs that the lanes of four vectors hold before a step of this phase, in the order of states
abbrev pub laid_in : ℕ → List ℕ → List ℕ → List ℕ → List ℕ → List ℕ
laid_in p a b c d = map (λ n. slice_index (joined a b c d) (place_in p n)) (range_with_len 0 64)

-- the phase of the next step
abbrev pub next : ℕ → ℕ
next p = (p + 1) % 6

-- The step of all states, as by lanes, with one word: new state k on the input 0 and new state k + 32 on 1.
pub record IsWordStep (pair : CostPair) (old new : List ℕ) (word : ℕ) : Type 0 where
  pub low_cost : (k : ℕ) → k < 32 → slice_index new k ≡ min (slice_index old (2 * k) + cost_from pair 0 false k)
      (slice_index old (2 * k + 1) + cost_from pair 1 false k)
  pub low_odd : (k : ℕ) → k < 32 → is_set word k ≡ nat_lt (slice_index old (2 * k + 1) + cost_from pair 1 false k)
      (slice_index old (2 * k) + cost_from pair 0 false k)
  pub high_cost : (k : ℕ) → k < 32 → slice_index new (k + 32)
      ≡ min (slice_index old (2 * k) + cost_from pair 0 true k) (slice_index old (2 * k + 1) + cost_from pair 1 true k)
  pub high_odd : (k : ℕ) → k < 32 → is_set word (k + 32) ≡ nat_lt (slice_index old (2 * k + 1) + cost_from pair 1 true
      k) (slice_index old (2 * k) + cost_from pair 0 true k)

-- the four sums of a pair as one word
abbrev pub sum_word : CostPair → ℕ
sum_word pair = word_by (pair.x0 + pair.y0) (pair.x0 + pair.y1) (pair.x1 + pair.y0) (pair.x1 + pair.y1)

-- the four sums of a pair, four times
abbrev pub all_sums : CostPair → List ℕ
all_sums pair = map (λ k. slice_index (four pair) (k % 4)) (range_with_len 0 16)

-- all four sums of a pair are so low that those of six steps can be added to costs below 32,768
abbrev pub IsLow : CostPair → Type 0
IsLow pair = (j : ℕ) → j < 4 → slice_index (four pair) j < 4096

-- What the steps cost in the first and in the last vectors: from the even states on 0, as from the odd ones on 1, and
-- from the even ones on 1, as from the odd ones on 0.
pub record AreCostsIn (phase : ℕ) (pair : CostPair) (zero_first one_first zero_last one_last : List ℕ) : Type 0 where
  pub zero_first_len : length zero_first ≡ 16
  pub one_first_len : length one_first ≡ 16
  pub zero_last_len : length zero_last ≡ 16
  pub one_last_len : length one_last ≡ 16
  pub zero_first_small : (k : ℕ) → k < 16 → slice_index zero_first k ≤ 8190
  pub one_first_small : (k : ℕ) → k < 16 → slice_index one_first k ≤ 8190
  pub zero_last_small : (k : ℕ) → k < 16 → slice_index zero_last k ≤ 8190
  pub one_last_small : (k : ℕ) → k < 16 → slice_index one_last k ≤ 8190
  pub even_zero : (k : ℕ) → k < 32 → AreSteps pair 0 false k (slice_index (zero_first ++ zero_last) (way_in phase k))
  pub odd_one : (k : ℕ) → k < 32 → AreSteps pair 1 true k (slice_index (zero_first ++ zero_last) (way_in phase k))
  pub even_one : (k : ℕ) → k < 32 → AreSteps pair 0 true k (slice_index (one_first ++ one_last) (way_in phase k))
  pub odd_zero : (k : ℕ) → k < 32 → AreSteps pair 1 false k (slice_index (one_first ++ one_last) (way_in phase k))

-- a number with two of its bits exchanged, one below bit 4 and that one
abbrev pub swapped : ℕ → ℕ → ℕ
swapped e n = n / 32 * 32 + 16 * (n / 2 ^ e % 2) + n / 2 ^ (e + 1) % 2 ^ (3 - e) * 2 ^ (e + 1) + 2 ^ e * (n / 16 % 2)
    + n % 2 ^ e

-- the bits of a word in a mask that differ from those `shift` places above them
abbrev pub differ : ℕ → ℕ → ℕ → ℕ
differ shift mask word = bit_and (bit_xor (word / 2 ^ shift) word) mask

-- the word with those bits exchanged
abbrev pub moved_by : ℕ → ℕ → ℕ → ℕ
moved_by shift mask word = bit_xor (bit_xor word (differ shift mask word)) (differ shift mask word * 2 ^ shift % 2 ^ 64)

-- Bits of a state's number have their places among the bits of a word only after this exchange of two of them.
abbrev pub shift_in : ℕ → ℕ
shift_in zero = 3
shift_in (suc zero) = 8
shift_in (suc (suc zero)) = 12
shift_in (suc (suc (suc zero))) = 14
shift_in (suc (suc (suc (suc p)))) = 15

-- the bits of a decision word that this exchange moves
abbrev pub mask_in : ℕ → ℕ
mask_in zero = 723401728380766730
mask_in (suc zero) = 280375465148160
mask_in (suc (suc zero)) = 264913582878960
mask_in (suc (suc (suc zero))) = 225176545447116
mask_in (suc (suc (suc (suc p)))) = 187647121205930

-- The decisions of a step in the order of states, from the word of a phase, whose bits are set if the even way was
-- taken.
abbrev pub in_order : ℕ → ℕ → ℕ
in_order phase word = moved_by (shift_in phase) (mask_in phase) (bit_not w64 word)

-- Bytes are put in order within each half of a vector, so bit 4 of a state's number is still the one that says which
-- half. In the first phase they stay as they are, and it is bits 0 and 2 that are exchanged.
abbrev pub exchanged : ℕ → ℕ → ℕ
exchanged zero n = n / 8 * 8 + 4 * (n % 2) + 2 * (n / 2 % 2) + n / 4 % 2
exchanged (suc zero) n = swapped 3 n
exchanged (suc (suc zero)) n = swapped 2 n
exchanged (suc (suc (suc zero))) n = swapped 1 n
exchanged (suc (suc (suc (suc p)))) n = swapped 0 n

-- the marks of two vectors, in each half those of eight lanes of the first and then of the last
abbrev pub by_halves : List ℕ → List ℕ → List ℕ
by_halves x y = map (λ k. slice_index (x ++ y) (k / 16 * 8 + k % 8 + 16 * (k / 8 % 2))) (range_with_len 0 32)

-- which byte has the mark of a lane there
abbrev pub byte_of : ℕ → ℕ
byte_of w = 16 * (w / 8 % 2) + 8 * (w / 16) + w % 8

-- the bytes that have the marks of these lanes
abbrev pub ordered_by : (ℕ → ℕ) → List ℕ → List ℕ
ordered_by lane bytes = map (λ i. slice_index (bytes ++ bytes) (byte_of (lane i))) (range_with_len 0 32)

-- bytes in the order of the words' bits
abbrev pub ordered : ℕ → List ℕ → List ℕ
ordered p = ordered_by (λ i. way_in p (exchanged p i))

-- the lower four of each eight lanes of two vectors in turn
abbrev pub lower_fours : List ℕ → List ℕ → List ℕ
lower_fours x y = map (λ k. slice_index (x ++ y) (k / 8 * 8 + k / 2 % 4 + 16 * (k % 2))) (range_with_len 0 16)

-- the upper four of each eight lanes of two vectors in turn
abbrev pub upper_fours : List ℕ → List ℕ → List ℕ
upper_fours x y = map (λ k. slice_index (x ++ y) (k / 8 * 8 + 4 + k / 2 % 4 + 16 * (k % 2))) (range_with_len 0 16)

-- the lower eight lanes of two vectors
abbrev pub lower_eights : List ℕ → List ℕ → List ℕ
lower_eights x y = map (λ k. slice_index (x ++ y) (k % 8 + 16 * (k / 8))) (range_with_len 0 16)

-- the upper eight lanes of two vectors
abbrev pub upper_eights : List ℕ → List ℕ → List ℕ
upper_eights x y = map (λ k. slice_index (x ++ y) (8 + k % 8 + 16 * (k / 8))) (range_with_len 0 16)

-- the costs in the order of states are those that two and two vectors hold after a step
pub record AreTurnedIn (phase : ℕ) (low_first low_last high_first high_last costs : List ℕ) : Type 0 where
  pub low : (k : ℕ) → k < 32 → slice_index costs k ≡ slice_index (low_first ++ low_last) (way_in phase k)
  pub high : (k : ℕ) → k < 32 → slice_index costs (k + 32) ≡ slice_index (high_first ++ high_last) (way_in phase k)
