-- The symbol interleaver: the word that each payload carrier of a symbol carries (EN 300 744, 4.3.4.2).
use Rattle.std.specs.Prelude.{◌≡◌, ℕ, zero, suc, ◌+◌, ◌-◌, ◌*◌, ◌/◌, ◌%◌, ◌^◌, ◌<◌, ◌==◌, nat_lt, Bool, if◌then◌else◌}
use Rattle.std.specs.Prelude.{List, [], ◌∷◌, length, map, filter, sum, slice_index}
use Rattle.std.specs.Int.{bit_at}
use Rattle.std.specs.List.{position_or_len, enumerate_from}
use Rattle.mode_set.specs.StreamTable.{payload}
use Rattle.mode_set.specs.declared.modes.Mode.{Mode}
use Rattle.mode_set.specs.declared.modes.Mode.TheVariants.{M2k, M8k}

-- Nr, the bits of an address
abbrev pub bits : Mode → ℕ
bits M2k = 11
bits M8k = 13

-- the new top bit of the next word
abbrev pub feedback : Mode → ℕ → ℕ
feedback M2k r = (bit_at r 0 + bit_at r 3) % 2
feedback M8k r = (bit_at r 0 + bit_at r 1 + bit_at r 4 + bit_at r 6) % 2

-- the next word: all bits one place down, and a new top bit
abbrev pub next_word : Mode → ℕ → ℕ
next_word m r = r / 2 + 2 ^ (bits m - 2) * feedback m r

-- n words, each the successor of the one before
unfoldable pub words_from : Mode → ℕ → ℕ → List ℕ
words_from m zero r = []
words_from m (suc n) r = r ∷ words_from m n (next_word m r)

-- R', all Mmax words of Nr - 1 bits
abbrev pub words : Mode → List ℕ
words m = 0 ∷ 0 ∷ words_from m (2 ^ bits m - 2) 1

-- the positions in R of bits 0, 1, .. of R'
abbrev pub wiring : Mode → List ℕ
wiring M2k = 4 ∷ 3 ∷ 9 ∷ 6 ∷ 2 ∷ 8 ∷ 1 ∷ 5 ∷ 7 ∷ 0 ∷ []
wiring M8k = 7 ∷ 1 ∷ 4 ∷ 2 ∷ 9 ∷ 6 ∷ 8 ∷ 10 ∷ 0 ∷ 3 ∷ 11 ∷ 5 ∷ []

-- a word with its bits 0, 1, .. moved to these positions
abbrev pub moved : ℕ → List ℕ → ℕ
moved r places = sum (map (λ p. bit_at r p.0 * 2 ^ p.1) (enumerate_from 0 places))

-- the address of a word: R, with the top bit set in every second one
abbrev pub address : Mode → ℕ × ℕ → ℕ
address m p = p.0 % 2 * 2 ^ (bits m - 1) + moved p.1 (wiring m)

-- H: those of all Mmax addresses that are below Nmax
unfoldable pub h : Mode → List ℕ
h m = filter (λ a. nat_lt a (payload m)) (map (address m) (enumerate_from 0 (words m)))

-- whether a symbol's number is odd
abbrev pub is_odd : ℕ → Bool
is_odd l = l % 2 == 1

-- the word on payload carrier q: in an even symbol word w is on carrier H(w), in an odd one carrier q has word H(q)
abbrev pub carried : Mode → Bool → ℕ → ℕ
carried m odd q = if odd then slice_index (h m) q else position_or_len (λ a. a == q) (h m)

-- the payload carrier of word w
abbrev pub place_of_word : Mode → Bool → ℕ → ℕ
place_of_word m odd w = if odd then position_or_len (λ a. a == w) (h m) else slice_index (h m) w

-- the numbers below n in some order
pub record IsPermutationBelow (n : ℕ) (xs : List ℕ) : Type 0 where
  pub long : length xs ≡ n
  pub below : (i : ℕ) → i < n → slice_index xs i < n
  pub once : (i j : ℕ) → i < n → j < n → slice_index xs i ≡ slice_index xs j → i ≡ j
  pub each : (a : ℕ) → a < n → (i : ℕ) × (i < n) × (slice_index xs i ≡ a)

-- the index of each number of a list, at that number
pub record IsInverse (xs ys : List ℕ) : Type 0 where
  pub long : length ys ≡ length xs
  pub back : (i : ℕ) → i < length xs → slice_index ys (slice_index xs i) ≡ i

-- the two tables of a mode: H, and its inverse
pub record AreTables (m : Mode) (places words : List ℕ) : Type 0 where
  pub is_h : places ≡ h m
  pub inverse : IsInverse (h m) words

-- H is a permutation of the payload places, in both modes
abbrev pub HIsAPermutation : Type 0
HIsAPermutation = (m : Mode) → IsPermutationBelow (payload m) (h m)

-- each word is on one carrier, and each carrier has one word
abbrev pub PlacesAndWordsAgree : Type 0
PlacesAndWordsAgree = (m : Mode) (odd : Bool) (n : ℕ) → n < payload m →
    (place_of_word m odd (carried m odd n) ≡ n) × (carried m odd (place_of_word m odd n) ≡ n)
