-- Codewords close to a word outside its erased positions (EN 300 744, 4.3.2).
use Rattle.std.specs.Prelude.{◌≡◌, ℕ, ◌<◌, ◌≤◌, ◌==◌, ◌||◌, not, Bool, List, count_by, slice_index}
use Rattle.std.specs.List.{list_any, range_with_len}
use Rattle.rs204.specs.Codes.{IsCodeword}

-- two words differ at a position that is not erased
abbrev pub differs_outside : List ℕ → List ℕ → List ℕ → ℕ → Bool
differs_outside erased v w k = not (list_any (λ e. e == k) erased || (slice_index v k == slice_index w k))

-- the number of positions, of 0 to 203, that are not erased and where two words differ
unfoldable pub distance_outside : List ℕ → List ℕ → List ℕ → ℕ
distance_outside erased v w = count_by (differs_outside erased v w) (range_with_len 0 204)

-- a codeword that differs from the word in n positions outside the erasures, n being 0 to 4
pub record IsOutside (word erased : List ℕ) (n : ℕ) (c : List ℕ) : Type 0 where
  pub code : IsCodeword c
  pub apart : distance_outside erased word c ≡ n
  pub few : n ≤ 4

-- every codeword differs from the word in more than four of them
abbrev pub IsFarOutside : List ℕ → List ℕ → Type 0
IsFarOutside word erased = (c : List ℕ) → IsCodeword c → 4 < distance_outside erased word c
