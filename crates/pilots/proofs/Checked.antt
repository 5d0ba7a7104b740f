-- The tables, computed against their definitions.
use Rattle.std.proofs.Common.{◌≡◌, ℕ, zero, suc, ◌+◌, ◌%◌, List, [], ◌∷◌, refl, arith, ◌<◌, Bool, true, false, ◌&&◌}
use Rattle.std.specs.Prelude.{◌==◌, if◌then◌else◌}
use Rattle.std.specs.Bool.{beq}
use Rattle.spec_words.specs.Words.{numbers}
use Rattle.mode_set.specs.StreamTable.{carriers}
use Rattle.mode_set.specs.declared.modes.Mode.{Mode}
use Rattle.mode_set.specs.declared.modes.Mode.TheVariants.{M2k, M8k}
use Rattle.pilots.proofs.Ranges.{all_pass}
use Rattle.pilots.specs.Carriers.{is_continual, is_tps, tps_carriers}
use Rattle.pilots.specs.Tables.{in_set, continual_set, tps_set, payload_set, below_words, payload_places, rank, is_free}

pub same_continual : (m : Mode) → all_pass (λ k. beq (is_continual m k) (in_set continual_set (k % 1704))) 0 (carriers m) ≡ true
unfolding all_pass numbers is_continual in_set continual_set
same_continual M2k = refl
same_continual M8k = refl

pub same_tps : (m : Mode) → all_pass (λ k. beq (is_tps m k) (in_set tps_set (k % 1704))) 0 (carriers m) ≡ true
unfolding all_pass numbers is_tps tps_carriers in_set tps_set
same_tps M2k = refl
same_tps M8k = refl

abbrev pub begins : List ℕ → ℕ → Bool
begins [] k = false
begins (x ∷ xs) k = x == k

abbrev pub tail : List ℕ → List ℕ
tail [] = []
tail (x ∷ xs) = xs

abbrev pub is_empty : List ℕ → Bool
is_empty [] = true
is_empty (x ∷ xs) = false

-- for i carriers from k on, with n payload carriers below the first: the tables give the number below each, and the
-- payload carriers from k on are the list
unfoldable pub walks : ℕ → ℕ → ℕ → ℕ → List ℕ → Bool
walks symbol zero k n xs = (n == 1512) && is_empty xs
walks symbol (suc i) k n xs =
    (rank (payload_set symbol) (below_words symbol) k == n) && (if is_free symbol k then begins xs k else true)
    && walks symbol i (k + 1) (if is_free symbol k then n + 1 else n) (if is_free symbol k then tail xs else xs)

pub walked : (symbol : ℕ) → symbol < 4 → walks symbol 1704 0 0 (payload_places symbol) ≡ true
unfolding walks rank payload_set below_words payload_places is_free in_set continual_set tps_set numbers
walked zero l = refl
walked (suc zero) l = refl
walked (suc (suc zero)) l = refl
walked (suc (suc (suc zero))) l = refl
walked (suc (suc (suc (suc n)))) l = absurd (omega (arith, l))
