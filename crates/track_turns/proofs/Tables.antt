-- The tables are computed.
use Rattle.std.proofs.Common.{◌≡◌, ℕ, zero, suc, ◌+◌, ◌<◌, ◌≤◌, List, [], ◌∷◌, length, get_or, Bool, true, false, nat_lt, refl, ap, sym, ◌∙◌, arith}
use Rattle.std.specs.Prelude.{◌&&◌}
use Rattle.std.specs.List.{list_all}
use Rattle.std.proofs.lemmas.Bool.Decides.{nat_tests}
use Rattle.spec_words.specs.Words.{numbers}
use Rattle.mode_set.specs.declared.modes.Mode.{Mode}
use Rattle.mode_set.specs.declared.modes.Mode.TheVariants.{M2k, M8k}
use Rattle.pilots.specs.Carriers.{is_continual}
use Rattle.tracking.specs.Comb.{continual_points, points}
use Rattle.track_turns.specs.declared.continual.TheConstants.{CONTINUAL_2K, CONTINUAL_8K}

pub points_2k : CONTINUAL_2K ≡ continual_points M2k
unfolding continual_points is_continual numbers
points_2k = refl

pub points_8k : CONTINUAL_8K ≡ continual_points M8k
unfolding continual_points is_continual numbers
points_8k = refl

passes : (p : ℕ → Bool) (xs : List ℕ) (i : ℕ) → list_all p xs ≡ true → i < length xs → p (get_or xs i 0) ≡ true
passes p [] i e h = absurd (omega (arith, h))
passes p (x ∷ xs) i e h = by (p x) refl (passes p xs) i e h
  where
    by : (b : Bool) → p x ≡ b → ((k : ℕ) → list_all p xs ≡ true → k < length xs → p (get_or xs k 0) ≡ true) → (i : ℕ) → (b && list_all p xs) ≡ true → i < length (x ∷ xs) → p (get_or (x ∷ xs) i 0) ≡ true
    by true f r zero e h = f
    by true f r (suc i) e h = r i e (omega (arith, h))
    by false f r i e h = absurd (grind (arith, e))

all_within : (n : ℕ) (xs : List ℕ) → list_all (λ (k : ℕ). nat_lt k n) xs ≡ true → (i : ℕ) → i < length xs → get_or xs i 0 < n
all_within n xs e i h = let t : nat_lt (get_or xs i 0) n ≡ true = passes (λ (k : ℕ). nat_lt k n) xs i e h in grind (arith, nat_tests, t)

pub within_2k : (i : ℕ) → i < length CONTINUAL_2K → get_or CONTINUAL_2K i 0 < points M2k
within_2k = all_within 569 CONTINUAL_2K refl

pub within_8k : (i : ℕ) → i < length CONTINUAL_8K → get_or CONTINUAL_8K i 0 < points M8k
within_8k = all_within 2273 CONTINUAL_8K refl
