-- The TPS carriers are few, and within the symbol.
use Rattle.std.proofs.Common.{◌≡◌, ℕ, ◌<◌, ◌≤◌, Bool, true, false, cond, List, [], ◌∷◌, length, refl, sym, arith}
use Rattle.std.specs.Prelude.{All, nat_lt}
use Rattle.std.proofs.lemmas.List.Elements.{All-nil, All-cons}
use Rattle.std.proofs.lemmas.Bool.{true≢false}
use Rattle.spec_words.specs.Words.{numbers}
use Rattle.mode_set.specs.StreamTable.{carriers}
use Rattle.mode_set.specs.declared.modes.Mode.{Mode}
use Rattle.mode_set.specs.declared.modes.Mode.TheVariants.{M2k, M8k}
use Rattle.pilots.specs.Carriers.{tps_carriers, tps_2k, in_mode}

pub few_carriers : (m : Mode) → length (tps_carriers m) ≤ 68
unfolding tps_carriers numbers
few_carriers M2k = omega arith
few_carriers M8k = omega arith

abbrev are_below : ℕ → List ℕ → Bool
are_below n [] = true
are_below n (x ∷ xs) = cond (nat_lt x n) (are_below n xs) false

below_true : (a b : ℕ) → nat_lt a b ≡ true → a < b
below_true a b h = grind arith

all_below : (n : ℕ) (xs : List ℕ) → are_below n xs ≡ true → All (λ k. k < n) xs
all_below n [] e = All-nil (λ k. k < n)
all_below n (x ∷ xs) e = go (nat_lt x n) refl (λ f. all_below n xs f) e
  where
    go : (b : Bool) → nat_lt x n ≡ b → (are_below n xs ≡ true → All (λ k. k < n) xs) → cond b (are_below n xs) false ≡ true → All (λ k. k < n) (x ∷ xs)
    go true t rest f = All-cons (λ k. k < n) x xs (below_true x n t) (rest f)
    go false t rest f = absurd (true≢false (sym f))

pub carriers_within : (m : Mode) → All (λ k. k < carriers m) (tps_carriers m)
unfolding tps_carriers numbers
carriers_within M2k = all_below 1705 (in_mode M2k tps_2k) refl
carriers_within M8k = all_below 6817 (in_mode M8k tps_2k) refl
