-- Lanes with the second and the third quarter exchanged.
use Rattle.std.proofs.Common.{◌≡◌, ◌+◌, ◌*◌, ◌/◌, ◌%◌, ◌++◌, ◌<◌, ◌==◌, ℕ, true, List, [], ◌∷◌, length, map, refl, ap, ◌∙◌, arith}
use Rattle.std.specs.Prelude.{slice_index, slice_index_or}
use Rattle.std.proofs.lemmas.Bool.{agree_below_at, eqb-true}
use Rattle.std.proofs.lemmas.List.{get_or-map, get_or_append_left}

-- from which lane lane k comes
abbrev pub turn : ℕ → ℕ
turn k = k / 8 * 4 + k / 4 % 2 * 8 + k % 4

pub turn_small : (k : ℕ) → k < 16 → turn k < 16
turn_small k l = omega (arith, l)

pub turn_twice : (k : ℕ) → k < 16 → turn (turn k) ≡ k
turn_twice k l = omega (arith, l)

abbrev from : List ℕ
from = 0 ∷ 1 ∷ 2 ∷ 3 ∷ 8 ∷ 9 ∷ 10 ∷ 11 ∷ 4 ∷ 5 ∷ 6 ∷ 7 ∷ 12 ∷ 13 ∷ 14 ∷ 15 ∷ []

from_is : (k : ℕ) → k < 16 → slice_index from k ≡ turn k
from_is k l = eqb-true _ _ (agree_below_at (λ n. slice_index from n == turn n) (λ n. true) 16 k refl l)

pub turned_at : (xs ys : List ℕ) (k : ℕ) → length xs ≡ 16 → k < 16 → slice_index (map (λ i. slice_index_or (xs ++ ys) i 0) from) k ≡ slice_index xs (turn k)
turned_at xs ys k n l =
    get_or-map (λ i. slice_index_or (xs ++ ys) i 0) from k 0 0 l ∙ ap (λ i. slice_index_or (xs ++ ys) i 0) (from_is k l) ∙ get_or_append_left xs ys 0 (turn k) (omega (arith, n, turn_small k l))
