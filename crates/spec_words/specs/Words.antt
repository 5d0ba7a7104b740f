-- Lists of numbers and searches in them.
use Rattle.std.specs.Prelude.{ℕ, ◌+◌, ◌-◌, ◌/◌, ◌==◌, min, Bool, List, [], ◌∷◌}
use Rattle.std.specs.List.{position_or_len, list_any, range_with_len}

-- the numbers below n
unfoldable pub numbers : ℕ → List ℕ
numbers n = range_with_len 0 n

-- the first number below n that passes the test, or n if none does
abbrev pub first_below : ℕ → (ℕ → Bool) → ℕ
first_below n test = position_or_len test (numbers n)

-- whether a list contains a number
abbrev pub is_among : List ℕ → ℕ → Bool
is_among xs k = list_any (λ x. x == k) xs

-- a / b rounded up
abbrev pub rounded_up : ℕ → ℕ → ℕ
rounded_up a b = (a + b - 1) / b

-- the least element
abbrev pub least : List ℕ → ℕ
least [] = 0
least (x ∷ []) = x
least (x ∷ y ∷ xs) = min x (least (y ∷ xs))
