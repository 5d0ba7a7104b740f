-- The median of a list of numbers.
use Rattle.std.specs.Prelude.{ℕ, ◌≤◌, nat_le, List, Contains, length, filter, count_by}
use Rattle.spec_words.specs.Words.{rounded_up, least}

-- how many of the numbers are at most x
abbrev pub at_most : ℕ → List ℕ → ℕ
at_most x xs = count_by (λ y. nat_le y x) xs

-- the least of the numbers that is at least as great as half of them, rounded up
unfoldable pub middle_of : List ℕ → ℕ
middle_of xs = least (filter (λ x. nat_le (rounded_up (length xs) 2) (at_most x xs)) xs)
