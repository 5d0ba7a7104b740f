-- The result of reading into a buffer.
use Rattle.std.specs.Prelude.{◌≡◌, ◌<◌, ◌≤◌, ℕ, List, take, length}

-- the first n bytes left are at the start of a buffer of `size` bytes; n is smaller only if no more were left
pub record ReadsFront (left : List ℕ) (size n : ℕ) (bytes : List ℕ) : Type 0 where
  pub within : n ≤ length left
  pub front : take n bytes ≡ take n left
  pub all : n < size → n ≡ length left
