-- The bits of bytes that are taken.
use Rattle.std.proofs.Common.{◌≡◌, ℕ, ◌+◌, ◌*◌, Bool, List, [], ◌∷◌, ◌++◌, length, refl, ap, arith, length-append}
use Rattle.spec_words.specs.Bits.{spelled}
use Rattle.bit_pack.specs.Queue.{bits_of_bytes}

bytes_bits : (xs : List ℕ) → length (bits_of_bytes xs) ≡ 8 * length xs
bytes_bits [] = refl
bytes_bits (x ∷ xs) = omega (arith, length-append (spelled 8 x) (bits_of_bytes xs), bytes_bits xs)

pub byte_amount : (old new : List Bool) (bytes : List ℕ) (n : ℕ) → old ≡ bits_of_bytes bytes ++ new → length bytes ≡ n → length old ≡ length new + 8 * n
byte_amount old new bytes n is size = omega (arith, ap length is, length-append (bits_of_bytes bytes) new, bytes_bits bytes, size)
