-- Worked values of the definitions.
use Rattle.std.proofs.Common.{◌≡◌, ℕ, List, [], ◌∷◌, refl}
use Rattle.rescue_words.specs.ByteMargins.{byte_margins}
use Rattle.forney.specs.Values.{values}

-- nineteen bits hold two whole bytes
bits : List ℕ
bits = 9 ∷ 8 ∷ 7 ∷ 9 ∷ 9 ∷ 9 ∷ 12 ∷ 4095 ∷ 5 ∷ 6 ∷ 5 ∷ 9 ∷ 9 ∷ 9 ∷ 9 ∷ 3 ∷ 0 ∷ 0 ∷ 0 ∷ []

two_bytes : byte_margins bits ≡ 7 ∷ 3 ∷ []
unfolding bits byte_margins values
two_bytes = refl
