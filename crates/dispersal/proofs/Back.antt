-- XOR twice restores the byte.
use Rattle.std.proofs.Common.{◌≡◌, ℕ, ◌+◌, ◌*◌, List, [], ◌∷◌, refl, ◌∙◌, sym, ap, ap₂, arith}
use Rattle.std.specs.Prelude.{bit_xor}
use lib.Bits.{xor_assoc, xor_self, xor_zero_r}
use Rattle.dispersal.specs.Sequence.{sequence_byte}
use Rattle.dispersal.specs.Packet.{xor_from}
use Rattle.dispersal.specs.Laws.{UndoGivesBack}

xor_back : (m : ℕ) (xs : List ℕ) → xor_from m (xor_from m xs) ≡ xs
xor_back m [] = refl
xor_back m (x ∷ xs) = ap₂ (λ (y : ℕ) (ys : List ℕ). y ∷ ys) (xor_assoc x (sequence_byte m) (sequence_byte m) ∙ ap (bit_xor x) (xor_self (sequence_byte m)) ∙ xor_zero_r x) (xor_back (m + 1) xs)

pub back : UndoGivesBack
back phase [] p = absurd (omega (arith, p.length))
back phase (x ∷ xs) p = ap₂ (λ (y : ℕ) (ys : List ℕ). y ∷ ys) (sym p.sync) (xor_back (188 * phase) xs)
