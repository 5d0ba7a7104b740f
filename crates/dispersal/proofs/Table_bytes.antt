-- The table has the bytes that the register generates.
use Rattle.std.proofs.Common.{◌≡◌, ℕ, zero, suc, ◌+◌, ◌*◌, ◌%◌, ◌<◌, List, [], ◌∷◌, get_or, sym, ◌∙◌, ap, arith}
use Rattle.dispersal.specs.Sequence.{sequence_byte, spelled, shifted}
use Rattle.dispersal.proofs.Register.{shifted_spelled, first_register, byte_of_register}

abbrev shifts : ℕ → ℕ → ℕ
shifts zero r = r
shifts (suc n) r = shifts n (shifted r)

register_by : (n i : ℕ) → spelled 15 (i + n) ≡ shifts n (spelled 15 i)
register_by zero i = ap (spelled 15) (let e : i + 0 ≡ i = omega arith in e)
register_by (suc n) i =
    let e : i + suc n ≡ i + 1 + n = omega arith in
    ap (spelled 15) e ∙ register_by n (i + 1) ∙ ap (shifts n) (sym (shifted_spelled i))

-- the low bytes of the register, each after eight more steps
unfoldable pub low_bytes : ℕ → ℕ → List ℕ
low_bytes zero r = []
low_bytes (suc n) r = shifts 8 r % 256 ∷ low_bytes n (shifts 8 r)

-- they are those of the sequence
pub low_bytes_are : (n m i : ℕ) → i < n → get_or (low_bytes n (spelled 15 (8 * m))) i 0 ≡ sequence_byte (m + i)
unfolding low_bytes
low_bytes_are zero m i lt = absurd (omega arith)
low_bytes_are (suc n) m zero lt =
    let same : m + 0 ≡ m = omega arith in
    ap (λ (r : ℕ). r % 256) (sym (register_by 8 (8 * m))) ∙ byte_of_register m ∙ ap sequence_byte (sym same)
low_bytes_are (suc n) m (suc i) lt =
    let next : 8 * m + 8 ≡ 8 * (m + 1) = omega arith in
    let same : m + 1 + i ≡ m + suc i = omega arith in
    ap (λ (r : ℕ). get_or (low_bytes n r) i 0) (sym (register_by 8 (8 * m)) ∙ ap (spelled 15) next)
    ∙ low_bytes_are n (m + 1) i (omega arith) ∙ ap sequence_byte same

pub first_bytes : (table : List ℕ) → table ≡ low_bytes 1503 169 → (k : ℕ) → k < 1503 → get_or table k 0 ≡ sequence_byte k
first_bytes table is k lt =
    ap (λ (xs : List ℕ). get_or xs k 0) (is ∙ ap (low_bytes 1503) first_register) ∙ low_bytes_are 1503 0 k lt ∙ ap sequence_byte (let e : 0 + k ≡ k = omega arith in e)
