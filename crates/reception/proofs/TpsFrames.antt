-- It is decidable whether the TPS word of a frame is readable, so the frames of bytes can be counted.
use Rattle.std.proofs.Common.{◌≡◌, ℕ, zero, suc, ◌+◌, ◌-◌, ◌/◌, ◌≤◌, Bool, cond, true, false, List, inl, inr, refl, arith}
use Rattle.std.specs.Prelude.{IsTrue, IsFalse}
use Rattle.outer_chain.specs.Words.{count}
use Rattle.mode_set.specs.Kept.{is_flat, is_qpsk}
use Rattle.mode_set.specs.declared.modes.Rate.{Rate}
use Rattle.mode_set.specs.declared.modes.Rate.TheVariants.{R1of2, R2of3, R3of4, R5of6, R7of8}
use Rattle.mode_set.specs.declared.settings.Settings.{Settings}
use Rattle.tps_bch.specs.Bch.{IsTpsWord, bit_distance}
use Rattle.tps_bch.proofs.Division.{is_word}
use Rattle.tps_word.specs.Tps.{tps_info, tps_word, IsValid}
use Rattle.tps_word.specs.declared.word.TpsWord.{TpsWord}
use Rattle.tps_word.proofs.Places.{length-info}
use Rattle.reception.specs.Cells.{symbols}
use Rattle.reception.specs.Frames.{tps_cells, frame_bits, IsReadable, CountsFrames}
use Rattle.code_paths.proofs.Deciding.{Decided}
use Rattle.reception.proofs.Searching.{same_number, at_most, both, if_true, if_false, test, tested}
use Rattle.reception.proofs.Fields.{find_fields}

is_half : (r : Rate) → Decided (r ≡ R1of2)
is_half R1of2 = inl refl
is_half R2of3 = inr (λ e. cc)
is_half R3of4 = inr (λ e. cc)
is_half R5of6 = inr (λ e. cc)
is_half R7of8 = inr (λ e. cc)

is_true : (b : Bool) → Decided (IsTrue b)
is_true true = inl refl
is_true false = inr (λ e. cc)

is_valid : (t : TpsWord) → Decided (IsValid t)
is_valid t =
    go (at_most 1 t.frame) (at_most t.frame 4) (at_most (suc t.cell_byte) 256) (if_true (is_qpsk t.shape) (is_true (is_flat t.hierarchy))) (if_true (is_flat t.hierarchy) (is_half t.rate_lp))
    (if_false t.with_cell (same_number t.cell_byte 0))
  where
    go : Decided (1 ≤ t.frame) → Decided (t.frame ≤ 4) → Decided (suc t.cell_byte ≤ 256) → Decided (IsTrue (is_qpsk t.shape) → IsTrue (is_flat t.hierarchy)) → Decided (IsTrue (is_flat t.hierarchy) → t.rate_lp ≡ R1of2)
        → Decided (IsFalse t.with_cell → t.cell_byte ≡ 0) → Decided (IsValid t)
    go (inl a) (inl b) (inl c) (inl d) (inl e) (inl f) = inl (record { first = a; last = b; byte = omega (arith, c); qpsk = d; rate = e; cell = f })
    go (inr n) b c d e f = inr (λ v. n v.first)
    go (inl a) (inr n) c d e f = inr (λ v. n v.last)
    go (inl a) (inl b) (inr n) d e f = inr (λ v. n (omega (arith, v.byte)))
    go (inl a) (inl b) (inl c) (inr n) e f = inr (λ v. n v.qpsk)
    go (inl a) (inl b) (inl c) (inl d) (inr n) f = inr (λ v. n v.rate)
    go (inl a) (inl b) (inl c) (inl d) (inl e) (inr n) = inr (λ v. n v.cell)

is_code : (t : TpsWord) → IsTpsWord (tps_word t)
unfolding tps_word
is_code t = is_word (tps_info t) (length-info t)

-- valid fields whose word is close
abbrev AreNear : List Bool → TpsWord → Type 0
AreNear bits t = IsValid t × (bit_distance bits (tps_word t) ≤ 2)

readable : (bits : List Bool) → Decided (IsReadable bits)
readable bits = go (find_fields (AreNear bits) (λ t. both (is_valid t) (at_most (bit_distance bits (tps_word t)) 2)) (λ t p. (omega (arith, p.0.last), p.0.byte)))
  where
    go : Decided ((t : TpsWord) × (AreNear bits t)) → Decided (IsReadable bits)
    go (inl f) = inl (f.0, record { is_word = is_code f.0; close = f.1.1; valid = f.1.0 })
    go (inr n) = inr (λ r. n (r.0, (r.1.valid, r.1.close)))

count_most : (f : ℕ → Bool) (n : ℕ) → count f n ≤ n
unfolding count
count_most f zero = omega arith
count_most f (suc n) = go (f n) (count_most f n)
  where
    go : (b : Bool) → count f n ≤ n → cond b 1 0 + count f n ≤ suc n
    go true l = omega (arith, l)
    go false l = omega (arith, l)

pub some_frames : (s : Settings) (bytes : List ℕ) → (read : ℕ) × (bad : ℕ) × CountsFrames s bytes read bad
some_frames s bytes =
    let word = frame_bits (tps_cells s bytes) in
    let n = symbols s bytes / 68 in
    let is_read : ℕ → Bool = λ f. test (readable (word f)) in
    let read = count is_read n in (
      read,
      n - read,
      record { is_read = is_read; reads = λ f l. tested (readable (word f)); read_is = refl; all = omega (arith, count_most is_read n) },
    )
