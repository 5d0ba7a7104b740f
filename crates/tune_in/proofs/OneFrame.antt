-- At most one place is found, and it stays.
use Rattle.std.proofs.Common.{◌≡◌, ℕ, ◌<◌, ◌≤◌, inl, inr, ◌⊎◌, List, length, sym, ap₂, subst, arith}
use Rattle.std.proofs.lemmas.Bool.{cases_lt}
use Rattle.std.proofs.lemmas.List.FromFn.{length-map-range_with_len}
use Rattle.spec_words.specs.Words.{numbers}
use Rattle.mode_set.specs.declared.modes.Mode.{Mode}
use Rattle.qam_map.specs.declared.cell.Cell.{Cell}
use Rattle.tps_word.specs.Signals.{OneSignalled}
use Rattle.tps_word.specs.Vote.{bit_from, bits_from}
use Rattle.tps_word.specs.declared.word.TpsWord.{TpsWord}
use Rattle.tune_in.specs.declared.frame.Found.{Found}
use Rattle.tune_in.specs.Places.{Announces, IsPlace, IsFound, OneFound}

pub stays : (mode : Mode) (cells : ℕ → List Cell) (n m : ℕ) (found : Found) → n ≤ m → IsFound mode cells n found → IsFound mode cells m found
stays mode cells n m found l h = record {
  place = record { held = omega (arith, l, h.place.held); announces = h.place.announces };
  least = λ i w p. go i w p (cases_lt i found.place);
}
  where
    go : (i : ℕ) (w : TpsWord) → IsPlace mode cells m i w → (i < found.place) ⊎ (found.place ≤ i) → found.place ≤ i
    go i w p (inl b) = h.least i w (record { held = omega (arith, b, h.place.held); announces = p.announces })
    go i w p (inr b) = b

bits_long : (cells : ℕ → List Cell) (i : ℕ) → length (bits_from cells i) ≡ 67
unfolding bits_from numbers
bits_long cells i = length-map-range_with_len (bit_from cells i) 0 67

abbrev made : ℕ → TpsWord → Found
made place word = record { place = place; word = word }

pub one : OneSignalled → OneFound
one signalled mode cells n found other h k =
    let places : found.place ≡ other.place = omega (arith, h.least other.place other.word k.place, k.least found.place found.word h.place) in
    let b = subst (λ i. Announces mode (bits_from cells i) other.word) (sym places) k.place.announces in
    ap₂ made places (signalled (bits_from cells found.place) found.word other.word (bits_long cells found.place) h.place.announces.signals b.signals)
