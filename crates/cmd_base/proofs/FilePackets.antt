-- The whole packets of a file, as a list.
use Rattle.std.proofs.Common.{◌≡◌, ℕ, zero, suc, ◌<◌, List, [], ◌∷◌, ◌++◌, length, get_or, inl, inr, refl, ap, sym, ◌∙◌, arith, length-append}
use Rattle.std.proofs.lemmas.Bool.{cases_lt}
use Rattle.std.proofs.lemmas.List.{get_or_append_left}
use Rattle.std.proofs.Math.Seq.{get_or-append_seam}
use Rattle.cmd_base.specs.Packets.{file_packet, first_packets}

pub count_is : (n : ℕ) (bytes : List ℕ) → length (first_packets n bytes) ≡ n
unfolding first_packets
count_is zero bytes = refl
count_is (suc n) bytes = length-append (first_packets n bytes) (file_packet bytes n ∷ []) ∙ omega (arith, count_is n bytes)

pub packet_is : (n i : ℕ) (bytes d : List ℕ) → i < n → get_or (first_packets n bytes) i d ≡ file_packet bytes i
unfolding first_packets
packet_is zero i bytes d l = absurd (omega arith)
packet_is (suc n) i bytes d l = elim (cases_lt i n) [
  | inl lt ↦ get_or_append_left (first_packets n bytes) (file_packet bytes n ∷ []) d i (omega (arith, lt, count_is n bytes)) ∙ packet_is n i bytes d lt
  | inr ge ↦
      let last : i ≡ n = omega (arith, l, ge) in
      let at : i ≡ length (first_packets n bytes) = last ∙ sym (count_is n bytes) in
      ap (λ (k : ℕ). get_or (first_packets n bytes ++ file_packet bytes n ∷ []) k d) at
      ∙ get_or-append_seam (first_packets n bytes) (file_packet bytes n) [] d
      ∙ ap (λ (k : ℕ). file_packet bytes k) (sym last)
]
