-- Bounds of the pending items, so that there is space for what a symbol adds.
use Rattle.std.proofs.Common.{◌≡◌, ℕ, zero, suc, ◌+◌, ◌-◌, ◌*◌, ◌/◌, ◌%◌, ◌<◌, ◌≤◌, Bool, inl, inr, ◌⊎◌, List, [], ◌∷◌, length, refl, ap, ◌∙◌, subst, arith, length-append, length-drop, append-nil}
use Rattle.std.specs.Prelude.{Option, slice_index}
use Rattle.bit_pack.specs.Queue.{bits_of_bytes}
use Rattle.code_paths.specs.declared.costs.CostPair.{CostPair}
use Rattle.bit_margin.specs.Stream.{MarginState}
use Rattle.bit_margin.specs.Stream as margins
use Rattle.bit_margin.specs.Margin.{IsMarginAt}
use Rattle.forney.specs.Interleaving.{deinterleaved}
use Rattle.forney.specs.Values.{values, stream_of}
use Rattle.reception.specs.Streams.{so_far}
use Rattle.rescue_words.specs.ByteMargins.{byte_margins}
use Rattle.rescue_words.specs.Rescued.{RescueTally}
use Rattle.rescue.specs.Known.{settled_blocks, AreSettled}
use Rattle.rescue.specs.Seen.{StreamState}
use Rattle.rescue.specs.Standing.{IsInStep, StreamStands}

length_bits : (bytes : List ℕ) → length (bits_of_bytes bytes) ≡ 8 * length bytes
length_bits [] = refl
length_bits (b ∷ bytes) = omega (arith, length_bits bytes)

length_values : (f : ℕ → ℕ) (from n : ℕ) → length (values f from n) ≡ n
unfolding values
length_values f from zero = refl
length_values f from (suc n) = omega (arith, length_values f (suc from) n)

length_byte_margins : (ms : List ℕ) → length (byte_margins ms) ≡ length ms / 8
unfolding byte_margins
length_byte_margins ms = length_values _ 0 (length ms / 8)

-- the pending items of a stream are bounded
pub record AreLittle (x : StreamState) : Type 0 where
  pub bytes : length x.bytes ≤ 160
  pub byte_margins : length x.byte_margins ≤ 257
  pub waits : length x.margins.waiting < 1280
  pub decoder : x.branch.decoder.waiting ≤ 2048
  pub begun : length x.words.margins.begun < 204

pub little : (x : StreamState) (a : Option (List Bool)) (c : List CostPair) (given : List ℕ) (tally : RescueTally) (steps : List ℕ) → StreamStands so_far x a c given tally steps → AreLittle x
little x a c given tally steps h =
    let s = h.known.0 in
    let bits : length h.bits ≡ 8 * length h.whole + length x.branch.wait = ap length h.passed ∙ length-append (bits_of_bytes h.whole) x.branch.wait ∙ ap (λ z. z + length x.branch.wait) (length_bits h.whole) in
    let waits : length x.margins.waiting ≡ length c - 1024 * s.blocks = ap length s.waits ∙ length-drop (1024 * s.blocks) c in
    let known : length (byte_margins h.ms) ≡ 128 * s.blocks = omega (arith, length_byte_margins h.ms, s.long) in
    let taken : length h.whole ≡ length h.done + length x.bytes = ap length h.bytes_are ∙ length-append h.done x.bytes in
    let sure : length (byte_margins h.ms) ≡ length h.sure + length x.byte_margins = ap length h.margins_are ∙ length-append h.sure x.byte_margins in
    let few : x.branch.decoder.waiting ≤ 2048 = h.has_given.decoder.1.few in
    let begun : length x.words.margins.begun < 204 = short in
    go s.blocks s.within bits waits known taken sure few begun h.one
  where
    short : length x.words.margins.begun < 204
    short = omega (arith, ap length h.words_are.holds.begun, length_values (deinterleaved (stream_of h.sure)) (204 * (length h.sure / 204)) (length h.sure % 204))

    go : (blocks : ℕ) → 1024 * blocks ≤ length c → length h.bits ≡ 8 * length h.whole + length x.branch.wait → length x.margins.waiting ≡ length c - 1024 * blocks → length (byte_margins h.ms) ≡ 128 * blocks → length h.whole ≡ length h.done + length x.bytes
        → length (byte_margins h.ms) ≡ length h.sure + length x.byte_margins → x.branch.decoder.waiting ≤ 2048 → length x.words.margins.begun < 204 → (x.bytes ≡ []) ⊎ (x.byte_margins ≡ []) → AreLittle x
    go blocks within bits waits known taken sure few begun (inl e) = record {
      bytes = omega (arith, ap length e);
      byte_margins = omega (arith, within, bits, known, taken, sure, few, h.few, h.has_given.amount, h.words_are.as_many, ap length e);
      waits = h.known.1;
      decoder = few;
      begun = begun;
    }
    go blocks within bits waits known taken sure few begun (inr e) = record {
      bytes = omega (arith, bits, waits, known, taken, sure, h.has_given.amount, h.known.1, h.words_are.as_many, ap length e);
      byte_margins = omega (arith, ap length e);
      waits = h.known.1;
      decoder = few;
      begun = begun;
    }

-- running margins are those of the settled blocks
pub settled : (s : MarginState) (a : Option (List Bool)) (c : List CostPair) (ms : List ℕ) → margins.Stands s a c ms → length s.waiting < 1280 → IsInStep ms s → AreSettled a c ms
settled s a c ms h few step = record {
  long = h.long ∙ ap (λ z. 1024 * z) (blocks step);
  each = λ t l. subst (λ z. IsMarginAt a z t (slice_index ms t)) (append-nil c) (h.settled t [] l);
}
  where
    waits : length s.waiting ≡ length c - 1024 * h.blocks
    waits = ap length h.waits ∙ length-drop (1024 * h.blocks) c

    blocks : (ms ≡ []) ⊎ (256 ≤ length s.waiting) → h.blocks ≡ settled_blocks (length c)
    blocks (inl e) = omega (arith, ap length e, h.long, waits, few)
    blocks (inr e) = omega (arith, e, waits, few, h.within)
