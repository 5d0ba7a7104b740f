-- The inner coding of one more packet, and its end.
use Rattle.std.proofs.Common.{◌≡◌, ℕ, List, [], ◌∷◌, ◌++◌, ◌∙◌, sym, ap, append_assoc, false}
use Rattle.std.specs.Prelude.{replicate}
use Rattle.std.proofs.lemmas.List.{append-nil}
use Rattle.mode_set.specs.declared.modes.Rate.{Rate}
use Rattle.outer_chain.specs.Bits.{bytes_of}
use Rattle.outer_chain.specs.Sent.{sent_bytes}
use Rattle.outer_chain.specs.SendingLaws.{MorePacketsSent}
use Rattle.puncture.specs.Laws.{StepsSendInOrder, StepsAreNumbered, SentBitsAreRuns}
use Rattle.cmd_packets.specs.InnerBytes.{inner_bits, inner_bytes, filled_inner_bytes}
use Rattle.cmd_packets.specs.Inner.{rest_of}
use Rattle.cmd_packets.proofs.Growing.{Grows, Ends}
use Rattle.cmd_packets.proofs.OuterGrows.{outer_grows}
use Rattle.cmd_packets.proofs.WholeBytes.{bytes_after}
use Rattle.cmd_packets.proofs.SentOfBytes.{next_bits, more_bits}

module _ (in_order : StepsSendInOrder) (numbered : StepsAreNumbered) (runs : SentBitsAreRuns) (r : Rate) where
  -- later bytes only add output
  adds : (bytes more : List ℕ) → (rest : List ℕ) × (inner_bytes r (bytes ++ more) ≡ inner_bytes r bytes ++ rest)
  adds bytes [] = ([], ap (inner_bytes r) (append-nil bytes) ∙ sym (append-nil (inner_bytes r bytes)))
  adds bytes (byte ∷ more) =
      let one = ap bytes_of (more_bits in_order numbered runs r bytes byte) ∙ bytes_after (inner_bits r bytes) (next_bits in_order numbered runs r bytes byte) in
      let added = bytes_of (rest_of (inner_bits r bytes) ++ next_bits in_order numbered runs r bytes byte) in
      let others = adds (bytes ++ byte ∷ []) more in (
        added ++ others.0,
        ap (inner_bytes r) (sym (append_assoc bytes (byte ∷ []) more))
            ∙ others.1
            ∙ ap (λ (l : List ℕ). l ++ others.0) one
            ∙ append_assoc (inner_bytes r bytes) added others.0,
      )

  pub inner_grows : MorePacketsSent → Grows (λ packets. inner_bytes r (sent_bytes packets))
  inner_grows law packets p =
      let outer = outer_grows law packets p in
      let more = adds (sent_bytes packets) outer.0 in
      (more.0, ap (inner_bytes r) outer.1 ∙ more.1)

  pub inner_ends : Ends (λ packets. inner_bytes r (sent_bytes packets)) (λ packets. filled_inner_bytes r (sent_bytes packets))
  inner_ends packets = (
    bytes_of (rest_of (inner_bits r (sent_bytes packets)) ++ replicate 7 false),
    bytes_after (inner_bits r (sent_bytes packets)) (replicate 7 false),
  )
