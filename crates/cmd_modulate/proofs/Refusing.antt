-- The refusal of a packet of a file.
use Rattle.std.proofs.Common.{◌≡◌, ℕ, ◌<◌, ◌≤◌, true, false, List, length, Some, None, refl, arith}
use Rattle.std.specs.Prelude.{slice_index, ◌==◌}
use Rattle.std.proofs.lemmas.Bool.{le-leb, lt-leb}
use Rattle.mode_set.specs.declared.modes.Stream.{Stream}
use Rattle.outer_chain.specs.Sent.{packet_at}
use Rattle.transmission.specs.Agenda.{packet_refusal, Limit, NotSync}
use Rattle.cmd_base.specs.Packets.{file_packet, packets_of, whole_packets}
use Rattle.cmd_modulate.specs.ModulateCommand.{inputs_of}
use Rattle.cmd_base.proofs.FilePackets.{count_is, packet_is}
use Rattle.std.proofs.lemmas.List.{get_or_past}
use Rattle.ts_packet.specs.Packet.{null_packet}

-- the packets of a file are its whole packets, then null packets
pub packet_within : (file : List ℕ) (p : ℕ) → p < whole_packets file → packet_at (packets_of file) p ≡ file_packet file p
packet_within file p lt = packet_is (whole_packets file) p file null_packet lt

pub packet_behind : (file : List ℕ) (p : ℕ) → whole_packets file ≤ p → packet_at (packets_of file) p ≡ null_packet
packet_behind file p le = get_or_past (packets_of file) p null_packet (omega (arith, count_is (whole_packets file) file, le))

module _ (limit : ℕ) (files : Stream → List ℕ) (σ : Stream) (p : ℕ) where
  size : length (packets_of (files σ)) ≡ whole_packets (files σ)
  size = count_is (whole_packets (files σ)) (files σ)

  pub not_refused_behind : whole_packets (files σ) ≤ p → packet_refusal limit (inputs_of files) σ p ≡ None
  unfolding packet_refusal
  not_refused_behind le = rw (le-leb (length (packets_of (files σ))) p (omega (arith, size, le))) refl

  pub refused_past : p < whole_packets (files σ) → limit ≤ p → packet_refusal limit (inputs_of files) σ p ≡ Some (Limit limit)
  unfolding packet_refusal
  refused_past lt le = rw (lt-leb (length (packets_of (files σ))) p (omega (arith, size, lt))) (rw (le-leb limit p le) refl)

  pub refused_unsynced : p < whole_packets (files σ) → p < limit → (slice_index (packet_at (packets_of (files σ)) p) 0 == 0x47) ≡ false → packet_refusal limit (inputs_of files) σ p ≡ Some (NotSync σ p)
  unfolding packet_refusal
  refused_unsynced lt within sync = rw (lt-leb (length (packets_of (files σ))) p (omega (arith, size, lt))) (rw (lt-leb limit p within) (rw sync refl))

  pub not_refused : p < whole_packets (files σ) → p < limit → (slice_index (packet_at (packets_of (files σ)) p) 0 == 0x47) ≡ true → packet_refusal limit (inputs_of files) σ p ≡ None
  unfolding packet_refusal
  not_refused lt within sync = rw (lt-leb (length (packets_of (files σ))) p (omega (arith, size, lt))) (rw (lt-leb limit p within) (rw sync refl))
