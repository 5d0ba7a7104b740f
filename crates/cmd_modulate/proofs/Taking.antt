-- The bytes read for the next packet.
use Rattle.std.proofs.Common.{◌≡◌, ◌≢◌, ℕ, ◌+◌, ◌*◌, ◌<◌, ◌≤◌, Bool, true, false, List, [], length, take, drop, if◌then◌else◌, Option, Some, None, Ok, Err, refl, ap, sym, subst, ◌∙◌, arith, length-drop}
use Rattle.std.specs.Prelude.{slice_index, ◌==◌, is_some}
use Rattle.std.specs.Option.{option_map}
use Rattle.std.proofs.lemmas.Bool.{eq-eqb, ne_eqb, false≢true}
use Rattle.std.proofs.lemmas.List.{drop_all, drop-drop, take_all}
use Rattle.station_core.specs.Meaning.{Meaning, read_source, source_at, with_read_faults, with_source}
use Rattle.station_core.specs.declared.ports.InPort.{InPort}
use Rattle.mode_set.specs.declared.modes.Stream.{Stream}
use Rattle.mode_set.specs.declared.modes.Stream.TheVariants.{Hp, Lp}
use Rattle.outer_chain.specs.Sent.{packet_at}
use Rattle.ts_packet.specs.Packet.{null_packet}
use Rattle.cmd_base.specs.declared.refusal.Refusal.TheVariants.{NotSync, Limit, ReadFault}
use Rattle.cmd_base.specs.Packets.{packets_of, whole_packets, file_packet}
use Rattle.cmd_modulate.specs.ModulateCommand.{refused_by}
use Rattle.cmd_base.specs.Reading.{ReadsFront}
use Rattle.cmd_modulate.specs.declared.input.PacketInput.{PacketInput}
use Rattle.cmd_modulate.specs.Inputs.{Gives, HasLeft, IsNear, Reads, left_of, lp_left, port_of}
use Rattle.cmd_modulate.proofs.Refusing.{packet_within, packet_behind, not_refused_behind, refused_past, refused_unsynced, not_refused}

module _ (limit : ℕ) (files : Stream → List ℕ) (σ : Stream) (put : ℕ) (left : List ℕ) (input : PacketInput) (tail_is : input.tail ≡ None) (reads : Reads (files σ) left input put) where
  open_is : HasLeft (files σ) left input.taken None put
  open_is = subst (λ (t : Option ℕ). HasLeft (files σ) left input.taken t put) tail_is reads.rest

  size : length left + 188 * input.taken ≡ length (files σ)
  size = omega (arith, ap length open_is.0, length-drop (188 * input.taken) (files σ), reads.within)

  -- at most one packet follows those put
  near : (k : ℕ) → k ≤ 188 → IsNear (files σ) (drop k left) put
  near k few = record {
    bytes = 188 * input.taken + k;
    packets = input.taken;
    few = omega (arith, few);
    were_put = omega (arith, open_is.1);
    whole = omega (arith, reads.within);
    left_is = ap (λ (l : List ℕ). drop k l) open_is.0 ∙ drop-drop k (188 * input.taken) (files σ) ∙ ap (λ (j : ℕ). drop j (files σ)) (omega arith);
  }

  -- the read failed: the whole packets taken are those put
  pub fails : (k : ℕ) → k < 188 → k ≤ length left → Gives limit files σ put (drop k left) input (Err ReadFault)
  fails k few within = (tail_is, omega (arith, few, within, length-drop k left, size, open_is.1), near k (omega (arith, few)))

  module _ (n : ℕ) (bytes : List ℕ) (front : ReadsFront left 188 n bytes) where
    -- fewer bytes than a packet: the end
    pub ends : n < 188 → Gives limit files σ put (drop n left) (record input { tail = Some n }) (Ok null_packet)
    ends few =
        let all : n ≡ length left = front.all few in
        let whole : input.taken ≡ whole_packets (files σ) = omega (arith, few, all, size) in
        let behind : whole_packets (files σ) ≤ put = omega (arith, whole, open_is.1) in (
          sym (packet_behind (files σ) put behind),
          not_refused_behind limit files σ put behind,
          record {
            within = reads.within;
            rest = (drop_all n left (omega (arith, all)), whole, omega (arith, few, all, size), omega (arith, open_is.1));
          },
        )

    module _ (is_whole : n ≡ 188) where
      within : put < whole_packets (files σ)
      within = omega (arith, front.within, is_whole, size, open_is.1)

      packet_is : length bytes ≡ 188 → bytes ≡ packet_at (packets_of (files σ)) put
      packet_is long =
          let all : take 188 bytes ≡ bytes = take_all 188 bytes (omega (arith, long)) in
          let same : take 188 bytes ≡ take 188 left = subst (λ (k : ℕ). take k bytes ≡ take k left) is_whole front.front in
          sym all ∙ same ∙ ap (λ (l : List ℕ). take 188 l) open_is.0 ∙ ap (λ (k : ℕ). file_packet (files σ) k) (sym open_is.1) ∙ sym (packet_within (files σ) put within)

      pub passes_limit : limit ≤ input.taken → Gives limit files σ put (drop n left) input (Err (Limit limit))
      passes_limit past = (ap (option_map refused_by) (refused_past limit files σ put within (omega (arith, past, open_is.1))), near n (omega (arith, is_whole)))

      pub lacks_sync : input.taken < limit → length bytes ≡ 188 → slice_index bytes 0 ≢ 0x47 → Gives limit files σ put (drop n left) input (Err (NotSync σ input.taken))
      lacks_sync few long differs =
          let sync : (slice_index (packet_at (packets_of (files σ)) put) 0 == 0x47) ≡ false =
          ap (λ (l : List ℕ). slice_index l 0 == 0x47) (sym (packet_is long)) ∙ ne_eqb (slice_index bytes 0) 0x47 differs in (
            ap (option_map refused_by) (refused_unsynced limit files σ put within (omega (arith, few, open_is.1)) sync) ∙ ap (λ (k : ℕ). Some (NotSync σ k)) open_is.1,
            near n (omega (arith, is_whole)),
          )

      pub takes : input.taken < limit → length bytes ≡ 188 → slice_index bytes 0 ≡ 0x47 → Gives limit files σ put (drop n left) (record input { taken = input.taken + 1 }) (Ok bytes)
      takes few long is =
          let sync : (slice_index (packet_at (packets_of (files σ)) put) 0 == 0x47) ≡ true =
          ap (λ (l : List ℕ). slice_index l 0 == 0x47) (sym (packet_is long)) ∙ eq-eqb (slice_index bytes 0) 0x47 is in
          let rest : HasLeft (files σ) (drop n left) (input.taken + 1) None (put + 1) = (
            ap (λ (k : ℕ). drop k left) is_whole ∙ ap (λ (l : List ℕ). drop 188 l) open_is.0 ∙ drop-drop 188 (188 * input.taken) (files σ) ∙ ap (λ (k : ℕ). drop k (files σ)) (omega arith),
            omega (arith, open_is.1),
          ) in (
            packet_is long,
            not_refused limit files σ put within (omega (arith, few, open_is.1)) sync,
            record {
              within = omega (arith, front.within, is_whole, size);
              rest = subst (λ (t : Option ℕ). HasLeft (files σ) (drop n left) (input.taken + 1) t (put + 1)) (sym tail_is) rest;
            },
          )

-- once the end was reached, null packets follow
ended : (file left : List ℕ) (taken put : ℕ) (o : Option ℕ) → is_some o ≡ true → HasLeft file left taken o put → (whole_packets file ≤ put) × HasLeft file left taken o (put + 1)
ended file left taken put None is h = absurd (false≢true is)
ended file left taken put (Some tail) is h = (omega (arith, h.1, h.3), (h.0, h.1, h.2, omega (arith, h.3)))

pub behind : (limit : ℕ) (files : Stream → List ℕ) (σ : Stream) (put : ℕ) (left : List ℕ) (input : PacketInput) → is_some input.tail ≡ true → Reads (files σ) left input put
    → Gives limit files σ put left input (Ok null_packet)
behind limit files σ put left input is reads =
    let e = ended (files σ) left input.taken put input.tail is reads.rest in (
      sym (packet_behind (files σ) put e.0),
      not_refused_behind limit files σ put e.0,
      record { within = reads.within; rest = e.1 },
    )

-- bytes read at the port of a stream are no longer left, even if the reading then failed
pub left_behind : (σ : Stream) (m m' : Meaning) (n r : ℕ) → (source_at (port_of σ) m).attached ≡ true
    → m' ≡ with_read_faults r (with_source (port_of σ) (read_source n (source_at (port_of σ) m)) m) → left_of m' σ ≡ drop n (left_of m σ)
left_behind Hp m m' n r opened is = ap (λ (x : Meaning). x.hp.left) is
left_behind Lp m m' n r opened is =
    ap lp_left is ∙ ap (λ (b : Bool). if b then drop n m.lp.left else []) opened ∙ sym (ap (λ (b : Bool). drop n (if b then m.lp.left else [])) opened)

-- the bytes left of a stream are those left at its port
pub left_at : (σ : Stream) (m : Meaning) → (source_at (port_of σ) m).attached ≡ true → left_of m σ ≡ (source_at (port_of σ) m).left
left_at Hp m opened = refl
left_at Lp m opened = ap (λ (b : Bool). if b then m.lp.left else []) opened

no_tail : (o : Option ℕ) → is_some o ≡ false → o ≡ None
no_tail None is = refl
no_tail (Some tail) is = absurd (false≢true (sym is))

-- the read at the port of the stream failed, after n bytes
pub read_failed : (limit : ℕ) (files : Stream → List ℕ) (σ : Stream) (put : ℕ) (m m' : Meaning) (input : PacketInput) → is_some input.tail ≡ false
    → (input.tail ≡ None → (source_at (port_of σ) m).attached ≡ true) → Reads (files σ) (left_of m σ) input put
    → (port : InPort) → port ≡ port_of σ → (n r : ℕ) → n < 188 → n ≤ length (source_at port m).left
    → m' ≡ with_read_faults r (with_source port (read_source n (source_at port m)) m) → Gives limit files σ put (left_of m' σ) input (Err ReadFault)
read_failed limit files σ put m m' input ended opens reads port port_is n r few within is =
    let none : input.tail ≡ None = no_tail input.tail ended in
    let opened : (source_at (port_of σ) m).attached ≡ true = opens none in
    let is' = subst (λ (p : InPort). m' ≡ with_read_faults r (with_source p (read_source n (source_at p m)) m)) port_is is in
    let within' : n ≤ length (left_of m σ) =
    subst (λ (l : List ℕ). n ≤ length l) (sym (left_at σ m opened)) (subst (λ (p : InPort). n ≤ length (source_at p m).left) port_is within) in
    subst (λ (l : List ℕ). Gives limit files σ put l input (Err ReadFault)) (sym (left_behind σ m m' n r opened is'))
    (fails limit files σ put (left_of m σ) input none reads n few within')
