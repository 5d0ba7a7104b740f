-- Carrier after carrier is appended.
use Rattle.std.proofs.Common.{◌≡◌, ℕ, ◌+◌, ◌%◌, ◌<◌, ◌++◌, List, refl, sym, ap, ap₂, ◌∙◌, arith, append_assoc, append-nil}
use Rattle.mode_set.specs.StreamTable.{carriers}
use Rattle.mode_set.specs.declared.modes.Shape.{Shape}
use Rattle.mode_set.specs.declared.modes.Hierarchy.{Hierarchy}
use Rattle.qam_map.specs.Points.{map_cell}
use Rattle.frame_build.specs.Symbol.{bits_of, sent_bytes}
use Rattle.frame_build.specs.State.{bytes_sent, labels_of}
use Rattle.frame_build.proofs.Cells.{carrier_bytes, carrier_sent, no_carriers, one_carrier, whole_symbol, no_labels, labels_more, label_below, few_labels, few_carriers}
use Rattle.frame_build.proofs.plain.push_symbol.Goals as goal

pub loop-k-init : goal.loop-k-init
loop-k-init g c =
    let old = c.args.to.now.items in
    record { bytes = sym (ap (λ (z : List ℕ). old ++ z) (no_carriers c.args.settings.now c.args.next.now c.args.number (bits_of c.args.labels.now)) ∙ append-nil old); long = omega arith; room = refl; labels = sym (no_labels g.M.Carriers.MODE (c.args.number % 68)) }

pub bytes-requires-clause-next : goal.bytes-requires-clause-next
bytes-requires-clause-next g c = λ is.
    let few : c.loop-k.k < carriers g.M.Carriers.MODE = omega (arith, g.M.Carriers.k_of, c.K-k-end.ensures) in
    omega (arith, label_below g.M.Carriers.MODE _ _ c.loop-k.k c.loop-k.sent c.source_at-source.result c.payload_carriers_are_numbered.ensures c.MODE.ensures few c.source_at-source.ensures c.loop-k.invariant.labels is, c.requires.count, g.M.Carriers.nmax_of)

pub after-sent-requires : goal.after-sent-requires
after-sent-requires g c =
    omega (arith, c.loop-k.invariant.labels, few_labels g.M.Carriers.MODE (c.args.number % 68) c.loop-k.k, few_carriers g.M.Carriers.MODE, g.M.Carriers.k_of, c.K-k-end.ensures)

pub loop-k-preserved : goal.loop-k-preserved
loop-k-preserved g c =
    let s = c.args.settings.now in
    let t = c.args.next.now in
    let m = c.args.number in
    let labels = c.args.labels.now in
    let k = c.loop-k.k in
    let old = c.args.to.now.items in
    let inv = c.loop-k.invariant in
    let label : List ℕ = sent_bytes (map_cell s.shape s.hierarchy (bits_of labels c.loop-k.sent)) in
    let cell = c.bytes.ensures ∙ ap₂ (λ (x : Shape) (y : Hierarchy). bytes_sent c.source_at-source.result c.turned_at-turned.result (sent_bytes (map_cell x y (bits_of labels c.loop-k.sent)))) c.requires.shape c.requires.hierarchy
    ∙ carrier_sent g.M.Carriers.MODE s t m (m % 68) c.turned_at-turned.result labels k c.loop-k.sent c.source_at-source.result label c.requires.mode refl c.turned_at-turned.ensures c.source_at-source.ensures inv.labels refl in
    record {
      bytes =
          c.push_five.ensures.bytes ∙ ap (λ (z : List ℕ). z ++ c.bytes.result) inv.bytes ∙ append_assoc old (carrier_bytes s t m (bits_of labels) k) c.bytes.result
          ∙ ap (λ (z : List ℕ). old ++ (carrier_bytes s t m (bits_of labels) k ++ z)) cell ∙ ap (λ (z : List ℕ). old ++ z) (sym (one_carrier s t m (bits_of labels) k));
      long = omega (arith, c.push_five.ensures.len, inv.long);
      room = c.push_five.ensures.capacity ∙ inv.room;
      labels = c.after-sent.ensures ∙ ap (λ (z : ℕ). z + labels_of c.source_at-source.result) inv.labels ∙ sym (labels_more g.M.Carriers.MODE (m % 68) k c.source_at-source.result c.source_at-source.ensures);
    }

pub returns-clause-bytes : goal.returns-clause-bytes
returns-clause-bytes g c =
    let end : c.loop-k.k ≡ carriers c.args.settings.now.mode = omega (arith, c.K-k-end.ensures, g.M.Carriers.k_of, ap carriers c.requires.mode) in
    c.loop-k.invariant.bytes ∙ ap (λ (z : List ℕ). c.args.to.now.items ++ z) (whole_symbol c.args.settings.now c.args.next.now c.args.number (bits_of c.args.labels.now) c.loop-k.k end)
