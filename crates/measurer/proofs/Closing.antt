-- The counts at the end are those of a reception.
use Rattle.std.proofs.Common.{◌≡◌, ℕ, List, length, ap, ◌∙◌}
use Rattle.std.specs.Prelude.{Option, Some, None, if◌then◌else◌}
use Rattle.mode_set.specs.declared.modes.Stream.{Stream}
use Rattle.mode_set.specs.declared.modes.Stream.TheVariants.{Hp, Lp}
use Rattle.mode_set.specs.declared.settings.Settings.{Settings}
use Rattle.symbol_parameters.specs.Spans.{exists_in}
use Rattle.outer_chain.specs.Bits.{bytes_of}
use Rattle.outer_chain.specs.Words.{Packets, Tally, Tallies}
use Rattle.rx_report.specs.declared.counts.Counts.{Counts}
use Rattle.rx_report.specs.declared.counts.StreamCounts.{StreamCounts}
use Rattle.reception.specs.Cells.{symbols}
use Rattle.reception.specs.Frames.{tps_cells}
use Rattle.reception.specs.Laws.{TailIsUnfinished, unfinished}
use Rattle.reception.specs.Streams.{at_end, Reception}
use Rattle.inner_receiver.specs.Framing.{FrameStands}
use Rattle.inner_receiver.specs.declared.frames.FrameReader.{FrameReader}
use Rattle.measure_stream.specs.Standing.{AreTotals}
use Rattle.measurer.specs.Seen.{MeterState}
use Rattle.measurer.specs.Standing.{MetersStand}
use Rattle.measurer.specs.Steps.{AreClosing}

same_counts : (n n2 t t2 r b : ℕ) (hp hp2 : StreamCounts) (lp lp2 : Option StreamCounts) → n ≡ n2 → t ≡ t2 → hp ≡ hp2 → lp ≡ lp2
    → (let x : Counts = record { symbols = n; tail = t; tps_read = r; tps_bad = b; hp = hp; lp = lp } in x) ≡ record { symbols = n2; tail = t2; tps_read = r; tps_bad = b; hp = hp2; lp = lp2 }
same_counts n n2 t t2 r b hp hp2 lp lp2 e f g h = cc

pub closing : TailIsUnfinished → (s : Settings) (bytes rest : List ℕ) (x : MeterState) (frames : FrameReader) (taken waiting : ℕ) (hp lp : StreamCounts) (of_lp : Option StreamCounts) (h : MetersStand at_end s bytes x)
    → FrameStands s.mode frames (tps_cells s bytes) (symbols s bytes) → AreTotals (h.bits Hp) (h.meters Hp).reports hp → AreTotals (h.bits Lp) (h.meters Lp).reports lp
    → taken ≡ symbols s bytes → waiting ≡ length rest → rest ≡ unfinished s bytes → of_lp ≡ (if exists_in s Lp then Some lp else None)
    → AreClosing s bytes (record { symbols = taken; tail = waiting; tps_read = frames.read; tps_bad = frames.bad; hp = hp; lp = of_lp })
closing tails s bytes rest x frames taken waiting hp lp of_lp h f hp_are lp_are count wait left exists = record {
  reception = r;
  final = record {
    bits = h.bits;
    decoded = λ σ. (h.meters σ).stands.has_given.decoded;
    packets = packets_are;
    tally = tally_are;
    reports = λ σ. (h.meters σ).stands.has_given.reports;
    frames = f.counts;
  };
  is = same_counts _ _ _ _ frames.read frames.bad _ _ _ _ count (wait ∙ ap length left ∙ tails s bytes) hp_are.is (exists ∙ ap (λ (z : StreamCounts). if exists_in s Lp then Some z else None) lp_are.is);
}
  where
    packets : Stream → List ℕ
    packets Hp = hp_are.packets
    packets Lp = lp_are.packets

    tally : Stream → Tally
    tally Hp = hp_are.tally
    tally Lp = lp_are.tally

    r : Reception
    r = record { packets = packets; reports = λ σ. (h.meters σ).reports; tally = tally; read = frames.read; bad = frames.bad }

    packets_are : (σ : Stream) → Packets (bytes_of (h.bits σ)) (packets σ)
    packets_are Hp = hp_are.are_packets
    packets_are Lp = lp_are.are_packets

    tally_are : (σ : Stream) → Tallies (bytes_of (h.bits σ)) (tally σ)
    tally_are Hp = hp_are.are_tallied
    tally_are Lp = lp_are.are_tallied
