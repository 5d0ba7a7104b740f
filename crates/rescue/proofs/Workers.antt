-- No definition of a rescue depends on the number of workers.
use Rattle.std.proofs.Common.{ℕ, ◌*◌, ◌/◌, ◌%◌, Bool, List, Option, length, ◌∙◌, ap, ap₂, subst, sym}
use Rattle.std.specs.Prelude.{Some, None, flat_map, if◌then◌else◌}
use Rattle.std.specs.List.{concat}
use Rattle.code_paths.specs.declared.costs.CostPair.{CostPair}
use Rattle.code_paths.specs.Streams.{Reports}
use Rattle.mode_set.specs.StreamTable.{carriers}
use Rattle.mode_set.specs.declared.modes.Mode.{Mode}
use Rattle.mode_set.specs.declared.modes.Stream.{Stream}
use Rattle.mode_set.specs.declared.modes.Stream.TheVariants.{Hp, Lp}
use Rattle.mode_set.specs.declared.settings.Settings.{Settings}
use Rattle.rx_report.specs.Text.{event_line}
use Rattle.rx_report.specs.declared.counts.Event.{Event}
use Rattle.reception.specs.Cells.{symbols}
use Rattle.reception.specs.Costs.{costs}
use Rattle.reception.specs.Lines.{events}
use Rattle.reception.specs.Streams.{memory, start_of, Moment, so_far, at_end, IsDecoded}
use Rattle.rescue.specs.ReportText.{closing_lines as closing_text}
use Rattle.rescue.specs.Known.{AreKnown}
use Rattle.rescue.specs.Lines.{counts_of_stream}
use Rattle.rescue.specs.Streams.{Rescue, RescuesAt}
use Rattle.reception.specs.Alike.{DifferInWorkers, SameCosts, SameEvents, SameStreams}
use Rattle.rescue.specs.Laws.{SameSoFar, SameAtEnd, SameLines}

module _ (same : SameCosts) (s t : Settings) (bytes : List ℕ) (d : DifferInWorkers s t) where
  -- a fact on a stream's start register and its costs
  moved : (Fact : Option (List Bool) → List CostPair → Type 0) (σ : Stream) → Fact (start_of s.start) (costs s bytes σ) → Fact (start_of t.start) (costs t bytes σ)
  moved Fact σ is =
      subst (λ (a : Option (List Bool)). Fact a (costs t bytes σ)) (ap start_of (sym d.start))
      (subst (λ (c : List CostPair). Fact (start_of s.start) c) (sym (same s t bytes σ d)) is)

  rescued : (moment : Moment) (r : Rescue) → RescuesAt moment s bytes r → RescuesAt moment t bytes r
  rescued moment r h = record {
    bits = h.bits;
    decoded = λ σ. moved (λ a c. IsDecoded moment a c (h.bits σ)) σ (h.decoded σ);
    margins = h.margins;
    known = λ σ. moved (λ a c. AreKnown moment a c (h.margins σ)) σ (h.known σ);
    rescues = h.rescues;
    reports = λ σ. moved (λ a c. Reports memory a c (r.reports σ)) σ (h.reports σ);
  }

pub same_so_far : SameCosts → SameSoFar
same_so_far same s t bytes r d h = rescued same s t bytes d so_far r h

pub same_at_end : SameCosts → SameAtEnd
same_at_end same s t bytes r d h = rescued same s t bytes d at_end r h

pub same_lines : SameStreams → SameEvents → SameLines
same_lines streams events_are s t bytes r d = (
  ap (λ (es : List Event). flat_map event_line es) (events_are s t (symbols t bytes) r.reports d ∙ ap (λ (m : Mode). events s (length bytes / (5 * carriers m)) r.reports) d.mode),
  ap₂ (λ (m : Mode) (lp : Bool). concat (closing_text (record {
    symbols = length bytes / (5 * carriers m);
    tail = length bytes % (5 * carriers m);
    hp = counts_of_stream r Hp;
    lp = if lp then Some (counts_of_stream r Lp) else None;
  }))) d.mode (streams s t Lp d),
)
