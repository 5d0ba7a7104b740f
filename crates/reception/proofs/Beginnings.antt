-- The output of a prefix is a prefix of the output.
use Rattle.std.proofs.Common.{◌≡◌, ℕ, ◌+◌, ◌-◌, ◌*◌, ◌/◌, ◌<◌, ◌≤◌, Bool, false, List, ◌++◌, length, map, sym, ap, ap₂, ◌∙◌, subst, subst₂, arith, length-append, append_assoc, append-nil}
use Rattle.std.specs.Prelude.{◌↔◌, IsTrue, filter, flat_map, All}
use Rattle.outer_chain.specs.Words.{count}
use Rattle.std.proofs.lemmas.List.Concat.{flat_map-append}
use Rattle.std.proofs.lemmas.List.Elements.{All-weaker, filter-append}
use Rattle.spec_words.specs.Words.{numbers}
use Rattle.code_paths.specs.declared.costs.CostPair.{CostPair}
use Rattle.code_paths.specs.Streams.{Given, Reports}
use Rattle.mode_set.specs.StreamTable.{carriers}
use Rattle.mode_set.specs.declared.modes.Stream.{Stream}
use Rattle.mode_set.specs.declared.modes.Stream.TheVariants.{Hp, Lp}
use Rattle.mode_set.specs.declared.settings.Settings.{Settings}
use Rattle.rx_report.specs.Text.{event_line}
use Rattle.rx_report.specs.declared.counts.Event.{Event}
use Rattle.symbol_parameters.specs.Spans.{steps_before}
use Rattle.symbol_parameters.specs.Laws.{StepsGrow}
use Rattle.reception.specs.Cells.{symbols}
use Rattle.reception.specs.Costs.{costs}
use Rattle.reception.specs.Frames.{tps_cells, frame_bits, IsReadable, CountsFrames}
use Rattle.reception.specs.Streams.{memory, start_of}
use Rattle.reception.specs.Lines.{event_at, events_of, events}
use Rattle.reception.specs.Laws.{AreReports, CostsGrow, CostsAreSteps, NewReportsAreLater, LiveGrows, FinalEndsLive, SameSymbols, SameCosts, TpsCellsStay, BitsOfCells}
use Rattle.reception.proofs.Numbered.{none_pass, same_parts, more_parts}
use Rattle.reception.proofs.Reported.{IsBetween}
use Rattle.reception.proofs.Happened.{in_symbol, is_behind}
use Rattle.reception.proofs.Symbols.{more_count}
use Rattle.reception.specs.Moments.{SomeLive, LiveBeginsLive, LiveBeginsFinal, WholeSymbolsGive}

-- ---- events

module _ (later : NewReportsAreLater) (grow : CostsGrow) (steps : CostsAreSteps) (first : StepsGrow) (s : Settings) (bytes more : List ℕ) (before after : Stream → List ℕ)
    (r : AreReports s bytes before) (q : AreReports s (bytes ++ more) after) (grows : (σ : Stream) → (rest : List ℕ) × (after σ ≡ before σ ++ rest)) where
  new_within : (σ : Stream) → All (IsBetween (steps_before s σ (symbols s bytes)) (steps_before s σ (symbols s (bytes ++ more)))) (grows σ).0
  new_within σ =
      let c = costs s bytes σ in
      let g = grow s bytes more σ in
      let long : length c ≡ steps_before s σ (symbols s bytes) = steps s bytes σ in
      let all : length c + length g.0 ≡ steps_before s σ (symbols s (bytes ++ more)) = sym (length-append c g.0) ∙ ap length (sym g.1) ∙ steps s (bytes ++ more) σ in
      subst₂ (λ x y. All (IsBetween x y) (grows σ).0) long all
      (later memory (start_of s.start) c g.0 (before σ) (grows σ).0 (r σ) (subst₂ (λ x y. Reports memory (start_of s.start) x y) g.1 (grows σ).1 (q σ)))

  old_symbol : (m : ℕ) → m < symbols s bytes → (σ : Stream) → events_of s after m σ ≡ events_of s before m σ
  old_symbol m l σ =
      let p = in_symbol (steps_before s σ) m in
      let up = first s σ (m + 1) (symbols s bytes) (omega (arith, l)) in
      ap (map (event_at σ))
      (ap (filter p) (grows σ).1 ∙ filter-append p (before σ) (grows σ).0
      ∙ ap (λ z. filter p (before σ) ++ z)
      (none_pass p (grows σ).0 (All-weaker (IsBetween (steps_before s σ (symbols s bytes)) (steps_before s σ (symbols s (bytes ++ more)))) (λ at. p at ≡ false) (λ at k. is_behind (steps_before s σ) m at (omega (arith, up, k.0))) (grows σ).0 (new_within σ)))
      ∙ append-nil (filter p (before σ)))

  abbrev of_symbol : (Stream → List ℕ) → ℕ → List Event
  of_symbol reports m = events_of s reports m Hp ++ events_of s reports m Lp

  more_symbols : symbols s bytes ≤ symbols s (bytes ++ more)
  more_symbols = subst (λ k. symbols s bytes ≤ k / (5 * carriers s.mode)) (sym (length-append bytes more)) (more_count s.mode (length bytes) (length more))

  events_begin : (rest : List Event) × (events s (symbols s (bytes ++ more)) after ≡ events s (symbols s bytes) before ++ rest)
  unfolding events
  events_begin =
      let n = symbols s bytes in
      let d = symbols s (bytes ++ more) - n in
      let all : symbols s (bytes ++ more) ≡ d + n = omega (arith, more_symbols) in
      let m = more_parts (of_symbol after) n d in (
        m.0,
        ap (λ k. flat_map (of_symbol after) (numbers k)) all ∙ m.1
            ∙ ap (λ z. z ++ m.0) (same_parts (of_symbol after) (of_symbol before) n (λ k l. ap₂ (λ x y. x ++ y) (old_symbol k l Hp) (old_symbol k l Lp))),
      )

  pub lines_begin : (rest : List ℕ) × (flat_map event_line (events s (symbols s (bytes ++ more)) after) ≡ flat_map event_line (events s (symbols s bytes) before) ++ rest)
  lines_begin =
      let e = events_begin in
      (flat_map event_line e.0, ap (flat_map event_line) e.1 ∙ flat_map-append event_line (events s (symbols s bytes) before) e.0)

-- ---- receptions

again : (a b c : List ℕ) → (rest : List ℕ) × (b ≡ a ++ rest) → (rest : List ℕ) × (c ≡ b ++ rest) → (rest : List ℕ) × (c ≡ a ++ rest)
again a b c h k = (h.0 ++ k.0, k.1 ∙ ap (λ z. z ++ k.0) h.1 ∙ append_assoc a h.0 k.0)

pub live_begins_live : NewReportsAreLater → CostsGrow → CostsAreSteps → StepsGrow → LiveGrows → LiveBeginsLive
live_begins_live later grow steps first grows s bytes more r q x y =
    let g = grows s bytes more r q x y in
    record { packets = g.packets; lines = lines_begin later grow steps first s bytes more r.reports q.reports x.reports y.reports g.reports }

pub live_begins_final : SomeLive → NewReportsAreLater → CostsGrow → CostsAreSteps → StepsGrow → LiveGrows → FinalEndsLive → LiveBeginsFinal
live_begins_final some later grow steps first grows ends s bytes more r q x y =
    let m = some s (bytes ++ more) in
    let g = grows s bytes more r m.0 x m.1 in
    let e = ends s (bytes ++ more) m.0 q m.1 y in
    record {
      packets = λ σ. again (r.packets σ) (m.0.packets σ) (q.packets σ) (g.packets σ) (e.packets σ);
      lines = lines_begin later grow steps first s bytes more r.reports q.reports x.reports y.reports (λ σ. let h = g.reports σ in (h.0, e.reports σ ∙ h.1));
    }

-- ---- whole symbols

before_frame_end : (n f m : ℕ) → f < n / 68 → m < 68 * f + 68 → m < n
before_frame_end n f m l k = omega (arith, l, k)

pub whole_symbols_give : SameSymbols → SameCosts → TpsCellsStay → BitsOfCells → WholeSymbolsGive
whole_symbols_give same costs_are tps bits s bytes more r within live = record {
  bits = live.bits;
  decoded = λ σ. subst (λ (c : List CostPair). Given memory (start_of s.start) c (live.bits σ)) (costs_are s bytes more σ within) (live.decoded σ);
  packets = live.packets;
  tally = live.tally;
  reports = λ σ. subst (λ (c : List CostPair). Reports memory (start_of s.start) c (r.reports σ)) (costs_are s bytes more σ within) (live.reports σ);
  frames = frames;
}
  where
    is : symbols s (bytes ++ more) ≡ symbols s bytes
    is = same s bytes more within

    word : (f : ℕ) → f < symbols s bytes / 68 → frame_bits (tps_cells s (bytes ++ more)) f ≡ frame_bits (tps_cells s bytes) f
    word f l = bits (tps_cells s bytes) (tps_cells s (bytes ++ more)) f (λ m k. tps s bytes more m (before_frame_end (symbols s bytes) f m l k))

    frames : CountsFrames s bytes r.read r.bad
    frames = record {
      is_read = live.frames.is_read;
      reads = λ f l. subst (λ (w : List Bool). IsTrue (live.frames.is_read f) ↔ IsReadable w) (word f l) (live.frames.reads f (subst (λ (q : ℕ). f < q / 68) (sym is) l));
      read_is = live.frames.read_is ∙ ap (λ (q : ℕ). count live.frames.is_read (q / 68)) is;
      all = live.frames.all ∙ ap (λ (q : ℕ). q / 68) is;
    }
