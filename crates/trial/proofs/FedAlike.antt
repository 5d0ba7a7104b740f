-- No definition of what a trial generates, feeds and counts depends on the number of workers.
use Rattle.std.proofs.Common.{◌≡◌, ℕ, zero, suc, ◌*◌, ◌%◌, Bool, List, map, refl, sym, ap, ◌∙◌, subst}
use Rattle.std.specs.Prelude.{Option, unwrap_or, flat_map, ◌+◌, ◌==◌, if◌then◌else◌, ℤ, ◌+ℤ◌}
use Rattle.spec_words.specs.Words.{numbers}
use Rattle.mode_set.specs.Kept.{IsKept}
use Rattle.mode_set.specs.StreamTable.{carriers}
use Rattle.mode_set.specs.declared.modes.Stream.{Stream}
use Rattle.mode_set.specs.declared.settings.Settings.{Settings}
use Rattle.rand_pcg.specs.Lcg.{Lcg}
use Rattle.load_gen.specs.Draws.{after, packet_of, packet_words, shift_of}
use Rattle.pilots.specs.declared.carrier_kind.CarrierKind.{CarrierKind}
use Rattle.pilots.specs.declared.carrier_kind.CarrierKind.TheVariants.{Continual, Scattered, Tps, Payload}
use Rattle.pilots.specs.Carriers.{kind}
use Rattle.qam_map.specs.declared.cell.Cell.{Cell}
use Rattle.qam_map.specs.Points.{tolerance}
use Rattle.inner_chain.specs.Labels.{label_bit, number_at}
use Rattle.frame_build.specs.Announcing.{announcing_cell, settings_for}
use Rattle.frame_build.specs.Symbol.{sent_bytes, cell_of_kind}
use Rattle.symbol_parameters.specs.Spans.{settings_in, settings_at, exists_in, steps_before, words_before}
use Rattle.transmission.specs.Transmission.{Inputs, announced_at, by_stream, tx_cell, tx_label}
use Rattle.transmission.specs.SuperFrames.{super_frames}
use Rattle.reception.specs.Streams.{Reception, Final}
use Rattle.trial.specs.Drawn.{before, drawn, drawn_for, lp_from, packets_of_symbol, shifts_from, symbol_from, trial_frames, trial_symbols}
use Rattle.trial.specs.Fed.{byte_sum, disturbed, fed, fed_cell, fed_symbol, negated}
use Rattle.trial.specs.Outcome.{trial_counts}
use Rattle.trial.specs.declared.counts.TrialCounts.{TrialCounts}
use Rattle.reception.specs.Alike.{SameFinal}
use Rattle.reception.proofs.Alike.{with_workers, over}
use Rattle.trial.proofs.Keeping.{kept_prop}
use Rattle.trial.specs.TrialsAlike.{SameFed, SameFrames, SameGiven, SameCounts}

-- the invariant of settings with another number of workers
kept_for : (s : Settings) (w : ℕ) → IsKept s.shape s.hierarchy s.rate_lp w s.max_symbols → IsKept s.shape s.hierarchy s.rate_lp w s.max_symbols
kept_for s w k = record { qpsk = s.kept.qpsk; lp = s.kept.lp; some_worker = k.some_worker; few_workers = k.few_workers; some_symbol = s.kept.some_symbol }

module _ (s : Settings) (w : ℕ) (k : IsKept s.shape s.hierarchy s.rate_lp w s.max_symbols) (number : ℕ) where
  abbrev t : Settings
  t = with_workers s w (kept_for s w k)

  -- the generator before each symbol is the same with other workers
  before_alike : (m : ℕ) → before s number m ≡ before t number m
  unfolding kept_for before settings_in exists_in steps_before
  before_alike zero = refl
  before_alike (suc m) = ap (symbol_from s number m) (before_alike m)

  packets_alike : (σ : Stream) (m : ℕ) → packets_of_symbol s number σ m ≡ packets_of_symbol t number σ m
  unfolding kept_for packets_of_symbol settings_in exists_in steps_before
  packets_alike σ m = ap (λ (g : Lcg). map (λ i. packet_of (after (packet_words * i) (by_stream g (lp_from s number m g) σ))) (numbers (drawn_for s number σ m))) (before_alike m)

  -- and the number of symbols is the same
  frames_alike : trial_frames s number ≡ trial_frames t number
  unfolding kept_for super_frames settings_in exists_in words_before
  frames_alike = refl

  many_alike : trial_symbols s number ≡ trial_symbols t number
  many_alike = ap (λ (o : Option ℕ). 272 * unwrap_or o 0) frames_alike

  drawn_alike : drawn s number ≡ drawn t number
  unfolding drawn
  drawn_alike = λ i σ. flat_map (λ m. packets_alike σ m i) (numbers (many_alike i))

  -- a cell of a transmission is the same, for any kind of carrier
  kinds_alike : (m : ℕ) (labels : ℕ → ℕ → Bool) (c : ℕ) (kd : CarrierKind)
      → cell_of_kind (settings_for (settings_at s m) (announced_at s m) kd) m labels c kd ≡ cell_of_kind (settings_for (settings_at t m) (announced_at t m) kd) m labels c kd
  unfolding kept_for cell_of_kind settings_in
  kinds_alike m labels c Continual = refl
  kinds_alike m labels c Scattered = refl
  kinds_alike m labels c Tps = refl
  kinds_alike m labels c (Payload q) = refl

  cells_alike : (inputs : Inputs) (m c : ℕ) → tx_cell s inputs m c ≡ tx_cell t inputs m c
  unfolding kept_for tx_cell tx_label announcing_cell label_bit number_at settings_in steps_before
  cells_alike inputs m c = kinds_alike m (tx_label s inputs m) c (kind s.mode (m % 68) c)

  -- and so is its disturbance
  shifts_alike : (m : ℕ) → shifts_from s number m (before s number m) ≡ shifts_from t number m (before t number m)
  unfolding kept_for settings_in exists_in steps_before
  shifts_alike m = ap (shifts_from s number m) (before_alike m)

  -- the cell on payload carrier q, moved by the shifts from here, and negated or not
  abbrev by_shifts : ℕ → Cell → ℕ → Lcg → Cell
  by_shifts m c q g =
      let shift : ℕ → ℤ = λ i. shift_of (tolerance (settings_at s m).shape (settings_at s m).hierarchy) (after i g) in
      let moved : Cell = record { re = c.re +ℤ shift (2 * q); im = c.im +ℤ shift (2 * q + 1) } in
      if m % 17 == 16 then negated moved else moved

  disturbed_alike : (m : ℕ) (cell : Cell) (kd : CarrierKind) → disturbed s number m cell kd ≡ disturbed t number m cell kd
  unfolding kept_for settings_in
  disturbed_alike m cell Continual = refl
  disturbed_alike m cell Scattered = refl
  disturbed_alike m cell Tps = refl
  disturbed_alike m cell (Payload q) = ap (by_shifts m cell q) (shifts_alike m)

  fed_cells_alike : (m c : ℕ) → fed_cell s number m c ≡ fed_cell t number m c
  unfolding fed_cell
  fed_cells_alike m c =
      disturbed_alike m (tx_cell s (drawn s number) m c) (kind s.mode (m % 68) c)
      ∙ ap (λ (z : Cell). disturbed t number m z (kind s.mode (m % 68) c)) (cells_alike (drawn s number) m c ∙ ap (λ (z : Inputs). tx_cell t z m c) drawn_alike)

  symbols_alike : (m : ℕ) → fed_symbol s number m ≡ fed_symbol t number m
  unfolding fed_symbol
  symbols_alike m = λ i. flat_map (λ c. sent_bytes (fed_cells_alike m c i)) (numbers (carriers s.mode))

  fed_alike : fed s number ≡ fed t number
  unfolding fed
  fed_alike = λ i. flat_map (λ m. symbols_alike m i) (numbers (many_alike i))

-- for any proof of the invariant
of_workers : (Fact : Settings → Type 0) (s : Settings) (w : ℕ) (k : IsKept s.shape s.hierarchy s.rate_lp w s.max_symbols) → Fact (with_workers s w (kept_for s w k)) → Fact (with_workers s w k)
of_workers Fact s w k fact = subst (λ (j : IsKept s.shape s.hierarchy s.rate_lp w s.max_symbols). Fact (with_workers s w j)) (kept_prop s.shape s.hierarchy s.rate_lp w s.max_symbols (kept_for s w k) k) fact

pub same_fed : SameFed
same_fed s t number d = over (λ z. fed z number ≡ fed s number) s t d (λ k. of_workers (λ z. fed z number ≡ fed s number) s t.workers k (sym (fed_alike s t.workers k number)))

pub same_frames : SameFrames
same_frames s t number d =
    over (λ z. trial_frames z number ≡ trial_frames s number) s t d (λ k. of_workers (λ z. trial_frames z number ≡ trial_frames s number) s t.workers k (sym (frames_alike s t.workers k number)))

pub same_given : SameFinal → SameGiven
same_given final s t number r d given = subst (λ (l : List ℕ). Final t l r) (sym (same_fed s t number d)) (final s t (fed s number) r d given)

-- the counts, from the cells fed
abbrev counted : Settings → ℕ → Reception → List ℕ → TrialCounts
counted s number r l = record (trial_counts s number r) { cells = byte_sum l }

pub same_counts : SameCounts
unfolding kept_for exists_in
same_counts s t number r d =
    over (λ z. trial_counts z number r ≡ trial_counts s number r) s t d
    (λ k. of_workers (λ z. trial_counts z number r ≡ trial_counts s number r) s t.workers k (ap (counted s number r) (sym (fed_alike s t.workers k number))))
