-- What `tune` produces is one output.
use Rattle.std.proofs.Common.{◌≡◌, ◌⊎◌, inl, inr, true, false, ℕ, ◌<◌, ◌≤◌, Bool, List, ◌++◌, Option, refl, ◌∙◌, sym, ap, ap₂, subst, arith}
use Rattle.std.specs.Prelude.{is_some}
use Rattle.std.proofs.lemmas.Bool.{true≢false}
use Rattle.std.proofs.lemmas.List.{append_cancel_right}
use Rattle.station_core.specs.declared.ports.OutPort.{OutPort}
use Rattle.mode_set.specs.declared.settings.Settings.{Settings}
use Rattle.reception.specs.Cells.{symbols}
use Rattle.reception.specs.Frames.{tps_cells}
use Rattle.reception.specs.Lines.{closing_lines, event_lines}
use Rattle.reception.specs.Streams.{Reception}
use Rattle.cmd_cells.specs.Work.{Written}
use Rattle.reception.specs.Alike.{DifferInWorkers}
use Rattle.cmd_receive.specs.OneOutput.{AtMostOne, ExactlyOne}
use Rattle.cmd_receive.specs.Received.{cells_in, within_limit}
use Rattle.cmd_receive.specs.Working.{FinalGives, LiveGives, written_at}
use Rattle.tps_word.specs.declared.word.TpsWord.{TpsWord}
use Rattle.tune_in.specs.Announced.{IsAnnounced}
use Rattle.tune_in.specs.LeastPlace.{held}
use Rattle.tune_in.specs.OfBytes.{rest}
use Rattle.tune_in.specs.declared.frame.Found.{Found}
use Rattle.cmd_tune.specs.Tuned.{ComesTo, GivesLive, IsNothing, Tuned, at_place, fits}
use Rattle.cmd_tune.specs.TuneCommand.{PortComes, PortSoFar}
use Rattle.cmd_tune.proofs.Coming.{Laws, total}

-- the same at every port
abbrev Same : Written → Written → Type 0
Same one other = (port : OutPort) → other port ≡ one port

module _ (laws : Laws) (two : Bool) where
  -- ---- by settings that differ in the number of workers at most
  live_once : (a b : Settings) → DifferInWorkers b a → (bytes : List ℕ) (one other : Written) → LiveGives a two bytes one → LiveGives b two bytes other → Same one other
  live_once a b d bytes one other g h port =
      let same : h.0 ≡ g.0 = laws.receptions.one_live a bytes h.0 g.0 (laws.live b a bytes h.0 d h.1) g.1 in
      h.2 port ∙ ap (λ (l : List ℕ). written_at two h.0.packets l port) (sym (laws.lines b a bytes h.0 d).0)
      ∙ ap (λ (r : Reception). written_at two r.packets (event_lines a bytes r) port) same ∙ sym (g.2 port)

  final_once : (a b : Settings) → DifferInWorkers b a → (bytes : List ℕ) (one other : Written) → FinalGives a two bytes one → FinalGives b two bytes other → Same one other
  final_once a b d bytes one other g h port =
      let same : h.0 ≡ g.0 = laws.receptions.one_final a bytes h.0 g.0 (laws.final b a bytes h.0 d h.1) g.1 in
      let lines = laws.lines b a bytes h.0 d in
      h.2 port ∙ ap₂ (λ (l c : List ℕ). written_at two h.0.packets (l ++ c) port) (sym lines.0) (sym lines.1)
      ∙ ap (λ (r : Reception). written_at two r.packets (event_lines a bytes r ++ closing_lines a bytes r) port) same ∙ sym (g.2 port)

  module _ (s : Settings) where
    -- a word announces one setting of each field
    announced_once : (word : TpsWord) (a b : Settings) → IsAnnounced word s a → IsAnnounced word s b → DifferInWorkers b a
    announced_once word a b is other = record {
      mode = is.mode_is ∙ sym other.mode_is;
      shape = is.shape_is ∙ sym other.shape_is;
      hierarchy = is.hierarchy_is ∙ sym other.hierarchy_is;
      rate_hp = is.rate_hp_is ∙ sym other.rate_hp_is;
      rate_lp = is.rate_lp_is ∙ sym other.rate_lp_is;
      guard = is.guard_is ∙ sym other.guard_is;
      cell_id = is.no_cell ∙ sym other.no_cell;
      start = is.start_is ∙ sym other.start_is;
      max_symbols = is.most_are ∙ sym other.most_are;
      plan = is.plan_is ∙ sym other.plan_is;
    }

    tuned_once : (Received : Settings → List ℕ → Written → Type 0) → ((a b : Settings) → DifferInWorkers b a → (bytes : List ℕ) (one other : Written) → Received a bytes one → Received b bytes other → Same one other)
        → (bytes : List ℕ) (found : Found) (one other : Written) → Tuned Received s two bytes found one → Tuned Received s two bytes found other → Same one other
    tuned_once Received once bytes found one other t u port =
        let d = announced_once found.word t.announced u.announced t.is_announced u.is_announced in
        u.is port ∙ ap (λ (l : List ℕ). at_place found port ++ l) (once t.announced u.announced d (rest s bytes found) t.behind u.behind t.received u.received port) ∙ sym (t.is port)

    nothing_once : (one other : Written) → IsNothing one → IsNothing other → Same one other
    nothing_once one other a b port = b port ∙ sym (a port)

    -- ---- after a failed read
    gives_once : (bytes : List ℕ) (one other : Written) → GivesLive s two bytes one → GivesLive s two bytes other → Same one other
    gives_once bytes one other (inl a) (inl b) = nothing_once one other a.1 b.1
    gives_once bytes one other (inl a) (inr b) = absurd (a.0 b.0.place b.0.word b.1.place)
    gives_once bytes one other (inr a) (inl b) = absurd (b.0 a.0.place a.0.word a.1.place)
    gives_once bytes one other (inr a) (inr b) =
        let same : b.0 ≡ a.0 = laws.one s.mode (tps_cells s bytes) (symbols s bytes) b.0 a.0 b.1 a.1 in
        tuned_once (λ x. LiveGives x two) live_once bytes a.0 one other a.2 (subst (λ (f : Found). Tuned (λ x. LiveGives x two) s two bytes f other) same b.2)

    -- ---- all of it, or what is within the limit
    abbrev Placed : List ℕ → Written → Found → Type 0
    Placed bytes given found = ((fits two found ≡ false) × IsNothing given) ⊎ ((symbols s bytes ≤ s.max_symbols) × Tuned (λ a. FinalGives a two) s two bytes found given)
        ⊎ ((s.max_symbols < symbols s bytes) × Tuned (λ a. LiveGives a two) s two (within_limit s bytes) found given)

    apart : (found : Found) → fits two found ≡ false → fits two found ≡ true → ⊥
    apart found other fit = true≢false (sym fit ∙ other)

    placed_once : (bytes : List ℕ) (found : Found) (one other : Written) → Placed bytes one found → Placed bytes other found → Same one other
    placed_once bytes found one other (inl a) (inl b) = nothing_once one other a.1 b.1
    placed_once bytes found one other (inl a) (inr (inl b)) = absurd (apart found a.0 b.1.fits_form)
    placed_once bytes found one other (inl a) (inr (inr b)) = absurd (apart found a.0 b.1.fits_form)
    placed_once bytes found one other (inr (inl a)) (inl b) = absurd (apart found b.0 a.1.fits_form)
    placed_once bytes found one other (inr (inl a)) (inr (inl b)) = tuned_once (λ x. FinalGives x two) final_once bytes found one other a.1 b.1
    placed_once bytes found one other (inr (inl a)) (inr (inr b)) = absurd (omega (arith, a.0, b.0))
    placed_once bytes found one other (inr (inr a)) (inl b) = absurd (apart found b.0 a.1.fits_form)
    placed_once bytes found one other (inr (inr a)) (inr (inl b)) = absurd (omega (arith, a.0, b.0))
    placed_once bytes found one other (inr (inr a)) (inr (inr b)) = tuned_once (λ x. LiveGives x two) live_once (within_limit s bytes) found one other a.1 b.1

    comes_once : (bytes : List ℕ) (one other : Written) → ComesTo s two bytes one → ComesTo s two bytes other → Same one other
    comes_once bytes one other (inl a) (inl b) = nothing_once one other a.1 b.1
    comes_once bytes one other (inl a) (inr b) = absurd (a.0 b.0.place b.0.word b.1.place)
    comes_once bytes one other (inr a) (inl b) = absurd (b.0 a.0.place a.0.word a.1.place)
    comes_once bytes one other (inr a) (inr b) =
        let same : b.0 ≡ a.0 = laws.one s.mode (tps_cells s bytes) (held s bytes) b.0 a.0 b.1 a.1 in
        placed_once bytes a.0 one other a.2 (subst (Placed bytes other) same b.2)

module _ (laws : Laws) (s : Settings) (lp : Option (List ℕ)) (file : List ℕ) where
  abbrev bytes : List ℕ
  bytes = cells_in file

  pub port_once : (port : OutPort) → ExactlyOne (PortComes s lp bytes port)
  port_once port = let all = total laws s (is_some lp) bytes in (all.0 port, (all.0, all.1, refl), (λ other c. c.2 ∙ comes_once laws (is_some lp) s bytes all.0 c.0 all.1 c.1 port))

  pub so_far_once : (left : List ℕ) (port : OutPort) → AtMostOne (PortSoFar s lp file left port)
  so_far_once left port one other a b =
      let same : b.1.taken ≡ a.1.taken = append_cancel_right b.1.taken a.1.taken left (sym b.1.are ∙ a.1.are) in
      let gives : GivesLive s (is_some lp) (cells_in a.1.taken) b.0 = subst (λ (l : List ℕ). GivesLive s (is_some lp) (cells_in l) b.0) same b.1.live in
      b.2 ∙ gives_once laws (is_some lp) s (cells_in a.1.taken) a.0 b.0 a.1.live gives port ∙ sym a.2
