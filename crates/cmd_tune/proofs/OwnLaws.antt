-- The laws of what `tune` produces: it is one output, its place is the least, and the number of workers changes nothing.
use Rattle.std.proofs.Common.{◌≡◌, inl, inr, ℕ, Bool, List, ◌++◌, Option, refl, ◌∙◌, sym, ap, ap₂, subst}
use Rattle.std.specs.Prelude.{is_some}
use Rattle.station_core.specs.declared.ports.OutPort.{OutPort}
use Rattle.mode_set.specs.Kept.{IsKept}
use Rattle.mode_set.specs.declared.settings.Settings.{Settings}
use Rattle.qam_map.specs.declared.cell.Cell.{Cell}
use Rattle.reception.specs.Cells.{bytes_of_symbol, symbol_cells, symbols}
use Rattle.reception.specs.Frames.{tps_cells}
use Rattle.cmd_cells.specs.Work.{Written}
use Rattle.reception.specs.Alike.{DifferInWorkers}
use Rattle.reception.proofs.Alike.{over, with_workers}
use Rattle.cmd_receive.specs.Received.{cells_in, within_limit}
use Rattle.cmd_receive.specs.Working.{FinalGives, LiveGives, written_at}
use Rattle.tune_in.specs.Announced.{IsAnnounced}
use Rattle.tune_in.specs.LeastPlace.{held}
use Rattle.tune_in.specs.OfBytes.{rest}
use Rattle.tune_in.specs.Places.{IsFound, NoPlace}
use Rattle.tune_in.specs.declared.frame.Found.{Found}
use Rattle.cmd_tune.specs.Tuned.{ComesTo, GivesLive, Tuned}
use Rattle.cmd_tune.specs.TuneCommand.{PortComes, PortSoFar, TuneLaws}
use Rattle.cmd_tune.proofs.Coming.{Laws}
use Rattle.cmd_tune.proofs.OneOutput.{port_once, so_far_once}

module _ (laws : Laws) (s : Settings) (w : ℕ) (k : IsKept s.shape s.hierarchy s.rate_lp w s.max_symbols) where
  -- settings with this number of workers
  abbrev working : Settings → Settings
  working a = with_workers a w (record { qpsk = a.kept.qpsk; lp = a.kept.lp; some_worker = k.some_worker; few_workers = k.few_workers; some_symbol = a.kept.some_symbol })

  abbrev t : Settings
  t = with_workers s w k

  differ : (a : Settings) → DifferInWorkers a (working a)
  differ a = record { mode = refl; shape = refl; hierarchy = refl; rate_hp = refl; rate_lp = refl; guard = refl; cell_id = refl; start = refl; max_symbols = refl; plan = refl }

  -- ---- the places are the same
  cells_alike : (bytes : List ℕ) (m : ℕ) → tps_cells s bytes m ≡ tps_cells t bytes m
  unfolding tps_cells symbol_cells bytes_of_symbol
  cells_alike bytes m = refl

  all_alike : (bytes : List ℕ) → tps_cells s bytes ≡ tps_cells t bytes
  all_alike bytes = λ i m. cells_alike bytes m i

  found_alike : (bytes : List ℕ) (n : ℕ) (found : Found) → IsFound s.mode (tps_cells s bytes) n found → IsFound t.mode (tps_cells t bytes) n found
  found_alike bytes n found is = subst (λ (cells : ℕ → List Cell). IsFound s.mode cells n found) (all_alike bytes) is

  none_alike : (bytes : List ℕ) (n : ℕ) → NoPlace s.mode (tps_cells s bytes) n → NoPlace t.mode (tps_cells t bytes) n
  none_alike bytes n none = subst (λ (cells : ℕ → List Cell). NoPlace s.mode cells n) (all_alike bytes) none

  -- ---- and so is what is received after them
  live_alike : (two : Bool) (a : Settings) (bytes : List ℕ) (given : Written) → LiveGives a two bytes given → LiveGives (working a) two bytes given
  live_alike two a bytes given g = (
    g.0,
    laws.live a (working a) bytes g.0 (differ a) g.1,
    λ port. g.2 port ∙ ap (λ (l : List ℕ). written_at two g.0.packets l port) (sym (laws.lines a (working a) bytes g.0 (differ a)).0),
  )

  final_alike : (two : Bool) (a : Settings) (bytes : List ℕ) (given : Written) → FinalGives a two bytes given → FinalGives (working a) two bytes given
  final_alike two a bytes given g =
      let same = laws.lines a (working a) bytes g.0 (differ a) in (
        g.0,
        laws.final a (working a) bytes g.0 (differ a) g.1,
        λ port. g.2 port ∙ ap₂ (λ (l c : List ℕ). written_at two g.0.packets (l ++ c) port) (sym same.0) (sym same.1),
      )

  announced_alike : (found : Found) (a : Settings) → IsAnnounced found.word s a → IsAnnounced found.word t (working a)
  announced_alike found a is = record {
    mode_is = is.mode_is;
    shape_is = is.shape_is;
    hierarchy_is = is.hierarchy_is;
    rate_hp_is = is.rate_hp_is;
    rate_lp_is = is.rate_lp_is;
    guard_is = is.guard_is;
    no_cell = is.no_cell;
    start_is = is.start_is;
    workers_are = refl;
    most_are = is.most_are;
    plan_is = is.plan_is;
  }

  tuned_alike : (Received : Settings → List ℕ → Written → Type 0) → ((a : Settings) (bytes : List ℕ) (given : Written) → Received a bytes given → Received (working a) bytes given) → (two : Bool) (bytes : List ℕ) (found : Found) (given : Written)
      → Tuned Received s two bytes found given → Tuned Received t two bytes found given
  tuned_alike Received same two bytes found given u = record {
    fits_form = u.fits_form;
    announced = working u.announced;
    is_announced = announced_alike found u.announced u.is_announced;
    behind = u.behind;
    received = same u.announced (rest s bytes found) u.behind u.received;
    is = u.is;
  }

  -- ---- what a run produces
  gives_alike : (two : Bool) (bytes : List ℕ) (given : Written) → GivesLive s two bytes given → GivesLive t two bytes given
  gives_alike two bytes given (inl p) = inl (none_alike bytes (symbols s bytes) p.0, p.1)
  gives_alike two bytes given (inr p) = inr (p.0, found_alike bytes (symbols s bytes) p.0 p.1, tuned_alike (λ a. LiveGives a two) (live_alike two) two bytes p.0 given p.2)

  comes_alike : (two : Bool) (bytes : List ℕ) (given : Written) → ComesTo s two bytes given → ComesTo t two bytes given
  comes_alike two bytes given (inl p) = inl (none_alike bytes (held s bytes) p.0, p.1)
  comes_alike two bytes given (inr p) = inr (
    p.0,
    found_alike bytes (held s bytes) p.0 p.1,
    elim p.2 [
      | inl q ↦ inl q
      | inr q ↦ elim q [
        | inl f ↦ inr (inl (f.0, tuned_alike (λ a. FinalGives a two) (final_alike two) two bytes p.0 given f.1))
        | inr l ↦ inr (inr (l.0, tuned_alike (λ a. LiveGives a two) (live_alike two) two (within_limit s bytes) p.0 given l.1))
      ]
    ],
  )

pub own_laws : Laws → (stated : Option Settings) (lp : Option (List ℕ)) (file : List ℕ) → TuneLaws stated lp file
own_laws laws stated lp file = record {
  one = λ s is port. (port_once laws s lp file port, λ left. so_far_once laws s lp file left port);
  searches = λ s is. laws.least s (cells_in file);
  alike = λ s t is d. over (λ z. (port : OutPort) (output : List ℕ) → PortComes s lp (cells_in file) port output → PortComes z lp (cells_in file) port output) s t d
      (λ k port output c. (c.0, comes_alike laws s t.workers k (is_some lp) (cells_in file) c.0 c.1, c.2));
  alike_so_far = λ s t is d. over (λ z. (left : List ℕ) (port : OutPort) (output : List ℕ) → PortSoFar s lp file left port output → PortSoFar z lp file left port output) s t d
      (λ k left port output c. (c.0, record { taken = c.1.taken; are = c.1.are; within = c.1.within; live = gives_alike laws s t.workers k (is_some lp) (cells_in c.1.taken) c.0 c.1.live }, c.2));
}
