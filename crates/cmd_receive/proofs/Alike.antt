-- For settings that differ only in the number of workers, every kind of reception has the same output.
use Rattle.std.proofs.Common.{◌≡◌, inl, inr, ℕ, ◌*◌, ◌/◌, ◌<◌, ◌≤◌, List, ◌++◌, length, take, Some, ◌∙◌, sym, ap, ap₂, subst}
use Rattle.station_core.specs.declared.ports.OutPort.{OutPort}
use Rattle.mode_set.specs.StreamTable.{carriers}
use Rattle.mode_set.specs.declared.modes.Mode.{Mode}
use Rattle.mode_set.specs.declared.settings.Settings.{Settings}
use Rattle.reception.specs.Cells.{symbols}
use Rattle.reception.specs.Alike.{DifferInWorkers}
use Rattle.cmd_receive.specs.Kinds.{Kind, lines_of}
use Rattle.cmd_receive.specs.Received.{cells_in, IsAll, IsCutOff, IsSoFar, within_limit}
use Rattle.cmd_receive.proofs.OfKinds.{LinesCome, LinesSoFar, OutputComes, OutputSoFar}

-- the output so far and at the end is the same, and so are the lines
pub record SameOf (k : Kind) : Type 0 where
  pub live : (s t : Settings) (bytes : List ℕ) (r : k.Received) → DifferInWorkers s t → k.Live s bytes r → k.Live t bytes r
  pub final : (s t : Settings) (bytes : List ℕ) (r : k.Received) → DifferInWorkers s t → k.Final s bytes r → k.Final t bytes r
  pub lines : (s t : Settings) (bytes : List ℕ) (r : k.Received) → DifferInWorkers s t → (lines_of k t bytes r ≡ lines_of k s bytes r) × (k.closing t bytes r ≡ k.closing s bytes r)

module _ {k : Kind} (same : SameOf k) (s t : Settings) (file : List ℕ) (d : DifferInWorkers s t) where
  abbrev bytes : List ℕ
  bytes = cells_in file

  symbols_same : (l : List ℕ) → symbols t l ≡ symbols s l
  symbols_same l = ap (λ (m : Mode). length l / (5 * carriers m)) d.mode

  within_same : within_limit t bytes ≡ within_limit s bytes
  within_same = ap₂ (λ (n : ℕ) (m : Mode). take (n * (5 * carriers m)) bytes) d.max_symbols d.mode

  all : (r : k.Received) → IsAll k.Final s bytes r → IsAll k.Final t bytes r
  all r is = record {
    within = subst (λ (n : ℕ). n ≤ t.max_symbols) (sym (symbols_same bytes)) (subst (λ (n : ℕ). symbols s bytes ≤ n) (sym d.max_symbols) is.within);
    final = same.final s t bytes r d is.final;
  }

  cut_off : (r : k.Received) → IsCutOff k.Live s bytes r → IsCutOff k.Live t bytes r
  cut_off r is = record {
    past = subst (λ (n : ℕ). t.max_symbols < n) (sym (symbols_same bytes)) (subst (λ (n : ℕ). n < symbols s bytes) (sym d.max_symbols) is.past);
    live = subst (λ (l : List ℕ). k.Live t l r) (sym within_same) (same.live s t (within_limit s bytes) r d is.live);
  }

  abbrev so_far : (left : List ℕ) (r : k.Received) → IsSoFar k.Live s file left r → IsSoFar k.Live t file left r
  so_far left r is = record {
    taken = is.taken;
    are = is.are;
    within = subst (λ (n : ℕ). n ≤ t.max_symbols) (sym (symbols_same (cells_in is.taken))) (subst (λ (n : ℕ). symbols s (cells_in is.taken) ≤ n) (sym d.max_symbols) is.within);
    live = same.live s t (cells_in is.taken) r d is.live;
  }

  events_same : (l : List ℕ) (r : k.Received) → lines_of k s l r ≡ lines_of k t l r
  events_same l r = sym (same.lines s t l r d).0

  closing_same : (l : List ℕ) (r : k.Received) → k.closing s l r ≡ k.closing t l r
  closing_same l r = sym (same.lines s t l r d).1

  pub outputs : (port : OutPort) (output : List ℕ) → OutputComes k s bytes port output → OutputComes k t bytes port output
  outputs port output c = (c.0, elim c.1 [ inl is ↦ inl (all c.0 is) | inr is ↦ inr (cut_off c.0 is) ], c.2)

  pub lines : (printed : List ℕ) → LinesCome k s bytes printed → LinesCome k t bytes printed
  lines printed c = (
    c.0,
    elim c.1 [
      | inl p ↦ inl (all c.0 p.0, p.1 ∙ ap₂ (λ (a b : List ℕ). a ++ b) (events_same bytes c.0) (closing_same bytes c.0))
      | inr p ↦ inr (cut_off c.0 p.0, p.1 ∙ events_same (within_limit s bytes) c.0 ∙ ap (λ (l : List ℕ). lines_of k t l c.0) (sym within_same))
    ],
  )

  pub outputs_so_far : (left : List ℕ) (port : OutPort) (output : List ℕ) → OutputSoFar k s file left port output → OutputSoFar k t file left port output
  outputs_so_far left port output c = (c.0, so_far left c.0 c.1, c.2)

  pub lines_so_far : (left printed : List ℕ) → LinesSoFar k (Some s) file left printed → LinesSoFar k (Some t) file left printed
  lines_so_far left printed c = (c.0, so_far left c.0 c.1, c.2 ∙ events_same (cells_in c.1.taken) c.0)
