-- One more symbol is written, or the work ends before it.
use Rattle.std.proofs.Common.{◌≡◌, ℕ, ◌+◌, ◌<◌, ◌≤◌, List, ◌++◌, length, take, Option, Some, None, Result, Ok, Err, ap, sym, subst, ◌∙◌, arith, append_assoc}
use Rattle.std.proofs.Math.Seq.{take-append-add}
use Rattle.station_core.specs.Meaning.{Meaning}
use Rattle.mode_set.specs.declared.modes.Stream.{Stream}
use Rattle.mode_set.specs.declared.settings.Settings.{Settings as TheSettings}
use Rattle.frame_build.specs.CellFile.{header}
use Rattle.transmission.specs.Transmission.{Inputs, first_symbols, tx_symbol}
use Rattle.transmission.specs.SuperFrames.{symbols_of}
use Rattle.transmission.specs.Agenda.{first_refusal, symbols_sent}
use Rattle.transmission.specs.Agenda as agenda
use Rattle.transmission.specs.AgendaLaws.{IsAt, SendsSymbol, SentSoFar}
use Rattle.transmission.specs.Laws.{OneSymbolMore, PartOfSymbols}
use Rattle.cmd_base.specs.declared.refusal.Refusal.{Refusal}
use Rattle.cmd_base.specs.declared.refusal.Refusal.TheVariants.{Usage, Settings, ReadFault, WriteFault, NotSync, Memory, Limit, Cells}
use Rattle.cmd_modulate.specs.ModulateCommand.{HoldsSymbolsSoFar, cells_sent, inputs_of, sent_by, file_of_symbols}
use Rattle.cmd_modulate.specs.declared.inputs.PacketInputs.{PacketInputs}
use Rattle.cmd_modulate.specs.Seen.{Seen, wanted}
use Rattle.cmd_modulate.specs.Work.{BothRead, Ends, IsAtWork, IsDue, KeepsOutputs, Sends, Stops, TakeFew, WritesCells, WritesBytes}
use Rattle.cmd_modulate.specs.Inputs.{left_of}
use Rattle.cmd_modulate.proofs.Few.{few_at_work}

-- the symbols before one, and part of it, are a prefix of the cells sent
pub front_cells : PartOfSymbols → (s : TheSettings) (limit : ℕ) (inputs : Inputs) (m k : ℕ) → m < symbols_of s inputs → m < symbols_sent s limit inputs
    → (j : ℕ) × (file_of_symbols s inputs m ++ take k (tx_symbol s inputs m) ≡ take j (cells_sent s limit inputs))
front_cells part s limit inputs m k more sent = go (first_refusal s limit inputs)
  where
    behind : (n : ℕ) → ((j : ℕ) × (first_symbols s inputs m ++ take k (tx_symbol s inputs m) ≡ take j (first_symbols s inputs n)))
        → (j : ℕ) × (file_of_symbols s inputs m ++ take k (tx_symbol s inputs m) ≡ take j (file_of_symbols s inputs n))
    behind n p = (
      length (header s.mode) + p.0,
      append_assoc (header s.mode) (first_symbols s inputs m) (take k (tx_symbol s inputs m)) ∙ ap (λ (l : List ℕ). header s.mode ++ l) p.1 ∙ sym (take-append-add (header s.mode) (first_symbols s inputs n) p.0),
    )

    go : (o : Option agenda.Refusal) → (j : ℕ) × (file_of_symbols s inputs m ++ take k (tx_symbol s inputs m) ≡ take j (sent_by s limit inputs o))
    go None = behind (symbols_of s inputs) (part s inputs m (symbols_of s inputs) k more)
    go (Some r) = behind (symbols_sent s limit inputs) (part s inputs m (symbols_sent s limit inputs) k sent)

-- the same point, in terms of the transmitter after packets were put
pub still_due : (files : Stream → List ℕ) (t t' : Seen) → t'.settings ≡ t.settings → t'.made ≡ t.made → IsDue files t → IsDue files t'
still_due files t t' settings made due = record {
  more = subst (λ (s : TheSettings). t'.made < symbols_of s (inputs_of files)) (sym settings) (subst (λ (m : ℕ). m < symbols_of t.settings (inputs_of files)) (sym made) due.more);
  within = subst (λ (s : TheSettings). t'.made < s.max_symbols) (sym settings) (subst (λ (m : ℕ). m < t.settings.max_symbols) (sym made) due.within);
}

pub still_written : (files : Stream → List ℕ) (t t' : Seen) (m m' : Meaning) → t'.settings ≡ t.settings → t'.made ≡ t.made → KeepsOutputs m m'
    → m.cells_out.written ≡ file_of_symbols t.settings (inputs_of files) t.made → m'.cells_out.written ≡ file_of_symbols t'.settings (inputs_of files) t'.made
still_written files t t' m m' settings made keeps written =
    ap (λ (x : Meaning). x.cells_out.written) keeps ∙ written
    ∙ ap (λ (n : ℕ). file_of_symbols t.settings (inputs_of files) n) (sym made)
    ∙ ap (λ (s : TheSettings). file_of_symbols s (inputs_of files) t'.made) (sym settings)

-- the work has stopped before its symbol
pub ends_before : (limit : ℕ) (files : Stream → List ℕ) (t : Seen) (m : Meaning) → m.cells_out.written ≡ file_of_symbols t.settings (inputs_of files) t.made
    → (r : Refusal) → Stops limit files m t r → Ends t.settings limit files m r
ends_before limit files t m written Usage s = (s.0, written ∙ sym s.1)
ends_before limit files t m written (Cells reason) s = (s.0, written ∙ sym s.1)
ends_before limit files t m written (Settings reason) s = (s.0, written ∙ sym s.1)
ends_before limit files t m written ReadFault s = subst (λ (w : List ℕ). HoldsSymbolsSoFar t.settings limit files (left_of m) w) (sym written) s
ends_before limit files t m written WriteFault s = absurd s
ends_before limit files t m written (NotSync σ p) s = (s.0, written ∙ sym s.1)
ends_before limit files t m written Memory s = (s.0, written ∙ sym s.1)
ends_before limit files t m written (Limit n) s = (s.0, written ∙ sym s.1)

module _ (sends : SendsSymbol) (so_far : SentSoFar) (next : OneSymbolMore) (part : PartOfSymbols)
    (limit : ℕ) (files : Stream → List ℕ) (t t' : Seen) (m m' : Meaning) (inputs : PacketInputs) (before put : Inputs → Type 0)
    (suffices : wanted t ≡ None) (due : IsDue files t) (work : IsAtWork limit files m inputs t before)
    (written : m.cells_out.written ≡ file_of_symbols t.settings (inputs_of files) t.made)
    (seen : t' ≡ record t { made = t.made + 1 }) (keeps : WritesCells m m') (stands : put (inputs_of files)) where
  at : IsAt t.settings limit (inputs_of files) (t.made + 1) t.hp t.lp
  at = sends t.settings limit (inputs_of files) t.made t.hp t.lp work.at suffices due.within

  up : (a b : ℕ) → a < b → a + 1 ≤ b
  up a b l = omega (arith, l)

  down : (a b : ℕ) → a + 1 ≤ b → a < b
  down a b l = omega (arith, l)

  sent : t.made < symbols_sent t.settings limit (inputs_of files)
  sent = down t.made (symbols_sent t.settings limit (inputs_of files))
      (so_far t.settings limit (inputs_of files) (t.made + 1) t.hp t.lp at (up t.made (symbols_of t.settings (inputs_of files)) due.more))

  read : BothRead files m' inputs t'
  read = subst (λ (x : Seen). BothRead files m' inputs x) (sym seen) (subst (λ (x : Meaning). BothRead files x inputs (record t { made = t.made + 1 })) (sym keeps)
      (record { hp = work.read.hp; lp = work.read.lp }))

  pub sends_on : (r : Result (Unit {0}) Refusal) → WritesBytes (tx_symbol t.settings (inputs_of files) t.made) m m' r → Sends limit files m' inputs t' put r
  sends_on (Ok u) writes = record {
    work = record {
      at = subst (λ (x : Seen). IsAt x.settings limit (inputs_of files) x.made x.hp x.lp) (sym seen) at;
      stands = stands;
      read = read;
    };
    written =
        writes ∙ ap (λ (w : List ℕ). w ++ tx_symbol t.settings (inputs_of files) t.made) written
        ∙ append_assoc (header t.settings.mode) (first_symbols t.settings (inputs_of files) t.made) (tx_symbol t.settings (inputs_of files) t.made)
        ∙ ap (λ (l : List ℕ). header t.settings.mode ++ l) (sym (next t.settings (inputs_of files) t.made))
        ∙ ap (λ (x : Seen). file_of_symbols x.settings (inputs_of files) x.made) (sym seen);
  }
  sends_on (Err refusal) writes =
      let front = front_cells part t.settings limit (inputs_of files) t.made writes.1 due.more sent in (
        subst (λ (r : Refusal). Ends t'.settings limit files m' r) (sym writes.0) (
          front.0,
          writes.2 ∙ ap (λ (w : List ℕ). w ++ take writes.1 (tx_symbol t.settings (inputs_of files) t.made)) written ∙ front.1
              ∙ ap (λ (x : Seen). take front.0 (cells_sent x.settings limit (inputs_of files))) (sym seen),
        ),
        subst (λ (l : Stream → List ℕ). TakeFew limit files l) (sym (ap left_of keeps)) (few_at_work limit files m inputs t before work),
      )
