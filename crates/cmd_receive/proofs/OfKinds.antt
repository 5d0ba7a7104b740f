-- The output of every kind of reception, the command of each, and the laws that its promise follows from.
use Rattle.std.proofs.Common.{◌≡◌, ◌⊎◌, ℕ, List, [], ◌∷◌, ◌++◌, ◌+◌, Option, None, Some, false}
use Rattle.std.specs.Prelude.{option_and_then}
use Rattle.station_core.specs.declared.ports.InPort.TheVariants as ins
use Rattle.station_core.specs.declared.ports.OutPort.{OutPort}
use Rattle.mode_set.specs.declared.modes.Stream.{Stream}
use Rattle.mode_set.specs.declared.settings.Settings.{Settings}
use Rattle.reception.specs.Laws.{AreSame, IsWithin, NoEvents, NothingLive, OneFinal, OneLive, TailIsUnfinished, nothing}
use Rattle.reception.specs.Streams.{Reception}
use Rattle.reception.specs.Moments.{SomeLive, SomeFinal, LiveBeginsLive, LiveBeginsFinal, WholeSymbolsGive}
use Rattle.cmd_base.specs.Command.{Command}
use Rattle.cmd_base.specs.Ports.{by_input, stream_names}
use Rattle.cmd_base.specs.SettingsFile.{most_settings}
use Rattle.cmd_base.specs.StatedSettings.{settings_of}
use Rattle.cmd_base.specs.StreamForm.{fitting_refusal}
use Rattle.cmd_receive.specs.Kinds.{Kind, lines_of}
use Rattle.cmd_receive.specs.Working.{plain}
use Rattle.cmd_receive.specs.Received.{cells_in, IsAll, IsCutOff, IsSoFar, packets_at, reception_refusal, within_limit}
use Rattle.cmd_receive.specs.ReceiveCommand.{header_by, most_cells}

module _ (k : Kind) where
  -- ---- its output
  abbrev pub IsReceived : Settings → List ℕ → k.Received → Type 0
  IsReceived s bytes r = IsAll k.Final s bytes r ⊎ IsCutOff k.Live s bytes r

  abbrev pub OutputComes : Settings → List ℕ → OutPort → List ℕ → Type 0
  OutputComes s bytes port output = (r : k.Received) × IsReceived s bytes r × (output ≡ packets_at port (k.packets r))

  abbrev pub LinesCome : Settings → List ℕ → List ℕ → Type 0
  LinesCome s bytes lines = (r : k.Received) × (
      (IsAll k.Final s bytes r × (lines ≡ lines_of k s bytes r ++ k.closing s bytes r))
      ⊎ (IsCutOff k.Live s bytes r × (lines ≡ lines_of k s (within_limit s bytes) r)))

  abbrev pub OutputSoFar : Settings → List ℕ → List ℕ → OutPort → List ℕ → Type 0
  OutputSoFar s file left port output = (r : k.Received) × IsSoFar k.Live s file left r × (output ≡ packets_at port (k.packets r))

  abbrev pub LinesSoFar : Option Settings → List ℕ → List ℕ → List ℕ → Type 0
  LinesSoFar None file left lines = lines ≡ []
  LinesSoFar (Some s) file left lines = (r : k.Received) × (so_far : IsSoFar k.Live s file left r) × (lines ≡ lines_of k s (cells_in so_far.taken) r)

  -- the command, with a law of its own
  abbrev pub command : (Option Settings → List ℕ → Type 0) → List ℕ → List ℕ → List ℕ → Option (List ℕ) → Command
  command Own settings cells hp lp = record {
    reads = by_input (Some settings) None None (Some cells);
    writes = stream_names hp lp;
    statuses = 0 ∷ 3 ∷ 5 ∷ 6 ∷ 7 ∷ 8 ∷ 9 ∷ [];
    memory_at_work = false;
    LacksAtWork = λ limit file unread. ⊥;
    early_refusal = λ file. fitting_refusal (file settings) lp;
    header = λ file. header_by (settings_of (file settings));
    work_refusal = λ limit file. option_and_then (λ s. reception_refusal s (cells_in (file cells))) (settings_of (file settings));
    most_taken = λ limit file. by_input (most_settings + 1) 0 0 (most_cells (settings_of (file settings)));
    Comes = λ limit file port output. (s : Settings) × (settings_of (file settings) ≡ Some s) × OutputComes s (cells_in (file cells)) port output;
    Prints = λ limit file lines. (s : Settings) × (settings_of (file settings) ≡ Some s) × LinesCome s (cells_in (file cells)) lines;
    ComesSoFar = λ limit file unread port output.
        (s : Settings) × (settings_of (file settings) ≡ Some s) × OutputSoFar s (file cells) (unread ins.Cells) port output;
    PrintsSoFar = λ limit file unread lines. LinesSoFar (settings_of (file settings)) (file cells) (unread ins.Cells) lines;
    Own = λ limit file. Own (settings_of (file settings)) (file cells);
  }

  -- ---- its laws

  -- the output of longer bytes begins with that of these: the packets of each stream, and the lines of reports
  pub record Begins (s : Settings) (bytes longer : List ℕ) (r q : k.Received) : Type 0 where
    pub packets : (σ : Stream) → (rest : List ℕ) × (k.packets q σ ≡ k.packets r σ ++ rest)
    pub lines : (rest : List ℕ) × (lines_of k s longer q ≡ lines_of k s bytes r ++ rest)

  pub record KindLaws : Type 0 where
    -- bytes have an output so far, and at the end
    pub some_live : (s : Settings) (bytes : List ℕ) → (r : k.Received) × k.Live s bytes r
    pub some_final : (s : Settings) (bytes : List ℕ) → (r : k.Received) × k.Final s bytes r
    -- and only one
    pub one_live : (s : Settings) (bytes : List ℕ) (r q : k.Received) → k.Live s bytes r → k.Live s bytes q → r ≡ q
    pub one_final : (s : Settings) (bytes : List ℕ) (r q : k.Received) → k.Final s bytes r → k.Final s bytes q → r ≡ q
    -- the output so far is a prefix of that for more bytes
    pub live : (s : Settings) (bytes more : List ℕ) (r q : k.Received) → k.Live s bytes r → k.Live s (bytes ++ more) q → Begins s bytes (bytes ++ more) r q
    pub last : (s : Settings) (bytes more : List ℕ) (r q : k.Received) → k.Live s bytes r → k.Final s (bytes ++ more) q → Begins s bytes (bytes ++ more) r q
    -- bytes that do not complete a symbol add no output
    pub whole : (s : Settings) (bytes more : List ℕ) (r : k.Received) → IsWithin s bytes more → k.Live s (bytes ++ more) r → k.Live s bytes r
    pub unfinished : TailIsUnfinished
    -- no bytes give no output
    pub none : k.Received
    pub none_live : (s : Settings) → k.Live s [] none
    pub no_events : NoEvents

-- receptions that are equal in everything received are one
pub one_of : {r q : Reception} → AreSame r q → r ≡ q
one_of a = λ i. record { packets = λ σ. a.packets σ i; reports = λ σ. a.reports σ i; tally = λ σ. a.tally σ i; read = a.read i; bad = a.bad i }

-- the laws of the plain kind
abbrev pub plain_laws : SomeLive → SomeFinal → OneLive → OneFinal → LiveBeginsLive → LiveBeginsFinal → WholeSymbolsGive → TailIsUnfinished → NothingLive → NoEvents → KindLaws plain
plain_laws some_live some_final one_live one_final live last whole unfinished nothing_live no_events = record {
  some_live = some_live;
  some_final = some_final;
  one_live = λ s bytes r q is are. one_of (one_live s bytes r q is are);
  one_final = λ s bytes r q is are. one_of (one_final s bytes r q is are);
  live = λ s bytes more r q is are. let b = live s bytes more r q is are in record { packets = b.packets; lines = b.lines };
  last = λ s bytes more r q is are. let b = last s bytes more r q is are in record { packets = b.packets; lines = b.lines };
  whole = whole;
  unfinished = unfinished;
  none = nothing;
  none_live = nothing_live;
  no_events = no_events;
}
