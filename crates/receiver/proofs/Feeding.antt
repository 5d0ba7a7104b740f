-- The state of a receiver when it is fed, and at its end.
use Rattle.std.proofs.Common.{◌≡◌, ℕ, ◌+◌, ◌-◌, ◌*◌, ◌/◌, ◌<◌, Bool, true, false, List, [], ◌++◌, take, map, refl, sym, ap, ap₂, ◌∙◌, subst, arith, append-nil}
use Rattle.std.specs.Prelude.{Option, ◌↔◌, IsTrue}
use Rattle.code_paths.specs.declared.costs.CostPair.{CostPair}
use Rattle.code_paths.specs.Streams.{Reports}
use Rattle.mode_set.specs.StreamTable.{carriers}
use Rattle.mode_set.specs.declared.modes.Mode.{Mode}
use Rattle.mode_set.specs.declared.modes.Mode.TheVariants.{M2k, M8k}
use Rattle.mode_set.specs.declared.modes.Stream.{Stream}
use Rattle.mode_set.specs.declared.modes.Stream.TheVariants.{Hp, Lp}
use Rattle.mode_set.specs.declared.settings.Settings.{Settings}
use Rattle.pilots.specs.Carriers.{tps_carriers}
use Rattle.qam_map.specs.declared.cell.Cell.{Cell}
use Rattle.tps_word.specs.Vote.{vote}
use Rattle.qam_map.specs.Cells.{cell_of}
use Rattle.outer_chain.specs.Bits.{ByteOfBits}
use Rattle.outer_chain.specs.Running.{AllFinished, no_words}
use Rattle.outer_chain.specs.Words.{Tally}
use Rattle.reception.specs.Cells.{symbols}
use Rattle.reception.specs.Costs.{costs}
use Rattle.reception.specs.Frames.{tps_cells, frame_bits, IsReadable, CountsWords}
use Rattle.reception.specs.Streams.{memory, start_of, Moment, so_far, at_end, Reception}
use Rattle.reception.specs.Lines.{event_at, events}
use Rattle.reception.specs.Feeds.{Output, packets_of, Feeds, Finishes}
use Rattle.reception.specs.Laws.{IsWithin, unfinished, SameSymbols, OneSymbolMore, TpsCellsStay, BitsOfCells, SameCosts, NextEvents, NoCosts, NothingLive, nothing}
use Rattle.inner_receiver.specs.Seen.{CostsState}
use Rattle.inner_receiver.specs.Fed.{HasHad, Ends, Fed}
use Rattle.inner_receiver.specs.Framing.{FrameStands}
use Rattle.receiver.specs.Seen.{StreamState, ReceiverState, stream_of}
use Rattle.receiver.specs.Standing.{is_end, StreamStands, StreamGave, StandsFor}
use Rattle.inner_receiver.specs.declared.frames.FrameReader.{FrameReader}
use Rattle.receiver.proofs.Stepping.{received}

-- a receiver from its parts
abbrev pub state : CostsState → StreamState → StreamState → FrameReader → Bool → ReceiverState
state c hp lp frames ended = record { settings = c.settings; rest = c.rest; taken = c.taken; hp = hp; lp = lp; frames = frames; ended = ended }

abbrev pub by_stream : {A : Type 0} → A → A → Stream → A
by_stream hp lp Hp = hp
by_stream hp lp Lp = lp

-- the reader of TPS words depends only on the cells of the symbols that it has had
frames_alike : BitsOfCells → (mode : Mode) (x : FrameReader) (cells longer : ℕ → List Cell) (n : ℕ) → ((m : ℕ) → m < n → longer m ≡ cells m) → FrameStands mode x cells n → FrameStands mode x longer n
frames_alike bits mode x cells longer n same h = record {
  symbol = h.symbol;
  before = λ l. h.before l ∙ sym (same (n - 1) (omega (arith, l)));
  bits = λ i l. h.bits i l ∙ ap₂ vote (sym (same (68 * (n / 68) + i) (omega (arith, l)))) (sym (same (68 * (n / 68) + i + 1) (omega (arith, l))));
  counts = record {
    is_read = h.counts.is_read;
    reads = λ f l. subst (λ (z : List Bool). IsTrue (h.counts.is_read f) ↔ IsReadable z) (sym (bits cells longer f (λ m k. same m (omega (arith, k, l))))) (h.counts.reads f l);
    read_is = h.counts.read_is;
    all = h.counts.all;
  };
}

-- the states of both streams and the reader make a reception
pub made : ByteOfBits → AllFinished → (moment : Moment) (x : ReceiverState) (bytes : List ℕ) (r : Reception) → x.ended ≡ is_end moment → x.taken ≡ symbols x.settings bytes → x.rest ≡ unfinished x.settings bytes
    → ((σ : Stream) → StreamStands moment (stream_of x σ) (start_of x.settings.start) (costs x.settings bytes σ) (r.packets σ) (r.tally σ) (r.reports σ))
    → FrameStands x.settings.mode x.frames (tps_cells x.settings bytes) (symbols x.settings bytes) → x.frames.read ≡ r.read → x.frames.bad ≡ r.bad → StandsFor moment x bytes r
made one all moment x bytes r ended count rest streams frames read bad = record {
  ended = ended;
  taken = count;
  rest = rest;
  streams = streams;
  frames = frames;
  read = read;
  bad = bad;
  receives = record {
    bits = λ σ. (streams σ).bits;
    decoded = λ σ. (streams σ).has_given.decoded;
    packets = λ σ. (received one all moment (stream_of x σ) _ _ _ _ _ (streams σ)).0;
    tally = λ σ. (received one all moment (stream_of x σ) _ _ _ _ _ (streams σ)).1;
    reports = λ σ. (streams σ).has_given.reports;
    frames = subst (λ k. CountsWords (frame_bits (tps_cells x.settings bytes)) (symbols x.settings bytes / 68) k r.bad) read
        (subst (λ k. CountsWords (frame_bits (tps_cells x.settings bytes)) (symbols x.settings bytes / 68) x.frames.read k) bad frames.counts);
  };
}

-- ---- bytes within a symbol

within : SameSymbols → TpsCellsStay → BitsOfCells → SameCosts → ByteOfBits → AllFinished → (old new : CostsState) (hp lp : StreamState) (frames : FrameReader) (ended : Bool) (bytes piece : List ℕ) (n : ℕ) (r : Reception) (out : Output) → new.settings ≡ old.settings
    → Fed new bytes piece n → new.whole ≡ false → out ≡ record { hp = []; lp = []; events = [] } → StandsFor so_far (state old hp lp frames ended) bytes r → Feeds (StandsFor so_far (state new hp lp frames ended)) new.settings bytes piece r n out
within same stay bits costs_same one all old new hp lp frames ended bytes piece n r out kept fed part none before =
    record {
      after = r;
      count = fed.count;
      stands = stands;
      live = stands.receives;
      follows = record {
        packets = λ σ. sym (append-nil (r.packets σ)) ∙ ap (λ z. r.packets σ ++ z) (sym (nothing_out σ));
        events_are = ap (λ k. events s k r.reports) (same s bytes p w) ∙ sym (append-nil _) ∙ ap (λ z. events s (symbols s bytes) r.reports ++ z) (sym (ap (λ (o : Output). o.events) none));
      };
    }
  where
    s : Settings
    s = new.settings

    p : List ℕ
    p = take n piece

    w : IsWithin s bytes p
    w = fed.within part

    h : StandsFor so_far (record (state old hp lp frames ended) { settings = s }) bytes r
    h = subst (λ (z : Settings). StandsFor so_far (record (state old hp lp frames ended) { settings = z }) bytes r) (sym kept) before

    nothing_out : (σ : Stream) → packets_of out σ ≡ []
    nothing_out Hp = ap (λ (o : Output). o.hp) none
    nothing_out Lp = ap (λ (o : Output). o.lp) none

    streams : (σ : Stream) → StreamStands so_far (stream_of (state new hp lp frames ended) σ) (start_of s.start) (costs s (bytes ++ p) σ) (r.packets σ) (r.tally σ) (r.reports σ)
    streams Hp = subst (λ c. StreamStands so_far hp (start_of s.start) c (r.packets Hp) (r.tally Hp) (r.reports Hp)) (sym (costs_same s bytes p Hp w)) (h.streams Hp)
    streams Lp = subst (λ c. StreamStands so_far lp (start_of s.start) c (r.packets Lp) (r.tally Lp) (r.reports Lp)) (sym (costs_same s bytes p Lp w)) (h.streams Lp)

    framed : FrameStands s.mode frames (tps_cells s (bytes ++ p)) (symbols s (bytes ++ p))
    framed = subst (FrameStands s.mode frames (tps_cells s (bytes ++ p))) (sym (same s bytes p w))
        (frames_alike bits s.mode frames (tps_cells s bytes) (tps_cells s (bytes ++ p)) (symbols s bytes) (λ m l. stay s bytes p m l) h.frames)

    stands : StandsFor so_far (state new hp lp frames ended) (bytes ++ p) r
    stands = made one all so_far (state new hp lp frames ended) (bytes ++ p) r h.ended fed.had.taken fed.had.rest streams framed h.read h.bad

pub feeds_within : SameSymbols → TpsCellsStay → BitsOfCells → SameCosts → ByteOfBits → AllFinished → (old new : CostsState) (hp lp : StreamState) (frames : FrameReader) (ended : Bool) (bytes piece : List ℕ) (n : ℕ) (r : Reception) (out : Output) → new.settings ≡ old.settings
    → ((b : List ℕ) → HasHad old b → Fed new b piece n) → new.whole ≡ false → out ≡ record { hp = []; lp = []; events = [] } → StandsFor so_far (state old hp lp frames ended) bytes r → Feeds (StandsFor so_far (state new hp lp frames ended)) old.settings bytes piece r n out
feeds_within same stay bits costs_same one all old new hp lp frames ended bytes piece n r out kept fed part none h =
    subst (λ (z : Settings). Feeds (StandsFor so_far (state new hp lp frames ended)) z bytes piece r n out) kept
    (within same stay bits costs_same one all old new hp lp frames ended bytes piece n r out kept (fed bytes (record { taken = h.taken; rest = h.rest })) part none h)

-- ---- bytes that complete a symbol

-- the effect of a symbol's cells on the streams and the reader
pub record TakesSymbol (new : CostsState) (hp lp new_hp new_lp : StreamState) (frames new_frames : FrameReader) (hp_steps lp_steps : List ℕ) (out : Output) : Type 0 where
  pub hp_gave : (a : Option (List Bool)) (c : List CostPair) (given : List ℕ) (tally : Tally) (steps : List ℕ) → StreamStands so_far hp a c given tally steps → StreamGave so_far new_hp a (c ++ new.hp) given (steps ++ hp_steps) [] out.hp
  pub lp_gave : (a : Option (List Bool)) (c : List CostPair) (given : List ℕ) (tally : Tally) (steps : List ℕ) → StreamStands so_far lp a c given tally steps → StreamGave so_far new_lp a (c ++ new.lp) given (steps ++ lp_steps) [] out.lp
  pub events_are : out.events ≡ map (event_at Hp) hp_steps ++ map (event_at Lp) lp_steps
  pub framed : (shown : ℕ → List Cell) (n : ℕ) → shown n ≡ map (cell_of new.cells) (tps_carriers new.settings.mode) → FrameStands new.settings.mode frames shown n → FrameStands new.settings.mode new_frames shown (n + 1)

-- the laws that a whole symbol needs
pub record SymbolLaws : Type 0 where
  pub next : OneSymbolMore
  pub stay : TpsCellsStay
  pub bits : BitsOfCells
  pub events_next : NextEvents
  pub one : ByteOfBits
  pub all : AllFinished

whole : SymbolLaws → (old new : CostsState) (hp lp new_hp new_lp : StreamState) (frames new_frames : FrameReader) (bytes piece : List ℕ) (n : ℕ) (r : Reception) (out : Output) (hp_steps lp_steps : List ℕ)
    → new.settings ≡ old.settings → Fed new bytes piece n → new.whole ≡ true → TakesSymbol new hp lp new_hp new_lp frames new_frames hp_steps lp_steps out
    → StandsFor so_far (state old hp lp frames false) bytes r → Feeds (StandsFor so_far (state new new_hp new_lp new_frames false)) new.settings bytes piece r n out
whole laws old new hp lp new_hp new_lp frames new_frames bytes piece n r out hp_steps lp_steps kept fed all_of t before =
    record { after = after; count = fed.count; stands = stands; live = stands.receives; follows = record { packets = λ σ. refl; events_are = happened } }
  where
    s : Settings
    s = new.settings

    p : List ℕ
    p = take n piece

    e : Ends new bytes p
    e = fed.ends all_of

    h : StandsFor so_far (record (state old hp lp frames false) { settings = s }) bytes r
    h = subst (λ (z : Settings). StandsFor so_far (record (state old hp lp frames false) { settings = z }) bytes r) (sym kept) before

    hp_gave : StreamGave so_far new_hp (start_of s.start) (costs s (bytes ++ p) Hp) (r.packets Hp) (r.reports Hp ++ hp_steps) [] out.hp
    hp_gave = subst (λ z. StreamGave so_far new_hp (start_of s.start) z (r.packets Hp) (r.reports Hp ++ hp_steps) [] out.hp) (sym (e.costs_are Hp))
        (t.hp_gave (start_of s.start) (costs s bytes Hp) (r.packets Hp) (r.tally Hp) (r.reports Hp) (h.streams Hp))

    lp_gave : StreamGave so_far new_lp (start_of s.start) (costs s (bytes ++ p) Lp) (r.packets Lp) (r.reports Lp ++ lp_steps) [] out.lp
    lp_gave = subst (λ z. StreamGave so_far new_lp (start_of s.start) z (r.packets Lp) (r.reports Lp ++ lp_steps) [] out.lp) (sym (e.costs_are Lp))
        (t.lp_gave (start_of s.start) (costs s bytes Lp) (r.packets Lp) (r.tally Lp) (r.reports Lp) (h.streams Lp))

    after : Reception
    after = record {
      packets = λ σ. r.packets σ ++ packets_of out σ;
      reports = λ σ. r.reports σ ++ by_stream hp_steps lp_steps σ;
      tally = by_stream hp_gave.tally lp_gave.tally;
      read = new_frames.read;
      bad = new_frames.bad;
    }

    streams : (σ : Stream) → StreamStands so_far (stream_of (state new new_hp new_lp new_frames false) σ) (start_of s.start) (costs s (bytes ++ p) σ) (after.packets σ) (after.tally σ) (after.reports σ)
    streams Hp = subst (λ z. StreamStands so_far new_hp (start_of s.start) (costs s (bytes ++ p) Hp) (r.packets Hp ++ z) hp_gave.tally (r.reports Hp ++ hp_steps)) (sym hp_gave.is) hp_gave.stands
    streams Lp = subst (λ z. StreamStands so_far new_lp (start_of s.start) (costs s (bytes ++ p) Lp) (r.packets Lp ++ z) lp_gave.tally (r.reports Lp ++ lp_steps)) (sym lp_gave.is) lp_gave.stands

    framed : FrameStands s.mode new_frames (tps_cells s (bytes ++ p)) (symbols s (bytes ++ p))
    framed = subst (FrameStands s.mode new_frames (tps_cells s (bytes ++ p))) (sym (laws.next s bytes p e.ends).0)
        (t.framed (tps_cells s (bytes ++ p)) (symbols s bytes) e.tps_are
        (frames_alike laws.bits s.mode frames (tps_cells s bytes) (tps_cells s (bytes ++ p)) (symbols s bytes) (λ m l. laws.stay s bytes p m l) h.frames))

    stands : StandsFor so_far (state new new_hp new_lp new_frames false) (bytes ++ p) after
    stands = made laws.one laws.all so_far (state new new_hp new_lp new_frames false) (bytes ++ p) after refl fed.had.taken fed.had.rest streams framed refl refl

    reports : (σ : Stream) → Reports memory (start_of s.start) (costs s (bytes ++ p) σ) (r.reports σ ++ by_stream hp_steps lp_steps σ)
    reports Hp = hp_gave.stands.has_given.reports
    reports Lp = lp_gave.stands.has_given.reports

    happened : events s (symbols s (bytes ++ p)) after.reports ≡ events s (symbols s bytes) r.reports ++ out.events
    happened = ap (λ m. events s m after.reports) (laws.next s bytes p e.ends).0
        ∙ laws.events_next s bytes p r.reports (by_stream hp_steps lp_steps) e.ends (λ σ. (h.streams σ).has_given.reports) (λ σ. reports σ)
        ∙ ap (λ z. events s (symbols s bytes) r.reports ++ z) (sym t.events_are)

pub feeds_whole : SymbolLaws → (old new : CostsState) (hp lp new_hp new_lp : StreamState) (frames new_frames : FrameReader) (ended : Bool) (bytes piece : List ℕ) (n : ℕ) (r : Reception) (out : Output) (hp_steps lp_steps : List ℕ)
    → ended ≡ false → new.settings ≡ old.settings → ((b : List ℕ) → HasHad old b → Fed new b piece n) → new.whole ≡ true → TakesSymbol new hp lp new_hp new_lp frames new_frames hp_steps lp_steps out
    → StandsFor so_far (state old hp lp frames ended) bytes r → Feeds (StandsFor so_far (state new new_hp new_lp new_frames ended)) old.settings bytes piece r n out
feeds_whole laws old new hp lp new_hp new_lp frames new_frames ended bytes piece n r out hp_steps lp_steps going kept fed all_of t h =
    subst (λ (z : Settings). Feeds (StandsFor so_far (state new new_hp new_lp new_frames ended)) z bytes piece r n out) kept
    (subst (λ (b : Bool). Feeds (StandsFor so_far (state new new_hp new_lp new_frames b)) new.settings bytes piece r n out) (sym going)
    (whole laws old new hp lp new_hp new_lp frames new_frames bytes piece n r out hp_steps lp_steps kept (fed bytes (record { taken = h.taken; rest = h.rest })) all_of t
    (subst (λ (b : Bool). StandsFor so_far (state old hp lp frames b) bytes r) going h)))

-- ---- the end

pub finishes : ByteOfBits → AllFinished → (cells : CostsState) (hp lp new_hp new_lp : StreamState) (frames : FrameReader) (ended : Bool) (bytes : List ℕ) (r : Reception) (out : Output) → out.events ≡ []
    → ((a : Option (List Bool)) (c : List CostPair) (given : List ℕ) (tally : Tally) (steps : List ℕ) → StreamStands so_far hp a c given tally steps → StreamGave at_end new_hp a c given steps [] out.hp)
    → ((a : Option (List Bool)) (c : List CostPair) (given : List ℕ) (tally : Tally) (steps : List ℕ) → StreamStands so_far lp a c given tally steps → StreamGave at_end new_lp a c given steps [] out.lp)
    → StandsFor so_far (state cells hp lp frames ended) bytes r → Finishes (StandsFor at_end (state cells new_hp new_lp frames true)) cells.settings bytes r out
finishes one all cells hp lp new_hp new_lp frames ended bytes r out none hp_ends lp_ends h =
    record { after = after; ends = stands; final = stands.receives; packets = λ σ. refl; no_event = none }
  where
    s : Settings
    s = cells.settings

    hp_gave : StreamGave at_end new_hp (start_of s.start) (costs s bytes Hp) (r.packets Hp) (r.reports Hp) [] out.hp
    hp_gave = hp_ends (start_of s.start) (costs s bytes Hp) (r.packets Hp) (r.tally Hp) (r.reports Hp) (h.streams Hp)

    lp_gave : StreamGave at_end new_lp (start_of s.start) (costs s bytes Lp) (r.packets Lp) (r.reports Lp) [] out.lp
    lp_gave = lp_ends (start_of s.start) (costs s bytes Lp) (r.packets Lp) (r.tally Lp) (r.reports Lp) (h.streams Lp)

    after : Reception
    after = record { packets = λ σ. r.packets σ ++ packets_of out σ; reports = r.reports; tally = by_stream hp_gave.tally lp_gave.tally; read = r.read; bad = r.bad }

    streams : (σ : Stream) → StreamStands at_end (stream_of (state cells new_hp new_lp frames true) σ) (start_of s.start) (costs s bytes σ) (after.packets σ) (after.tally σ) (after.reports σ)
    streams Hp = subst (λ z. StreamStands at_end new_hp (start_of s.start) (costs s bytes Hp) (r.packets Hp ++ z) hp_gave.tally (r.reports Hp)) (sym hp_gave.is) hp_gave.stands
    streams Lp = subst (λ z. StreamStands at_end new_lp (start_of s.start) (costs s bytes Lp) (r.packets Lp ++ z) lp_gave.tally (r.reports Lp)) (sym lp_gave.is) lp_gave.stands

    stands : StandsFor at_end (state cells new_hp new_lp frames true) bytes after
    stands = made one all at_end (state cells new_hp new_lp frames true) bytes after refl h.taken h.rest streams h.frames h.read h.bad

-- ---- at the start

no_symbols : (m : Mode) → 0 / (5 * carriers m) ≡ 0
no_symbols M2k = refl
no_symbols M8k = refl

pub new_stands : NoCosts → NothingLive → (cells : CostsState) (hp lp : StreamState) (frames : FrameReader) (s : Settings) → cells.settings ≡ s → HasHad cells []
    → StreamStands so_far hp (start_of s.start) [] [] no_words [] → StreamStands so_far lp (start_of s.start) [] [] no_words [] → ((mode : Mode) (shown : ℕ → List Cell) → FrameStands mode frames shown 0) → frames.read ≡ 0 → frames.bad ≡ 0
    → StandsFor so_far (state cells hp lp frames false) [] nothing
new_stands costs_none live cells hp lp frames s kept had hp_stands lp_stands framed read bad = record {
  ended = refl;
  taken = had.taken;
  rest = had.rest;
  streams = streams;
  frames = subst (FrameStands cells.settings.mode frames (tps_cells cells.settings [])) (sym (no_symbols cells.settings.mode)) (framed cells.settings.mode (tps_cells cells.settings []));
  read = read;
  bad = bad;
  receives = live cells.settings;
}
  where
    first : (x : StreamState) (σ : Stream) → StreamStands so_far x (start_of s.start) [] [] no_words [] → StreamStands so_far x (start_of cells.settings.start) (costs cells.settings [] σ) [] no_words []
    first x σ h = subst (λ z. StreamStands so_far x (start_of cells.settings.start) z [] no_words []) (sym (costs_none cells.settings σ)) (subst (λ (z : Settings). StreamStands so_far x (start_of z.start) [] [] no_words []) (sym kept) h)

    streams : (σ : Stream) → StreamStands so_far (stream_of (state cells hp lp frames false) σ) (start_of cells.settings.start) (costs cells.settings [] σ) [] no_words []
    streams Hp = first hp Hp hp_stands
    streams Lp = first lp Lp lp_stands
