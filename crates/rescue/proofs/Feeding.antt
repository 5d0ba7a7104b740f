-- The state of a rescuing receiver when it is fed, and at its end.
use Rattle.std.proofs.Common.{◌≡◌, ℕ, Bool, true, false, List, [], ◌++◌, take, map, refl, sym, ap, ◌∙◌, subst, append-nil}
use Rattle.std.specs.Prelude.{Option}
use Rattle.code_paths.specs.declared.costs.CostPair.{CostPair}
use Rattle.code_paths.specs.Streams.{Reports}
use Rattle.mode_set.specs.declared.modes.Stream.{Stream}
use Rattle.mode_set.specs.declared.modes.Stream.TheVariants.{Hp, Lp}
use Rattle.mode_set.specs.declared.settings.Settings.{Settings}
use Rattle.outer_chain.specs.Bits.{ByteOfBits}
use Rattle.reception.specs.Cells.{symbols}
use Rattle.reception.specs.Costs.{costs}
use Rattle.reception.specs.Streams.{memory, start_of, Moment, so_far, at_end}
use Rattle.reception.specs.Lines.{event_at, events}
use Rattle.reception.specs.Feeds.{Output, packets_of}
use Rattle.reception.specs.Laws.{IsWithin, unfinished, SameSymbols, OneSymbolMore, SameCosts, NextEvents, NoCosts}
use Rattle.rescue_words.specs.Laws.{AllRescued}
use Rattle.rescue_words.specs.Rescued.{RescueTally}
use Rattle.rescue.specs.Known.{AreKnown}
use Rattle.rescue.specs.Streams.{Rescue, no_words, nothing}
use Rattle.rescue.specs.Feeds.{Feeds, Finishes}
use Rattle.inner_receiver.specs.Seen.{CostsState}
use Rattle.inner_receiver.specs.Fed.{HasHad, Ends, Fed}
use Rattle.rescue.specs.Seen.{StreamState, RescueState, stream_of}
use Rattle.rescue.specs.Standing.{is_end, StreamStands, StreamGave, StandsFor}
use Rattle.rescue.proofs.Rooms.{settled}
use Rattle.rescue.proofs.Giving.{rescued}

-- a receiver from its parts
abbrev pub state : CostsState → StreamState → StreamState → Bool → RescueState
state c hp lp ended = record { settings = c.settings; rest = c.rest; taken = c.taken; hp = hp; lp = lp; ended = ended }

abbrev pub by_stream : {A : Type 0} → A → A → Stream → A
by_stream hp lp Hp = hp
by_stream hp lp Lp = lp

-- the margins of a stream are the known ones
known : (moment : Moment) (x : StreamState) (a : Option (List Bool)) (c : List CostPair) (given : List ℕ) (tally : RescueTally) (steps : List ℕ) → (h : StreamStands moment x a c given tally steps) → AreKnown moment a c h.ms
known so_far x a c given tally steps h = settled x.margins a c h.ms h.known.0 h.known.1 h.known.2
known at_end x a c given tally steps h = h.known

-- the states of both streams make a rescue
made : ByteOfBits → AllRescued → (moment : Moment) (x : RescueState) (bytes : List ℕ) (r : Rescue) → x.ended ≡ is_end moment → x.taken ≡ symbols x.settings bytes → x.rest ≡ unfinished x.settings bytes
    → ((σ : Stream) → StreamStands moment (stream_of x σ) (start_of x.settings.start) (costs x.settings bytes σ) (r.packets σ) (r.tally σ) (r.reports σ)) → StandsFor moment x bytes r
made one all moment x bytes r ended count rest streams = record {
  ended = ended;
  taken = count;
  rest = rest;
  streams = streams;
  rescues = record {
    bits = λ σ. (streams σ).bits;
    decoded = λ σ. (streams σ).has_given.decoded;
    margins = λ σ. (streams σ).ms;
    known = λ σ. known moment (stream_of x σ) _ _ _ _ _ (streams σ);
    rescues = λ σ. rescued one all moment (stream_of x σ) _ _ _ _ _ (streams σ);
    reports = λ σ. (streams σ).has_given.reports;
  };
}

-- ---- bytes within a symbol

within : SameSymbols → SameCosts → ByteOfBits → AllRescued → (old new : CostsState) (hp lp : StreamState) (ended : Bool) (bytes piece : List ℕ) (n : ℕ) (r : Rescue) (out : Output) → new.settings ≡ old.settings
    → Fed new bytes piece n → new.whole ≡ false → out ≡ record { hp = []; lp = []; events = [] } → StandsFor so_far (state old hp lp ended) bytes r → Feeds (StandsFor so_far (state new hp lp ended)) new.settings bytes piece r n out
within same costs_same one all old new hp lp ended bytes piece n r out kept fed part none before =
    record {
      after = r;
      count = fed.count;
      stands = stands;
      live = stands.rescues;
      follows = record {
        packets = λ σ. sym (append-nil (r.packets σ)) ∙ ap (λ z. r.packets σ ++ z) (sym (nothing_out σ));
        events_are = ap (λ k. events s k r.reports) (same s bytes p w) ∙ sym (append-nil _) ∙ ap (λ z. events s (symbols s bytes) r.reports ++ z) (sym (ap (λ (o : Output). o.events) none));
      };
    }
  where
    s : Settings
    s = new.settings

    p : List ℕ
    p = take n piece

    w : IsWithin s bytes p
    w = fed.within part

    h : StandsFor so_far (record (state old hp lp ended) { settings = s }) bytes r
    h = subst (λ (z : Settings). StandsFor so_far (record (state old hp lp ended) { settings = z }) bytes r) (sym kept) before

    nothing_out : (σ : Stream) → packets_of out σ ≡ []
    nothing_out Hp = ap (λ (o : Output). o.hp) none
    nothing_out Lp = ap (λ (o : Output). o.lp) none

    streams : (σ : Stream) → StreamStands so_far (stream_of (state new hp lp ended) σ) (start_of s.start) (costs s (bytes ++ p) σ) (r.packets σ) (r.tally σ) (r.reports σ)
    streams Hp = subst (λ c. StreamStands so_far hp (start_of s.start) c (r.packets Hp) (r.tally Hp) (r.reports Hp)) (sym (costs_same s bytes p Hp w)) (h.streams Hp)
    streams Lp = subst (λ c. StreamStands so_far lp (start_of s.start) c (r.packets Lp) (r.tally Lp) (r.reports Lp)) (sym (costs_same s bytes p Lp w)) (h.streams Lp)

    stands : StandsFor so_far (state new hp lp ended) (bytes ++ p) r
    stands = made one all so_far (state new hp lp ended) (bytes ++ p) r h.ended fed.had.taken fed.had.rest streams

pub feeds_within : SameSymbols → SameCosts → ByteOfBits → AllRescued → (old new : CostsState) (hp lp : StreamState) (ended : Bool) (bytes piece : List ℕ) (n : ℕ) (r : Rescue) (out : Output) → new.settings ≡ old.settings
    → ((b : List ℕ) → HasHad old b → Fed new b piece n) → new.whole ≡ false → out ≡ record { hp = []; lp = []; events = [] } → StandsFor so_far (state old hp lp ended) bytes r → Feeds (StandsFor so_far (state new hp lp ended)) old.settings bytes piece r n out
feeds_within same costs_same one all old new hp lp ended bytes piece n r out kept fed part none h =
    subst (λ (z : Settings). Feeds (StandsFor so_far (state new hp lp ended)) z bytes piece r n out) kept
    (within same costs_same one all old new hp lp ended bytes piece n r out kept (fed bytes (record { taken = h.taken; rest = h.rest })) part none h)

-- ---- bytes that complete a symbol

-- the effect of a symbol's costs on the streams
pub record TakesSymbol (new : CostsState) (hp lp new_hp new_lp : StreamState) (hp_steps lp_steps : List ℕ) (out : Output) : Type 0 where
  pub hp_gave : (a : Option (List Bool)) (c : List CostPair) (given : List ℕ) (tally : RescueTally) (steps : List ℕ) → StreamStands so_far hp a c given tally steps → StreamGave so_far new_hp a (c ++ new.hp) given (steps ++ hp_steps) [] out.hp
  pub lp_gave : (a : Option (List Bool)) (c : List CostPair) (given : List ℕ) (tally : RescueTally) (steps : List ℕ) → StreamStands so_far lp a c given tally steps → StreamGave so_far new_lp a (c ++ new.lp) given (steps ++ lp_steps) [] out.lp
  pub events_are : out.events ≡ map (event_at Hp) hp_steps ++ map (event_at Lp) lp_steps

-- the laws that a whole symbol needs
pub record SymbolLaws : Type 0 where
  pub next : OneSymbolMore
  pub events_next : NextEvents
  pub one : ByteOfBits
  pub all : AllRescued

whole : SymbolLaws → (old new : CostsState) (hp lp new_hp new_lp : StreamState) (bytes piece : List ℕ) (n : ℕ) (r : Rescue) (out : Output) (hp_steps lp_steps : List ℕ)
    → new.settings ≡ old.settings → Fed new bytes piece n → new.whole ≡ true → TakesSymbol new hp lp new_hp new_lp hp_steps lp_steps out
    → StandsFor so_far (state old hp lp false) bytes r → Feeds (StandsFor so_far (state new new_hp new_lp false)) new.settings bytes piece r n out
whole laws old new hp lp new_hp new_lp bytes piece n r out hp_steps lp_steps kept fed all_of t before =
    record { after = after; count = fed.count; stands = stands; live = stands.rescues; follows = record { packets = λ σ. refl; events_are = happened } }
  where
    s : Settings
    s = new.settings

    p : List ℕ
    p = take n piece

    e : Ends new bytes p
    e = fed.ends all_of

    h : StandsFor so_far (record (state old hp lp false) { settings = s }) bytes r
    h = subst (λ (z : Settings). StandsFor so_far (record (state old hp lp false) { settings = z }) bytes r) (sym kept) before

    hp_gave : StreamGave so_far new_hp (start_of s.start) (costs s (bytes ++ p) Hp) (r.packets Hp) (r.reports Hp ++ hp_steps) [] out.hp
    hp_gave = subst (λ z. StreamGave so_far new_hp (start_of s.start) z (r.packets Hp) (r.reports Hp ++ hp_steps) [] out.hp) (sym (e.costs_are Hp))
        (t.hp_gave (start_of s.start) (costs s bytes Hp) (r.packets Hp) (r.tally Hp) (r.reports Hp) (h.streams Hp))

    lp_gave : StreamGave so_far new_lp (start_of s.start) (costs s (bytes ++ p) Lp) (r.packets Lp) (r.reports Lp ++ lp_steps) [] out.lp
    lp_gave = subst (λ z. StreamGave so_far new_lp (start_of s.start) z (r.packets Lp) (r.reports Lp ++ lp_steps) [] out.lp) (sym (e.costs_are Lp))
        (t.lp_gave (start_of s.start) (costs s bytes Lp) (r.packets Lp) (r.tally Lp) (r.reports Lp) (h.streams Lp))

    after : Rescue
    after = record {
      packets = λ σ. r.packets σ ++ packets_of out σ;
      reports = λ σ. r.reports σ ++ by_stream hp_steps lp_steps σ;
      tally = by_stream hp_gave.tally lp_gave.tally;
    }

    streams : (σ : Stream) → StreamStands so_far (stream_of (state new new_hp new_lp false) σ) (start_of s.start) (costs s (bytes ++ p) σ) (after.packets σ) (after.tally σ) (after.reports σ)
    streams Hp = subst (λ z. StreamStands so_far new_hp (start_of s.start) (costs s (bytes ++ p) Hp) (r.packets Hp ++ z) hp_gave.tally (r.reports Hp ++ hp_steps)) (sym hp_gave.is) hp_gave.stands
    streams Lp = subst (λ z. StreamStands so_far new_lp (start_of s.start) (costs s (bytes ++ p) Lp) (r.packets Lp ++ z) lp_gave.tally (r.reports Lp ++ lp_steps)) (sym lp_gave.is) lp_gave.stands

    stands : StandsFor so_far (state new new_hp new_lp false) (bytes ++ p) after
    stands = made laws.one laws.all so_far (state new new_hp new_lp false) (bytes ++ p) after refl fed.had.taken fed.had.rest streams

    reports : (σ : Stream) → Reports memory (start_of s.start) (costs s (bytes ++ p) σ) (r.reports σ ++ by_stream hp_steps lp_steps σ)
    reports Hp = hp_gave.stands.has_given.reports
    reports Lp = lp_gave.stands.has_given.reports

    happened : events s (symbols s (bytes ++ p)) after.reports ≡ events s (symbols s bytes) r.reports ++ out.events
    happened = ap (λ m. events s m after.reports) (laws.next s bytes p e.ends).0
        ∙ laws.events_next s bytes p r.reports (by_stream hp_steps lp_steps) e.ends (λ σ. (h.streams σ).has_given.reports) (λ σ. reports σ)
        ∙ ap (λ z. events s (symbols s bytes) r.reports ++ z) (sym t.events_are)

pub feeds_whole : SymbolLaws → (old new : CostsState) (hp lp new_hp new_lp : StreamState) (ended : Bool) (bytes piece : List ℕ) (n : ℕ) (r : Rescue) (out : Output) (hp_steps lp_steps : List ℕ)
    → ended ≡ false → new.settings ≡ old.settings → ((b : List ℕ) → HasHad old b → Fed new b piece n) → new.whole ≡ true → TakesSymbol new hp lp new_hp new_lp hp_steps lp_steps out
    → StandsFor so_far (state old hp lp ended) bytes r → Feeds (StandsFor so_far (state new new_hp new_lp ended)) old.settings bytes piece r n out
feeds_whole laws old new hp lp new_hp new_lp ended bytes piece n r out hp_steps lp_steps going kept fed all_of t h =
    subst (λ (z : Settings). Feeds (StandsFor so_far (state new new_hp new_lp ended)) z bytes piece r n out) kept
    (subst (λ (b : Bool). Feeds (StandsFor so_far (state new new_hp new_lp b)) new.settings bytes piece r n out) (sym going)
    (whole laws old new hp lp new_hp new_lp bytes piece n r out hp_steps lp_steps kept (fed bytes (record { taken = h.taken; rest = h.rest })) all_of t
    (subst (λ (b : Bool). StandsFor so_far (state old hp lp b) bytes r) going h)))

-- ---- the end

pub finishes : ByteOfBits → AllRescued → (cells : CostsState) (hp lp new_hp new_lp : StreamState) (ended : Bool) (bytes : List ℕ) (r : Rescue) (out : Output) → out.events ≡ []
    → ((a : Option (List Bool)) (c : List CostPair) (given : List ℕ) (tally : RescueTally) (steps : List ℕ) → StreamStands so_far hp a c given tally steps → StreamGave at_end new_hp a c given steps [] out.hp)
    → ((a : Option (List Bool)) (c : List CostPair) (given : List ℕ) (tally : RescueTally) (steps : List ℕ) → StreamStands so_far lp a c given tally steps → StreamGave at_end new_lp a c given steps [] out.lp)
    → StandsFor so_far (state cells hp lp ended) bytes r → Finishes (StandsFor at_end (state cells new_hp new_lp true)) cells.settings bytes r out
finishes one all cells hp lp new_hp new_lp ended bytes r out none hp_ends lp_ends h =
    record { after = after; ends = stands; final = stands.rescues; packets = λ σ. refl; no_event = none }
  where
    s : Settings
    s = cells.settings

    hp_gave : StreamGave at_end new_hp (start_of s.start) (costs s bytes Hp) (r.packets Hp) (r.reports Hp) [] out.hp
    hp_gave = hp_ends (start_of s.start) (costs s bytes Hp) (r.packets Hp) (r.tally Hp) (r.reports Hp) (h.streams Hp)

    lp_gave : StreamGave at_end new_lp (start_of s.start) (costs s bytes Lp) (r.packets Lp) (r.reports Lp) [] out.lp
    lp_gave = lp_ends (start_of s.start) (costs s bytes Lp) (r.packets Lp) (r.tally Lp) (r.reports Lp) (h.streams Lp)

    after : Rescue
    after = record { packets = λ σ. r.packets σ ++ packets_of out σ; reports = r.reports; tally = by_stream hp_gave.tally lp_gave.tally }

    streams : (σ : Stream) → StreamStands at_end (stream_of (state cells new_hp new_lp true) σ) (start_of s.start) (costs s bytes σ) (after.packets σ) (after.tally σ) (after.reports σ)
    streams Hp = subst (λ z. StreamStands at_end new_hp (start_of s.start) (costs s bytes Hp) (r.packets Hp ++ z) hp_gave.tally (r.reports Hp)) (sym hp_gave.is) hp_gave.stands
    streams Lp = subst (λ z. StreamStands at_end new_lp (start_of s.start) (costs s bytes Lp) (r.packets Lp ++ z) lp_gave.tally (r.reports Lp)) (sym lp_gave.is) lp_gave.stands

    stands : StandsFor at_end (state cells new_hp new_lp true) bytes after
    stands = made one all at_end (state cells new_hp new_lp true) bytes after refl h.taken h.rest streams

-- ---- at the start

pub new_stands : NoCosts → ByteOfBits → AllRescued → (cells : CostsState) (hp lp : StreamState) (s : Settings) → cells.settings ≡ s → HasHad cells []
    → StreamStands so_far hp (start_of s.start) [] [] no_words [] → StreamStands so_far lp (start_of s.start) [] [] no_words [] → StandsFor so_far (state cells hp lp false) [] nothing
new_stands costs_none one all cells hp lp s kept had hp_stands lp_stands = made one all so_far (state cells hp lp false) [] nothing refl had.taken had.rest streams
  where
    first : (x : StreamState) (σ : Stream) → StreamStands so_far x (start_of s.start) [] [] no_words [] → StreamStands so_far x (start_of cells.settings.start) (costs cells.settings [] σ) [] no_words []
    first x σ h = subst (λ z. StreamStands so_far x (start_of cells.settings.start) z [] no_words []) (sym (costs_none cells.settings σ)) (subst (λ (z : Settings). StreamStands so_far x (start_of z.start) [] [] no_words []) (sym kept) h)

    streams : (σ : Stream) → StreamStands so_far (stream_of (state cells hp lp false) σ) (start_of cells.settings.start) (costs cells.settings [] σ) [] no_words []
    streams Hp = first hp Hp hp_stands
    streams Lp = first lp Lp lp_stands
