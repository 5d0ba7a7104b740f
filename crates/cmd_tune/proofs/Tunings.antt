-- The calls of the work: before a place, at it and after it.
use Rattle.std.proofs.Common.{◌≡◌, ℕ, ◌<◌, ◌≤◌, Bool, true, List, [], ◌++◌, ◌⊎◌, inl, inr, Option, Some, None, Result, Ok, Err, refl, ◌∙◌, sym, ap, subst, arith}
use Rattle.std.specs.Prelude.{flat_map}
use Rattle.std.proofs.lemmas.Bool.{cases_lt}
use Rattle.std.proofs.lemmas.List.{append-nil}
use Rattle.station_core.specs.Meaning.{Meaning, sink_at}
use Rattle.station_core.specs.declared.ports.OutPort.{OutPort}
use Rattle.mode_set.specs.declared.settings.Settings.{Settings}
use Rattle.rx_report.specs.Text.{event_line}
use Rattle.reception.specs.Cells.{symbols}
use Rattle.reception.specs.Lines.{events}
use Rattle.reception.specs.Streams.{Reception}
use Rattle.reception.specs.Laws.{BitsOfCells, IsWithin, NoEvents, NothingLive, SameCosts, SameSymbols, TpsCellsStay, nothing}
use Rattle.cmd_base.specs.declared.refusal.Refusal.TheVariants as refusals
use Rattle.cmd_base.specs.declared.refusal.CellsRefusal.TheVariants.{Header, NoPlace, AnnouncedForm}
use Rattle.cmd_cells.specs.declared.run_error.RunError.{RunError}
use Rattle.cmd_cells.specs.declared.run_error.RunError.TheVariants as stops
use Rattle.cmd_cells.specs.Work.{Does, Written}
use Rattle.cmd_receive.specs.Working.{FinalGives, LiveGives, ReceiverStands, live_at, written_at}
use Rattle.cmd_receive.proofs.Commands.{nothing_written}
use Rattle.cmd_receive.proofs.Parts.{part_live}
use Rattle.tune_in.specs.Announced.{IsAnnounced}
use Rattle.tune_in.specs.OfBytes.{FoundStaysInBytes, IsFoundIn, rest}
use Rattle.tune_in.specs.Places.{begin}
use Rattle.tune_in.specs.declared.frame.Found.{Found}
use Rattle.tune_search.specs.Searching.{IsAtPlace}
use Rattle.tune_search.proofs.Bytes.{more_rest, no_rest, no_rest_whole, rest_tail, same_length, same_tail}
use Rattle.tune_search.proofs.Held.{none_more}
use Rattle.cmd_tune.specs.Tuned.{GivesFinal, GivesLive, IsNothing, at_place, fits}
use Rattle.cmd_tune.specs.Working.{BeginsBehind, HasSome, IsBehindPlace, RefusesTuning, Tunes}

-- ---- bytes that end no symbol

-- a reception gives no more of them
part_gives : SameSymbols → SameCosts → TpsCellsStay → BitsOfCells → (a : Settings) (two : Bool) (bytes more : List ℕ) (given : Written) → IsWithin a bytes more → LiveGives a two bytes given → LiveGives a two (bytes ++ more) given
part_gives same costs tps bits a two bytes more given within is = (
  is.0,
  part_live same costs tps bits a bytes more is.0 within is.1,
  (λ port. is.2 port ∙ ap (λ (q : ℕ). written_at two is.0.packets (flat_map event_line (events a q is.0.reports)) port) (sym (same a bytes more within))),
)

pub part : SameSymbols → SameCosts → TpsCellsStay → BitsOfCells → FoundStaysInBytes → (s : Settings) (two : Bool) (bytes more : List ℕ) (given : Written) → IsWithin s bytes more → GivesLive s two bytes given → GivesLive s two (bytes ++ more) given
part same costs tps bits stays s two bytes more given within (inl p) = inl (none_more same tps s bytes more within p.0, p.1)
part same costs tps bits stays s two bytes more given within (inr (found, is_in, t)) =
    inr (found, stays s bytes more found is_in, record { fits_form = t.fits_form; announced = t.announced; is_announced = t.is_announced; behind = t.behind; received = received (cases_lt (symbols s bytes) (begin found)); is = t.is })
  where
    a : Settings
    a = t.announced

    received : (symbols s bytes < begin found) ⊎ (begin found ≤ symbols s bytes) → LiveGives t.announced two (rest s (bytes ++ more) found) t.behind
    received (inl before) =
        let none = no_rest s found bytes (omega (arith, before)) in
        let still = no_rest s found (bytes ++ more) (let e = same s bytes more within in omega (arith, before, e)) in
        subst (λ (l : List ℕ). LiveGives t.announced two l t.behind) (none ∙ sym still) t.received
    received (inr begun) =
        let at : rest s (bytes ++ more) found ≡ rest s bytes found ++ more = more_rest s found bytes more begun in
        let within' : IsWithin t.announced (rest s bytes found) more = (
        let e = same_tail t.announced s (rest s bytes found) t.is_announced.mode_is in
        let f = rest_tail s found bytes begun in
        let g = same_length t.announced s t.is_announced.mode_is in
        omega (arith, within, e, f, g)) in
        subst (λ (l : List ℕ). LiveGives t.announced two l t.behind) (sym at) (part_gives same costs tps bits t.announced two (rest s bytes found) more t.behind within' t.received)

-- ---- after a place

pub behind_gives : (a s : Settings) (two two' : Bool) (found : Found) (bytes : List ℕ) (after : Written) → two' ≡ two → fits two found ≡ true → IsAnnounced found.word s a → IsFoundIn s bytes found → LiveGives a two' (rest s bytes found) after
    → GivesLive s two bytes (λ port. at_place found port ++ after port)
behind_gives a s two two' found bytes after same fit announced is_in gives =
    inr (found, is_in, record { fits_form = fit; announced = a; is_announced = announced; behind = after; received = subst (λ (b : Bool). LiveGives a b (rest s bytes found) after) same gives; is = λ port. refl })

pub behind_ends : (a s : Settings) (two two' : Bool) (found : Found) (bytes : List ℕ) (after : Written) → two' ≡ two → fits two found ≡ true → IsAnnounced found.word s a → IsFoundIn s bytes found → FinalGives a two' (rest s bytes found) after
    → GivesFinal s two bytes (λ port. at_place found port ++ after port)
behind_ends a s two two' found bytes after same fit announced is_in gives =
    (found, is_in, record { fits_form = fit; announced = a; is_announced = announced; behind = after; received = subst (λ (b : Bool). FinalGives a b (rest s bytes found) after) same gives; is = λ port. refl })

-- ---- at a place

module _ (no_events : NoEvents) (nothing_live : NothingLive) (s : Settings) (two : Bool) (bytes : List ℕ) (found : Found) (at : IsAtPlace s bytes found) where
  -- the place is before the next super-frame
  before_begin : symbols s bytes ≤ begin found
  before_begin = let v = at.valid in omega (arith, at.last, v.last, v.first)

  none_behind : rest s bytes found ≡ []
  none_behind = no_rest_whole s found bytes at.whole before_begin

  abbrev none : Written
  none port = []

  nothing_given : (a : Settings) (b : Bool) → (port : OutPort) → [] ≡ live_at a b [] nothing port
  nothing_given a b port = sym (nothing_written no_events nothing.packets nothing.reports (λ σ. refl) a b port)

  -- a reception that begins there stands for the bytes after the place, of which there are none
  begins : (a : Settings) (standing : List ℕ → Reception → Type 0) (skip : ℕ) (its_two : Bool) → BeginsBehind a (standing [] nothing) s skip its_two two found
      → IsBehindPlace a its_two skip (ReceiverStands standing a its_two) s two found bytes none
  begins a standing skip its_two b = record {
    is_announced = b.is_announced;
    two_is = b.two_is;
    is_behind = record {
      counts = inl (omega (arith, b.skips, at.last));
      stands = subst (λ (l : List ℕ). ReceiverStands standing a its_two l none) (sym none_behind) (nothing, b.stands, nothing_live a, nothing_given a its_two);
      gives = live;
    };
  }
    where
      live : LiveGives a its_two (rest s bytes found) none
      live = subst (λ (l : List ℕ). LiveGives a its_two l none) (sym none_behind) (nothing, nothing_live a, nothing_given a its_two)

  at_place_gives : (a : Settings) → IsAnnounced found.word s a → fits two found ≡ true → GivesLive s two bytes (at_place found)
  at_place_gives a announced fit =
      inr (
        found,
        at.found_in,
        record {
          fits_form = fit;
          announced = a;
          is_announced = announced;
          behind = none;
          received = subst (λ (l : List ℕ). LiveGives a two l none) (sym none_behind) (nothing, nothing_live a, nothing_given a two);
          is = λ port. sym (append-nil (at_place found port));
        },
      )

  -- what is done at the place, as a call of the work
  pub tuned : {B : Type 0} (announced_by : B → Settings) (standing : B → List ℕ → Reception → Type 0) (skip_of : B → ℕ) (two_of : B → Bool) (behind : Option B) (Stands : Written → Type 0) (given : Written) (m m' : Meaning) (result : Result (Unit {0}) RunError)
      → IsNothing given
      → ((b : B) → behind ≡ Some b → fits two found ≡ true → IsBehindPlace (announced_by b) (two_of b) (skip_of b) (ReceiverStands (standing b) (announced_by b) (two_of b)) s two found bytes none → Stands (at_place found))
      → Tunes found two (HasSome (λ b. BeginsBehind (announced_by b) (standing b [] nothing) s (skip_of b) (two_of b) two found) behind) m m' result
      → Does Stands (GivesLive s two bytes) (λ r. (left : List ℕ) → RefusesTuning s two bytes left given r) given m m' result
  tuned {B} announced_by standing skip_of two_of behind Stands given m m' result empty stands tunes = go result tunes
    where
      begun : (o : Option B) → behind ≡ o → HasSome (λ b. BeginsBehind (announced_by b) (standing b [] nothing) s (skip_of b) (two_of b) two found) o → fits two found ≡ true → Stands (at_place found) × GivesLive s two bytes (at_place found)
      begun None is h fit = absurd h
      begun (Some b) is h fit = (stands b is fit (begins (announced_by b) (standing b) (skip_of b) (two_of b) h), at_place_gives (announced_by b) h.is_announced fit)

      follows : (port : OutPort) → at_place found port ≡ given port ++ at_place found port
      follows port = ap (λ (l : List ℕ). l ++ at_place found port) (sym (empty port))

      same : m' ≡ m → m.tells ≡ true → (port : OutPort) → (sink_at port m').written ≡ (sink_at port m).written
      same e t port = ap (λ (x : Meaning). (sink_at port x).written) e

      go : (result : Result (Unit {0}) RunError) → Tunes found two (HasSome (λ b. BeginsBehind (announced_by b) (standing b [] nothing) s (skip_of b) (two_of b) two found) behind) m m' result
          → Does Stands (GivesLive s two bytes) (λ r. (left : List ℕ) → RefusesTuning s two bytes left given r) given m m' result
      go (Ok u) t = record { after = at_place found; more = at_place found; is = begun behind refl t.1 t.0; follows = follows; written = t.2 }
      go (Err stops.WriteFault) t = record { after = at_place found; more = at_place found; is = (begun behind refl t.1 t.0).1; follows = follows; written = t.2 }
      go (Err (stops.Work (refusals.Cells AnnouncedForm))) t = ((λ left. (found, at.found_in, t.0, empty)), same t.1)
      go (Err (stops.Work refusals.Memory)) t = ((λ left. (found, at.found_in, t.0, empty)), same t.1)
      go (Err stops.ReadFault) t = absurd t
      go (Err stops.Limit) t = absurd t
      go (Err (stops.Work refusals.Usage)) t = absurd t
      go (Err (stops.Work (refusals.Settings reason))) t = absurd t
      go (Err (stops.Work refusals.ReadFault)) t = absurd t
      go (Err (stops.Work refusals.WriteFault)) t = absurd t
      go (Err (stops.Work (refusals.NotSync stream n))) t = absurd t
      go (Err (stops.Work (refusals.Limit n))) t = absurd t
      go (Err (stops.Work (refusals.Cells Header))) t = absurd t
      go (Err (stops.Work (refusals.Cells NoPlace))) t = absurd t
