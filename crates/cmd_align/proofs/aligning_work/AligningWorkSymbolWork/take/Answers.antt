use Rattle.std.proofs.Common.{ℕ, ◌*◌, List, ◌++◌, Some, None, refl, ap, arith}
use Rattle.station_core.specs.Meaning.{Meaning}
use Rattle.mode_set.specs.declared.settings.Settings.{Settings}
use Rattle.cmd_base.specs.declared.refusal.Refusal.{Refusal}
use Rattle.tune_in.specs.declared.frame.Found.{Found}
use Rattle.tune_search.specs.Searching.{IsAtPlace, IsSearching}
use Rattle.tune_search.proofs.Bytes.{rest_fewer}
use Rattle.cmd_align.specs.Working.{FirstGive, GivesAt, IsCopying, RefusesAligning}
use Rattle.cmd_align.proofs.Calls.{does_as, does_nothing}
use Rattle.cmd_align.proofs.Copied.{placed}
use Rattle.cmd_align.proofs.Places.{begins_copying, searching_stands, stands_copying, stands_searching}
use Rattle.cmd_align.proofs.aligning_work.AligningWorkSymbolWork.take.Goals as goal

pub take-requires : goal.take-requires
take-requires g c κs =
    let s : Settings = c.args.self.now.settings in
    let go = c.requires.going in
    let st = stands_copying (λ s. IsSearching s c.args.self.now.search.tuner c.args.self.now.search.symbol) s go.bytes go.given c.args.self.now.copying c.in-Some.copying c.in-Some.is go.stands.1 in
    let fewer = rest_fewer s st.0 go.bytes in
    ((refl, tt), (c.requires.open, omega (arith, st.2.copied, fewer, go.few)))

pub returns-in-Some-clause-takes : goal.returns-in-Some-clause-takes
returns-in-Some-clause-takes g c = λ bytes before stood gives whole fits.
    let m : Meaning = g.S.Station.meaning c.args.station.now in
    let m' : Meaning = g.S.Station.meaning c.take.new.station in
    let s : Settings = c.args.self.now.settings in
    let piece : List ℕ = c.args.piece.now in
    let st = stands_copying (λ s. IsSearching s c.args.self.now.search.tuner c.args.self.now.search.symbol) s bytes before c.args.self.now.copying c.in-Some.copying c.in-Some.is stood.1 in
    let found : Found = st.0 in
    let is_in = c.more_bytes.ensures.stays s bytes piece found st.1 in
    does_as (λ after. IsCopying s found (bytes ++ piece) c.take.new.self) _ (GivesAt s (bytes ++ piece) (Some found)) (FirstGive s (bytes ++ piece)) (λ (r : Refusal). ⊥) (λ (r : Refusal). (left : List ℕ) → RefusesAligning s (bytes ++ piece) left before r) before m m' c.take.result
    (λ after copies gave. (stood.0, (found, is_in, copies, gave))) (λ after gave. (Some found, is_in, gave)) (λ r no. absurd no)
    (c.take.ensures.takes s found bytes before (ap (λ (n : ℕ). 5 * n) c.carriers.ensures) st.2 st.3 whole (omega (arith, fits, c.carriers.ensures)))

pub take-requires-2 : goal.take-requires-2
take-requires-2 g c =
    let s : Settings = c.args.self.now.settings in
    let go = c.requires.going in
    let st = stands_searching (λ s. IsSearching s c.args.self.now.search.tuner c.args.self.now.search.symbol) s go.bytes go.given c.args.self.now.copying c.in_default.is go.stands.1 in
    record { going = (s, go.bytes, go.stands.0, st.0, go.few) }

pub returns-in-Some-take-clause-takes : goal.returns-in-Some-take-clause-takes
returns-in-Some-take-clause-takes g c = λ bytes before stood gives whole fits.
    let m : Meaning = g.S.Station.meaning c.args.station.now in
    let m' : Meaning = g.S.Station.meaning c.write_found.new.station in
    let s : Settings = c.args.self.now.settings in
    let piece : List ℕ = c.args.piece.now in
    let found : Found = c.in-Some-take.found in
    let st = stands_searching (λ s. IsSearching s c.args.self.now.search.tuner c.args.self.now.search.symbol) s bytes before c.args.self.now.copying c.in_default.is stood.1 in
    let at : IsAtPlace s (bytes ++ piece) found = c.in-Some-take.ensures.takes s bytes stood.0 st.0 whole fits in
    let e = c.copying_from.ensures in
    placed _ (FirstGive s (bytes ++ piece)) (λ (r : Refusal). (left : List ℕ) → RefusesAligning s (bytes ++ piece) left before r) s bytes (bytes ++ piece) found before m m' c.write_found.result at st.2
    (stood.0, (found, at.found_in, begins_copying s (bytes ++ piece) found c.copying_from.result at e.skip e.symbols e.tail, (λ port. refl))) (Some found, at.found_in, (λ port. refl)) c.write_found.ensures.others c.write_found.ensures.kind c.write_found.ensures.written

pub returns-in-None-clause-takes : goal.returns-in-None-clause-takes
returns-in-None-clause-takes g c = λ bytes before stood gives whole fits.
    let m : Meaning = g.S.Station.meaning c.args.station.now in
    let s : Settings = c.args.self.now.settings in
    let piece : List ℕ = c.args.piece.now in
    let st = stands_searching (λ s. IsSearching s c.args.self.now.search.tuner c.args.self.now.search.symbol) s bytes before c.args.self.now.copying c.in_default.is stood.1 in
    let now = c.in-None.ensures.takes s bytes stood.0 st.0 whole fits in
    does_nothing _ (FirstGive s (bytes ++ piece)) (λ (r : Refusal). Unit {0}) before m
    (stood.0, searching_stands (λ s. IsSearching s c.take-2.new.self.tuner c.take-2.new.self.symbol) s (bytes ++ piece) before c.args.self.now.copying c.in_default.is now.0 now.1 st.2) (None, now.1, st.2)
