use Rattle.std.proofs.Common.{◌≡◌, ◌<◌, ◌≤◌, ◌++◌, ℕ, List, length, Ok, Err, inl, inr, sym, ◌∙◌, ap, subst, arith}
use Rattle.std.proofs.lemmas.Bool.{cases_lt, true≢false}
use Rattle.mode_set.specs.declared.settings.Settings.{Settings}
use Rattle.station_core.specs.Meaning.{Meaning}
use Rattle.cmd_cells.specs.declared.run_error.RunError.{RunError}
use Rattle.cmd_base.proofs.HandedOn.{handed_on}
use Rattle.tracking.specs.Tracking.{tracked_bytes}
use Rattle.cmd_track.specs.Working.{Appends, symbols_from}
use Rattle.cmd_track.proofs.Calls.{at_cells_only, cells_again, cells_append}
use Rattle.cmd_track.proofs.Left.{AreWritten, all_written, count_of, one_written, some_written}
use Rattle.cmd_track.proofs.rest.write_rest.Goals as goal

pub returns-in_err-write_some-clause-written : goal.returns-in_err-write_some-clause-written
returns-in_err-write_some-clause-written g c = λ t all h.
    let m : Meaning = g.S.Station.meaning c.args.station.now in
    let m' : Meaning = g.S.Station.meaning c.loop-room.station in
    let m'' : Meaning = g.S.Station.meaning c.write_some.new.station in
    let inv = c.loop-room.invariant in
    let w = inv.written t all h in
    let s : Settings = c.args.tracker.now.settings in
    let first : ℕ = c.args.tracker.now.given in
    let given : ℕ = c.loop-room.tracker.given in
    let some = c.rest.ensures.answer.0 c.loop-room-test.true in
    let count = count_of c.loop-room.tracker all w.0 in
    let few : given < length all = omega (arith, some, count) in
    let stop : RunError = c.in_err-write_some.field-0.0 in
    let bytes : c.deref.result.now ≡ tracked_bytes s all given = c.deref.ensures.value ∙ c.loop-room-test.ensures.gives all w.0 ∙ ap (λ (l : List ℕ). l ++ tracked_bytes c.loop-room.tracker.settings all given) inv.empty ∙ ap (λ (z : Settings). tracked_bytes z all given) inv.settings in
    let a = cells_append c.deref.result.now m' m'' (Err stop) (ap (λ (x : Meaning). x.tells) inv.others ∙ t) c.in_err-write_some.ensures.writes in
    handed_on c.from_residual.result stop (Appends (symbols_from s all first) m.cells_out.written m''.cells_out.written) c.from_residual.ensures.1
    (some_written s all first given m.cells_out.written m'.cells_out.written w.1 m''.cells_out.written stop few (subst (λ (b : List ℕ). Appends b m'.cells_out.written m''.cells_out.written (Err stop)) bytes a))

pub loop-room-preserved : goal.loop-room-preserved
loop-room-preserved g c =
    let m : Meaning = g.S.Station.meaning c.args.station.now in
    let m' : Meaning = g.S.Station.meaning c.loop-room.station in
    let m'' : Meaning = g.S.Station.meaning c.write_some.new.station in
    let inv = c.loop-room.invariant in
    let r = c.rest.ensures in
    let wrote = c.in_ok-write_some.ensures.writes in
    let s : Settings = c.args.tracker.now.settings in
    let first : ℕ = c.args.tracker.now.given in
    let given : ℕ = c.loop-room.tracker.given in
    record {
      ended = r.ended;
      settings = r.settings ∙ inv.settings;
      count = r.count ∙ inv.count;
      room = omega (arith, c.clear-in-loop-room.ensures.capacity, r.capacity, inv.room);
      empty = c.clear-in-loop-room.ensures.items;
      created = ap (λ (x : Meaning). x.cells_out.created) wrote ∙ inv.created;
      opened = ap (λ (x : Meaning). x.cells_out.closed) wrote ∙ inv.opened;
      others = cells_again m m' m'' inv.others (at_cells_only c.deref.result.now m' m'' (Ok tt) wrote);
      write_faults = ap (λ (x : Meaning). x.write_faults) wrote ∙ inv.write_faults;
      written = λ t all h.
          let w = inv.written t all h in
          let some = r.answer.0 c.loop-room-test.true in
          let count = count_of c.loop-room.tracker all w.0 in
          let few : given < length all = omega (arith, some, count) in
          let bytes : c.deref.result.now ≡ tracked_bytes s all given = c.deref.ensures.value ∙ c.loop-room-test.ensures.gives all w.0 ∙ ap (λ (l : List ℕ). l ++ tracked_bytes c.loop-room.tracker.settings all given) inv.empty ∙ ap (λ (z : Settings). tracked_bytes z all given) inv.settings in
          let a = cells_append c.deref.result.now m' m'' (Ok tt) (ap (λ (x : Meaning). x.tells) inv.others ∙ t) wrote in (
            c.loop-room-test.ensures.tracks all w.0,
            subst (λ (n : ℕ). AreWritten s all first n m.cells_out.written m''.cells_out.written) (sym c.loop-room-test.ensures.given)
                (one_written s all first given m.cells_out.written m'.cells_out.written w.1 m''.cells_out.written few (a ∙ ap (λ (l : List ℕ). m'.cells_out.written ++ l) bytes)),
          );
    }

pub returns-clause-written : goal.returns-clause-written
returns-clause-written g c = λ t all h.
    let m : Meaning = g.S.Station.meaning c.args.station.now in
    let m' : Meaning = g.S.Station.meaning c.loop-room.station in
    let w = c.loop-room.invariant.written t all h in
    let given : ℕ = c.loop-room.tracker.given in
    let count = count_of c.loop-room.tracker all w.0 in
    let none : length all ≤ given = elim (cases_lt given (length all)) [
      | inl few ↦ absurd (true≢false (sym (c.rest.ensures.answer.1 (omega (arith, few, count))) ∙ c.loop-room-test.false))
      | inr many ↦ many
    ] in
    all_written c.args.tracker.now.settings all c.args.tracker.now.given given m.cells_out.written m'.cells_out.written w.1 none
