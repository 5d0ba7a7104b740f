use Rattle.std.proofs.Common.{◌≡◌, ◌*◌, ◌<◌, ◌≤◌, ◌^◌, ℕ, Bool, true, false, [], length, refl, sym, ◌∙◌, ap, subst, arith, Ok}
use Rattle.station_core.specs.Meaning.{Meaning}
use Rattle.cmd_cells.specs.declared.run_error.RunError.{RunError}
use Rattle.cmd_cells.specs.Work.{AreOpen, Work, Written}
use Rattle.cmd_cells.specs.Symbols.{symbols}
use Rattle.cmd_cells.specs.Cells.{IsWorking, Next, Stopped, TakesAtMost, Works}
use Rattle.cmd_base.proofs.HandedOn.{handed_on}
use Rattle.cmd_cells.proofs.Ends.{begun, few_more, not_begun}
use Rattle.cmd_cells.proofs.Loop.{goes}
use Rattle.cmd_cells.proofs.Sinks.{keeps_again, keeps_written, still_open}
use Rattle.cmd_cells.proofs.Steps.{moved}
use Rattle.cmd_cells.proofs.cells.work_on_cells.Goals as goal

pub returns-in_err-begin-clause-works : goal.returns-in_err-begin-clause-works
returns-in_err-begin-clause-works g c =
    let m : Meaning = g.S.Station.meaning c.args.station.now in
    let m' : Meaning = g.S.Station.meaning c.begin.new.station in
    let w : Work = g.X.SymbolWork.work (g.X.SymbolWork.setup c.args.work.now) in
    let stand = g.X.SymbolWork.stands c.begin.new.self in
    let stop : RunError = c.in_err-begin.field-0.0 in
    handed_on c.from_residual.result stop (Works w c.args.max_symbols m.cells.left m m') c.from_residual.ensures.1
    (not_begun w c.args.max_symbols stand m m' c.in_err-begin.ensures.others (omega (arith, c.requires.some, c.requires.size)) stop c.in_err-begin.ensures.begins)

pub symbols-init : goal.symbols-init
symbols-init g c =
    let m : Meaning = g.S.Station.meaning c.args.station.now in
    let m' : Meaning = g.S.Station.meaning c.begin.new.station in
    let e = c.in_ok-begin.ensures in
    let s0 = g.X.SymbolWork.setup c.args.work.now in
    let s1 = g.X.SymbolWork.setup c.begin.new.self in
    record {
      within = omega arith;
      attached = ap (λ (x : Meaning). x.cells.attached) e.others ∙ c.requires.attached;
      opened = moved s1 s0 (λ x. AreOpen (g.X.SymbolWork.outputs x) m') (sym e.setup) (still_open (g.X.SymbolWork.outputs s0) m m' (keeps_written m m' e.others) c.requires.open);
      setup = refl;
      size = moved s1 s0 (λ x. length c.args.symbol.now ≡ (g.X.SymbolWork.work x).size) (sym e.setup) c.requires.size;
      others = refl;
      read_faults = refl;
      write_faults = refl;
      later_report = omega arith;
      working = λ file start first is. ([], first, is, (let z : 0 ≡ 0 * (g.X.SymbolWork.work s1).size = omega arith in z));
    }

pub take_next-requires : goal.take_next-requires
take_next-requires g c κs =
    let m : Meaning = g.S.Station.meaning c.args.station.now in
    let m1 : Meaning = g.S.Station.meaning c.begin.new.station in
    let m2 : Meaning = g.S.Station.meaning c.symbols.station in
    let inv = c.symbols.invariant in
    let e = c.in_ok-begin.ensures in
    let s0 = g.X.SymbolWork.setup c.args.work.now in
    let s1 = g.X.SymbolWork.setup c.begin.new.self in
    let s2 = g.X.SymbolWork.setup c.symbols.work in
    let same : s2 ≡ s0 = inv.setup ∙ e.setup in
    let stand1 = g.X.SymbolWork.stands c.begin.new.self in
    let stand2 = g.X.SymbolWork.stands c.symbols.work in
    let n : ℕ = c.symbols.number in
    let begins = e.begins in
    let first : Written = begins.after in
    let base : IsWorking (g.X.SymbolWork.work s1) stand1 m.cells.left m m1 [] first =
    moved s1 s0 (λ x. IsWorking (g.X.SymbolWork.work x) stand1 m.cells.left m m1 [] first) (sym e.setup) (begun (g.X.SymbolWork.work s0) c.args.max_symbols stand1 m m1 e.others begins) in
    let is = inv.working m.cells.left m first base in
    let was : IsWorking (g.X.SymbolWork.work s2) stand2 m.cells.left m m2 is.0 is.1 =
    moved s2 s1 (λ x. IsWorking (g.X.SymbolWork.work x) stand2 m.cells.left m m2 is.0 is.1) (sym inv.setup) is.2 in
    let size : length is.0 ≡ n * (g.X.SymbolWork.work s2).size = moved s2 s1 (λ x. length is.0 ≡ n * (g.X.SymbolWork.work x).size) (sym inv.setup) is.3 in
    let open2 : AreOpen (g.X.SymbolWork.outputs s2) m2 = moved s2 s1 (λ x. AreOpen (g.X.SymbolWork.outputs x) m2) (sym inv.setup) inv.opened in
    let long2 : length c.symbols.symbol ≡ (g.X.SymbolWork.work s2).size = moved s2 s1 (λ x. length c.symbols.symbol ≡ (g.X.SymbolWork.work x).size) (sym inv.setup) inv.size in
    let some : 0 < length c.symbols.symbol = omega (arith, c.symbols.auto.symbol, c.requires.some) in
    let fits : n < 2 ^ 32 = omega (arith, c.ranges.max_symbols.fits, inv.within) in
    ((refl, tt), (c.requires.able, (inv.attached, (open2, (long2, (some, (goes (g.X.SymbolWork.work s2) (omega (arith, some, long2)) stand2 m.cells.left m m2 is.0 is.1 n was size fits, inv.within)))))))

pub returns-then-not-goes_on-clause-taken : goal.returns-then-not-goes_on-clause-taken
returns-then-not-goes_on-clause-taken g c =
    let m : Meaning = g.S.Station.meaning c.args.station.now in
    let m1 : Meaning = g.S.Station.meaning c.begin.new.station in
    let m2 : Meaning = g.S.Station.meaning c.symbols.station in
    let inv = c.symbols.invariant in
    let e = c.in_ok-begin.ensures in
    let s0 = g.X.SymbolWork.setup c.args.work.now in
    let s1 = g.X.SymbolWork.setup c.begin.new.self in
    let s2 = g.X.SymbolWork.setup c.symbols.work in
    let same : s2 ≡ s0 = inv.setup ∙ e.setup in
    let stand1 = g.X.SymbolWork.stands c.begin.new.self in
    let stand2 = g.X.SymbolWork.stands c.symbols.work in
    let n : ℕ = c.symbols.number in
    let begins = e.begins in
    let first : Written = begins.after in
    let base : IsWorking (g.X.SymbolWork.work s1) stand1 m.cells.left m m1 [] first =
    moved s1 s0 (λ x. IsWorking (g.X.SymbolWork.work x) stand1 m.cells.left m m1 [] first) (sym e.setup) (begun (g.X.SymbolWork.work s0) c.args.max_symbols stand1 m m1 e.others begins) in
    let is = inv.working m.cells.left m first base in
    let was : IsWorking (g.X.SymbolWork.work s2) stand2 m.cells.left m m2 is.0 is.1 =
    moved s2 s1 (λ x. IsWorking (g.X.SymbolWork.work x) stand2 m.cells.left m m2 is.0 is.1) (sym inv.setup) is.2 in
    let size : length is.0 ≡ n * (g.X.SymbolWork.work s2).size = moved s2 s1 (λ x. length is.0 ≡ n * (g.X.SymbolWork.work x).size) (sym inv.setup) is.3 in
    let m3 : Meaning = g.S.Station.meaning c.take_next.new.station in
    let stand3 = g.X.SymbolWork.stands c.take_next.new.work in
    let taken = few_more n (g.X.SymbolWork.work s0).size c.args.max_symbols is.0 m m2 m3 (ap (λ (x : Meaning). x.tells) inv.others ∙ ap (λ (x : Meaning). x.tells) e.others) was.are
    (moved s0 s2 (λ x. length is.0 ≡ n * (g.X.SymbolWork.work x).size) same size) inv.within
    (moved s0 s2 (λ x. TakesAtMost (g.X.SymbolWork.work x).size m2 m3) same c.in_ok-goes_on.ensures.taken) in
    λ t. let k = taken t in (k.0, k.1, c.end.ensures.left ∙ k.2)

pub returns-in_err-goes_on-clause-taken : goal.returns-in_err-goes_on-clause-taken
returns-in_err-goes_on-clause-taken g c =
    let m : Meaning = g.S.Station.meaning c.args.station.now in
    let m1 : Meaning = g.S.Station.meaning c.begin.new.station in
    let m2 : Meaning = g.S.Station.meaning c.symbols.station in
    let inv = c.symbols.invariant in
    let e = c.in_ok-begin.ensures in
    let s0 = g.X.SymbolWork.setup c.args.work.now in
    let s1 = g.X.SymbolWork.setup c.begin.new.self in
    let s2 = g.X.SymbolWork.setup c.symbols.work in
    let same : s2 ≡ s0 = inv.setup ∙ e.setup in
    let stand1 = g.X.SymbolWork.stands c.begin.new.self in
    let stand2 = g.X.SymbolWork.stands c.symbols.work in
    let n : ℕ = c.symbols.number in
    let begins = e.begins in
    let first : Written = begins.after in
    let base : IsWorking (g.X.SymbolWork.work s1) stand1 m.cells.left m m1 [] first =
    moved s1 s0 (λ x. IsWorking (g.X.SymbolWork.work x) stand1 m.cells.left m m1 [] first) (sym e.setup) (begun (g.X.SymbolWork.work s0) c.args.max_symbols stand1 m m1 e.others begins) in
    let is = inv.working m.cells.left m first base in
    let was : IsWorking (g.X.SymbolWork.work s2) stand2 m.cells.left m m2 is.0 is.1 =
    moved s2 s1 (λ x. IsWorking (g.X.SymbolWork.work x) stand2 m.cells.left m m2 is.0 is.1) (sym inv.setup) is.2 in
    let size : length is.0 ≡ n * (g.X.SymbolWork.work s2).size = moved s2 s1 (λ x. length is.0 ≡ n * (g.X.SymbolWork.work x).size) (sym inv.setup) is.3 in
    let m3 : Meaning = g.S.Station.meaning c.take_next.new.station in
    let stand3 = g.X.SymbolWork.stands c.take_next.new.work in
    few_more n (g.X.SymbolWork.work s0).size c.args.max_symbols is.0 m m2 m3 (ap (λ (x : Meaning). x.tells) inv.others ∙ ap (λ (x : Meaning). x.tells) e.others) was.are
    (moved s0 s2 (λ x. length is.0 ≡ n * (g.X.SymbolWork.work x).size) same size) inv.within
    (moved s0 s2 (λ x. TakesAtMost (g.X.SymbolWork.work x).size m2 m3) same c.in_err-goes_on.ensures.taken)

pub returns-then-not-goes_on-clause-works : goal.returns-then-not-goes_on-clause-works
returns-then-not-goes_on-clause-works g c =
    let m : Meaning = g.S.Station.meaning c.args.station.now in
    let m1 : Meaning = g.S.Station.meaning c.begin.new.station in
    let m2 : Meaning = g.S.Station.meaning c.symbols.station in
    let inv = c.symbols.invariant in
    let e = c.in_ok-begin.ensures in
    let s0 = g.X.SymbolWork.setup c.args.work.now in
    let s1 = g.X.SymbolWork.setup c.begin.new.self in
    let s2 = g.X.SymbolWork.setup c.symbols.work in
    let same : s2 ≡ s0 = inv.setup ∙ e.setup in
    let stand1 = g.X.SymbolWork.stands c.begin.new.self in
    let stand2 = g.X.SymbolWork.stands c.symbols.work in
    let n : ℕ = c.symbols.number in
    let begins = e.begins in
    let first : Written = begins.after in
    let base : IsWorking (g.X.SymbolWork.work s1) stand1 m.cells.left m m1 [] first =
    moved s1 s0 (λ x. IsWorking (g.X.SymbolWork.work x) stand1 m.cells.left m m1 [] first) (sym e.setup) (begun (g.X.SymbolWork.work s0) c.args.max_symbols stand1 m m1 e.others begins) in
    let is = inv.working m.cells.left m first base in
    let was : IsWorking (g.X.SymbolWork.work s2) stand2 m.cells.left m m2 is.0 is.1 =
    moved s2 s1 (λ x. IsWorking (g.X.SymbolWork.work x) stand2 m.cells.left m m2 is.0 is.1) (sym inv.setup) is.2 in
    let size : length is.0 ≡ n * (g.X.SymbolWork.work s2).size = moved s2 s1 (λ x. length is.0 ≡ n * (g.X.SymbolWork.work x).size) (sym inv.setup) is.3 in
    let m3 : Meaning = g.S.Station.meaning c.take_next.new.station in
    let stand3 = g.X.SymbolWork.stands c.take_next.new.work in
    let next : Next (g.X.SymbolWork.work s0) stand3 c.args.max_symbols m.cells.left n m m3 (Ok false) =
    moved s0 s2 (λ x. Next (g.X.SymbolWork.work x) stand3 c.args.max_symbols m.cells.left n m m3 (Ok false)) same
    (subst (λ (b : Bool). Next (g.X.SymbolWork.work s2) stand3 c.args.max_symbols m.cells.left n m m3 (Ok b)) c.if-not-goes_on.true
    (c.in_ok-goes_on.ensures.next m.cells.left is.0 is.1 m size was)) in
    let m4 : Meaning = g.S.Station.meaning c.end.new.station in
    let s3 = g.X.SymbolWork.setup c.take_next.new.work in
    let same3 : s3 ≡ s0 = c.in_ok-goes_on.ensures.setup ∙ same in
    let few : symbols (g.X.SymbolWork.work s0).size next.0 ≤ c.args.max_symbols = omega (arith, next.3, inv.within) in
    moved s0 s3 (λ x. Works (g.X.SymbolWork.work x) c.args.max_symbols m.cells.left m m4 c.end.result) same3
    (c.end.ensures.ends c.args.max_symbols m.cells.left next.0 next.1 m (moved s3 s0 (λ x. symbols (g.X.SymbolWork.work x).size next.0 ≤ c.args.max_symbols) (sym same3) few) next.4
    (moved s3 s0 (λ x. IsWorking (g.X.SymbolWork.work x) stand3 m.cells.left m m3 next.0 next.1) (sym same3) next.2))

pub end-requires : goal.end-requires
end-requires g c κs =
    let m : Meaning = g.S.Station.meaning c.args.station.now in
    let m1 : Meaning = g.S.Station.meaning c.begin.new.station in
    let m2 : Meaning = g.S.Station.meaning c.symbols.station in
    let inv = c.symbols.invariant in
    let e = c.in_ok-begin.ensures in
    let s0 = g.X.SymbolWork.setup c.args.work.now in
    let s1 = g.X.SymbolWork.setup c.begin.new.self in
    let s2 = g.X.SymbolWork.setup c.symbols.work in
    let same : s2 ≡ s0 = inv.setup ∙ e.setup in
    let stand1 = g.X.SymbolWork.stands c.begin.new.self in
    let stand2 = g.X.SymbolWork.stands c.symbols.work in
    let n : ℕ = c.symbols.number in
    let begins = e.begins in
    let first : Written = begins.after in
    let base : IsWorking (g.X.SymbolWork.work s1) stand1 m.cells.left m m1 [] first =
    moved s1 s0 (λ x. IsWorking (g.X.SymbolWork.work x) stand1 m.cells.left m m1 [] first) (sym e.setup) (begun (g.X.SymbolWork.work s0) c.args.max_symbols stand1 m m1 e.others begins) in
    let is = inv.working m.cells.left m first base in
    let was : IsWorking (g.X.SymbolWork.work s2) stand2 m.cells.left m m2 is.0 is.1 =
    moved s2 s1 (λ x. IsWorking (g.X.SymbolWork.work x) stand2 m.cells.left m m2 is.0 is.1) (sym inv.setup) is.2 in
    let size : length is.0 ≡ n * (g.X.SymbolWork.work s2).size = moved s2 s1 (λ x. length is.0 ≡ n * (g.X.SymbolWork.work x).size) (sym inv.setup) is.3 in
    let m3 : Meaning = g.S.Station.meaning c.take_next.new.station in
    let stand3 = g.X.SymbolWork.stands c.take_next.new.work in
    let next : Next (g.X.SymbolWork.work s0) stand3 c.args.max_symbols m.cells.left n m m3 (Ok false) =
    moved s0 s2 (λ x. Next (g.X.SymbolWork.work x) stand3 c.args.max_symbols m.cells.left n m m3 (Ok false)) same
    (subst (λ (b : Bool). Next (g.X.SymbolWork.work s2) stand3 c.args.max_symbols m.cells.left n m m3 (Ok b)) c.if-not-goes_on.true
    (c.in_ok-goes_on.ensures.next m.cells.left is.0 is.1 m size was)) in
    let s3 = g.X.SymbolWork.setup c.take_next.new.work in
    let kept : s3 ≡ s1 = c.in_ok-goes_on.ensures.setup ∙ inv.setup in
    let fits : n < 2 ^ 32 = omega (arith, c.ranges.max_symbols.fits, inv.within) in
    let few : symbols (g.X.SymbolWork.work s0).size next.0 < 2 ^ 32 = omega (arith, next.3, fits) in (
      (refl, tt),
      (
        c.requires.able,
        (
          moved s3 s1 (λ x. AreOpen (g.X.SymbolWork.outputs x) m3) (sym kept) (still_open (g.X.SymbolWork.outputs s1) m2 m3 c.in_ok-goes_on.ensures.others inv.opened),
          record {
            bytes = next.0;
            given = next.1;
            stands = next.2.stands;
            few = moved s3 s0 (λ x. symbols (g.X.SymbolWork.work x).size next.0 < 2 ^ 32) (sym (kept ∙ e.setup)) few;
          },
        ),
      ),
    )

pub returns-in_err-goes_on-clause-works : goal.returns-in_err-goes_on-clause-works
returns-in_err-goes_on-clause-works g c =
    let m : Meaning = g.S.Station.meaning c.args.station.now in
    let m1 : Meaning = g.S.Station.meaning c.begin.new.station in
    let m2 : Meaning = g.S.Station.meaning c.symbols.station in
    let inv = c.symbols.invariant in
    let e = c.in_ok-begin.ensures in
    let s0 = g.X.SymbolWork.setup c.args.work.now in
    let s1 = g.X.SymbolWork.setup c.begin.new.self in
    let s2 = g.X.SymbolWork.setup c.symbols.work in
    let same : s2 ≡ s0 = inv.setup ∙ e.setup in
    let stand1 = g.X.SymbolWork.stands c.begin.new.self in
    let stand2 = g.X.SymbolWork.stands c.symbols.work in
    let n : ℕ = c.symbols.number in
    let begins = e.begins in
    let first : Written = begins.after in
    let base : IsWorking (g.X.SymbolWork.work s1) stand1 m.cells.left m m1 [] first =
    moved s1 s0 (λ x. IsWorking (g.X.SymbolWork.work x) stand1 m.cells.left m m1 [] first) (sym e.setup) (begun (g.X.SymbolWork.work s0) c.args.max_symbols stand1 m m1 e.others begins) in
    let is = inv.working m.cells.left m first base in
    let was : IsWorking (g.X.SymbolWork.work s2) stand2 m.cells.left m m2 is.0 is.1 =
    moved s2 s1 (λ x. IsWorking (g.X.SymbolWork.work x) stand2 m.cells.left m m2 is.0 is.1) (sym inv.setup) is.2 in
    let size : length is.0 ≡ n * (g.X.SymbolWork.work s2).size = moved s2 s1 (λ x. length is.0 ≡ n * (g.X.SymbolWork.work x).size) (sym inv.setup) is.3 in
    let m3 : Meaning = g.S.Station.meaning c.take_next.new.station in
    let stand3 = g.X.SymbolWork.stands c.take_next.new.work in
    let stop : RunError = c.in_err-goes_on.field-0.0 in
    handed_on c.from_residual-in_err-goes_on.result stop (Works (g.X.SymbolWork.work s0) c.args.max_symbols m.cells.left m m3) c.from_residual-in_err-goes_on.ensures.1
    (moved s0 s2 (λ x. m3.tells ≡ true → Stopped (g.X.SymbolWork.work x) c.args.max_symbols m.cells.left m m3 stop) same
    (c.in_err-goes_on.ensures.next m.cells.left is.0 is.1 m size was))

pub symbols-preserved : goal.symbols-preserved
symbols-preserved g c =
    let m1 : Meaning = g.S.Station.meaning c.begin.new.station in
    let m2 : Meaning = g.S.Station.meaning c.symbols.station in
    let m3 : Meaning = g.S.Station.meaning c.take_next.new.station in
    let stand3 = g.X.SymbolWork.stands c.take_next.new.work in
    let inv = c.symbols.invariant in
    let e = c.in_ok-goes_on.ensures in
    let s1 = g.X.SymbolWork.setup c.begin.new.self in
    let s2 = g.X.SymbolWork.setup c.symbols.work in
    let stand2 = g.X.SymbolWork.stands c.symbols.work in
    let n : ℕ = c.symbols.number in
    let more : n < c.args.max_symbols = e.below c.if-not-goes_on.false in
    record {
      within = omega (arith, more);
      attached = ap (λ (x : Meaning). x.cells.attached) e.others ∙ inv.attached;
      opened = still_open (g.X.SymbolWork.outputs s1) m2 m3 e.others inv.opened;
      setup = e.setup ∙ inv.setup;
      size = e.size ∙ inv.size;
      others = keeps_again m1 m2 m3 inv.others e.others;
      read_faults = e.cause.0 ∙ inv.read_faults;
      write_faults = e.cause.1 ∙ inv.write_faults;
      later_report = omega (arith, e.later_report, inv.later_report);
      working = λ file start first begun.
          let is = inv.working file start first begun in
          let was : IsWorking (g.X.SymbolWork.work s2) stand2 file start m2 is.0 is.1 = moved s2 s1 (λ x. IsWorking (g.X.SymbolWork.work x) stand2 file start m2 is.0 is.1) (sym inv.setup) is.2 in
          let size : length is.0 ≡ n * (g.X.SymbolWork.work s2).size = moved s2 s1 (λ x. length is.0 ≡ n * (g.X.SymbolWork.work x).size) (sym inv.setup) is.3 in
          moved s1 s2 (λ x. Next (g.X.SymbolWork.work x) stand3 c.args.max_symbols file n start m3 (Ok true)) inv.setup
          (subst (λ (b : Bool). Next (g.X.SymbolWork.work s2) stand3 c.args.max_symbols file n start m3 (Ok b)) c.if-not-goes_on.false
          (e.next file is.0 is.1 start size was));
    }
