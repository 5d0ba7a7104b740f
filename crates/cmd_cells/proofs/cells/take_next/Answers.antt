use Rattle.std.proofs.Common.{◌≡◌, ◌≢◌, ◌+◌, ◌*◌, ◌<◌, ◌≤◌, true, ℕ, List, ◌++◌, length, take, length-take-le, sym, ◌∙◌, ap, arith}
use Rattle.std.specs.Prelude.{◌==◌}
use Rattle.station_core.specs.Meaning.{Meaning}
use Rattle.cmd_cells.specs.Symbols.{symbols, tail}
use Rattle.cmd_cells.specs.declared.run_error.RunError.{RunError}
use Rattle.cmd_cells.specs.Cells.{Next}
use Rattle.cmd_cells.specs.Work.{Work}
use Rattle.cmd_base.proofs.HandedOn.{handed_on}
use Rattle.cmd_cells.proofs.Counting.{no_tail, whole_or_less, within_limit}
use Rattle.cmd_cells.proofs.Steps.{goes_on, fails, past, stopped, next_of, at_end}
use Rattle.cmd_cells.proofs.cells.take_next.Goals.{else-whole-via-then-whole+else-number-max_symbols, else-whole-via-else-whole}
use Rattle.cmd_cells.proofs.cells.take_next.Goals as goal

pub returns-in-Err-clause-next : goal.returns-in-Err-clause-next
returns-in-Err-clause-next g c = λ file bytes given start size was t.
    let most : ℕ = c.args.max_symbols in
    let m : Meaning = g.S.Station.meaning c.args.station.now in
    let m' : Meaning = g.S.Station.meaning c.fill.new.station in
    let w : Work = g.X.SymbolWork.work (g.X.SymbolWork.setup c.args.work.now) in
    let e = c.in-Err.ensures.err in
    let some : 0 < w.size = omega (arith, c.requires.some, c.requires.size) in
    stopped w some c.law.ensures.part most file bytes given (g.X.SymbolWork.stands c.args.work.now) start m m' c.args.number e.0
    c.requires.within was size (omega (arith, e.1, c.requires.size)) e.2 e.3 t

pub returns-then-number-max_symbols-clause-next : goal.returns-then-number-max_symbols-clause-next
returns-then-number-max_symbols-clause-next g c = λ file bytes given start size was t.
    let most : ℕ = c.args.max_symbols in
    let m : Meaning = g.S.Station.meaning c.args.station.now in
    let m' : Meaning = g.S.Station.meaning c.fill.new.station in
    let w : Work = g.X.SymbolWork.work (g.X.SymbolWork.setup c.args.work.now) in
    let t0 : m.tells ≡ true = sym (ap (λ (x : Meaning). x.tells) c.in-Ok.ensures.ok) ∙ t in
    let some : 0 < w.size = omega (arith, c.requires.some, c.requires.size) in
    let k : ℕ = c.in-Ok.filled in
    let buffer : List ℕ = c.fill.new.bytes in
    let full : k ≡ length buffer = c.if-whole.true in
    let same : length buffer ≡ length c.args.symbol.now = c.fill.auto.bytes in
    let within = (c.in-Ok.ensures.bytes t0).within in
    let all : length bytes ≡ most * w.size = size ∙ ap (λ (n : ℕ). n * w.size) c.if-number-max_symbols.true in
    past w some (g.X.SymbolWork.stands c.args.work.now) most file bytes given start m m' was all t0 (omega (arith, within, full, same, c.requires.size)) k c.in-Ok.ensures.ok

pub returns-in_err-take-clause-next : goal.returns-in_err-take-clause-next
returns-in_err-take-clause-next g c = λ file bytes given start size was.
    let most : ℕ = c.args.max_symbols in
    let m : Meaning = g.S.Station.meaning c.args.station.now in
    let m' : Meaning = g.S.Station.meaning c.fill.new.station in
    let m'' : Meaning = g.S.Station.meaning c.take.new.station in
    let w : Work = g.X.SymbolWork.work (g.X.SymbolWork.setup c.args.work.now) in
    let k : ℕ = c.in-Ok.filled in
    let buffer : List ℕ = c.fill.new.bytes in
    let piece : List ℕ = take k buffer in
    let bound : k ≤ length buffer = c.in-Ok.ensures.bound in
    let same : length buffer ≡ length c.args.symbol.now = c.fill.auto.bytes in
    let whole : length buffer ≡ w.size = same ∙ c.requires.size in
    let some : 0 < w.size = omega (arith, c.requires.some, c.requires.size) in
    let count : length piece ≡ k = length-take-le k buffer bound in
    let none : tail w.size bytes ≡ 0 = no_tail w.size some bytes c.args.number size in
    let takes = c.in_err-take.ensures.takes bytes given was.stands was.gives none (omega (arith, count, bound, whole)) in
    let front = c.in-Ok.ensures.bytes in
    let few : symbols w.size (bytes ++ piece) ≤ most = within_limit w.size some bytes piece c.args.number most size (omega (arith, count, bound, whole)) c.requires.within (λ last. elim c.else-whole.branch [
      | else-whole-via-then-whole+else-number-max_symbols x ↦ absurd (x.if-number-max_symbols.false last)
      | else-whole-via-else-whole x ↦ let other : k ≢ length buffer = x.if-whole.false in omega (arith, other, bound, count, whole)
    ]) in
    let stop : RunError = c.in_err-take.field-0.0 in
    handed_on c.from_residual.result stop (Next w (g.X.SymbolWork.stands c.take.new.self) most file c.args.number start m'') c.from_residual.ensures.1
    (fails w most file bytes given (g.X.SymbolWork.stands c.take.new.self) start m m' m'' k was.are was.holds c.in-Ok.ensures.ok piece (λ t. (front t).front) c.in_err-take.ensures.others
    stop few takes)

pub returns-clause-next : goal.returns-clause-next
returns-clause-next g c = λ file bytes given start size was.
    let most : ℕ = c.args.max_symbols in
    let m : Meaning = g.S.Station.meaning c.args.station.now in
    let m' : Meaning = g.S.Station.meaning c.fill.new.station in
    let m'' : Meaning = g.S.Station.meaning c.take.new.station in
    let w : Work = g.X.SymbolWork.work (g.X.SymbolWork.setup c.args.work.now) in
    let k : ℕ = c.in-Ok.filled in
    let buffer : List ℕ = c.fill.new.bytes in
    let piece : List ℕ = take k buffer in
    let bound : k ≤ length buffer = c.in-Ok.ensures.bound in
    let same : length buffer ≡ length c.args.symbol.now = c.fill.auto.bytes in
    let whole : length buffer ≡ w.size = same ∙ c.requires.size in
    let some : 0 < w.size = omega (arith, c.requires.some, c.requires.size) in
    let count : length piece ≡ k = length-take-le k buffer bound in
    let none : tail w.size bytes ≡ 0 = no_tail w.size some bytes c.args.number size in
    let standing' = g.X.SymbolWork.stands c.take.new.self in
    let takes = c.in_ok-take.ensures.takes bytes given was.stands was.gives none (omega (arith, count, bound, whole)) in
    let front = c.in-Ok.ensures.bytes in
    let others = c.in_ok-take.ensures.others in
    let cases = whole_or_less k (length buffer) bound in
    next_of w some standing' most file c.args.number k start m'' bytes piece takes.after size count
    (goes_on w most file bytes given standing' start m m' m'' k was.are was.holds c.in-Ok.ensures.ok piece (λ t. (front t).front) others takes)
    (λ short. at_end w most file bytes given standing' start m m' m'' k was.are was.holds c.in-Ok.ensures.ok piece (λ t. (front t).front) others
    (λ t. (front t).all (omega (arith, short, c.requires.size))))
    (k == length buffer) (λ e. cases.0 e ∙ whole) (λ e. let lt : k < length buffer = cases.1 e in omega (arith, lt, whole))
