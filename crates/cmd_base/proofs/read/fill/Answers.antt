use Rattle.std.proofs.Common.{[], ◌≡◌, ◌-◌, ℕ, List, length, take, drop, ◌∙◌, ap, arith, length-drop}
use Rattle.station_core.specs.Meaning.{Meaning, source_at}
use Rattle.cmd_base.proofs.Station_laws.{read_again, left_after, tells_after}
use Rattle.std.proofs.lemmas.Slice.{take-put_mid_below}
use borrow.Rule.Slice.PartMut.{mid_len, same_len_mid}
use Rattle.cmd_base.proofs.Pieces.{filled_more}
use Rattle.cmd_base.proofs.read.fill.Goals as goal

pub loop-filled-preserved : goal.loop-filled-preserved
loop-filled-preserved g c =
    let m : Meaning = g.S.Station.meaning c.args.station.now in
    let m' : Meaning = g.S.Station.meaning c.loop-filled.station in
    let m'' : Meaning = g.S.Station.meaning c.read.new.self in
    let port = c.args.port in
    let f : ℕ = c.loop-filled.filled in
    let n : ℕ = c.in_ok-count.count in
    let k : ℕ = length c.loop-filled.bytes - f in
    let inv = c.loop-filled.invariant in
    let e = c.in_ok-count.ensures in
    let all : List ℕ = (source_at port m).left in
    let left : (source_at port m').left ≡ drop f all = ap (λ (x : Meaning). (source_at port x).left) inv.meaning ∙ left_after port m f in
    let tells : m'.tells ≡ m.tells = ap (λ (x : Meaning). x.tells) inv.meaning ∙ tells_after port m f in
    let size : length c.read.new.buf ≡ k = c.read.auto.buf ∙ mid_len f (length c.loop-filled.bytes) c.loop-filled.bytes (omega arith) in
    record {
      filled = omega (arith, e.bound, size, inv.size, inv.filled);
      size = same_len_mid f k c.loop-filled.bytes c.read.new.buf c.read.auto.buf ∙ inv.size;
      meaning = read_again port m m' m'' f n inv.meaning e.ok;
      within = λ t. omega (arith, inv.within t, e.some (tells ∙ t), ap length left, length-drop f all);
      front = λ t. filled_more f n k c.loop-filled.bytes c.read.new.buf all (omega (arith, inv.size, inv.filled)) e.bound (inv.front t) (e.bytes (tells ∙ t) ∙ ap (λ (l : List ℕ). take n l) left);
    }

pub returns-then-count-eq0-clause-bytes : goal.returns-then-count-eq0-clause-bytes
returns-then-count-eq0-clause-bytes g c = λ t.
    let m : Meaning = g.S.Station.meaning c.args.station.now in
    let m' : Meaning = g.S.Station.meaning c.loop-filled.station in
    let port = c.args.port in
    let f : ℕ = c.loop-filled.filled in
    let k : ℕ = length c.loop-filled.bytes - f in
    let inv = c.loop-filled.invariant in
    let e = c.in_ok-count.ensures in
    let all : List ℕ = (source_at port m).left in
    let left : (source_at port m').left ≡ drop f all = ap (λ (x : Meaning). (source_at port x).left) inv.meaning ∙ left_after port m f in
    let tells : m'.tells ≡ m.tells = ap (λ (x : Meaning). x.tells) inv.meaning ∙ tells_after port m f in
    let none : (source_at port m').left ≡ [] = e.end (tells ∙ t) c.if-count-eq0.true in
    record {
      within = inv.within t;
      front = take-put_mid_below f k c.loop-filled.bytes c.read.new.buf f (omega arith) (omega (arith, inv.size, inv.filled)) ∙ inv.front t;
      all = λ lt. omega (arith, inv.within t, ap length left, ap length none, length-drop f all);
    }
