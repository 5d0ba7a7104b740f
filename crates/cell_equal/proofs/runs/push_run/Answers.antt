-- The carriers are appended one by one, and the pilot after them.
use Rattle.std.proofs.Common.{◌≡◌, ℕ, ◌+◌, ◌-◌, ◌<◌, get_or, List, ◌++◌, refl, sym, ap, ◌∙◌, arith}
use Rattle.mode_set.specs.StreamTable.{carriers}
use Rattle.cell_equal.specs.State.{first_bytes}
use Rattle.cell_equal.proofs.Bytes.{cell_appended}
use Rattle.cell_equal.specs.Equal.{blank, bytes_of}
use Rattle.cell_equal.proofs.Walk.{goes_on, arrives, at_a_pilot, right_within, pilot_parts, on_line_is, on_line_from, on_line_small, before_step, after_step}
use Rattle.cell_equal.proofs.runs.push_run.Goals as goal

pub loop-k-init : goal.loop-k-init
loop-k-init c = record {
  forward = omega arith;
  before = c.advance.ensures.fair.above;
  end = refl;
  within = right_within c.args.mode c.args.l c.args.cells.now c.args.from c.advance.new.self c.requires.carrier c.advance.ensures;
  span = c.advance.ensures;
  gain = λ lt. on_line_from c.args.mode c.args.l c.args.cells.now c.args.from c.advance.new.self _ lt (right_within c.args.mode c.args.l c.args.cells.now c.args.from c.advance.new.self c.requires.carrier c.advance.ensures) c.advance.ensures (c.gain-gain.ensures.is c.args.mode c.args.l c.args.cells.now c.requires.carrier c.advance.ensures);
  bytes = λ start e. e;
  long = refl;
  room = refl;
}

pub bounds-cells-at : goal.bounds-cells-at
bounds-cells-at c = let i = c.loop-k.invariant in omega (arith, i.within, i.end, c.loop-k-test.true, c.requires.cells)

pub bounds-weights-at : goal.bounds-weights-at
bounds-weights-at c = let i = c.loop-k.invariant in omega (arith, i.within, i.end, c.loop-k-test.true, c.requires.weights)

pub push_corrected-requires-clause-room : goal.push_corrected-requires-clause-room
push_corrected-requires-clause-room c = let i = c.loop-k.invariant in omega (arith, i.forward, i.within, i.end, i.long, i.room, c.loop-k-test.true, c.requires.room)

pub push_corrected-requires-clause-small : goal.push_corrected-requires-clause-small
push_corrected-requires-clause-small c =
    let i = c.loop-k.invariant in
    let lt : c.loop-k.k < c.advance.new.self.right = omega (arith, i.end, c.loop-k-test.true) in
    on_line_small c.args.mode c.args.l c.args.cells.now c.loop-k.k _ _ lt i.within i.span (i.gain (omega (arith, lt, i.forward)))

pub next_gain-gain-requires-clause-gain : goal.next_gain-gain-requires-clause-gain
next_gain-gain-requires-clause-gain c =
    let i = c.loop-k.invariant in
    let lt : c.loop-k.k < c.advance.new.self.right = omega (arith, i.end, c.loop-k-test.true) in
    on_line_small c.args.mode c.args.l c.args.cells.now c.loop-k.k _ _ lt i.within i.span (i.gain (omega (arith, lt, i.forward)))

pub loop-k-preserved : goal.loop-k-preserved
loop-k-preserved c =
    let m = c.args.mode in
    let l = c.args.l in
    let cells = c.args.cells.now in
    let k = c.loop-k.k in
    let i = c.loop-k.invariant in
    let s = c.advance.new.self in
    let few : k < carriers m = omega (arith, i.within, i.end, c.loop-k-test.true) in
    let lt : k < s.right = omega (arith, i.end, c.loop-k-test.true) in
    let line = i.gain (omega (arith, lt, i.forward)) in
    let gain_is = on_line_is m l cells k s c.loop-k.gain lt i.within i.span line in
    record {
      forward = omega (arith, i.forward);
      before = omega (arith, i.end, c.loop-k-test.true);
      end = i.end;
      within = i.within;
      span = goes_on m l cells k _ (omega (arith, i.end, c.loop-k-test.true)) i.within i.span;
      gain = λ _. after_step m l cells k s c.loop-k.gain lt i.within i.span _ (c.next_gain-gain.ensures (k - s.left) (s.right - (k + 1)) (before_step m l cells k s c.loop-k.gain lt i.within i.span line));
      bytes = λ start e. cell_appended m l cells c.args.weights.now k start _ _ _ _ _ (i.bytes start e) c.push_corrected.ensures.bytes gain_is refl refl;
      long = omega (arith, i.long, c.push_corrected.ensures.len);
      room = c.push_corrected.ensures.capacity ∙ i.room;
    }

pub bounds-weights-right : goal.bounds-weights-right
bounds-weights-right c = let i = c.loop-k.invariant in omega (arith, i.within, i.end, c.requires.weights)

pub push_five-requires : goal.push_five-requires
push_five-requires c = let i = c.loop-k.invariant in omega (arith, i.forward, i.before, i.within, i.end, i.long, i.room, c.loop-k-test.false, c.requires.room)

pub returns-clause-around : goal.returns-clause-around
returns-clause-around c = let i = c.loop-k.invariant in arrives c.args.mode c.args.l c.args.cells.now c.loop-k.k _ _ (omega (arith, i.before, i.end, c.loop-k-test.false)) i.span

pub returns-clause-within : goal.returns-clause-within
returns-clause-within c = c.loop-k.invariant.within

pub returns-clause-forward : goal.returns-clause-forward
returns-clause-forward c = let i = c.loop-k.invariant in omega (arith, i.forward, i.before)

pub returns-clause-bytes : goal.returns-clause-bytes
returns-clause-bytes c = λ start e.
    let m = c.args.mode in
    let l = c.args.l in
    let cells = c.args.cells.now in
    let weights = c.args.weights.now in
    let i = c.loop-k.invariant in
    let s = c.advance.new.self in
    let is : c.loop-k.k ≡ s.right = omega (arith, i.before, i.end, c.loop-k-test.false) in
    let old : List ℕ = c.loop-k.to.items in
    let pilot = get_or cells s.right blank in
    let parts = pilot_parts cells s.right s.at_right c.reference.result i.span.at_right c.reference.ensures in
    let restored = c.corrected_pilot-pilot.ensures pilot parts.0 parts.1 in
    cell_appended m l cells weights s.right start _ _ _ pilot _ (i.bytes start e ∙ ap (λ (z : ℕ). start ++ first_bytes m l cells weights z) is)
    (c.push_five.ensures.bytes ∙ ap (λ (z : List ℕ). old ++ z) (c.cell_bytes.ensures ∙ ap bytes_of restored))
    (at_a_pilot m l cells s.right s i.within refl (arrives m l cells c.loop-k.k s.right s is i.span)) refl refl

pub returns-clause-len : goal.returns-clause-len
returns-clause-len c = let i = c.loop-k.invariant in omega (arith, i.before, i.end, i.long, c.loop-k-test.false, c.push_five.ensures.len)
