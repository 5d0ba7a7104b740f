-- One place more.
use Rattle.std.proofs.Common.{◌≡◌, ℕ, ◌∙◌, Bool, false, not, ◌&&◌, cond, sym, ap, arith, get_or}
use Rattle.std.specs.Prelude.{count_by}
use Rattle.std.specs.Bool.{beq}
use Rattle.spec_words.specs.Words.{numbers}
use Rattle.mode_set.specs.StreamTable.{label_bits}
use Rattle.mode_set.specs.declared.modes.Stream.{Stream}
use Rattle.bit_interleave.specs.Place.{stream_at}
use Rattle.measure_sums.specs.Comparing.{is_same}
use Rattle.measure_sums.proofs.Counting.{no_numbers, count_more, few_more}
use Rattle.measure_sums.proofs.Placing.{six}
use Rattle.measure_sums.proofs.place.wrong_of.Goals as goal

pub loop-e-init : goal.loop-e-init
loop-e-init c = record {
  is = sym (no_numbers (λ e. cond (is_same (stream_at c.args.hierarchy e) c.args.stream && not (beq (get_or c.args.hard.now e false) (get_or c.args.sent.now e false))) 1 0));
  few = omega arith;
}

pub loop-e-preserved : goal.loop-e-preserved
loop-e-preserved c =
    let differs : Bool = not (beq (get_or c.args.hard.now c.loop-e.e false) (get_or c.args.sent.now c.loop-e.e false)) in
    record {
      is = count_more (λ e. is_same (stream_at c.args.hierarchy e) c.args.stream && not (beq (get_or c.args.hard.now e false) (get_or c.args.sent.now e false))) c.loop-e.e c.loop-e.wrong (c.are_same.result && differs) c.loop-e.invariant.is
          (ap (λ (b : Bool). b && differs) (c.are_same.ensures ∙ ap (λ (z : Stream). is_same z c.args.stream) c.stream_of.ensures));
      few = few_more c.loop-e.wrong c.loop-e.e (c.are_same.result && differs) c.loop-e.invariant.few;
    }

pub returns : goal.returns
returns c =
    let all : c.loop-e.e ≡ label_bits c.args.shape = omega (arith, c.label_bits-e-end.ensures, c.loop-e-test.false, c.loop-e.auto.e-end) in
    record {
      is = c.loop-e.invariant.is ∙ ap (λ (z : ℕ). count_by (λ e. is_same (stream_at c.args.hierarchy e) c.args.stream && not (beq (get_or c.args.hard.now e false) (get_or c.args.sent.now e false))) (numbers z)) all;
      few = omega (arith, c.loop-e.invariant.few, all, six c.args.shape);
    }
