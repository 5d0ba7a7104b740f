-- One place more.
use Rattle.std.proofs.Common.{◌≡◌, ℕ, ◌∙◌, cond, sym, ap, arith}
use Rattle.std.specs.Prelude.{count_by}
use Rattle.spec_words.specs.Words.{numbers}
use Rattle.mode_set.specs.StreamTable.{label_bits}
use Rattle.mode_set.specs.declared.modes.Stream.{Stream}
use Rattle.bit_interleave.specs.Place.{stream_at}
use Rattle.measure_sums.specs.Comparing.{is_same}
use Rattle.measure_sums.proofs.Counting.{no_numbers, count_more, few_more}
use Rattle.measure_sums.proofs.Placing.{six}
use Rattle.measure_sums.proofs.place.bits_of.Goals as goal

pub loop-e-init : goal.loop-e-init
loop-e-init c = record { is = sym (no_numbers (λ e. cond (is_same (stream_at c.args.hierarchy e) c.args.stream) 1 0)); few = omega arith }

pub loop-e-preserved : goal.loop-e-preserved
loop-e-preserved c = record {
  is = count_more (λ e. is_same (stream_at c.args.hierarchy e) c.args.stream) c.loop-e.e c.loop-e.bits c.are_same.result c.loop-e.invariant.is (c.are_same.ensures ∙ ap (λ (z : Stream). is_same z c.args.stream) c.stream_of.ensures);
  few = few_more c.loop-e.bits c.loop-e.e c.are_same.result c.loop-e.invariant.few;
}

pub returns : goal.returns
returns c =
    let all : c.loop-e.e ≡ label_bits c.args.shape = omega (arith, c.label_bits-e-end.ensures, c.loop-e-test.false, c.loop-e.auto.e-end) in
    record {
      is = c.loop-e.invariant.is ∙ ap (λ (z : ℕ). count_by (λ e. is_same (stream_at c.args.hierarchy e) c.args.stream) (numbers z)) all;
      few = omega (arith, c.loop-e.invariant.few, all, six c.args.shape);
    }
