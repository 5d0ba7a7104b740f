-- The runs are written one by one.
use Rattle.std.proofs.Common.{◌≡◌, ℕ, ◌+◌, ◌-◌, refl, sym, ◌∙◌, arith, subst}
use Rattle.mode_set.specs.StreamTable.{carriers}
use Rattle.cell_equal.specs.State.{IsAround}
use Rattle.cell_equal.proofs.Bytes.{no_bytes, all_written}
use Rattle.cell_equal.proofs.symbol.equalise_into.Goals as goal

pub runs-init : goal.runs-init
runs-init c = record {
  within = omega arith;
  span = c.first-span.ensures c.args.mode c.args.l;
  bytes = sym (no_bytes c.args.mode c.args.l c.args.cells.now c.args.weights.now);
  long = refl;
}

pub runs-preserved : goal.runs-preserved
runs-preserved c =
    let i = c.runs.invariant in
    let e = c.put_run.ensures in
    let s = c.put_run.new.span in
    let back : s.right ≡ s.right + 1 - 1 = omega arith in
    record {
      within = omega (arith, e.within);
      span = subst (λ (z : ℕ). IsAround c.args.mode c.args.l c.args.cells.now z s) back e.around;
      bytes = e.bytes i.bytes;
      long = e.long ∙ i.long;
    }

pub returns-clause-bytes : goal.returns-clause-bytes
returns-clause-bytes c =
    let i = c.runs.invariant in
    let end : c.runs.next ≡ carriers c.args.mode = omega (arith, i.within, c.runs-test.false, c.requires.cells) in
    all_written c.args.mode c.args.l c.args.cells.now c.args.weights.now c.runs.next _ end (i.long ∙ c.requires.long) i.bytes

pub returns-clause-long : goal.returns-clause-long
returns-clause-long c = c.runs.invariant.long
