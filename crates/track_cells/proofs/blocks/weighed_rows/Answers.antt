-- One row more.
use Rattle.std.proofs.Common.{◌≡◌, ℕ, ◌+◌, ◌^◌, ◌<◌, ◌≤◌, List, [], length, ap, ◌∙◌, arith}
use Rattle.std.specs.Prelude.{ℤ, nat_abs}
use Rattle.std.proofs.lemmas.List.{length-set}
use Rattle.tracking.specs.InFrequency.{frequency_row}
use Rattle.track_cells.specs.Weighed.{part_at, weighed}
use Rattle.track_cells.proofs.Placed.{one_placed}
use Rattle.track_cells.proofs.blocks.weighed_rows.Goals as goal

pub loop-r-preserved : goal.loop-r-preserved
loop-r-preserved c =
    let r = c.loop-r.r in
    let old = c.loop-r.sums in
    let i = c.loop-r.invariant in
    let parts = c.args.parts.now in
    let few : r < length old = omega (arith, c.loop-r-test.true, i.long) in
    record {
      long = length-set old r c.weighed_row.result ∙ i.long;
      is = one_placed (λ (s : ℕ) (z : List ℤ). (n : ℕ) → n < 64 → part_at z n ≡ weighed (frequency_row c.args.guard (15 + s)) parts n) [] old r (r + 1) c.weighed_row.result few (omega arith) i.is
          (λ n lt. c.weighed_row.ensures.is n lt ∙ ap (λ (z : List ℤ). weighed z parts n) c.row.ensures.is);
      within = one_placed (λ (s : ℕ) (z : List ℤ). (n : ℕ) → n < 64 → nat_abs (part_at z n) ≤ 2 ^ 24) [] old r (r + 1) c.weighed_row.result few (omega arith) i.within c.weighed_row.ensures.within;
    }
