use Rattle.std.proofs.Common.{◌≤◌, ◌++◌, ◌∙◌, sym, ap, subst, List, ℕ, Bool, false, length, arith}
use Rattle.std.specs.Prelude.{replicate}
use Rattle.outer_chain.specs.Bits.{bytes_of}
use Rattle.cmd_packets.specs.InnerBytes.{inner_bits, inner_bytes}
use Rattle.cmd_packets.specs.Inner.{InnerState, IsAfter}
use Rattle.cmd_packets.proofs.WholeBytes.{bytes_after, all_gives, behind}
use Rattle.cmd_packets.proofs.inner_bytes.InnerBytes.finish.Goals as goal

pub returns : goal.returns
returns c = record {
  gives = λ r bytes first old is.
      let before = subst (λ (s : InnerState). IsAfter s r bytes) (sym c.self.view_is) old in
      let few : length c.take_one.new.waiting ≤ 7 = omega (arith, c.take_one.ensures.few, c.push_zeros.ensures.count, c.self.invariant) in
      let taken = all_gives c.args.piece.now.items c.take_one.new.piece.items c.push_zeros.new.waiting c.take_one.new.waiting few c.take_one.ensures.gives in
      let more =
      bytes_after (inner_bits r bytes) (replicate 7 false)
      ∙ ap (λ (l : List Bool). inner_bytes r bytes ++ bytes_of (l ++ replicate 7 false)) (sym before.waiting)
      ∙ ap (λ (l : List Bool). inner_bytes r bytes ++ bytes_of l) (sym c.push_zeros.ensures.zeros) in
      behind first c.args.piece.now.items (bytes_of c.push_zeros.new.waiting) _ _ is more ∙ ap (λ (l : List ℕ). first ++ l) (sym taken);
}
