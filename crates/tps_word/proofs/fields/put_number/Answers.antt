-- One more digit, and at the end all of them.
use Rattle.std.proofs.Common.{◌≡◌, ℕ, ◌+◌, ◌++◌, take, arith, ap, ◌∙◌, sym, List, Bool}
use Rattle.std.specs.Prelude.{◌==◌}
use Rattle.std.proofs.lemmas.Nat.{and_mask}
use Rattle.std.proofs.lemmas.List.{take_all}
use Rattle.tps_word.proofs.Spelling.{put_digit, length-spelled}
use Rattle.tps_word.proofs.fields.put_number.Goals as goal

pub loop-i-preserved : goal.loop-i-preserved
loop-i-preserved c =
    put_digit c.loop-i.bits _ c.args.at c.loop-i.i c.args.width c.args.number _ (omega (arith, c.requires.room, c.loop-i.auto.bits)) c.loop-i-test.true (ap (λ (z : ℕ). z == 1) (and_mask _ 1)) c.loop-i.invariant

pub returns-clause-front : goal.returns-clause-front
returns-clause-front c =
    let all : c.loop-i.i ≡ c.args.width = omega arith in
    ap (λ (z : ℕ). take (c.args.at + z) c.loop-i.bits) (sym all) ∙ c.loop-i.invariant
    ∙ ap (λ (z : List Bool). take c.args.at c.args.bits.now ++ z) (take_all _ _ (omega (arith, length-spelled c.args.width c.args.number)))
