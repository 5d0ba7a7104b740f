use Rattle.std.proofs.Common.{◌≡◌, ◌+◌, ◌-◌, ◌*◌, ◌%◌, ◌++◌, ℕ, ◌∙◌, subst, arith, length, take, length-set}
use Rattle.std.proofs.lemmas.List.{take_all}
use Rattle.outer_chain.specs.Receiving.{Holds}
use Rattle.outer_chain.proofs.Places.{fallen, fallen_on}
use Rattle.outer_chain.proofs.ByteRuns.{holds_run}
use Rattle.outer_chain.proofs.rx.put_falling.Goals as goal

pub loop-byte-preserved : goal.loop-byte-preserved
loop-byte-preserved c =
    let l = c.loop-byte in
    let at : (c.args.next + 2245 * l.byte) % 2448 ≡ c.args.next - 203 * l.byte = fallen c.args.next l.byte (omega (arith, c.requires.falls, c.loop-byte-test.true)) c.requires.next in
    record {
      size = length-set l.words (c.args.next - 203 * l.byte) _ ∙ l.invariant.size;
      holds = λ before h. holds_run l.words (c.args.next - 203 * l.byte) ((c.args.next + 2245 * (l.byte + 1)) % 2448) l.byte before c.args.bytes.now (omega (arith, c.requires.next)) c.loop-byte-test.true (fallen_on c.args.next l.byte (omega (arith, c.requires.falls, c.loop-byte-test.true)) c.requires.next) (subst (λ p. Holds l.words p (before ++ take l.byte c.args.bytes.now)) at (l.invariant.holds before h));
    }

pub returns-clause-holds : goal.returns-clause-holds
returns-clause-holds c = λ before h.
    let l = c.loop-byte in
    let e : l.byte ≡ length c.args.bytes.now = omega (arith, c.loop-byte-test.false, l.auto.byte-end) in
    subst (λ (n : ℕ). Holds l.words ((c.args.next + 2245 * n) % 2448) (before ++ c.args.bytes.now)) e (subst (λ z. Holds l.words ((c.args.next + 2245 * l.byte) % 2448) (before ++ z)) (take_all l.byte c.args.bytes.now (omega (arith, e))) (l.invariant.holds before h))
