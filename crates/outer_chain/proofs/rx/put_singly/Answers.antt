use Rattle.std.proofs.Common.{◌≡◌, ◌++◌, sym, ◌∙◌, subst, arith, length, length-set, append-nil}
use Rattle.std.proofs.lemmas.List.{take_all}
use Rattle.outer_chain.specs.Receiving.{Holds}
use Rattle.outer_chain.proofs.ByteRuns.{holds_run}
use Rattle.outer_chain.proofs.rx.put_singly.Goals as goal

pub loop-byte-init : goal.loop-byte-init
loop-byte-init c = record {
  size = c.requires.twelve;
  small = c.requires.next;
  place = omega arith;
  holds = λ before h. subst (Holds c.args.words.now c.args.next) (sym (append-nil before)) h;
}

pub loop-byte-preserved : goal.loop-byte-preserved
loop-byte-preserved c = record {
  size = length-set c.loop-byte.words c.loop-byte.place _ ∙ c.loop-byte.invariant.size;
  small = omega (arith, c.place_after-place.ensures.is);
  place = omega (arith, c.place_after-place.ensures.is, c.loop-byte.invariant.place);
  holds = λ before h. holds_run c.loop-byte.words c.loop-byte.place c.place_after-place.result c.loop-byte.byte-index before c.args.bytes.now c.loop-byte.invariant.small (omega (arith, c.loop-byte-test.true)) c.place_after-place.ensures.is (c.loop-byte.invariant.holds before h);
}

pub returns-clause-place : goal.returns-clause-place
returns-clause-place c =
    let e : c.loop-byte.byte-index ≡ length c.args.bytes.now = omega (arith, c.loop-byte-test.false, c.loop-byte.auto.byte-index-end) in
    omega (arith, c.loop-byte.invariant.place, e)

pub returns-clause-holds : goal.returns-clause-holds
returns-clause-holds c = λ before h.
    let e : c.loop-byte.byte-index ≡ length c.args.bytes.now = omega (arith, c.loop-byte-test.false, c.loop-byte.auto.byte-index-end) in
    subst (λ z. Holds c.loop-byte.words c.loop-byte.place (before ++ z)) (take_all c.loop-byte.byte-index c.args.bytes.now (omega (arith, e))) (c.loop-byte.invariant.holds before h)
