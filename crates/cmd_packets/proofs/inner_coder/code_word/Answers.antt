use Rattle.std.proofs.Common.{◌≡◌, ◌+◌, ◌++◌, ◌∷◌, [], ℕ, List, take, length, arith, get_or, sym, ◌∙◌, ap, subst, append-nil, append_assoc}
use Rattle.std.proofs.lemmas.List.{take_all, take_more}
use Rattle.cmd_packets.specs.InnerBytes.{inner_bytes}
use Rattle.cmd_packets.specs.Inner.{IsAfter}
use Rattle.cmd_packets.proofs.inner_coder.code_word.Goals as goal

pub loop-byte-init : goal.loop-byte-init
loop-byte-init c = record {
  few = omega (arith, ap length c.clear.ensures);
  after = λ r bytes h. subst (λ (l : List ℕ). IsAfter c.args.inner.now r l) (sym (append-nil bytes)) h;
  gives = λ r bytes h. ap (inner_bytes r) (append-nil bytes) ∙ sym (append-nil (inner_bytes r bytes)) ∙ ap (λ (l : List ℕ). inner_bytes r bytes ++ l) (sym c.clear.ensures);
}

pub loop-byte-preserved : goal.loop-byte-preserved
loop-byte-preserved c =
    let w : List ℕ = c.args.word.now in
    let i : ℕ = c.loop-byte.byte-index in
    let inv = c.loop-byte.invariant in
    let one : (bytes : List ℕ) → (bytes ++ take i w) ++ get_or w i 0 ∷ [] ≡ bytes ++ take (i + 1) w =
    λ bytes. append_assoc bytes (take i w) (get_or w i 0 ∷ []) ∙ ap (λ (l : List ℕ). bytes ++ l) (sym (take_more w i 0 (omega arith))) in
    record {
      few = omega (arith, c.push.ensures.few, inv.few);
      after = λ r bytes h. subst (λ (l : List ℕ). IsAfter c.push.new.self r l) (one bytes) (c.push.ensures.after r (bytes ++ take i w) (inv.after r bytes h));
      gives = λ r bytes h. ap (inner_bytes r) (sym (one bytes)) ∙ c.push.ensures.gives r (bytes ++ take i w) (inner_bytes r bytes) (inv.after r bytes h) (inv.gives r bytes h);
    }

pub returns-clause-after : goal.returns-clause-after
returns-clause-after c = λ r bytes h.
    let all : take c.loop-byte.byte-index c.args.word.now ≡ c.args.word.now = take_all c.loop-byte.byte-index c.args.word.now (omega arith) in
    subst (λ (l : List ℕ). IsAfter c.loop-byte.inner r (bytes ++ l)) all (c.loop-byte.invariant.after r bytes h)

pub returns-clause-gives : goal.returns-clause-gives
returns-clause-gives c = λ r bytes h.
    let all : take c.loop-byte.byte-index c.args.word.now ≡ c.args.word.now = take_all c.loop-byte.byte-index c.args.word.now (omega arith) in
    ap (λ (l : List ℕ). inner_bytes r (bytes ++ l)) (sym all) ∙ c.loop-byte.invariant.gives r bytes h
