use Rattle.std.proofs.Common.{◌≡◌, ◌/◌, ◌++◌, ◌∷◌, [], ℕ, List, length, refl, sym, ap₂, ◌∙◌, arith}
use Rattle.rescue_words.proofs.ByteLists.{byte_pushed, none_pushed, all_pushed}
use Rattle.rescue_words.proofs.bytes.push_byte_margins.Goals as goal

pub loop-k-init : goal.loop-k-init
loop-k-init c = (none_pushed c.args.margins.now c.args.to.now.items, omega arith, refl)

pub loop-k-preserved : goal.loop-k-preserved
loop-k-preserved c = (
  c.push_reserved.ensures.items ∙ ap₂ (λ (x : List ℕ) (b : ℕ). x ++ b ∷ []) c.loop-k.invariant.0 c.least_of_byte.ensures ∙ sym (byte_pushed c.args.margins.now c.args.to.now.items c.loop-k.k),
  omega (arith, c.push_reserved.ensures.len, c.loop-k.invariant.1),
  c.push_reserved.ensures.capacity ∙ c.loop-k.invariant.2,
)

pub returns-clause-margins : goal.returns-clause-margins
returns-clause-margins c =
    let e : c.loop-k.k ≡ length c.args.margins.now / 8 = omega (arith, c.loop-k.auto.k-end, c.loop-k-test.false) in
    c.loop-k.invariant.0 ∙ all_pushed c.args.margins.now c.args.to.now.items c.loop-k.k e
