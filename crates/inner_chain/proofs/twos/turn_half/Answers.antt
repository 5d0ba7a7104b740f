use Rattle.std.proofs.Common.{◌≡◌, ◌+◌, ◌*◌, ◌<◌, ℕ, length, set, refl, ap, ◌∙◌, subst, arith}
use Rattle.std.proofs.lemmas.List.{length-set}
use Rattle.inner_chain.specs.Tables.{read_bit}
use Rattle.inner_chain.specs.Fours.{ArePairs, turned}
use Rattle.inner_chain.proofs.Pairing.{own_step, pairs_more}
use Rattle.inner_chain.proofs.twos.turn_half.Goals as goal

pub loop-j-init : goal.loop-j-init
loop-j-init g c = record {
  long = refl;
  made = λ p. let none : c.args.first ≡ c.args.first + 0 = omega arith in subst (λ (z : ℕ). ArePairs c.args.parities.now z c.args.words.now) none p;
}

pub loop-j-preserved : goal.loop-j-preserved
loop-j-preserved g c =
    let n : ℕ = c.args.first + c.loop-j.j in
    let few : c.loop-j.j < 63 = omega arith in
    let within : n < length c.loop-j.words = omega (arith, c.loop-j.invariant.long) in
    let next : n + 1 ≡ c.args.first + (c.loop-j.j + 1) = omega arith in
    let own : 2 * n ≡ 2 * turned 0 n + 0 = omega (arith, own_step n) in
    let other : 2 * (c.args.other + c.loop-j.j) + 1 ≡ 2 * turned 1 n + 1 = omega (arith, c.requires.turned c.loop-j.j few) in
    record {
      long = length-set c.loop-j.words n c.label.result ∙ c.loop-j.invariant.long;
      made = λ p. subst (λ (z : ℕ). ArePairs c.args.parities.now z (set c.loop-j.words n c.label.result)) next
          (pairs_more c.args.parities.now c.loop-j.words n c.label.result within (c.loop-j.invariant.made p) c.label.ensures.small
          (c.label.ensures.zero ∙ ap (read_bit c.args.parities.now) own) (c.label.ensures.one ∙ ap (read_bit c.args.parities.now) other));
    }

pub returns : goal.returns
returns g c = λ p. let all : c.args.first + c.loop-j.j ≡ c.args.first + 63 = omega arith in subst (λ (z : ℕ). ArePairs c.args.parities.now z c.loop-j.words) all (c.loop-j.invariant.made p)
