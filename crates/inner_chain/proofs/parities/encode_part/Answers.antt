use Rattle.std.proofs.Common.{◌≡◌, ◌+◌, ◌*◌, ℕ, Bool, List, length, subst, arith}
use Rattle.inner_chain.specs.Tables.{IsEncoded}
use Rattle.inner_chain.proofs.parities.encode_part.Goals as goal

pub returns : goal.returns
returns c = record {
  goes = λ w e x n few s.
      let steps : c.args.done + 8 * length c.take_bytes.new.to ≡ c.args.done + 8 * length c.args.part.now = omega (arith, c.take_bytes.ensures.size) in
      subst (λ (z : ℕ). IsEncoded w e x c.args.first n z c.take_bytes.new.self c.encode_bytes.new.encoder c.encode_bytes.new.to) steps
      (c.encode_bytes.ensures.goes w e x c.take_bytes.new.self n (omega (arith, few, steps))
      (subst (λ (z : List Bool). IsEncoded w e x c.args.first n c.args.done z c.args.encoder.now c.args.to.now) c.take_bytes.ensures.taken s));
}
