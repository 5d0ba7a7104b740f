use Rattle.std.proofs.Common.{◌≡◌, ◌+◌, ◌*◌, ◌≤◌, ℕ, Bool, List, length, replicate, subst, take}
use Rattle.std.proofs.lemmas.List.{length-take-le}
use Rattle.inner_chain.specs.Tables.{IsEncoded}
use Rattle.inner_chain.proofs.parities.encode_chunk.Goals as goal

pub returns : goal.returns
returns c =
    let size : length (take c.args.number (replicate 64 0)) ≡ c.args.number = length-take-le c.args.number (replicate 64 0) c.requires.few in
    subst (λ (k : ℕ). record {
      goes : (w e x : List Bool) (n : ℕ) → c.args.done + 8 * k ≤ n → IsEncoded w e x c.args.first n c.args.done c.args.waiting.now c.args.encoder.now c.args.to.now
          → IsEncoded w e x c.args.first n (c.args.done + 8 * k) c.encode_part.new.waiting c.encode_part.new.encoder c.encode_part.new.to;
    }) size (record { goes = c.encode_part.ensures.goes })
