use Rattle.std.proofs.Common.{◌≡◌, ◌+◌, ◌*◌, ◌<◌, ◌++◌, ℕ, Bool, List, length, drop, get_or, sym, ap, ◌∙◌, subst, arith, append_assoc}
use Rattle.std.proofs.lemmas.List.{drop_more, drop_all}
use Rattle.spec_words.specs.Bits.{spelled}
use Rattle.bit_pack.specs.Queue.{bits_of_bytes}
use Rattle.inner_chain.specs.Tables.{IsEncoded, read_bit}
use Rattle.inner_chain.proofs.Encoding.{encode_eight}
use Rattle.inner_chain.proofs.parities.encode_bytes.Goals as goal

pub loop-index-init : goal.loop-index-init
loop-index-init c = λ w e x rest n few s.
    let none : c.args.done ≡ c.args.done + 8 * 0 = omega arith in
    subst (λ (z : ℕ). IsEncoded w e x c.args.first n z (bits_of_bytes c.args.bytes.now ++ rest) c.args.encoder.now c.args.to.now) none s

pub loop-index-preserved : goal.loop-index-preserved
loop-index-preserved c =
    let i = c.loop-index.index in
    let xs = c.args.bytes.now in
    let within : i < length xs = omega (arith, c.loop-index-test.true) in
    (λ w e x rest n few s.
    let head : bits_of_bytes (drop i xs) ++ rest ≡ spelled 8 (get_or xs i 0) ++ (bits_of_bytes (drop (i + 1) xs) ++ rest) =
    ap (λ (z : List ℕ). bits_of_bytes z ++ rest) (drop_more xs i 0 within) ∙ append_assoc (spelled 8 (get_or xs i 0)) (bits_of_bytes (drop (i + 1) xs)) rest in
    let next : c.args.done + 8 * i + 8 ≡ c.args.done + 8 * (i + 1) = omega arith in
    let place : 2 * (c.args.first + c.args.done + 8 * i) ≡ 2 * (c.args.first + (c.args.done + 8 * i)) = omega arith in
    subst (λ (z : ℕ). IsEncoded w e x c.args.first n z (bits_of_bytes (drop (i + 1) xs) ++ rest) c.push_byte-inputs.new.self c.write_eight.new.to) next
    (encode_eight w e x c.args.first n (c.args.done + 8 * i) (bits_of_bytes (drop i xs) ++ rest) c.loop-index.encoder c.loop-index.to (get_or xs i 0) (bits_of_bytes (drop (i + 1) xs) ++ rest) c.push_byte-inputs.new.self c.write_eight.new.to c.push_byte-inputs.result
    (c.loop-index.invariant w e x rest n few s) (omega (arith, few, within)) head c.push_byte-inputs.ensures.inputs c.push_byte-inputs.ensures.register
    (λ m l. ap (λ (z : ℕ). read_bit c.write_eight.new.to (z + m)) (sym place) ∙ c.write_eight.ensures.first m l)
    (λ m l. ap (λ (z : ℕ). read_bit c.write_eight.new.to (z + 8 + m)) (sym place) ∙ c.write_eight.ensures.second m l)
    (λ k l. c.write_eight.ensures.before k (omega (arith, l)))))

pub returns : goal.returns
returns c = record {
  goes = λ w e x rest n few s.
      let all : c.loop-index.index ≡ length c.args.bytes.now = omega arith in
      let none : bits_of_bytes (drop c.loop-index.index c.args.bytes.now) ++ rest ≡ rest = ap (λ (z : List ℕ). bits_of_bytes z ++ rest) (drop_all c.loop-index.index c.args.bytes.now (omega (arith, all))) in
      subst (λ (z : List Bool). IsEncoded w e x c.args.first n (c.args.done + 8 * length c.args.bytes.now) z c.loop-index.encoder c.loop-index.to) none
      (subst (λ (z : ℕ). IsEncoded w e x c.args.first n (c.args.done + 8 * z) (bits_of_bytes (drop c.loop-index.index c.args.bytes.now) ++ rest) c.loop-index.encoder c.loop-index.to) all
      (c.loop-index.invariant w e x rest n few s));
}
