-- Each field follows the ones before.
use Rattle.std.proofs.Common.{◌≡◌, arith, List, Bool, ◌∙◌, ◌++◌, ◌-◌, take, refl}
use Rattle.std.specs.Prelude.{codes}
use Rattle.spec_words.specs.Bits.{spelled, digits}
use Rattle.tps_word.specs.Tps.{sync_word, length_bits, shape_bits, hierarchy_bits, rate_bits, guard_bits, mode_bits, tps_info}
use Rattle.tps_word.proofs.Places.{length-info, whole, joined}
use Rattle.tps_word.proofs.word.TpsWord.info.Goals as goal

pub returns : goal.returns
unfolding tps_info
returns c =
    let t = c.args.self.now in
    let p1 : List Bool = sync_word t.frame in
    let p2 : List Bool = p1 ++ length_bits t.with_cell in
    let p3 : List Bool = p2 ++ spelled 2 (t.frame - 1) in
    let p4 : List Bool = p3 ++ shape_bits t.shape in
    let p5 : List Bool = p4 ++ hierarchy_bits t.hierarchy in
    let p6 : List Bool = p5 ++ rate_bits t.rate_hp in
    let p7 : List Bool = p6 ++ rate_bits t.rate_lp in
    let p8 : List Bool = p7 ++ guard_bits t.guard in
    let p9 : List Bool = p8 ++ mode_bits t.mode in
    let p10 : List Bool = p9 ++ spelled 8 t.cell_byte in
    let f1 : take c.put-at.result c.put-at.new.bits ≡ p1 = c.put-at.ensures.front ∙ c.sync_digits.ensures in
    let f2 : take c.put-at-2.result c.put-at-2.new.bits ≡ p2 = joined c.put-at-2.ensures.front f1 c.length_digits.ensures in
    let f3 : take c.put_number-at.result c.put_number-at.new.bits ≡ p3 = joined c.put_number-at.ensures.front f2 refl in
    let f4 : take c.put-at-3.result c.put-at-3.new.bits ≡ p4 = joined c.put-at-3.ensures.front f3 c.shape_digits.ensures in
    let f5 : take c.put-at-4.result c.put-at-4.new.bits ≡ p5 = joined c.put-at-4.ensures.front f4 c.hierarchy_digits.ensures in
    let f6 : take c.put-at-5.result c.put-at-5.new.bits ≡ p6 = joined c.put-at-5.ensures.front f5 c.rate_digits.ensures in
    let f7 : take c.put-at-6.result c.put-at-6.new.bits ≡ p7 = joined c.put-at-6.ensures.front f6 c.rate_digits-2.ensures in
    let f8 : take c.put-at-7.result c.put-at-7.new.bits ≡ p8 = joined c.put-at-7.ensures.front f7 c.guard_digits.ensures in
    let f9 : take c.put-at-8.result c.put-at-8.new.bits ≡ p9 = joined c.put-at-8.ensures.front f8 c.mode_digits.ensures in
    let f10 : take c.put_number-at-2.result c.put_number-at-2.new.bits ≡ p10 = joined c.put_number-at-2.ensures.front f9 refl in
    let f11 : take c.put.result c.put.new.bits ≡ p10 ++ digits (codes "000000") = joined c.put.ensures.front f10 refl in
    whole c.put.result c.put.new.bits (tps_info t) f11 (omega (arith, length-info t))
