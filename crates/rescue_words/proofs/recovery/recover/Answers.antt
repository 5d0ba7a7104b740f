use Rattle.std.proofs.Common.{rules, ◌≡◌, length, subst}
use Rattle.rs204.specs.Decoded.{Decoded}
use Rattle.rescue_words.proofs.Recovered.{clean_word, corrected_word}
use Rattle.rescue_words.proofs.recovery.recover.Goals as goal

pub returns-in-Clean : goal.returns-in-Clean
returns-in-Clean c =
    let long : length c.args.slot.now.word ≡ 204 = search rules in
    record { recovered = clean_word c.args.slot.now.word c.args.margins.now c.decode.new.self long c.in-Clean.is (subst (Decoded c.args.slot.now.word c.decode.new.self.word) c.in-Clean.is c.decode.ensures.decoded) }

pub returns-in-Corrected : goal.returns-in-Corrected
returns-in-Corrected c =
    let long : length c.args.slot.now.word ≡ 204 = search rules in
    record { recovered = corrected_word c.args.slot.now.word c.args.margins.now c.decode.new.self c.in-Corrected.field-0 long c.in-Corrected.is (subst (Decoded c.args.slot.now.word c.decode.new.self.word) c.in-Corrected.is c.decode.ensures.decoded) }
