-- The bits and their parity.
use Rattle.std.proofs.Common.{ap, ◌∙◌}
use Rattle.tps_bch.specs.Bch.{tps_parity}
use Rattle.tps_word.specs.Tps.{tps_info, tps_word}
use Rattle.tps_word.proofs.Places.{two_parts}
use Rattle.tps_word.proofs.word.TpsWord.write.Goals as goal

pub returns : goal.returns
unfolding tps_word
returns c =
    two_parts c.copy_from_slice.new.self c.copy_from_slice-2.new.self (tps_info c.args.self.now) (tps_parity (tps_info c.args.self.now)) (c.copy_from_slice.ensures.after ∙ c.info-info.ensures)
    (c.copy_from_slice-2.ensures.after ∙ c.parity.ensures.rest ∙ ap tps_parity c.info-info.ensures) c.copy_from_slice.ensures.len
