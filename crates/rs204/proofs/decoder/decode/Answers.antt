use Rattle.rs204.proofs.Exact.{clean_only, corrected_only, bad_only}
use Rattle.rs204.proofs.decoder.decode.Goals as goal

pub returns-clause-clean : goal.returns-clause-clean
returns-clause-clean c = λ h. clean_only c.args.word.now c.put_right.new.word c.put_right.result c.put_right.ensures h

pub returns-clause-corrected : goal.returns-clause-corrected
returns-clause-corrected c = λ n w h. corrected_only c.args.word.now c.put_right.new.word c.put_right.result c.told-word c.put_right.ensures n w h

pub returns-clause-bad : goal.returns-clause-bad
returns-clause-bad c = λ h. bad_only c.args.word.now c.put_right.new.word c.put_right.result c.put_right.ensures h
