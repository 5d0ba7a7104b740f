use Rattle.forney.proofs.WindowLines.{row_more}
use Rattle.forney.proofs.word_interleaver.put_word.Goals as goal

pub loop-row-preserved : goal.loop-row-preserved
loop-row-preserved c = record {
  size = c.put_row.ensures.size;
  bytes = row_more c.args.window.now c.loop-row.word c.put_row.new.word c.loop-row.row c.loop-row.invariant.bytes c.put_row.ensures.before c.put_row.ensures.here;
}
