use Rattle.mode_set.proofs.Periods.{whole_words}
use Rattle.mode_set.proofs.laws.super_frames_have_whole_words.Goals as goal

pub returns : goal.returns
returns c = whole_words
