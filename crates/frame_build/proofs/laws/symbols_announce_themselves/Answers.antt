use Rattle.frame_build.proofs.Cells.{own_symbol}
use Rattle.frame_build.proofs.laws.symbols_announce_themselves.Goals as goal

pub returns : goal.returns
returns c = own_symbol c.args.settings.now c.args.m
