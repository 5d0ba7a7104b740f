use Rattle.std.proofs.lemmas.Simd.{put_chunk_whole}
use Rattle.std.proofs.Common.{◌∙◌, sym}
use Rattle.acs_lanes.proofs.fours.write.Goals as goal

pub returns : goal.returns
returns c = put_chunk_whole c.args.words.now c.args.lanes (c.requires.size ∙ sym c.requires.lanes)
