use Rattle.std.proofs.Common.{[], sym, ap, ◌∙◌}
use Rattle.puncture.specs.SentBits.{path_of}
use Rattle.forney.specs.Values.{stream_of}
use Rattle.cmd_packets.specs.Inner.{rest_of}
use Rattle.cmd_packets.proofs.inner_bytes.InnerBytes.start.Goals as goal

pub returns : goal.returns
unfolding rest_of
returns c = record {
  after = record {
    at = c.start.ensures.at (stream_of []);
    waiting = c.new.ensures.empty ∙ sym (ap rest_of (c.start.ensures.none (path_of (stream_of []))));
  };
}
