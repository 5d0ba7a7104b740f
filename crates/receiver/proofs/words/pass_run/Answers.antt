use Rattle.std.proofs.Common.{◌≡◌, rules, length}
use Rattle.receiver.proofs.words.pass_run.Goals as goal

pub returns-clause-passed : goal.returns-clause-passed
returns-clause-passed c = λ b g t n h.
    let size : length c.take_bytes.new.to ≡ c.args.number = search rules in
    record {
      more = c.take_bytes.new.to;
      long = size;
      small = c.take_run.ensures.small;
      bits = c.take_bytes.ensures.taken;
      took = c.take_run.ensures.took b g t n h;
    }
