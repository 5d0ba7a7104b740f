use Rattle.std.proofs.Common.{List, ℕ, sym, ◌∙◌, ap, subst}
use Rattle.cmd_packets.specs.InnerBytes.{inner_bytes}
use Rattle.outer_chain.specs.Sent.{sent_bytes}
use Rattle.cmd_packets.specs.Inner.{IsAfter}
use Rattle.cmd_packets.proofs.inner_coder.InnerCoderCoder.take.Goals as goal

pub returns-clause-takes : goal.returns-clause-takes
returns-clause-takes c = λ packets took. (
  c.take-word.ensures.sends packets took.0,
  subst (λ (l : List ℕ). IsAfter c.code_word.new.inner c.args.self.now.rate l) (sym (c.take-word.ensures.next packets took.0))
      (c.code_word.ensures.after c.args.self.now.rate (sent_bytes packets) took.1),
)

pub returns-clause-gives : goal.returns-clause-gives
returns-clause-gives c = λ packets took.
    ap (inner_bytes c.args.self.now.rate) (c.take-word.ensures.next packets took.0)
    ∙ c.code_word.ensures.gives c.args.self.now.rate (sent_bytes packets) took.1
