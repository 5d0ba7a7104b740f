use Rattle.receiver.proofs.Pending.{all_bytes, took_put}
use Rattle.receiver.proofs.words.take_run.Goals as goal

pub returns-clause-small : goal.returns-clause-small
returns-clause-small c = all_bytes c.args.bytes.now (λ k. (c.type_inv.bytes k).fits)

pub returns-clause-took : goal.returns-clause-took
returns-clause-took c = λ before given tally done h.
    took_put c.taking.ensures.bytes c.growth.ensures.word _ _ before c.args.bytes.now given tally done _ _ h c.requires.some c.requires.within c.put_bytes.ensures.stands c.put_bytes.ensures.phase c.put_bytes.ensures.word c.put_bytes.ensures.none
