use Rattle.rs204.proofs.Near.{bytes_of}
use Rattle.rs204.proofs.steps.syndromes.Goals as goal

pub returns : goal.returns
returns c = c.syndromes_by_rest.ensures c.args.word.now c.told-word (bytes_of c.args.word.now c.fits-word) c.rest.ensures
