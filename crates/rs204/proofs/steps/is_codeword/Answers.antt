use Rattle.std.proofs.Common.{eq-eqb}
use Rattle.std.proofs.lemmas.Bool.{eqb-true}
use Rattle.rs204.proofs.Near.{bytes_of}
use Rattle.rs204.proofs.Codewords.{zero_is_code, code_is_zero}
use Rattle.rs204.proofs.steps.is_codeword.Goals as goal

pub returns : goal.returns
returns c = (
  λ t. zero_is_code c.args.word.now c.rest.result c.told-word (bytes_of c.args.word.now c.fits-word) c.rest.ensures (eqb-true c.rest.result 0 t),
  λ h. eq-eqb c.rest.result 0 (code_is_zero c.args.word.now c.rest.result h c.rest.ensures),
)
