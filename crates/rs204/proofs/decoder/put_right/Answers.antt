use Rattle.std.proofs.Common.{refl, sym, inl, inr, arith, true≢false, ◌∙◌}
use Rattle.rs204.proofs.Near.{bytes_of, none_near}
use Rattle.rs204.proofs.Codewords.{zero_is_code, code_is_zero}
use Rattle.rs204.proofs.decoder.put_right.Goals.{then-count-eq0-via-then-count-eq0, then-count-eq0-via-else-count-eq0+then-count-gt-MOST, then-count-eq0-via-else-count-eq0+else-count-gt-MOST+then-not-is_codeword}
use Rattle.rs204.proofs.decoder.put_right.Goals as goal

pub returns-then-left-eq0 : goal.returns-then-left-eq0
returns-then-left-eq0 c = (zero_is_code c.args.word.now c.rest-left.result c.told-word (bytes_of c.args.word.now c.fits-word) c.rest-left.ensures c.if-left-eq0.true, refl)

pub nearest-fixed-requires : goal.nearest-fixed-requires
nearest-fixed-requires c = c.syndromes_by_rest-values.ensures c.args.word.now c.told-word (bytes_of c.args.word.now c.fits-word) c.rest-left.ensures

pub returns-then-count-eq0 : goal.returns-then-count-eq0
returns-then-count-eq0 c = (
  refl,
  none_near c.args.word.now c.nearest-fixed.result c.told-word c.nearest-fixed.ensures.size c.nearest-fixed.ensures.near
      (λ h. c.if-left-eq0.false (code_is_zero c.args.word.now c.rest-left.result h c.rest-left.ensures))
      (elim c.then-count-eq0.branch [
        | then-count-eq0-via-then-count-eq0 w ↦ inl (sym c.places_apart-count.ensures ∙ w.if-count-eq0.true)
        | then-count-eq0-via-else-count-eq0+then-count-gt-MOST w ↦ inr (inl (omega (arith, w.if-count-gt-MOST.true, c.places_apart-count.ensures)))
        | then-count-eq0-via-else-count-eq0+else-count-gt-MOST+then-not-is_codeword w ↦ inr (inr (λ h. true≢false (sym (w.is_codeword-else-count-gt-MOST.ensures.1 h) ∙ w.if-not-is_codeword.true)))
      ]),
)
