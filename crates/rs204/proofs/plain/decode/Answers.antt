use Rattle.std.proofs.Common.{refl, sym, ◌∙◌, inl, inr, arith, true≢false}
use Rattle.rs204.proofs.Near.{clean_code, code_clean, none_near}
use Rattle.rs204.proofs.plain.decode.Goals.{then-count-eq0-via-then-count-eq0, then-count-eq0-via-else-count-eq0+then-count-gt8, then-count-eq0-via-else-count-eq0+else-count-gt8+then-not-all_zero}
use Rattle.rs204.proofs.plain.decode.Goals as goal

pub returns-then-all_zero : goal.returns-then-all_zero
returns-then-all_zero c = (clean_code c.args.word.now c.as_slice.result.now c.syndromes-values.result c.told-word c.fits-word c.as_slice.ensures c.syndromes-values.ensures (c.all_zero.ensures.0 c.if-all_zero.true), refl)

pub returns-then-count-eq0 : goal.returns-then-count-eq0
returns-then-count-eq0 c = (
  refl,
  none_near c.args.word.now c.nearest-fixed.result c.told-word c.nearest-fixed.ensures.size c.nearest-fixed.ensures.near
      (λ h. true≢false (sym (c.all_zero.ensures.1 (code_clean c.args.word.now c.as_slice.result.now c.syndromes-values.result h c.as_slice.ensures c.syndromes-values.ensures)) ∙ c.if-all_zero.false))
      (elim c.then-count-eq0.branch [
        | then-count-eq0-via-then-count-eq0 w ↦ inl (sym c.places_apart-count.ensures ∙ w.if-count-eq0.true)
        | then-count-eq0-via-else-count-eq0+then-count-gt8 w ↦ inr (inl (omega (arith, w.if-count-gt8.true, c.places_apart-count.ensures)))
        | then-count-eq0-via-else-count-eq0+else-count-gt8+then-not-all_zero w ↦ inr (inr (λ h. true≢false (sym (w.all_zero-else-count-gt8.ensures.1 (code_clean c.nearest-fixed.result w.as_slice-else-count-gt8.result.now w.syndromes.result h w.as_slice-else-count-gt8.ensures w.syndromes.ensures)) ∙ w.if-not-all_zero.true)))
      ]),
)

pub returns : goal.returns
returns c = (
  clean_code c.nearest-fixed.result c.as_slice-else-count-gt8.result.now c.syndromes.result c.nearest-fixed.ensures.size c.nearest-fixed.ensures.bytes c.as_slice-else-count-gt8.ensures c.syndromes.ensures (c.all_zero-else-count-gt8.ensures.0 c.if-not-all_zero.false),
  sym c.places_apart-count.ensures,
  omega arith,
  c.if-count-gt8.false,
)
