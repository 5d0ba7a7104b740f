-- Each field is that of any valid word equal to the bits.
use Rattle.std.proofs.Common.{◌≡◌, arith, List, Bool, ap, sym, subst, ◌∙◌, Some}
use Rattle.tps_word.specs.declared.word.TpsWord.{TpsWord}
use Rattle.tps_word.specs.Tps.{tps_word, IsValid}
use Rattle.tps_word.specs.Number.{shape_numbered, hierarchy_numbered, rate_numbered, guard_numbered, mode_numbered}
use Rattle.tps_word.proofs.Places.{HasFields, has_fields, same_fields, inside, apart}
use Rattle.tps_word.proofs.word.TpsWord.fields_of.Goals as goal

-- the content of the bits, if they are the word of t
held : (bits : List Bool) (t : TpsWord) → IsValid t → bits ≡ tps_word t → HasFields bits t
held bits t valid e = subst (λ (w : List Bool). HasFields w t) (sym e) (has_fields t valid)

pub returns-in_err-shape_of-clause-word : goal.returns-in_err-shape_of-clause-word
returns-in_err-shape_of-clause-word c = λ t valid e. apart (sym c.in_err-shape_of.was ∙ c.shape_of.ensures ∙ ap shape_numbered c.number-2.ensures.value ∙ (held c.args.bits.now t valid e).shape)

pub returns-in_err-hierarchy_of-clause-word : goal.returns-in_err-hierarchy_of-clause-word
returns-in_err-hierarchy_of-clause-word c = λ t valid e. apart (sym c.in_err-hierarchy_of.was ∙ c.hierarchy_of.ensures ∙ ap hierarchy_numbered c.number-3.ensures.value ∙ (held c.args.bits.now t valid e).hierarchy)

pub returns-in_err-rate_of-clause-word : goal.returns-in_err-rate_of-clause-word
returns-in_err-rate_of-clause-word c = λ t valid e. apart (sym c.in_err-rate_of.was ∙ c.rate_of.ensures ∙ ap rate_numbered c.number-4.ensures.value ∙ (held c.args.bits.now t valid e).rate_hp)

pub returns-in_err-rate_of-2-clause-word : goal.returns-in_err-rate_of-2-clause-word
returns-in_err-rate_of-2-clause-word c = λ t valid e. apart (sym c.in_err-rate_of-2.was ∙ c.rate_of-2.ensures ∙ ap rate_numbered c.number-5.ensures.value ∙ (held c.args.bits.now t valid e).rate_lp)

pub returns-in_err-mode_of-clause-word : goal.returns-in_err-mode_of-clause-word
returns-in_err-mode_of-clause-word c = λ t valid e. apart (sym c.in_err-mode_of.was ∙ c.mode_of.ensures ∙ ap mode_numbered c.number-7.ensures.value ∙ (held c.args.bits.now t valid e).mode)

pub returns-clause-word : goal.returns-clause-word
returns-clause-word c = λ t valid e.
    let h = held c.args.bits.now t valid e in
    ap Some
    (same_fields t _ _ _ _ _ _ _ _ _
    (omega (arith, c.number.ensures.value, h.frame, valid.first))
    h.with_cell
    (inside (sym c.in_ok-shape_of.was ∙ c.shape_of.ensures ∙ ap shape_numbered c.number-2.ensures.value ∙ h.shape))
    (inside (sym c.in_ok-hierarchy_of.was ∙ c.hierarchy_of.ensures ∙ ap hierarchy_numbered c.number-3.ensures.value ∙ h.hierarchy))
    (inside (sym c.in_ok-rate_of.was ∙ c.rate_of.ensures ∙ ap rate_numbered c.number-4.ensures.value ∙ h.rate_hp))
    (inside (sym c.in_ok-rate_of-2.was ∙ c.rate_of-2.ensures ∙ ap rate_numbered c.number-5.ensures.value ∙ h.rate_lp))
    (inside (sym c.in_ok-guard_of.was ∙ c.guard_of.ensures ∙ ap guard_numbered c.number-6.ensures.value ∙ h.guard))
    (inside (sym c.in_ok-mode_of.was ∙ c.mode_of.ensures ∙ ap mode_numbered c.number-7.ensures.value ∙ h.mode))
    (c.number-8.ensures.value ∙ h.cell_byte))
