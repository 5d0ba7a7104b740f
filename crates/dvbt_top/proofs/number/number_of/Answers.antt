use Rattle.std.proofs.Common.{◌∙◌, get_or, sym, arith}
use Rattle.std.proofs.lemmas.Bool.{eqb-true, eqb-false}
use Rattle.dvbt_top.proofs.Numbers.{too_long, with_plus, parsed}
use Rattle.dvbt_top.proofs.number.number_of.Goals as goal

pub returns-then-word-gt-MOST_DIGITS : goal.returns-then-word-gt-MOST_DIGITS
returns-then-word-gt-MOST_DIGITS c = too_long c.args.word.now c.if-word-gt-MOST_DIGITS.true

pub returns-then-has_plus : goal.returns-then-has_plus
returns-then-has_plus c = with_plus c.args.word.now (eqb-true (get_or c.args.word.now 0 0) 43 (sym c.has_plus.ensures ∙ c.if-has_plus.true))

pub returns : goal.returns
returns c = c.ok.ensures.value ∙ parsed c.args.word.now c.parse.result c.parse.ensures.value.0 (omega (arith, c.if-word-gt-MOST_DIGITS.false)) (eqb-false (get_or c.args.word.now 0 0) 43 (sym c.has_plus.ensures ∙ c.if-has_plus.false))
