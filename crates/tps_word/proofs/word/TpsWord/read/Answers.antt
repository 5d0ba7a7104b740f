-- The fields are those of the bits if they give the bits again.
use Rattle.std.proofs.Common.{◌≡◌, refl, sym, ap, ◌∙◌, true, false}
use Rattle.tps_word.specs.Tps.{tps_word}
use Rattle.tps_word.proofs.Places.{inside}
use Rattle.tps_word.proofs.Agreements.{equal, same_as_itself, differ}
use Rattle.tps_word.proofs.word.TpsWord.read.Goals as goal

pub returns-then-eq : goal.returns-then-eq
returns-then-eq c = (c.if-not-is_valid.ensures.0 refl, sym (equal _ _ (sym c.eq.ensures ∙ c.if-eq.true)) ∙ c.write.ensures)

pub returns-else-eq : goal.returns-else-eq
returns-else-eq c = λ t valid e.
    let same = inside (c.in_ok-word.ensures.word t valid e) in
    let bits : c.args.bits.now ≡ c.write.result = e ∙ ap tps_word (sym same) ∙ sym c.write.ensures in
    let no : false ≡ true = sym c.if-eq.false ∙ c.eq.ensures ∙ same_as_itself _ _ (sym bits) in
    absurd (differ no)
