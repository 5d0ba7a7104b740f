use Rattle.std.proofs.Common.{refl, sym, subst, true≢false, arith, ap, length, ◌+◌, ◌*◌}
use Rattle.std.specs.Prelude.{vec_len}
use Rattle.rescue_words.specs.Carrying.{made_of}
use Rattle.rescue_words.specs.Running.{Stands, WordsState}
use Rattle.rescue_words.proofs.Finishing.{stays, finishes_here}
use Rattle.rescue_words.proofs.MarginWords.{fill_amount}
use Rattle.rescue_words.proofs.words.RescueWords.take.Goals as goal

pub returns-in-None-clause-took : goal.returns-in-None-clause-took
returns-in-None-clause-took c = λ bytes margins given tally h.
    let g = subst (λ s. Stands s bytes margins given tally) (sym c.self.view_is) h in
    stays _ _ bytes margins given c.args.to.now.items tally c.args.byte c.args.margin g (c.take_byte.ensures.stands bytes g.receives) c.take_byte.ensures.phase (c.put-ended.ensures.holds margins g.holds) refl
    (λ e. true≢false (sym ((c.in-None.ensures.ends bytes g.receives).1 e)))

pub returns-in-Some-clause-took : goal.returns-in-Some-clause-took
returns-in-Some-clause-took c = λ bytes margins given tally h.
    let g = subst (λ s. Stands s bytes margins given tally) (sym c.self.view_is) h in
    let filled = c.put-ended.new.self in
    let state = made_of filled.lines filled.word filled.filled in
    finishes_here _ (record { outer = c.take_byte.new.self; margins = state; counts = c.self.inside.counts })
    (record { outer = c.finish_known.new.outer; margins = state; counts = c.finish_known.new.counts }) bytes margins given c.args.to.now.items c.finish_known.new.to.items tally c.args.byte c.args.margin c.in-Some.slot.word filled.word c.put-ended.result g
    (c.take_byte.ensures.stands bytes g.receives) (c.put-ended.ensures.holds margins g.holds) c.take_byte.ensures.phase refl
    ((c.in-Some.ensures.ends bytes g.receives).0 refl) (c.in-Some.ensures.word bytes g.receives)
    (c.put-ended.ensures.ends margins g.holds) (c.put-ended.ensures.word margins g.holds) refl c.finish_known.ensures.receives c.finish_known.ensures.finished

pub returns-in-None-clause-amount : goal.returns-in-None-clause-amount
returns-in-None-clause-amount c =
    let old = c.self.inside.margins in
    let new = c.put-ended.new.self in
    let n = vec_len c.args.to.now in
    omega (arith, ap (λ (s : WordsState). length s.margins.begun) c.self.view_is, fill_amount c.put-ended.result old.word new.word old.filled new.filled c.self.invariant.2 c.put-ended.ensures.long c.self.invariant.1 c.put-ended.ensures.small c.put-ended.ensures.within c.put-ended.ensures.ended n n (omega arith) (λ e. refl))

pub returns-in-Some-clause-amount : goal.returns-in-Some-clause-amount
returns-in-Some-clause-amount c =
    let old = c.self.inside.margins in
    let new = c.put-ended.new.self in
    omega (
      arith,
      ap (λ (s : WordsState). length s.margins.begun) c.self.view_is,
      fill_amount c.put-ended.result old.word new.word old.filled new.filled c.self.invariant.2 c.put-ended.ensures.long c.self.invariant.1 c.put-ended.ensures.small c.put-ended.ensures.within c.put-ended.ensures.ended (vec_len c.args.to.now) (vec_len c.finish_known.new.to) c.finish_known.ensures.len (λ e. ap vec_len (c.finish_known.ensures.none e)),
    )
