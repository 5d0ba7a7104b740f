-- Each exit leaves a word of the code, or there is none close.
use Rattle.std.proofs.Common.{List, Bool, ap, sym, subst, ◌∙◌, arith, refl}
use Rattle.tps_bch.specs.Bch.{IsCorrected, IsFar}
use Rattle.tps_bch.proofs.Errors.{far, flipped}
use Rattle.tps_bch.proofs.Corrections.{read_as, only, unchanged, one_flip, two_flips}
use Rattle.tps_bch.proofs.correct.Goals as goal

clean : (c : goal.Then-syndrome-eq0) → IsCorrected c.args.word.now c.args.word.now 0
clean c = unchanged c.args.word.now c.told-word (sym c.syndrome-syndrome.ensures ∙ c.if-syndrome-eq0.true)

pub returns-then-syndrome-eq0-clause-read : goal.returns-then-syndrome-eq0-clause-read
returns-then-syndrome-eq0-clause-read c = λ n. read_as _ _ 0 n (clean c)

pub returns-then-syndrome-eq0-clause-nearest : goal.returns-then-syndrome-eq0-clause-nearest
returns-then-syndrome-eq0-clause-nearest c = only _ _ 0 c.told-word (clean c)

one : (c : goal.After-flip) → IsCorrected c.args.word.now c.flip.new.word 1
one c =
    let found = c.in-Some.ensures.found in
    subst (λ (w : List Bool). IsCorrected c.args.word.now w 1) (sym c.flip.ensures) (one_flip c.args.word.now c.in-Some.i c.told-word found.0 (found.1 ∙ c.syndrome-syndrome.ensures))

pub returns-in-Some-clause-read : goal.returns-in-Some-clause-read
returns-in-Some-clause-read c = λ n. read_as _ _ 1 n (one c)

pub returns-in-Some-clause-nearest : goal.returns-in-Some-clause-nearest
returns-in-Some-clause-nearest c = only _ _ 1 c.told-word (one c)

two : (c : goal.After-flip-in-Some-places_of-2) → IsCorrected c.args.word.now c.flip-in-Some-places_of-2.new.word 2
two c =
    let word = c.args.word.now in
    let i = c.in-Some-places_of.i in
    let j = c.in-Some-places_of.j in
    let found = c.in-Some-places_of.ensures.found in
    let sum = c.syndrome-syndrome.ensures in
    let new = c.flip-in-Some-places_of-2.ensures ∙ ap (λ (w : List Bool). flipped w j) c.flip-in-Some-places_of.ensures in
    subst (λ (w : List Bool). IsCorrected word w 2) (sym new) (two_flips word i j c.told-word found.0 found.1 (λ e. c.if-syndrome-eq0.false (sum ∙ e)) (found.2 ∙ sum))

pub returns-in-Some-places_of-clause-read : goal.returns-in-Some-places_of-clause-read
returns-in-Some-places_of-clause-read c = λ n. read_as _ _ 2 n (two c)

pub returns-in-Some-places_of-clause-nearest : goal.returns-in-Some-places_of-clause-nearest
returns-in-Some-places_of-clause-nearest c = only _ _ 2 c.told-word (two c)

none : (c : goal.In_default-places_of) → IsFar c.args.word.now
none c =
    let sum = c.syndrome-syndrome.ensures in
    far c.args.word.now c.told-word (λ e. c.if-syndrome-eq0.false (sum ∙ e)) (λ i l e. c.in_default.ensures.none i l (e ∙ sym sum)) (λ i j il jl e. c.in_default-places_of.ensures.none i j il jl (e ∙ sym sum))

pub returns-clause-unreadable : goal.returns-clause-unreadable
returns-clause-unreadable c = λ _. (refl, none c)

pub returns-clause-nearest : goal.returns-clause-nearest
returns-clause-nearest c = λ w is close. let more = none c w is in absurd (omega (arith, more, close))
