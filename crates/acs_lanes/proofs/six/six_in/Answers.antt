use Rattle.std.proofs.Common.{ℕ, ◌∙◌, ◌+◌, ◌<◌, ◌≤◌, arith, lit<}
use Rattle.std.specs.Prelude.{slice_index}
use Rattle.acs_lanes.specs.Lanes16.{joined}
use Rattle.acs_lanes.proofs.Looks.{near_room, unless_high}
use Rattle.acs_lanes.proofs.Rows16.{at_place, six_steps}
use Rattle.acs_lanes.proofs.six.six_in.Goals as goal

pub two_in-second_high-requires-clause-first : goal.two_in-second_high-requires-clause-first
two_in-second_high-requires-clause-first g c = let x = c.requires.sums 0 (omega arith) in (x.0, at_place c.args.words.now (c.args.at + 0) c.args.at _ (omega arith) x.1)

pub two_in-second_high-requires-clause-last : goal.two_in-second_high-requires-clause-last
two_in-second_high-requires-clause-last g c = let x = c.requires.sums 1 (omega arith) in (x.0, x.1)

pub two_in-fourth_high-requires-clause-room : goal.two_in-fourth_high-requires-clause-room
two_in-fourth_high-requires-clause-room g c =
    let at = c.args.at in
    let s = c.two_in-second_high.result.0 in
    let e2 = c.two_in-second_high.ensures in
    let x0 = c.requires.sums 0 (omega arith) in
    let x1 = c.requires.sums 1 (omega arith) in
    unless_high c.two_in-second_high.result.1 _ ((n : ℕ) → n < 64 → slice_index (joined s.a s.b s.c s.d) n ≤ 49155)
    (λ f. near_room 2 (lit< tt) s.a s.b s.c s.d e2.spread (e2.low f))
    (λ t n l. omega (arith, e2.grown x0.0 x1.0 32767 (at_place c.args.words.now (at + 0) at _ (omega arith) x0.1) x1.1 (x0.2 t) (x1.2 t) (λ n l. omega (arith, c.requires.high (c.requires.low t) n l)) n l))

pub two_in-fourth_high-requires-clause-first : goal.two_in-fourth_high-requires-clause-first
two_in-fourth_high-requires-clause-first g c = let x = c.requires.sums 2 (omega arith) in (x.0, c.two_in-second_high.ensures.above (c.args.at + 2) (omega arith) ∙ x.1)

pub two_in-fourth_high-requires-clause-last : goal.two_in-fourth_high-requires-clause-last
two_in-fourth_high-requires-clause-last g c =
    let at = c.args.at in
    let x = c.requires.sums 3 (omega arith) in
    (x.0, c.two_in-second_high.ensures.above (at + 2 + 1) (omega arith) ∙ at_place c.args.words.now (at + 3) (at + 2 + 1) _ (omega arith) x.1)

pub two_in-requires-clause-room : goal.two_in-requires-clause-room
two_in-requires-clause-room g c =
    let at = c.args.at in
    let s = c.two_in-second_high.result.0 in
    let f = c.two_in-fourth_high.result.0 in
    let e2 = c.two_in-second_high.ensures in
    let e4 = c.two_in-fourth_high.ensures in
    let x0 = c.requires.sums 0 (omega arith) in
    let x1 = c.requires.sums 1 (omega arith) in
    let x2 = c.requires.sums 2 (omega arith) in
    let x3 = c.requires.sums 3 (omega arith) in
    unless_high c.two_in-fourth_high.result.1 _ ((n : ℕ) → n < 64 → slice_index (joined f.a f.b f.c f.d) n ≤ 49155)
    (λ t. near_room 4 (lit< tt) f.a f.b f.c f.d e4.spread (e4.low t))
    (λ t n l.
    let two = e2.grown x0.0 x1.0 32767 (at_place c.args.words.now (at + 0) at _ (omega arith) x0.1) x1.1 (x0.2 t) (x1.2 t) (λ n l. omega (arith, c.requires.high (c.requires.low t) n l)) in
    omega (arith, e4.grown x2.0 x3.0 40957 (e2.above (at + 2) (omega arith) ∙ x2.1) (e2.above (at + 2 + 1) (omega arith) ∙ at_place c.args.words.now (at + 3) (at + 2 + 1) _ (omega arith) x3.1) (x2.2 t) (x3.2 t) (λ n l. omega (arith, two n l)) n l))

pub two_in-requires-clause-first : goal.two_in-requires-clause-first
two_in-requires-clause-first g c =
    let at = c.args.at in
    let x = c.requires.sums 4 (omega arith) in
    (x.0, c.two_in-fourth_high.ensures.above (at + 4) (omega arith) ∙ c.two_in-second_high.ensures.above (at + 4) (omega arith) ∙ x.1)

pub two_in-requires-clause-last : goal.two_in-requires-clause-last
two_in-requires-clause-last g c =
    let at = c.args.at in
    let x = c.requires.sums 5 (omega arith) in
    (x.0, c.two_in-fourth_high.ensures.above (at + 4 + 1) (omega arith) ∙ c.two_in-second_high.ensures.above (at + 4 + 1) (omega arith) ∙ at_place c.args.words.now (at + 5) (at + 4 + 1) _ (omega arith) x.1)

pub returns : goal.returns
returns g c =
    let at = c.args.at in
    let w = c.args.words.now in
    let e2 = c.two_in-second_high.ensures in
    let e4 = c.two_in-fourth_high.ensures in
    let e6 = c.two_in.ensures in
    record {
      steps = λ pairs is.
          let p0 = at_place w (at + 0) at _ (omega arith) (is 0 (omega arith)) in
          let p3 = at_place w (at + 3) (at + 2 + 1) _ (omega arith) (is 3 (omega arith)) in
          let p5 = at_place w (at + 5) (at + 4 + 1) _ (omega arith) (is 5 (omega arith)) in
          six_steps _ _ _ _ pairs at c.two_in-second_high.new.words c.two_in-fourth_high.new.words c.two_in.new.words e4.below e6.below
          (e2.steps (pairs 0) (pairs 1) p0 (is 1 (omega arith)))
          (e4.steps (pairs 2) (pairs 3) (e2.above (at + 2) (omega arith) ∙ is 2 (omega arith)) (e2.above (at + 2 + 1) (omega arith) ∙ p3))
          (e6.steps (pairs 4) (pairs 5) (e4.above (at + 4) (omega arith) ∙ e2.above (at + 4) (omega arith) ∙ is 4 (omega arith)) (e4.above (at + 4 + 1) (omega arith) ∙ e2.above (at + 4 + 1) (omega arith) ∙ p5));
      spread = e6.spread;
      below = λ k l. e6.below k (omega (arith, l)) ∙ e4.below k (omega (arith, l)) ∙ e2.below k l;
      above = λ k l. e6.above k (omega (arith, l)) ∙ e4.above k (omega (arith, l)) ∙ e2.above k (omega (arith, l));
      room = e6.room ∙ e4.room ∙ e2.room;
    }
