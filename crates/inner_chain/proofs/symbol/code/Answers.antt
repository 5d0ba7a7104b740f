use Rattle.std.proofs.Common.{arith}
use Rattle.mode_set.specs.declared.modes.Stream.TheVariants.{Hp, Lp}
use Rattle.inner_chain.proofs.Entering.{few_steps}
use Rattle.inner_chain.proofs.Symbols.{code_parities, input_is, register_next}
use Rattle.inner_chain.proofs.symbol.code.Goals as goal

pub encode-requires-2-clause-room : goal.encode-requires-2-clause-room
encode-requires-2-clause-room c = omega (arith, few_steps c.args.settings.now, c.requires.room, c.need-hp_steps.ensures.need, c.need-lp_steps.ensures.need, c.encode.auto.to)

pub returns-clause-parities : goal.returns-clause-parities
returns-clause-parities c = λ base paths at hp lp.
    let s = c.args.settings.now in
    code_parities s paths c.need-hp_steps.result c.need-lp_steps.result c.encode.new.to c.encode-2.new.to c.need-hp_steps.ensures.need c.need-lp_steps.ensures.need
    (c.encode.ensures.parities (paths Hp) (at Hp) (input_is s paths Hp _ _ c.need-hp_steps.ensures.need hp))
    (c.encode-2.ensures.parities (paths Lp) (at Lp) (input_is s paths Lp _ _ c.need-lp_steps.ensures.need lp))
    c.encode-2.ensures.before

pub returns-clause-next : goal.returns-clause-next
returns-clause-next c = λ base paths at hp lp.
    let s = c.args.settings.now in
    elim [
      | Hp ↦ register_next s paths Hp c.need-hp_steps.result _ c.need-hp_steps.ensures.need
          (c.encode.ensures.register (paths Hp) (at Hp) (input_is s paths Hp _ _ c.need-hp_steps.ensures.need hp))
      | Lp ↦ register_next s paths Lp c.need-lp_steps.result _ c.need-lp_steps.ensures.need
          (c.encode-2.ensures.register (paths Lp) (at Lp) (input_is s paths Lp _ _ c.need-lp_steps.ensures.need lp))
    ]
