use Rattle.std.proofs.Common.{ℕ, map, refl, subst, arith, Global}
use Rattle.std.specs.Prelude.{string_bytes}
use Rattle.station_core.specs.Meaning.{Meaning}
use Rattle.cmd_base.specs.Run.{Run}
use Rattle.dvbt_top.specs.Commands.{command_of}
use Rattle.dvbt_top.proofs.top.run.Goals as goal

pub run_gated-requires : goal.run_gated-requires
run_gated-requires g c κs = (c.type_bounds.sync-R, (record { shared = λ gate k n at. (tt, λ share. tt) }, ((refl, tt), (c.requires.fresh, (omega (arith, c.shipped.ensures), omega (arith, c.shipped.ensures))))))

pub returns : goal.returns
returns g c =
    let old : Meaning = g.S.Station.meaning c.args.station.now in
    let new : Meaning = g.S.Station.meaning c.run_gated.new.station in
    subst (λ (n : ℕ). Run (command_of (map (string_bytes {Z = Global}) c.args.words.now)) n old new c.run_gated.result)
    c.shipped.ensures.shipped c.run_gated.ensures
