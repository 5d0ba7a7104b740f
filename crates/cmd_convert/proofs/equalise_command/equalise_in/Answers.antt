use Rattle.std.proofs.Common.{◌≡◌, ◌*◌, ◌<◌, length, Some, ℕ, List, refl, ap, ◌∙◌, arith}
use Rattle.mode_set.specs.StreamTable.{carriers}
use Rattle.frame_build.specs.CellFile.{header}
use Rattle.cmd_convert.proofs.EqualiseSound.{some_bytes}
use Rattle.cmd_convert.proofs.equalise_command.equalise_in.Goals as goal

pub run_conversion-requires : goal.run_conversion-requires
run_conversion-requires g c κs =
    let many : g.M.Carriers.K ≡ carriers g.M.Carriers.MODE = g.M.Carriers.k_of in
    let some : 0 < 5 * carriers g.M.Carriers.MODE = some_bytes g.M.Carriers.MODE in
    let long : length c.deref_mut.result.now ≡ 5 * carriers g.M.Carriers.MODE = omega (arith, c.deref_mut.ensures.len, c.in-Ok.ensures.len, c.K.ensures, many) in (
      (refl, tt),
      (
        ap (λ (h : List ℕ). Some h) (c.header.ensures ∙ ap header c.MODE.ensures),
        (
          record { none = c.in-Ok-new.ensures; room_of = omega (arith, c.in-Ok-vec.ensures.len, c.K.ensures, many) },
          (long, (omega (arith, long, some), c.requires.ready)),
        ),
      ),
    )
