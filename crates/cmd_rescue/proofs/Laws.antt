-- The laws of `rescue`.
use Rattle.std.proofs.Common.{ℕ, List, Option}
use Rattle.mode_set.specs.declared.settings.Settings.{Settings}
use Rattle.rescue.specs.Laws.{SameAtEnd, SameLines, SameSoFar}
use Rattle.cmd_receive.proofs.Alike.{SameOf, lines, lines_so_far, outputs, outputs_so_far}
use Rattle.cmd_receive.proofs.OfKinds.{KindLaws}
use Rattle.cmd_receive.proofs.OneOutput.{one_output}
use Rattle.cmd_rescue.specs.OwnLaws.{RescueLaws}
use Rattle.cmd_rescue.specs.Working.{rescuing}

pub record Laws : Type 0 where
  pub rescues : KindLaws rescuing
  pub so_far : SameSoFar
  pub at_end : SameAtEnd
  pub lines : SameLines

pub own_laws : Laws → (stated : Option Settings) (file : List ℕ) → RescueLaws stated file
own_laws laws stated file = record {
  one = λ s is. one_output laws.rescues s file;
  alike = λ s t is d. record {
    outputs = outputs workers s t file d;
    lines = lines workers s t file d;
    outputs_so_far = outputs_so_far workers s t file d;
    lines_so_far = lines_so_far workers s t file d;
  };
}
  where
    workers : SameOf rescuing
    workers = record { live = laws.so_far; final = laws.at_end; lines = laws.lines }
