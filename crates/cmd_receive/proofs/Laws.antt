-- The laws of `receive`.
use Rattle.std.proofs.Common.{ℕ, List, Option, subst}
use Rattle.mode_set.specs.declared.settings.Settings.{Settings}
use Rattle.reception.specs.Streams.{Final}
use Rattle.code_paths.specs.Laws.{SharedBeginsLeast}
use Rattle.law_link.specs.Laws.{NoiseLaw, CleanLaw, PacketsThenNulls}
use Rattle.reception.specs.Alike.{SameLive, SameFinal, SameLines}
use Rattle.cmd_receive.specs.Received.{cells_in}
use Rattle.cmd_receive.specs.OwnLaws.{ReceiveLaws}
use Rattle.cmd_receive.specs.Working.{plain}
use Rattle.cmd_receive.proofs.Alike.{SameOf, lines, lines_so_far, outputs, outputs_so_far}
use Rattle.cmd_receive.proofs.OfKinds.{KindLaws}
use Rattle.cmd_receive.proofs.OneOutput.{one_output}

pub record Laws : Type 0 where
  pub receptions : KindLaws plain
  pub begins_least : SharedBeginsLeast
  pub noise : NoiseLaw
  pub clean : CleanLaw
  pub packets_then_nulls : PacketsThenNulls
  pub live : SameLive
  pub final : SameFinal
  pub lines : SameLines

pub own_laws : Laws → (stated : Option Settings) (file : List ℕ) → ReceiveLaws stated file
own_laws laws stated file = record {
  one = λ s is. one_output laws.receptions s file;
  begins_least = laws.begins_least;
  returns = λ s is. record {
    own = λ inputs zero have same r all. laws.clean s inputs r zero have (subst (λ (l : List ℕ). Final s l r) same all.final);
    noise = λ inputs zero have near r all. laws.noise s inputs (cells_in file) r zero have near all.final;
  };
  packets_then_nulls = laws.packets_then_nulls;
  alike = λ s t is d. record {
    outputs = outputs workers s t file d;
    lines = lines workers s t file d;
    outputs_so_far = outputs_so_far workers s t file d;
    lines_so_far = lines_so_far workers s t file d;
  };
}
  where
    workers : SameOf plain
    workers = record { live = laws.live; final = laws.final; lines = laws.lines }
