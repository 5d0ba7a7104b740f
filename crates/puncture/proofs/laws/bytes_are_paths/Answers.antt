use Rattle.puncture.proofs.Paths.{byte_is_path}
use Rattle.puncture.proofs.laws.bytes_are_paths.Goals as goal

pub returns : goal.returns
returns c = byte_is_path
