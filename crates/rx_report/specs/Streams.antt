-- The names of the streams in a report.
use Rattle.std.specs.Prelude.{ℕ, List, codes}
use Rattle.mode_set.specs.declared.modes.Stream.{Stream}
use Rattle.mode_set.specs.declared.modes.Stream.TheVariants.{Hp, Lp}

-- the name of a stream
abbrev pub stream_text : Stream → List ℕ
stream_text Hp = codes "hp"
stream_text Lp = codes "lp"
