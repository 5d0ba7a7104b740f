-- The payload carriers of a symbol repeat after 1704 carriers.
use Rattle.std.proofs.Common.{◌≡◌, ℕ, ◌+◌, ◌*◌, ◌/◌, ◌%◌, ◌<◌, ap₂, ◌∙◌, arith}
use Rattle.std.specs.Prelude.{slice_index}
use Rattle.mode_set.specs.StreamTable.{payload}
use Rattle.mode_set.specs.declared.modes.Mode.{Mode}
use Rattle.mode_set.specs.declared.modes.Mode.TheVariants.{M2k}
use Rattle.pilots.specs.Carriers.{payload_carriers}
use Rattle.pilots.specs.Tables.{payload_places}
use Rattle.pilots.proofs.Periods.{named, are_numbered}

listed : (m : Mode) (l q : ℕ) → q < payload m → slice_index (payload_carriers m l) q ≡ 1704 * (q / 1512) + slice_index (payload_places (l % 4)) (q % 1512)
listed m l q lt = let is = named m l q lt in ((are_numbered m l (1704 * (q / 1512) + slice_index (payload_places (l % 4)) (q % 1512)) q is.0).0 is.1).1

pub in_period : (m : Mode) (l p i : ℕ) → i < 1512 → 1512 * p + i < payload m → slice_index (payload_carriers m l) (1512 * p + i) ≡ 1704 * p + slice_index (payload_carriers M2k l) i
in_period m l p i small lt =
    let whole : (1512 * p + i) / 1512 ≡ p = omega (arith, small) in
    let rest : (1512 * p + i) % 1512 ≡ i = omega (arith, small) in
    let none : i / 1512 ≡ 0 = omega (arith, small) in
    let all : i % 1512 ≡ i = omega (arith, small) in
    let at : ℕ → ℕ → ℕ = λ a b. 1704 * a + slice_index (payload_places (l % 4)) b in
    let first : slice_index (payload_carriers M2k l) i ≡ at 0 i = listed M2k l i small ∙ ap₂ at none all in
    let here : slice_index (payload_carriers m l) (1512 * p + i) ≡ at p i = listed m l (1512 * p + i) lt ∙ ap₂ at whole rest in
    omega (arith, first, here)
