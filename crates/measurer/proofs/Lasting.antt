-- Symbols past the last one are not compared.
use Rattle.std.proofs.Common.{◌≡◌, ℕ, ◌+◌, ◌*◌, ◌/◌, ◌<◌, ◌≤◌, Bool, true, false, ◌&&◌, ◌||◌, List, [], ◌∷◌, length, drop, refl, sym, ap, ◌∙◌, arith, length-append, length-drop}
use Rattle.std.specs.Prelude.{nat_le}
use Rattle.std.specs.declared.option.Option.{Option}
use Rattle.std.specs.declared.option.Option.TheVariants.{Some}
use Rattle.std.proofs.lemmas.Bool.{lt-leb}
use Rattle.code_paths.specs.declared.costs.CostPair.{CostPair}
use Rattle.code_paths.specs.Streams.{Part, end_of, IsCut, bits_of, Ended}
use Rattle.mode_set.specs.StreamTable.{payload, width, need, rate, steps_in_period, sent_in_period}
use Rattle.mode_set.specs.declared.modes.Mode.{Mode}
use Rattle.mode_set.specs.declared.modes.Mode.TheVariants.{M2k, M8k}
use Rattle.mode_set.specs.declared.modes.Shape.{Shape}
use Rattle.mode_set.specs.declared.modes.Shape.TheVariants.{Qpsk, Qam16, Qam64}
use Rattle.mode_set.specs.declared.modes.Hierarchy.{Hierarchy}
use Rattle.mode_set.specs.declared.modes.Hierarchy.TheVariants.{Flat, Alpha1, Alpha2, Alpha4}
use Rattle.mode_set.specs.declared.modes.Rate.{Rate}
use Rattle.mode_set.specs.declared.modes.Rate.TheVariants.{R1of2, R2of3, R3of4, R5of6, R7of8}
use Rattle.mode_set.specs.declared.modes.Stream.{Stream}
use Rattle.mode_set.specs.declared.modes.Stream.TheVariants.{Hp, Lp}
use Rattle.mode_set.specs.declared.settings.Settings.{Settings}
use Rattle.symbol_parameters.specs.Spans.{settings_at, steps_before}
use Rattle.symbol_parameters.specs.Laws.{StepsOfOneMore, StepsGrow}
use Rattle.reception.specs.Cells.{symbols}
use Rattle.reception.specs.Costs.{costs}
use Rattle.reception.specs.Laws.{CostsAreSteps}
use Rattle.reception.specs.Streams.{memory, start_of}
use Rattle.measurement.specs.Known.{IsKnown, is_zero, is_compared, suffices}

-- each step of an ended part has its bit
cut_long : (most : ℕ) (a : Option (List Bool)) (c : List CostPair) (parts : List Part) (b : Option (List Bool)) (d : List CostPair) → IsCut most a c parts b d → length c ≡ length (bits_of parts) + length d
cut_long most a c [] b d cut = sym (ap length cut.1) ∙ (omega arith)
cut_long most a c (part ∷ parts) b d cut =
    let rest = cut_long most (Some (end_of part)) cut.0 parts b d cut.3 in
    let path = cut.2.least.path.long in
    omega (arith, rest, path, ap length cut.1, length-append part.costs cut.0, length-append (drop 6 part.path) (bits_of parts), length-drop 6 part.path)

-- at the end each step has one
pub ended_long : (most : ℕ) (a : Option (List Bool)) (c : List CostPair) (bits : List Bool) → Ended most a c bits → length bits ≡ length c
ended_long most a c bits e =
    let cut = cut_long most a c e.parts e.start e.costs e.cut in
    omega (arith, cut, e.least.path.long, ap length e.is, length-append (bits_of e.parts) (drop 6 e.path), length-drop 6 e.path)

-- HP has steps in each symbol
hp_wide : (c : Shape) (h : Hierarchy) → 2 ≤ width c h Hp
hp_wide Qpsk Flat = omega arith
hp_wide Qpsk Alpha1 = omega arith
hp_wide Qpsk Alpha2 = omega arith
hp_wide Qpsk Alpha4 = omega arith
hp_wide Qam16 Flat = omega arith
hp_wide Qam16 Alpha1 = omega arith
hp_wide Qam16 Alpha2 = omega arith
hp_wide Qam16 Alpha4 = omega arith
hp_wide Qam64 Flat = omega arith
hp_wide Qam64 Alpha1 = omega arith
hp_wide Qam64 Alpha2 = omega arith
hp_wide Qam64 Alpha4 = omega arith

wide_steps : (m : Mode) (w : ℕ) (r : Rate) → 2 ≤ w → 1 ≤ payload m * w * steps_in_period r / sent_in_period r
wide_steps M2k w R1of2 l = omega (arith, l)
wide_steps M2k w R2of3 l = omega (arith, l)
wide_steps M2k w R3of4 l = omega (arith, l)
wide_steps M2k w R5of6 l = omega (arith, l)
wide_steps M2k w R7of8 l = omega (arith, l)
wide_steps M8k w R1of2 l = omega (arith, l)
wide_steps M8k w R2of3 l = omega (arith, l)
wide_steps M8k w R3of4 l = omega (arith, l)
wide_steps M8k w R5of6 l = omega (arith, l)
wide_steps M8k w R7of8 l = omega (arith, l)

hp_steps : (s : Settings) → 1 ≤ need s Hp
hp_steps s = wide_steps s.mode (width s.shape s.hierarchy Hp) (rate s Hp) (hp_wide s.shape s.hierarchy)

not_both : (a b c : Bool) → a ≡ false → (((a && b) && c) ≡ false)
not_both false b c e = refl
not_both true b c e = absurd (cc e)

pub none_past : StepsOfOneMore → StepsGrow → CostsAreSteps → (s : Settings) (bytes : List ℕ) (m : ℕ) (known : Stream → List Bool) → symbols s bytes ≤ m → IsKnown s bytes Hp m (known Hp) → is_compared s m known ≡ false
unfolding is_compared
none_past next grow long s bytes m known l k =
    let end : length (known Hp) ≡ steps_before s Hp (symbols s bytes) = ended_long memory (start_of s.start) (costs s bytes Hp) (known Hp) (k.at_end (omega (arith, l))) ∙ long s bytes Hp in
    let some : 1 ≤ need (settings_at s m) Hp = hp_steps (settings_at s m) in
    let short : length (known Hp) < steps_before s Hp (m + 1) = omega (arith, end, some, grow s Hp (symbols s bytes) m l, next s Hp m) in
    not_both (nat_le (steps_before s Hp (m + 1)) (length (known Hp))) (is_zero s.start || nat_le 6 (steps_before s Hp m)) (suffices s m known Lp) (lt-leb (steps_before s Hp (m + 1)) (length (known Hp)) short)
