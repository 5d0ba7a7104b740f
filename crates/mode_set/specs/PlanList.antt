-- Lists of entries, and arrays of 16 that hold them.
use Rattle.std.specs.Prelude.{◌≡◌, ℕ, ◌-◌, ◌≤◌, nat_lt, nat_le, ◌&&◌, Bool, true, IsTrue, List, [], ◌∷◌, ◌++◌, length}
use Rattle.std.specs.Prelude.{take, replicate, None, refl}
use Rattle.std.specs.List.{list_all}
use Rattle.mode_set.specs.declared.modes.Shape.TheVariants.{Qpsk}
use Rattle.mode_set.specs.declared.modes.Hierarchy.TheVariants.{Flat}
use Rattle.mode_set.specs.declared.modes.Rate.TheVariants.{R1of2}
use Rattle.mode_set.specs.declared.entry.Entry.{Entry}

-- the numbers of the super-frames are above 0 and strictly rising
abbrev pub is_rising : List Entry → Bool
is_rising [] = true
is_rising (e ∷ es) = nat_lt 0 e.after && list_all (λ f. nat_lt e.after f.after) es && is_rising es

-- whether a list is a plan: at most 16 entries with rising numbers
abbrev pub is_plan : List Entry → Bool
is_plan es = nat_le (length es) 16 && is_rising es

-- whether an entry may follow a list: there is room, and its number is above 0 and above all others
abbrev pub may_follow : List Entry → Entry → Bool
may_follow l e = nat_lt (length l) 16 && nat_lt 0 e.after && list_all (λ f. nat_lt f.after e.after) l

-- the padding after the last entry
abbrev pub filler : Entry
filler = record {
  after = 0;
  shape = Qpsk;
  hierarchy = Flat;
  rate_hp = R1of2;
  rate_lp = None;
  kept
      = record { qpsk = λ q. refl; lp = refl };
}

-- a list of entries, padded to 16
abbrev pub filled : List Entry → List Entry
filled l = l ++ replicate (16 - length l) filler

-- the array has `count` entries with rising numbers, then only padding
pub record IsFilled (count : ℕ) (entries : List Entry) : Type 0 where
  pub few : count ≤ 16
  pub long : length entries ≡ 16
  pub rest : entries ≡ filled (take count entries)
  pub rising : IsTrue (is_rising (take count entries))
