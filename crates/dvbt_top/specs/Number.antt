-- A number as an argument of a command.
use Rattle.std.specs.Prelude.{ℕ, ◌&&◌, nat_le, Bool, List, length, Option, None, Some, if◌then◌else◌}
use Rattle.std.specs.Str.{all_ascii_digits}
use Rattle.std.specs.Str.Parse.{digits_value}

-- one to ten decimal digits, 0x30 to 0x39, and nothing else
abbrev pub is_numeral : List ℕ → Bool
is_numeral word = nat_le 1 (length word) && nat_le (length word) 10 && all_ascii_digits word

-- the number of a decimal argument, if it fits 32 bits
unfoldable pub number_of : List ℕ → Option ℕ
number_of word = if is_numeral word && nat_le (digits_value 10 word) 4294967295 then Some (digits_value 10 word) else
    None
