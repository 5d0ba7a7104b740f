-- The files of a station in memory.
use Rattle.std.specs.Prelude.{ℕ, Bool, true, false, List, [], ◌∷◌, map, if◌then◌else◌, slice_index_or, String}
use Rattle.std.specs.Prelude.{string_bytes, Vec}
use Rattle.std.specs.Str.{bytes_eq}
use Rattle.std.specs.declared.alloc.Global.{Global}

-- a list of names and contents
abbrev pub Files : Type 0
Files = List (String Global × Vec ℕ Global)

-- the content of the first file of that name, or the empty list
abbrev pub found : Files → List ℕ → List ℕ
found [] name = []
found (f ∷ fs) name = if bytes_eq (string_bytes f.0) name then f.1.items else found fs name

-- whether a file has that name
abbrev pub has_file : Files → List ℕ → Bool
has_file [] name = false
has_file (f ∷ fs) name = if bytes_eq (string_bytes f.0) name then true else has_file fs name

-- the content of file i
abbrev pub content_at : Files → ℕ → List ℕ
content_at fs i = slice_index_or (map (λ f. f.1.items) fs) i []
