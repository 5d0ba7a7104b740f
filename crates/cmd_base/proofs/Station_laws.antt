-- How the meaning of a station changes from call to call.
use Rattle.std.proofs.Common.{◌≡◌, ℕ, ◌+◌, List, drop, refl, ◌∙◌, ap}
use Rattle.std.proofs.lemmas.List.{drop-drop}
use Rattle.station_core.specs.declared.ports.InPort.{InPort}
use Rattle.station_core.specs.declared.ports.InPort.TheVariants as ins
use Rattle.station_core.specs.Meaning.{Meaning, source_at, with_source, read_source}

-- continued reading at a port
pub read_again : (port : InPort) (m m' m'' : Meaning) (a b : ℕ)
    → m' ≡ with_source port (read_source a (source_at port m)) m
    → m'' ≡ with_source port (read_source b (source_at port m')) m'
    → m'' ≡ with_source port (read_source (a + b) (source_at port m)) m
read_again port m m' m'' a b p q = q ∙ ap (λ (x : Meaning). with_source port (read_source b (source_at port x)) x) p ∙ twice port
  where
    twice : (port : InPort) → with_source port (read_source b (source_at port (with_source port (read_source a (source_at port m)) m))) (with_source port (read_source a (source_at port m)) m) ≡ with_source port (read_source (a + b) (source_at port m)) m
    twice ins.Settings = ap (λ (l : List ℕ). record m { settings = record m.settings { left = l } }) (drop-drop b a m.settings.left)
    twice ins.Hp = ap (λ (l : List ℕ). record m { hp = record m.hp { left = l } }) (drop-drop b a m.hp.left)
    twice ins.Lp = ap (λ (l : List ℕ). record m { lp = record m.lp { left = l } }) (drop-drop b a m.lp.left)
    twice ins.Cells = ap (λ (l : List ℕ). record m { cells = record m.cells { left = l } }) (drop-drop b a m.cells.left)

-- the port that was read is still attached, with the bytes left
pub still_attached : (port : InPort) (m : Meaning) (n : ℕ) → (source_at port (with_source port (read_source n (source_at port m)) m)).attached ≡ (source_at port m).attached
still_attached ins.Settings m n = refl
still_attached ins.Hp m n = refl
still_attached ins.Lp m n = refl
still_attached ins.Cells m n = refl

pub left_after : (port : InPort) (m : Meaning) (n : ℕ) → (source_at port (with_source port (read_source n (source_at port m)) m)).left ≡ drop n (source_at port m).left
left_after ins.Settings m n = refl
left_after ins.Hp m n = refl
left_after ins.Lp m n = refl
left_after ins.Cells m n = refl

pub tells_after : (port : InPort) (m : Meaning) (n : ℕ) → (with_source port (read_source n (source_at port m)) m).tells ≡ m.tells
tells_after ins.Settings m n = refl
tells_after ins.Hp m n = refl
tells_after ins.Lp m n = refl
tells_after ins.Cells m n = refl

pub faults_after : (port : InPort) (m : Meaning) (n : ℕ) → (with_source port (read_source n (source_at port m)) m).read_faults ≡ m.read_faults
faults_after ins.Settings m n = refl
faults_after ins.Hp m n = refl
faults_after ins.Lp m n = refl
faults_after ins.Cells m n = refl
