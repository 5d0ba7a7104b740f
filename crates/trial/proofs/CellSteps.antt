-- The disturbance of a symbol's cells, one after another.
use Rattle.std.proofs.Common.{◌≡◌, ℕ, ◌+◌, ◌*◌, ◌%◌, ◌≤◌, List, [], ◌∷◌, ◌++◌, length, refl, sym, ap, ap₂, ◌∙◌, arith, append-nil, Bool, true, false, cond, not, ◌||◌}
use Rattle.std.specs.Prelude.{flat_map, count_by, ◌==◌, ◌+ℤ◌}
use Rattle.std.specs.Prelude.{nat_le}
use Rattle.std.proofs.lemmas.Bool.{true≢false, false≢true, leb-true}
use Rattle.std.proofs.lemmas.List.Concat.{flat_map-append}
use Rattle.std.proofs.lemmas.List.Sums.{sum_by_push, length-filter}
use Rattle.spec_words.specs.Words.{numbers}
use Rattle.spec_words.proofs.Counting.{numbers_end}
use Rattle.mode_set.specs.StreamTable.{carriers, payload}
use Rattle.mode_set.specs.declared.modes.Mode.{Mode}
use Rattle.mode_set.specs.declared.modes.Shape.{Shape}
use Rattle.mode_set.specs.declared.modes.Shape.TheVariants.{Qpsk, Qam16, Qam64}
use Rattle.mode_set.specs.declared.modes.Hierarchy.{Hierarchy}
use Rattle.mode_set.specs.declared.modes.Hierarchy.TheVariants.{Flat, Alpha1, Alpha2, Alpha4}
use Rattle.mode_set.specs.declared.settings.Settings.{Settings}
use Rattle.pilots.specs.declared.carrier_kind.CarrierKind.{CarrierKind}
use Rattle.pilots.specs.declared.carrier_kind.CarrierKind.TheVariants.{Continual, Scattered, Tps, Payload}
use Rattle.pilots.specs.Carriers.{kind, is_payload, is_continual, is_scattered, is_tps, payload_carriers}
use Rattle.qam_map.specs.declared.cell.Cell.{Cell}
use Rattle.qam_map.specs.Points.{tolerance}
use Rattle.frame_build.specs.Symbol.{sent_bytes}
use Rattle.rand_pcg.specs.Lcg.{Lcg}
use Rattle.load_gen.specs.Draws.{after, shift_of}
use Rattle.load_gen.specs.Laws.{DrawsAdd}
use Rattle.symbol_parameters.specs.Spans.{settings_at}
use Rattle.transmission.specs.Transmission.{tx_cell}
use Rattle.trial.specs.Drawn.{before, drawn, shifts_from}
use Rattle.trial.specs.Fed.{disturbed, fed_cell, fed_symbol, negated}
use Rattle.trial.specs.Disturbing.{disturbed_by, behind_cell, payload_below, fed_carriers}

-- ---- shifts are at most 5792
fits : (sh : Shape) (h : Hierarchy) → nat_le (tolerance sh h) 5792 ≡ true
fits Qpsk h = refl
fits Qam16 Flat = refl
fits Qam16 Alpha1 = refl
fits Qam16 Alpha2 = refl
fits Qam16 Alpha4 = refl
fits Qam64 Flat = refl
fits Qam64 Alpha1 = refl
fits Qam64 Alpha2 = refl
fits Qam64 Alpha4 = refl

pub few_shifts : (sh : Shape) (h : Hierarchy) → tolerance sh h ≤ 5792
few_shifts sh h = leb-true (tolerance sh h) 5792 (fits sh h)

-- ---- the data cells below a carrier
pub no_payload : (m : Mode) (l : ℕ) → payload_below m l 0 ≡ 0
unfolding payload_below numbers
no_payload m l = refl

more_payload : (m : Mode) (l k : ℕ) → payload_below m l (k + 1) ≡ payload_below m l k + cond (is_payload m l k) 1 0
unfolding payload_below
more_payload m l k = ap (count_by (is_payload m l)) (numbers_end k) ∙ sum_by_push (λ x. cond (is_payload m l x) 1 0) (numbers k) k

pub all_payload : (m : Mode) (l : ℕ) → length (payload_carriers m l) ≡ payload m → payload_below m l (carriers m) ≡ payload m
unfolding payload_below payload_carriers
all_payload m l e = sym (length-filter (is_payload m l) (numbers (carriers m))) ∙ e

-- the kind of a carrier
abbrev pub Says : Bool → ℕ → CarrierKind → Type 0
Says b n Continual = b ≡ false
Says b n Scattered = b ≡ false
Says b n Tps = b ≡ false
Says b n (Payload q) = (q ≡ n) × (b ≡ true)

said : (a b c : Bool) (n : ℕ) → Says (not (a || b || c)) n (cond a Continual (cond b Scattered (cond c Tps (Payload n))))
said true true true n = refl
said true true false n = refl
said true false true n = refl
said true false false n = refl
said false true true n = refl
said false true false n = refl
said false false true n = refl
said false false false n = (refl, refl)

pub says : (m : Mode) (l k : ℕ) → Says (is_payload m l k) (payload_below m l k) (kind m l k)
unfolding kind is_payload payload_below
says m l k = said (is_continual m k) (is_scattered l k) (is_tps m k) (count_by (is_payload m l) (numbers k))

-- ---- one cell
module _ (add : DrawsAdd) (s : Settings) (number m : ℕ) (below : ℕ) (g : Lcg) (at : g ≡ after (2 * below) (shifts_from s number m (before s number m))) where
  abbrev start : Lcg
  start = shifts_from s number m (before s number m)

  abbrev cell_at : Bool → Cell → Lcg → Lcg → Cell
  cell_at negate c x y =
      cond negate (negated (record { re = c.re +ℤ shift_of (tolerance (settings_at s m).shape (settings_at s m).hierarchy) x; im = c.im +ℤ shift_of (tolerance (settings_at s m).shape (settings_at s m).hierarchy) y }))
      (record { re = c.re +ℤ shift_of (tolerance (settings_at s m).shape (settings_at s m).hierarchy) x; im = c.im +ℤ shift_of (tolerance (settings_at s m).shape (settings_at s m).hierarchy) y })

  pub cell_is : (c : Cell) (kd : CarrierKind) (b : Bool) → Says b below kd → disturbed_by (tolerance (settings_at s m).shape (settings_at s m).hierarchy) (m % 17 == 16) g c kd ≡ disturbed s number m c kd
  cell_is c Continual b h = refl
  cell_is c Scattered b h = refl
  cell_is c Tps b h = refl
  cell_is c (Payload q) b h =
      let first : g ≡ after (2 * q) start = at ∙ ap (λ (n : ℕ). after (2 * n) start) (sym h.0) in
      let second : after 1 g ≡ after (2 * q + 1) start = ap (after 1) first ∙ add 1 (2 * q) start in
      ap₂ (λ (x y : Lcg). cell_at (m % 17 == 16) c x y) first second

  same_words : (b : Bool) → b ≡ false → 2 * below ≡ 2 * (below + cond b 1 0)
  same_words true e = absurd (true≢false e)
  same_words false e = omega arith

  two_words : (b : Bool) → b ≡ true → 2 * below + 2 ≡ 2 * (below + cond b 1 0)
  two_words true e = omega arith
  two_words false e = absurd (false≢true e)

  stays : (b : Bool) → b ≡ false → g ≡ after (2 * (below + cond b 1 0)) start
  stays b e = at ∙ ap (λ (n : ℕ). after n start) (same_words b e)

  pub load_is : (kd : CarrierKind) (b : Bool) → Says b below kd → behind_cell g kd ≡ after (2 * (below + cond b 1 0)) start
  load_is Continual b h = stays b h
  load_is Scattered b h = stays b h
  load_is Tps b h = stays b h
  load_is (Payload q) b h = add 1 1 g ∙ ap (after 2) at ∙ add 2 (2 * below) start ∙ ap (λ (n : ℕ). after n start) (two_words b h.1)

-- the cell of carrier k, and the generator after it
module _ (add : DrawsAdd) (s : Settings) (number m k : ℕ) (mode : Mode) (is : s.mode ≡ mode) (g : Lcg) (at : g ≡ after (2 * payload_below mode (m % 68) k) (shifts_from s number m (before s number m))) where
  pub next_cell_is : (c : Cell) → c ≡ tx_cell s (drawn s number) m k → disturbed_by (tolerance (settings_at s m).shape (settings_at s m).hierarchy) (m % 17 == 16) g c (kind mode (m % 68) k) ≡ fed_cell s number m k
  unfolding fed_cell
  next_cell_is c e =
      cell_is add s number m (payload_below mode (m % 68) k) g at c (kind mode (m % 68) k) (is_payload mode (m % 68) k) (says mode (m % 68) k)
      ∙ ap (λ (z : Cell). disturbed s number m z (kind mode (m % 68) k)) e
      ∙ ap (λ (z : Mode). disturbed s number m (tx_cell s (drawn s number) m k) (kind z (m % 68) k)) (sym is)

  pub next_load_is : behind_cell g (kind mode (m % 68) k) ≡ after (2 * payload_below mode (m % 68) (k + 1)) (shifts_from s number m (before s number m))
  next_load_is =
      load_is add s number m (payload_below mode (m % 68) k) g at (kind mode (m % 68) k) (is_payload mode (m % 68) k) (says mode (m % 68) k)
      ∙ ap (λ (n : ℕ). after (2 * n) (shifts_from s number m (before s number m))) (sym (more_payload mode (m % 68) k))

-- ---- the bytes of the first carriers
pub no_carriers : (s : Settings) (number m : ℕ) → fed_carriers s number m 0 ≡ []
unfolding fed_carriers numbers
no_carriers s number m = refl

pub one_carrier : (s : Settings) (number m k : ℕ) → fed_carriers s number m (k + 1) ≡ fed_carriers s number m k ++ sent_bytes (fed_cell s number m k)
unfolding fed_carriers
one_carrier s number m k =
    ap (flat_map (λ i. sent_bytes (fed_cell s number m i))) (numbers_end k)
    ∙ flat_map-append (λ i. sent_bytes (fed_cell s number m i)) (numbers k) (k ∷ [])
    ∙ ap (λ (z : List ℕ). flat_map (λ i. sent_bytes (fed_cell s number m i)) (numbers k) ++ z) (append-nil (sent_bytes (fed_cell s number m k)))

pub all_carriers : (s : Settings) (number m k : ℕ) → k ≡ carriers s.mode → fed_carriers s number m k ≡ fed_symbol s number m
unfolding fed_carriers fed_symbol
all_carriers s number m k e = ap (λ (z : ℕ). flat_map (λ i. sent_bytes (fed_cell s number m i)) (numbers z)) e
