-- The fields of a word are at their positions.
use Rattle.std.proofs.Common.{◌≡◌, ℕ, zero, suc, ◌+◌, ◌-◌, ◌%◌, List, [], ◌∷◌, ◌++◌, take, drop, length, get_or, refl, sym, ap, ◌∙◌, subst, arith, Bool, true, false, append_assoc, append-nil, length-append, length-drop, replicate}
use Rattle.std.specs.Prelude.{◌==◌, if◌then◌else◌, codes, Option, Some, None}
use Rattle.std.proofs.Math.Seq.{drop-append_seam, take-append_seam}
use borrow.Rule.Slice.PartMut.{put_mid, post_of}
use Rattle.std.proofs.lemmas.List.{drop-drop, drop_all}
use Rattle.spec_words.specs.Bits.{digits, spelled}
use Rattle.mode_set.specs.declared.modes.Mode.{Mode}
use Rattle.mode_set.specs.declared.modes.Mode.TheVariants.{M2k, M8k}
use Rattle.mode_set.specs.declared.modes.Shape.{Shape}
use Rattle.mode_set.specs.declared.modes.Shape.TheVariants.{Qpsk, Qam16, Qam64}
use Rattle.mode_set.specs.declared.modes.Hierarchy.{Hierarchy}
use Rattle.mode_set.specs.declared.modes.Hierarchy.TheVariants.{Flat, Alpha1, Alpha2, Alpha4}
use Rattle.mode_set.specs.declared.modes.Rate.{Rate}
use Rattle.mode_set.specs.declared.modes.Rate.TheVariants.{R1of2, R2of3, R3of4, R5of6, R7of8}
use Rattle.mode_set.specs.declared.modes.Guard.{Guard}
use Rattle.mode_set.specs.declared.modes.Guard.TheVariants.{G1of32, G1of16, G1of8, G1of4}
use Rattle.tps_bch.specs.Bch.{tps_parity}
use Rattle.tps_word.specs.declared.word.TpsWord.{TpsWord}
use Rattle.tps_word.specs.Tps.{sync_word, length_bits, shape_bits, hierarchy_bits, rate_bits, guard_bits, mode_bits, tps_info, tps_word, IsValid}
use Rattle.tps_word.specs.Number.{number_of, shape_numbered, hierarchy_numbered, rate_numbered, guard_numbered, mode_numbered}
use Rattle.tps_word.proofs.Spelling.{length-spelled, number_of_spelled}

pub length-sync : (frame : ℕ) → length (sync_word frame) ≡ 16
unfolding sync_word
length-sync frame = by_case (frame % 2 == 1)
  where
    by_case : (b : Bool) → length (if b then digits (codes "0011010111101110") else digits (codes "1100101000010001")) ≡ 16
    by_case true = refl
    by_case false = refl

pub length-length : (w : Bool) → length (length_bits w) ≡ 6
unfolding length_bits
length-length true = refl
length-length false = refl

pub length-shape : (s : Shape) → length (shape_bits s) ≡ 2
unfolding shape_bits
length-shape Qpsk = refl
length-shape Qam16 = refl
length-shape Qam64 = refl

pub length-hierarchy : (h : Hierarchy) → length (hierarchy_bits h) ≡ 3
unfolding hierarchy_bits
length-hierarchy Flat = refl
length-hierarchy Alpha1 = refl
length-hierarchy Alpha2 = refl
length-hierarchy Alpha4 = refl

pub length-rate : (r : Rate) → length (rate_bits r) ≡ 3
unfolding rate_bits
length-rate R1of2 = refl
length-rate R2of3 = refl
length-rate R3of4 = refl
length-rate R5of6 = refl
length-rate R7of8 = refl

pub length-guard : (g : Guard) → length (guard_bits g) ≡ 2
unfolding guard_bits
length-guard G1of32 = refl
length-guard G1of16 = refl
length-guard G1of8 = refl
length-guard G1of4 = refl

pub length-mode : (m : Mode) → length (mode_bits m) ≡ 2
unfolding mode_bits
length-mode M2k = refl
length-mode M8k = refl

shape_back : (s : Shape) → shape_numbered (number_of (shape_bits s)) ≡ Some s
unfolding shape_bits
shape_back Qpsk = refl
shape_back Qam16 = refl
shape_back Qam64 = refl

hierarchy_back : (h : Hierarchy) → hierarchy_numbered (number_of (hierarchy_bits h)) ≡ Some h
unfolding hierarchy_bits
hierarchy_back Flat = refl
hierarchy_back Alpha1 = refl
hierarchy_back Alpha2 = refl
hierarchy_back Alpha4 = refl

rate_back : (r : Rate) → rate_numbered (number_of (rate_bits r)) ≡ Some r
unfolding rate_bits
rate_back R1of2 = refl
rate_back R2of3 = refl
rate_back R3of4 = refl
rate_back R5of6 = refl
rate_back R7of8 = refl

guard_back : (g : Guard) → guard_numbered (number_of (guard_bits g)) ≡ Some g
unfolding guard_bits
guard_back G1of32 = refl
guard_back G1of16 = refl
guard_back G1of8 = refl
guard_back G1of4 = refl

mode_back : (m : Mode) → mode_numbered (number_of (mode_bits m)) ≡ Some m
unfolding mode_bits
mode_back M2k = refl
mode_back M8k = refl

cell_bit : (w : Bool) (rest : List Bool) → get_or (length_bits w ++ rest) 2 false ≡ w
unfolding length_bits
cell_bit true rest = refl
cell_bit false rest = refl

-- the bits after a field
skip : (k n : ℕ) (w field rest : List Bool) → drop k w ≡ field ++ rest → length field ≡ n → drop (k + n) w ≡ rest
skip k n w field rest e size =
    sym (drop-drop n k w) ∙ ap (drop n) e ∙ ap (λ (z : ℕ). drop z (field ++ rest)) (sym size) ∙ drop-append_seam field rest

-- the field itself
front : (k n : ℕ) (w field rest : List Bool) → drop k w ≡ field ++ rest → length field ≡ n → take n (drop k w) ≡ field
front k n w field rest e size = ap (take n) e ∙ ap (λ (z : ℕ). take z (field ++ rest)) (sym size) ∙ take-append_seam field rest

dropped : (k i : ℕ) (w : List Bool) → get_or (drop k w) i false ≡ get_or w (k + i) false
dropped zero i w = let here : i ≡ zero + i = omega arith in ap (λ (z : ℕ). get_or w z false) here
dropped (suc k) i [] = refl
dropped (suc k) i (b ∷ w) = let next : suc (k + i) ≡ suc k + i = omega arith in dropped k i w ∙ ap (λ (z : ℕ). get_or (b ∷ w) z false) next

-- the fields of a word, as read at their positions
pub record HasFields (bits : List Bool) (t : TpsWord) : Type 0 where
  pub frame : number_of (take 2 (drop 22 bits)) ≡ t.frame - 1
  pub with_cell : get_or bits 18 false ≡ t.with_cell
  pub shape : shape_numbered (number_of (take 2 (drop 24 bits))) ≡ Some t.shape
  pub hierarchy : hierarchy_numbered (number_of (take 3 (drop 26 bits))) ≡ Some t.hierarchy
  pub rate_hp : rate_numbered (number_of (take 3 (drop 29 bits))) ≡ Some t.rate_hp
  pub rate_lp : rate_numbered (number_of (take 3 (drop 32 bits))) ≡ Some t.rate_lp
  pub guard : guard_numbered (number_of (take 2 (drop 35 bits))) ≡ Some t.guard
  pub mode : mode_numbered (number_of (take 2 (drop 37 bits))) ≡ Some t.mode
  pub cell_byte : number_of (take 8 (drop 39 bits)) ≡ t.cell_byte

module _ (t : TpsWord) where
  abbrev last : List Bool
  last = digits (codes "000000") ++ tps_parity (tps_info t)

  abbrev cell : List Bool
  cell = spelled 8 t.cell_byte ++ last

  abbrev mode : List Bool
  mode = mode_bits t.mode ++ cell

  abbrev guard : List Bool
  guard = guard_bits t.guard ++ mode

  abbrev lp : List Bool
  lp = rate_bits t.rate_lp ++ guard

  abbrev hp : List Bool
  hp = rate_bits t.rate_hp ++ lp

  abbrev hierarchy : List Bool
  hierarchy = hierarchy_bits t.hierarchy ++ hp

  abbrev shape : List Bool
  shape = shape_bits t.shape ++ hierarchy

  abbrev frame : List Bool
  frame = spelled 2 (t.frame - 1) ++ shape

  abbrev long : List Bool
  long = length_bits t.with_cell ++ frame

  regrouped : tps_word t ≡ sync_word t.frame ++ long
  unfolding tps_word tps_info
  regrouped = simp append_assoc

  pub has_fields : IsValid t → HasFields (tps_word t) t
  has_fields valid =
      let w : List Bool = tps_word t in
      let at_16 : drop 16 w ≡ length_bits t.with_cell ++ frame = skip 0 16 w (sync_word t.frame) long regrouped (length-sync t.frame) in
      let at_22 : drop 22 w ≡ spelled 2 (t.frame - 1) ++ shape = skip 16 6 w (length_bits t.with_cell) frame at_16 (length-length t.with_cell) in
      let at_24 : drop 24 w ≡ shape_bits t.shape ++ hierarchy = skip 22 2 w (spelled 2 (t.frame - 1)) shape at_22 (length-spelled 2 (t.frame - 1)) in
      let at_26 : drop 26 w ≡ hierarchy_bits t.hierarchy ++ hp = skip 24 2 w (shape_bits t.shape) hierarchy at_24 (length-shape t.shape) in
      let at_29 : drop 29 w ≡ rate_bits t.rate_hp ++ lp = skip 26 3 w (hierarchy_bits t.hierarchy) hp at_26 (length-hierarchy t.hierarchy) in
      let at_32 : drop 32 w ≡ rate_bits t.rate_lp ++ guard = skip 29 3 w (rate_bits t.rate_hp) lp at_29 (length-rate t.rate_hp) in
      let at_35 : drop 35 w ≡ guard_bits t.guard ++ mode = skip 32 3 w (rate_bits t.rate_lp) guard at_32 (length-rate t.rate_lp) in
      let at_37 : drop 37 w ≡ mode_bits t.mode ++ cell = skip 35 2 w (guard_bits t.guard) mode at_35 (length-guard t.guard) in
      let at_39 : drop 39 w ≡ spelled 8 t.cell_byte ++ last = skip 37 2 w (mode_bits t.mode) cell at_37 (length-mode t.mode) in
      record {
        frame = ap number_of (front 22 2 w (spelled 2 (t.frame - 1)) shape at_22 (length-spelled 2 (t.frame - 1))) ∙ number_of_spelled 2 (t.frame - 1) (omega (arith, valid.first, valid.last));
        with_cell = sym (dropped 16 2 w) ∙ ap (λ (z : List Bool). get_or z 2 false) at_16 ∙ cell_bit t.with_cell frame;
        shape = ap (λ (z : List Bool). shape_numbered (number_of z)) (front 24 2 w (shape_bits t.shape) hierarchy at_24 (length-shape t.shape)) ∙ shape_back t.shape;
        hierarchy = ap (λ (z : List Bool). hierarchy_numbered (number_of z)) (front 26 3 w (hierarchy_bits t.hierarchy) hp at_26 (length-hierarchy t.hierarchy)) ∙ hierarchy_back t.hierarchy;
        rate_hp = ap (λ (z : List Bool). rate_numbered (number_of z)) (front 29 3 w (rate_bits t.rate_hp) lp at_29 (length-rate t.rate_hp)) ∙ rate_back t.rate_hp;
        rate_lp = ap (λ (z : List Bool). rate_numbered (number_of z)) (front 32 3 w (rate_bits t.rate_lp) guard at_32 (length-rate t.rate_lp)) ∙ rate_back t.rate_lp;
        guard = ap (λ (z : List Bool). guard_numbered (number_of z)) (front 35 2 w (guard_bits t.guard) mode at_35 (length-guard t.guard)) ∙ guard_back t.guard;
        mode = ap (λ (z : List Bool). mode_numbered (number_of z)) (front 37 2 w (mode_bits t.mode) cell at_37 (length-mode t.mode)) ∙ mode_back t.mode;
        cell_byte = ap number_of (front 39 8 w (spelled 8 t.cell_byte) last at_39 (length-spelled 8 t.cell_byte)) ∙ number_of_spelled 8 t.cell_byte (omega (arith, valid.byte));
      }

-- fields that agree one by one
pub same_fields : (t : TpsWord) (f : ℕ) (w : Bool) (s : Shape) (h : Hierarchy) (r q : Rate) (g : Guard) (m : Mode) (b : ℕ)
    → f ≡ t.frame → w ≡ t.with_cell → s ≡ t.shape → h ≡ t.hierarchy → r ≡ t.rate_hp → q ≡ t.rate_lp → g ≡ t.guard → m ≡ t.mode → b ≡ t.cell_byte
    → ◌≡◌ {A = TpsWord} (record { frame = f; with_cell = w; shape = s; hierarchy = h; rate_hp = r; rate_lp = q; guard = g; mode = m; cell_byte = b }) t
same_fields t f w s h r q g m b ef ew es eh er eq eg em eb =
    ap (λ (z : ℕ). made z w s h r q g m b) ef
    ∙ ap (λ (z : Bool). made t.frame z s h r q g m b) ew
    ∙ ap (λ (z : Shape). made t.frame t.with_cell z h r q g m b) es
    ∙ ap (λ (z : Hierarchy). made t.frame t.with_cell t.shape z r q g m b) eh
    ∙ ap (λ (z : Rate). made t.frame t.with_cell t.shape t.hierarchy z q g m b) er
    ∙ ap (λ (z : Rate). made t.frame t.with_cell t.shape t.hierarchy t.rate_hp z g m b) eq
    ∙ ap (λ (z : Guard). made t.frame t.with_cell t.shape t.hierarchy t.rate_hp t.rate_lp z m b) eg
    ∙ ap (λ (z : Mode). made t.frame t.with_cell t.shape t.hierarchy t.rate_hp t.rate_lp t.guard z b) em
    ∙ ap (λ (z : ℕ). made t.frame t.with_cell t.shape t.hierarchy t.rate_hp t.rate_lp t.guard t.mode z) eb
  where
    made : ℕ → Bool → Shape → Hierarchy → Rate → Rate → Guard → Mode → ℕ → TpsWord
    made f w s h r q g m b = record { frame = f; with_cell = w; shape = s; hierarchy = h; rate_hp = r; rate_lp = q; guard = g; mode = m; cell_byte = b }

pub inside : {A : Type 0} {x y : A} → Some x ≡ Some y → x ≡ y
inside s = cc

pub apart : {A B : Type 0} {x : A} {y z : B} → ◌≡◌ {A = Option A} None (Some x) → y ≡ z
apart s = cc

-- words of valid fields are equal only if the fields are
pub one_reading : (t u : TpsWord) → IsValid t → IsValid u → tps_word t ≡ tps_word u → u ≡ t
one_reading t u vt vu e =
    let a = has_fields t vt in
    let b = subst (λ (w : List Bool). HasFields w u) (sym e) (has_fields u vu) in
    let frames : u.frame - 1 ≡ t.frame - 1 = sym b.frame ∙ a.frame in
    same_fields t u.frame u.with_cell u.shape u.hierarchy u.rate_hp u.rate_lp u.guard u.mode u.cell_byte
    (omega (arith, frames, vt.first, vu.first)) (sym b.with_cell ∙ a.with_cell)
    (inside (sym b.shape ∙ a.shape)) (inside (sym b.hierarchy ∙ a.hierarchy)) (inside (sym b.rate_hp ∙ a.rate_hp)) (inside (sym b.rate_lp ∙ a.rate_lp))
    (inside (sym b.guard ∙ a.guard)) (inside (sym b.mode ∙ a.mode)) (sym b.cell_byte ∙ a.cell_byte)

pub length-info : (t : TpsWord) → length (tps_info t) ≡ 53
unfolding tps_info
length-info t =
    omega (arith, length-append {A = Bool}, length-sync t.frame, length-length t.with_cell, length-spelled 2 (t.frame - 1), length-shape t.shape, length-hierarchy t.hierarchy, length-rate t.rate_hp, length-rate t.rate_lp, length-guard t.guard, length-mode t.mode, length-spelled 8 t.cell_byte)

-- a prefix as long as the whole is the whole
pub whole : (n : ℕ) (bits xs : List Bool) → take n bits ≡ xs → length bits ≡ length xs → bits ≡ xs
whole n [] [] e l = refl
whole n [] (x ∷ xs) e l = absurd (omega (arith, l))
whole n (b ∷ bits) [] e l = absurd (omega (arith, l))
whole zero (b ∷ bits) (x ∷ xs) e l = absurd (omega (arith, ap length e))
whole (suc n) (b ∷ bits) (x ∷ xs) e l = let parts : take (suc n) (b ∷ bits) ≡ x ∷ xs = e in let heads : b ≡ x = cc in let tails : take n bits ≡ xs = cc in ap (λ (z : Bool). z ∷ bits) heads ∙ ap (λ (zs : List Bool). x ∷ zs) (whole n bits xs tails (omega (arith, l)))

-- two parts written one after the other
pub two_parts : (first back info parity : List Bool) → first ≡ info → back ≡ parity → length first ≡ 53 → put_mid 53 14 (first ++ replicate 14 false) back ≡ info ++ parity
two_parts first back info parity a b l =
    let zeros : List Bool = replicate 14 false in
    let front : take 53 (first ++ zeros) ≡ first = ap (λ (n : ℕ). take n (first ++ zeros)) (sym l) ∙ take-append_seam first zeros in
    let none : post_of 53 14 (first ++ zeros) ≡ [] = drop_all 14 (drop 53 (first ++ zeros)) (omega (arith, l, length-append first zeros, length-drop 53 (first ++ zeros))) in
    ap (λ (z : List Bool). z ++ (back ++ post_of 53 14 (first ++ zeros))) front ∙ ap (λ (z : List Bool). first ++ (back ++ z)) none
    ∙ ap (λ (z : List Bool). first ++ z) (append-nil back) ∙ ap (λ (z : List Bool). z ++ back) a ∙ ap (λ (z : List Bool). info ++ z) b

-- a field after a prefix
pub joined : {x a b c d : List Bool} → x ≡ a ++ c → a ≡ b → c ≡ d → x ≡ b ++ d
joined {b = b} {c = c} e f g = e ∙ ap (λ (z : List Bool). z ++ c) f ∙ ap (λ (z : List Bool). b ++ z) g
