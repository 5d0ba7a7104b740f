-- Each exit returns the kind from the tables.
use Rattle.std.proofs.Common.{sym, ap, ◌∙◌, ◌%◌, ◌≡◌, ◌+◌, ◌*◌, ◌/◌, ◌≤◌, ℕ, arith, List}
use Rattle.mode_set.specs.StreamTable.{payload}
use Rattle.mode_set.specs.declared.modes.Mode.{Mode}
use Rattle.mode_set.specs.declared.modes.Mode.TheVariants.{M2k, M8k}
use Rattle.pilots.specs.Carriers.{kind}
use Rattle.pilots.specs.Tables.{in_set, payload_set, below_words, rank}
use Rattle.pilots.specs.declared.carrier_kind.CarrierKind.TheVariants.{Payload}
use Rattle.pilots.proofs.Periods.{few, as_continual, as_scattered, as_tps, as_payload}
use Rattle.pilots.proofs.kinds.kind.Goals as goal

pub returns-then-is_in : goal.returns-then-is_in
returns-then-is_in c =
    let place = c.args.k % 1704 in
    let is = as_continual c.args.mode c.args.l c.args.k c.requires.carrier (ap (λ (s : List ℕ). in_set s place) (sym c.continual.ensures) ∙ sym c.is_in.ensures ∙ c.if-is_in.true) in
    record { kind = is; number = λ q e. few c.args.mode c.args.l c.args.k q c.requires.carrier (sym is ∙ e) }

pub returns-then-place-symbol : goal.returns-then-place-symbol
returns-then-place-symbol c =
    let place = c.args.k % 1704 in
    let is = as_scattered c.args.mode c.args.l c.args.k c.requires.carrier (ap (λ (s : List ℕ). in_set s place) (sym c.continual.ensures) ∙ sym c.is_in.ensures ∙ c.if-is_in.false) c.if-place-symbol.true in
    record { kind = is; number = λ q e. few c.args.mode c.args.l c.args.k q c.requires.carrier (sym is ∙ e) }

pub returns-then-is_in-2 : goal.returns-then-is_in-2
returns-then-is_in-2 c =
    let place = c.args.k % 1704 in
    let is = as_tps c.args.mode c.args.l c.args.k c.requires.carrier (ap (λ (s : List ℕ). in_set s place) (sym c.continual.ensures) ∙ sym c.is_in.ensures ∙ c.if-is_in.false) c.if-place-symbol.false (ap (λ (s : List ℕ). in_set s place) (sym c.tps.ensures) ∙ sym c.is_in-2.ensures ∙ c.if-is_in-2.true) in
    record { kind = is; number = λ q e. few c.args.mode c.args.l c.args.k q c.requires.carrier (sym is ∙ e) }

-- the last exit
last : (c : goal.After-members_below) → Payload (c.args.k / 1704 * 1512 + c.members_below.result) ≡ kind c.args.mode c.args.l c.args.k
last c =
    let place = c.args.k % 1704 in
    let set = c.payload.ensures.set in
    let below = c.payload.ensures.below in
    let number : c.members_below.result ≡ rank (payload_set (c.args.l % 4)) (below_words (c.args.l % 4)) place =
    c.members_below.ensures ∙ ap (λ (s : List ℕ). rank s c.payload.result.1.now place) set ∙ ap (λ (b : List ℕ). rank (payload_set (c.args.l % 4)) b place) below in
    ap (λ (n : ℕ). Payload (c.args.k / 1704 * 1512 + n)) number
    ∙ as_payload c.args.mode c.args.l c.args.k c.requires.carrier (ap (λ (s : List ℕ). in_set s place) (sym c.continual.ensures) ∙ sym c.is_in.ensures ∙ c.if-is_in.false) c.if-place-symbol.false (ap (λ (s : List ℕ). in_set s place) (sym c.tps.ensures) ∙ sym c.is_in-2.ensures ∙ c.if-is_in-2.false)

small : (m : Mode) → payload m ≤ 6048
small M2k = omega arith
small M8k = omega arith

pub overflow_add-result : goal.overflow_add-result
overflow_add-result c = omega (arith, few c.args.mode c.args.l c.args.k _ c.requires.carrier (sym (last c)), small c.args.mode)

pub returns : goal.returns
returns c = let is = last c in record { kind = is; number = λ q e. few c.args.mode c.args.l c.args.k q c.requires.carrier (sym is ∙ e) }
