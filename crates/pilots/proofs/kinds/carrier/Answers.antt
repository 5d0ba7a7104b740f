-- The table's carrier is the one with that number.
use Rattle.std.proofs.Common.{arith, ap, sym, subst, ◌∙◌, ◌%◌, ◌<◌, ◌+◌, ◌*◌, ◌/◌, ◌≡◌, ℕ, List, get_or}
use Rattle.std.specs.Prelude.{slice_index}
use Rattle.mode_set.specs.StreamTable.{carriers}
use Rattle.pilots.specs.Carriers.{kind}
use Rattle.pilots.specs.declared.carrier_kind.CarrierKind.TheVariants.{Payload}
use Rattle.pilots.specs.Tables.{payload_places}
use Rattle.pilots.proofs.Periods.{named, are_numbered}
use Rattle.pilots.proofs.kinds.carrier.Goals as goal

same : (c : goal.After-from) → 1704 * (c.args.q / 1512) + slice_index (payload_places (c.args.l % 4)) (c.args.q % 1512) ≡ c.args.q / 1512 * 1704 + c.from.result
same c = let read = c.from.ensures ∙ ap (λ (xs : List ℕ). get_or xs (c.args.q % 1512) 0) c.payload_in_period.ensures in omega (arith, read)

numbered : (c : goal.After-from) → kind c.args.mode c.args.l (c.args.q / 1512 * 1704 + c.from.result) ≡ Payload c.args.q
numbered c = subst (λ (k : ℕ). kind c.args.mode c.args.l k ≡ Payload c.args.q) (same c) (named c.args.mode c.args.l c.args.q c.requires.number).1

within : (c : goal.After-from) → c.args.q / 1512 * 1704 + c.from.result < carriers c.args.mode
within c = subst (λ (k : ℕ). k < carriers c.args.mode) (same c) (named c.args.mode c.args.l c.args.q c.requires.number).0

pub returns-clause-kind : goal.returns-clause-kind
returns-clause-kind c = numbered c

pub returns-clause-within : goal.returns-clause-within
returns-clause-within c = within c

pub returns-clause-listed : goal.returns-clause-listed
returns-clause-listed c = sym ((are_numbered c.args.mode c.args.l _ c.args.q (within c)).0 (numbered c)).1
