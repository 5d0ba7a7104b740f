use Rattle.std.proofs.Common.{◌≡◌, ℕ, ◌<◌, ◌^◌, ◌||◌}
use Rattle.spec_words.specs.Bits.{is_set}
use Rattle.code_paths.specs.States.{even_of, odd_of}
use Rattle.acs_plain.specs.Steps.{alive}
use Rattle.acs_plain.proofs.sums.Sums.followers.Given as goal

abbrev pub invariant-loop-n : goal.invariant-loop-n
invariant-loop-n l = (l.word < 2 ^ l.n) × ((k : ℕ) → k < l.n → is_set l.word k ≡ (alive l.self (even_of k) || alive l.self (odd_of k)))
