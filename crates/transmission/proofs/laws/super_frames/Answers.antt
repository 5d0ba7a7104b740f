use Rattle.std.specs.Prelude.{◌≡◌, []}
use Rattle.mode_set.specs.Plans.{entries_of}
use Rattle.mode_set.specs.declared.settings.Settings.{Settings}
use Rattle.transmission.specs.Laws.{TheNumberIsFound, OneLength}
use Rattle.transmission.proofs.Finding.{the_number_is_found}
use Rattle.transmission.proofs.LeastFrames.{AreAlike, constant_frames, enough_frames, one_length, too_few}
use Rattle.transmission.proofs.laws.super_frames.Goals as goal

pub returns : goal.returns
returns c =
    let found : TheNumberIsFound = the_number_is_found c.words.ensures.next in
    let one : OneLength = one_length found in
    let alike : (s : Settings) → entries_of s.plan ≡ [] → AreAlike s = λ s none. record {
      words = λ σ n. c.words.ensures.constant s σ n (λ j. c.settings.ensures.same s j none);
      streams = λ σ. c.settings.ensures.streams s σ none;
    } in
    record { found = found; constant = constant_frames alike one; one = one; too_few = too_few c.words.ensures.grow found; enough = enough_frames found }
