use Rattle.std.proofs.Common.{◌++◌, ℕ, List, take, refl, ◌∙◌, sym, ap, ap₂, subst, replicate}
use Rattle.rs204.specs.Codes.{IsCodeword, codeword, rest_of}
use Rattle.rs204.proofs.Near.{bytes_of}
use Rattle.rs204.proofs.Horner.{put_behind}
use Rattle.rs204.proofs.Dividing.{held_bytes}
use Rattle.rs204.proofs.Codewords.{message_code}
use Rattle.rs204.proofs.encoder.encode.Goals as goal

pub returns-clause-is : goal.returns-clause-is
unfolding codeword
returns-clause-is c =
    put_behind c.copy_from_slice.new.self c.copy_from_slice-2.new.self _ c.copy_from_slice.ensures.len refl
    ∙ ap₂ (λ (a b : List ℕ). a ++ b) c.copy_from_slice.ensures.after
    (c.copy_from_slice-2.ensures.after ∙ c.to_le_bytes-parity.ensures ∙ held_bytes c.rest.result _ c.rest.ensures ∙ ap (λ (m : List ℕ). rest_of 188 (m ++ replicate 16 0)) c.copy_from_slice.ensures.after)

pub returns-clause-code : goal.returns-clause-code
returns-clause-code c = subst IsCodeword (sym (returns-clause-is c)) (message_code c.args.message.now c.told-message (bytes_of c.args.message.now c.fits-message)).code

pub returns-clause-begins : goal.returns-clause-begins
returns-clause-begins c = ap (take 188) (returns-clause-is c) ∙ (message_code c.args.message.now c.told-message (bytes_of c.args.message.now c.fits-message)).begins
