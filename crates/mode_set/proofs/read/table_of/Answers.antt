-- A document is UTF-8 that TOML accepts.
use Rattle.std.proofs.Common.{◌≡◌, ℕ, List, None, IsUtf8, ◌∙◌, refl, inl, inr, sym}
use Rattle.std.proofs.lemmas.Bool.{cases_Bool, false≢true}
use Rattle.std.proofs.lemmas.Str.{is_utf8-from_IsUtf8, IsUtf8-from_is_utf8}
use Rattle.std.specs.Str.{is_utf8}
use Rattle.toml.specs.Parse.{parse_document}
use Rattle.mode_set.specs.AtKeys.{document}
use Rattle.mode_set.proofs.read.table_of.Goals as goal

no_document : (bytes : List ℕ) → (IsUtf8 bytes → parse_document bytes ≡ None) → document bytes ≡ None
no_document bytes h = elim (cases_Bool (is_utf8 bytes)) [ inl text ↦ rw text (h (IsUtf8-from_is_utf8 bytes text)) | inr other ↦ rw other refl ]

pub returns-in-Ok-clause-ok : goal.returns-in-Ok-clause-ok
returns-in-Ok-clause-ok c = rw (is_utf8-from_IsUtf8 _ c.in-Ok.ensures.ok.0) c.in-Ok.ensures.ok.1

pub returns-in-Err-2-clause-err : goal.returns-in-Err-2-clause-err
returns-in-Err-2-clause-err c = λ _. (refl, no_document _ (c.in-Err.ensures.refused (λ memory. false≢true (sym c.if-is_memory.false ∙ c.is_memory.ensures.1 memory))))
