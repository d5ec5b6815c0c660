use Rattle.std.proofs.Common.{ℕ, List, ◌≡◌, sym, ◌∙◌, IsUtf8, MatchResult, is_ok}
use Rattle.std.specs.Prelude.{Result, Ok, Err}
use Rattle.std.specs.Str.{is_utf8}
use Rattle.std.proofs.lemmas.Bool.{false_from_ne_true}
use Rattle.std.proofs.lemmas.Str.{IsUtf8-from_is_utf8, is_utf8-from_IsUtf8}
use Rattle.directory.proofs.check.is_utf8.Goals as goal

verdict : {A B : Type 0} (P : A → Type 0) (Q : B → Type 0) (bytes : List ℕ) (read : Result A B)
    → MatchResult read (λ text. P text × IsUtf8 bytes) (λ error. (IsUtf8 bytes → ⊥) × Q error) → is_ok read ≡ is_utf8 bytes
verdict P Q bytes (Ok text) is = sym (is_utf8-from_IsUtf8 bytes is.1)
verdict P Q bytes (Err error) is = sym (false_from_ne_true (is_utf8 bytes) (λ told. is.0 (IsUtf8-from_is_utf8 bytes told)))

pub returns : goal.returns
returns c = c.is_ok.ensures.value ∙ verdict _ _ c.args.name.now c.from_utf8.result c.from_utf8.ensures.cases
