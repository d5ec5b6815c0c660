-- What is read after a result's status, and what loops have read.
use Rattle.std.specs.Prelude.{◌≡◌, ◌⊎◌, ℕ, List, length, Result, Ok, Err, map}
use Rattle.std.specs.Global.{Vec}
use Rattle.xdr.specs.declared.refusal.Refusal.{Refusal}
use Rattle.xdr.specs.declared.refusal.Refusal.TheVariants.{Memory}
use Rattle.xdr.specs.Forms.{links_at}
use Rattle.model.specs.Operations.Answer.{Answer}
use Rattle.model.specs.Wire.WireTypes.{callback_security}
use Rattle.model.specs.Wire.WireAnswers.{answer_choice, entry}
use Rattle.wire.specs.declared.small.CallbackSecurity.{CallbackSecurity}
use Rattle.wire.specs.declared.answers.Entry.{Entry}
use Rattle.wire.specs.SmallViews.{security_view}
use Rattle.wire.specs.AnswerViews.{entry_view}

-- what follows the status OK of a result
unfoldable pub answers_at : (operation : ℕ) → List ℕ → Result (Answer × List ℕ) Refusal
answers_at operation bytes = answer_choice operation bytes

-- what a loop over a chain of entries has read, and what is left
abbrev pub ReadsEntries : List ℕ → Result (Vec Entry × List ℕ) Refusal → Type 0
ReadsEntries old (Ok x) = links_at entry.read (length old) old ≡ Ok (map entry_view x.0.items, x.1)
ReadsEntries old (Err e) = (e ≡ Memory) ⊎ (links_at entry.read (length old) old ≡ Err e)

-- a security parameter
abbrev pub security_text : CallbackSecurity → List ℕ
security_text s = callback_security.encoding (security_view s)
