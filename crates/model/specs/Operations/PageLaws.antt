-- What a page of READDIR is: RFC 8881, section 18.23.
use Rattle.std.specs.Prelude.{ℕ, Bool, true, ◌≡◌, ◌≤◌, ◌<◌, ◌↔◌, List, [], ◌∷◌, ◌++◌, min, length}
use Rattle.model.specs.Operations.Answer.{Entry}
use Rattle.model_tree.specs.declared.limits.Limits.{Limits}
use Rattle.model.specs.Operations.Operation.{ReadDirArguments}
use Rattle.model.specs.Operations.ReadDir.{all_entries, page}
use Rattle.model.specs.Operations.State.{State}
use Rattle.model.specs.Wire.WireAnswers as answers

-- the bytes of an answer with these entries
abbrev pub page_size : List Entry → (is_end : Bool) → ℕ
page_size entries is_end =
    length (answers.read_dir_answer.encoding (record { entries = entries; is_end = is_end }))

pub record IsPage (limits : Limits) (state : State) (arguments : ReadDirArguments) : Type 0 where
  -- its entries are the first of all after the cookie
  pub rest : List Entry
  pub prefix : all_entries limits state arguments ≡ (page limits state arguments).entries ++ rest
  -- unless it is empty, it fits, as it is encoded
  pub fits : 0 < length (page limits state arguments).entries
      → page_size (page limits state arguments).entries (page limits state arguments).is_end
      ≤ min arguments.max_count limits.transfer_bytes
  -- and no further entry would fit
  pub longest : (next : Entry) (others : List Entry) (is_end : Bool) → rest ≡ next ∷ others
      → min arguments.max_count limits.transfer_bytes
      < page_size ((page limits state arguments).entries ++ next ∷ []) is_end
  -- it reports the end exactly if no entry is left
  pub ends : ((page limits state arguments).is_end ≡ true) ↔ (rest ≡ [])

abbrev pub EveryPage : Type 0
EveryPage =
    (limits : Limits) (state : State) (arguments : ReadDirArguments) → IsPage limits state arguments
