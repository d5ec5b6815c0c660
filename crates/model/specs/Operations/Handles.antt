-- The current and the saved filehandle: RFC 8881, sections 18.19 (PUTFH), 18.21 (PUTROOTFH), 18.8
-- (GETFH), 18.28 (SAVEFH) and 18.27 (RESTOREFH).
use Rattle.std.specs.Prelude.{ℕ, List, [], ◌∷◌, not}
use Rattle.model_tree.specs.declared.status.Status.TheVariants as status
use Rattle.model.specs.Operations.Answer.{Answer}
use Rattle.model.specs.Operations.Context.{has_saved, saving, restored}
use Rattle.model.specs.Operations.Definition.{Definition, only, on_current, needs_nothing}
use Rattle.model.specs.Operations.State.{current, answered, moved_to}
use Rattle.model_tree.specs.Trees.Keyed.{is_key}
use Rattle.model_tree.specs.Trees.Stamp.{filehandle_of, is_filehandle, handle_number}
use Rattle.model_tree.specs.Trees.Tree.{root}

-- PUTFH (section 18.19)
abbrev pub PUTFH : (handle : List ℕ) → Definition
PUTFH handle = record (only needs_nothing (λ limits state now.
    answered (moved_to state (handle_number handle)) Answer.PutFh)) {
      early = λ limits state. (not (is_filehandle handle), status.BadHandle)
          ∷ (not (is_key (handle_number handle) state.tree), status.Stale) ∷ [];
    }

-- PUTROOTFH (section 18.21)
abbrev pub PUTROOTFH : Definition
PUTROOTFH = only needs_nothing (λ limits state now. answered (moved_to state root) Answer.PutRootFh)

-- GETFH (section 18.8)
abbrev pub GETFH : Definition
GETFH = on_current needs_nothing (λ limits state now.
    answered state (Answer.GetFh (filehandle_of (current state))))

-- SAVEFH (section 18.28)
abbrev pub SAVEFH : Definition
SAVEFH = on_current needs_nothing (λ limits state now.
    answered (record state { context = saving state.context }) Answer.SaveFh)

-- RESTOREFH (section 18.27)
abbrev pub RESTOREFH : Definition
RESTOREFH = record (only needs_nothing (λ limits state now.
    answered (record state { context = restored state.context }) Answer.RestoreFh)) {
      early = λ limits state. (not (has_saved state.context), status.NoFileHandle) ∷ [];
    }
