-- PUTFH and GETFH by the definition: their tests, and what they do.
use Rattle.std.proofs.Common.{ℕ, true, false, List, ◌≡◌, refl}
use Rattle.model_tree.specs.declared.limits.Limits.{Limits}
use Rattle.model_tree.specs.declared.status.Status.TheVariants as status
use Rattle.model.specs.Operations.Answer.{Answer}
use Rattle.model.specs.Operations.Context.{has_current}
use Rattle.model_tree.specs.Trees.Keyed.{is_key}
use Rattle.model.specs.Operations.Operation.{Argument}
use Rattle.model_tree.specs.Trees.Stamp.{filehandle_of, is_filehandle, handle_number}
use Rattle.model.specs.Operations.Step.{State, current, refusals, effect, does, refused, answered, moved_to, permitted}

module _ (limits : Limits) (state : State) (now : ℕ) (handle : List ℕ) where
  pub bad_handle : is_filehandle handle ≡ false → does limits state now (Argument.PutFh handle) ≡ refused state (Argument.PutFh handle) status.BadHandle
  unfolding does refusals permitted effect
  bad_handle bad = rw bad refl

  pub stale_handle : is_filehandle handle ≡ true → is_key (handle_number handle) state.tree ≡ false
      → does limits state now (Argument.PutFh handle) ≡ refused state (Argument.PutFh handle) status.Stale
  unfolding does refusals permitted effect
  stale_handle good gone = rw (good, gone) refl

  pub handle_put : is_filehandle handle ≡ true → is_key (handle_number handle) state.tree ≡ true
      → does limits state now (Argument.PutFh handle) ≡ answered (moved_to state (handle_number handle)) Answer.PutFh
  unfolding does refusals permitted effect
  handle_put good there = rw (good, there) refl

module _ (limits : Limits) (state : State) (now : ℕ) (has : has_current state.context ≡ true) where
  pub current_gone : is_key (current state) state.tree ≡ false → does limits state now Argument.GetFh ≡ refused state Argument.GetFh status.Stale
  unfolding does refusals permitted effect
  current_gone gone = rw (has, gone) refl

  pub handle_got : is_key (current state) state.tree ≡ true
      → does limits state now Argument.GetFh ≡ answered state (Answer.GetFh (filehandle_of (current state)))
  unfolding does refusals permitted effect
  handle_got there = rw (has, there) refl
