-- READ, WRITE and COMMIT: RFC 8881, sections 18.22, 18.32 and 18.3. How many bytes one of them
-- moves is this server's profile.
use Rattle.std.specs.Prelude.{ℕ, Bool, true, false, [], ◌∷◌, ◌++◌, List, ◌+◌, not, ◌==◌, ◌&&◌, nat_lt, nat_le, length, take, drop, min, if◌then◌else◌}
use Rattle.std.specs.List.{list_all}
use Rattle.std.specs.Int.{w64, to_be_bytes}
use Rattle.model_tree.specs.declared.status.Status.TheVariants as status
use Rattle.model.specs.Operations.Answer.{Answer}
use Rattle.model_tree.specs.Trees.Changes.{touch}
use Rattle.model_tree.specs.Trees.Edit.{PutBytes}
use Rattle.model_tree.specs.declared.limits.Limits.{Limits}
use Rattle.model.specs.Operations.Definition.{Definition, on_current, needs_nothing, needs}
use Rattle.model.specs.Operations.Operation.{CommitArguments, ReadArguments, WriteArguments}
use Rattle.model_tree.specs.Refusals.Refusal.{Refusals}
use Rattle.model.specs.Operations.State.{State, Stepped, current, stamp_of, current_refusals, answered, changed}
use Rattle.model_tree.specs.Rights.Acl.{read_data, write_data}
use Rattle.model.specs.Sessions.StateIds.{state_refusals, read_access, write_access}
use Rattle.model_tree.specs.Trees.Tree.{is_directory_at, bytes_at}

-- of a file's operations
abbrev pub file_refusals : State → Refusals
file_refusals state = (is_directory_at state.tree (current state), status.IsDir) ∷ []

-- READ: it is the end if what is returned reaches the file's size

abbrev pub part_of : Limits → List ℕ → ReadArguments → List ℕ
part_of limits bytes arguments =
    take (min arguments.count limits.transfer_bytes) (drop arguments.offset bytes)

abbrev pub read : Limits → State → ReadArguments → Stepped
read limits state arguments =
    let bytes = bytes_at state.tree (current state) in
    let part = part_of limits bytes arguments in
    answered state
    (Answer.Read
    (record {
      is_end = nat_le (length bytes) (arguments.offset + length part);
      data_bytes = part;
    }))

-- READ (section 18.22)
abbrev pub READ : ReadArguments → Definition
READ arguments = record (on_current (needs read_data)
    (λ limits state now. read limits state arguments)) {
      early = λ limits state. current_refusals state ++ (file_refusals state
          ++ state_refusals state.opens state.context read_access arguments.state);
    }

-- WRITE takes only the first bytes, and writing none is no change

abbrev pub are_bytes : List ℕ → Bool
are_bytes bytes = list_all (λ byte. nat_lt byte 256) bytes

abbrev pub taken_bytes : Limits → WriteArguments → List ℕ
taken_bytes limits arguments = take limits.transfer_bytes arguments.data_bytes

abbrev pub has_bytes : WriteArguments → Bool
has_bytes arguments = nat_lt 0 (length arguments.data_bytes)

-- the end that it writes up to may not be above the limit of a file
abbrev pub write_refusals : Limits → WriteArguments → Refusals
write_refusals limits arguments = (
  has_bytes arguments
      && nat_lt limits.file_bytes (arguments.offset + length (taken_bytes limits arguments)),
  status.FBig,
) ∷ []

-- the server's restart count: from a new one a client learns that what was not committed may be
-- lost
abbrev pub write_verifier : State → List ℕ
write_verifier state = to_be_bytes w64 state.context.run

-- UNSTABLE4 is 0; what is to be stable is answered FILE_SYNC4
abbrev pub committed_as : (stable : ℕ) → ℕ
committed_as stable = if stable == 0 then 0 else 2

abbrev pub wrote : Limits → State → WriteArguments → Answer
wrote limits state arguments = Answer.Write (record {
  count = length (taken_bytes limits arguments);
  committed = committed_as arguments.stable;
  verifier = write_verifier state;
})

abbrev pub write : (has_bytes : Bool) → Limits → State → (now : ℕ) → WriteArguments → Stepped
write true limits state now arguments =
    answered
    (changed state (PutBytes (current state) arguments.offset (taken_bytes limits arguments)
    ∷ touch state.tree (current state) (stamp_of state) now ∷ [])) (wrote limits state arguments)
write false limits state now arguments = answered state (wrote limits state arguments)

-- WRITE (section 18.32)
abbrev pub WRITE : WriteArguments → Definition
WRITE arguments = record (on_current (needs write_data)
    (λ limits state now. write (has_bytes arguments) limits state now arguments)) {
      early = λ limits state. (not (are_bytes arguments.data_bytes), status.BadXdr)
          ∷ (current_refusals state ++ (file_refusals state
          ++ state_refusals state.opens state.context write_access arguments.state));
      late = λ limits state. write_refusals limits arguments;
      alters = λ state. has_bytes arguments;
    }

-- COMMIT leaves the tree unchanged; the laws of runs say that everything before it is kept from
-- then on
abbrev pub commit : State → Stepped
commit state = answered state (Answer.Commit (write_verifier state))

-- COMMIT (section 18.3)
abbrev pub COMMIT : CommitArguments → Definition
COMMIT arguments = record (on_current needs_nothing (λ limits state now. commit state)) {
  early = λ limits state. current_refusals state ++ file_refusals state;
}
