-- The results of the operations on the wire, as grammars: RFC 8881, section 18, and RFC 5662. A
-- returned bitmap has no zero word at its end.
use Rattle.std.specs.Prelude.{◌≢◌, ℕ, ◌==◌, Bool, List, [], ◌∷◌, ◌++◌, Option, Some, None, Result, Ok, Err, find, if◌then◌else◌}
use Rattle.std.specs.Int.{w32}
use Rattle.xdr.specs.declared.refusal.Refusal.{Refusal}
use Rattle.xdr.specs.declared.refusal.Refusal.TheVariants.{Value}
use Rattle.xdr.specs.Grammar.{Grammar, ◌>>=◌, ◌&◌, of, void, number, number_at, unsigned_int, unsigned_hyper}
use Rattle.xdr.specs.Forms.{always, boolean, chain, trimmed_bitmap}
use Rattle.xdr.specs.Union.{Encoded, arm, Choice, made, on, no_other, union}
use Rattle.model_tree.specs.declared.status.Status.{Status}
use Rattle.model_tree.specs.declared.status.Status.TheVariants as status
use Rattle.model_tree.specs.Refusals.Status.{code_of}
use Rattle.model.specs.Operations.Operation.{StateId, Attributes, ChangeInfo, Channel}
use Rattle.model.specs.Operations.OperationNumber.{OP_ACCESS, OP_CLOSE, OP_COMMIT, OP_CREATE, OP_GETATTR, OP_GETFH, OP_LOOKUP, OP_LOOKUPP, OP_OPEN, OP_PUTFH, OP_PUTROOTFH, OP_READ, OP_READDIR, OP_REMOVE, OP_RENAME, OP_RESTOREFH, OP_SAVEFH, OP_SETATTR, OP_WRITE, OP_EXCHANGE_ID, OP_CREATE_SESSION, OP_DESTROY_SESSION, OP_SEQUENCE, OP_DESTROY_CLIENTID, OP_RECLAIM_COMPLETE}
use Rattle.model.specs.Operations.Answer.{AccessAnswer, CreateAnswer, OpenAnswer, ReadAnswer, Entry, ReadDirAnswer, RenameAnswer, WriteAnswer, ExchangeIdAnswer, CreateSessionAnswer, SequenceAnswer, Answer, Outcome, Done, Refused}
use Rattle.model.specs.Wire.WireTypes.{any_opaque, file_handle, verifier, session_id, state_id, attributes_of, change_info, channel}

abbrev pub answered_attributes : Grammar Attributes
answered_attributes = attributes_of trimmed_bitmap

abbrev pub access_answer : Grammar AccessAnswer
access_answer =
    of (λ (p : ℕ × ℕ). record { supported = p.0; access = p.1 }) (λ a. (a.supported, a.access))
    (unsigned_int & unsigned_int)

abbrev pub create_answer : Grammar CreateAnswer
create_answer =
    of (λ (p : ChangeInfo × List ℕ). record { change = p.0; was_set = p.1 })
    (λ a. (a.change, a.was_set)) (change_info & trimmed_bitmap)

-- OPEN_DELEGATE_NONE is 0
abbrev pub open_answer : Grammar OpenAnswer
open_answer = of
    (λ (p : StateId × (ChangeInfo × (ℕ × (List ℕ × Unit {0})))).
    record { state = p.0; change = p.1.0; flags = p.1.1.0; was_set = p.1.1.1.0 })
    (λ a. (a.state, (a.change, (a.flags, (a.was_set, tt)))))
    (state_id & change_info & unsigned_int & trimmed_bitmap & always 0 unsigned_int)

abbrev pub read_answer : Grammar ReadAnswer
read_answer =
    of (λ (p : Bool × List ℕ). record { is_end = p.0; data_bytes = p.1 })
    (λ a. (a.is_end, a.data_bytes)) (boolean & any_opaque)

abbrev pub entry : Grammar Entry
entry = of
    (λ (p : ℕ × (List ℕ × Attributes)). record { cookie = p.0; name = p.1.0; attributes = p.1.1 })
    (λ e. (e.cookie, (e.name, e.attributes)))
    (unsigned_hyper & any_opaque & answered_attributes)

-- the cookie verifier is 8 zero bytes
abbrev pub read_dir_answer : Grammar ReadDirAnswer
read_dir_answer = of
    (λ (p : Unit {0} × (List Entry × Bool)). record { entries = p.1.0; is_end = p.1.1 })
    (λ a. (tt, (a.entries, a.is_end)))
    (always 0 unsigned_hyper & chain entry & boolean)

abbrev pub rename_answer : Grammar RenameAnswer
rename_answer =
    of (λ (p : ChangeInfo × ChangeInfo). record { source = p.0; target = p.1 })
    (λ a. (a.source, a.target)) (change_info & change_info)

abbrev pub write_answer : Grammar WriteAnswer
write_answer = of
    (λ (p : ℕ × (ℕ × List ℕ)). record { count = p.0; committed = p.1.0; verifier = p.1.1 })
    (λ a. (a.count, (a.committed, a.verifier)))
    (unsigned_int & unsigned_int & verifier)

-- SP4_NONE is 0; the minor id of the server's owner is 0, and no implementation is given
abbrev pub exchange_id_answer : Grammar ExchangeIdAnswer
exchange_id_answer = of
    (λ (p : ℕ × (ℕ × (ℕ × (Unit {0} × (Unit {0} × (List ℕ × (List ℕ × Unit {0}))))))). record {
      client = p.0;
      sequence = p.1.0;
      flags = p.1.1.0;
      major_id = p.1.1.1.1.1.0;
      scope = p.1.1.1.1.1.1.0;
    })
    (λ a. (a.client, (a.sequence, (a.flags, (tt, (tt, (a.major_id, (a.scope, tt))))))))
    (unsigned_hyper & unsigned_int & unsigned_int & always 0 unsigned_int & always 0 unsigned_hyper
    & any_opaque & any_opaque & always 0 unsigned_int)

abbrev pub create_session_answer : Grammar CreateSessionAnswer
create_session_answer = of
    (λ (p : List ℕ × (ℕ × (ℕ × (Channel × Channel)))).
    record {
      session = p.0;
      sequence = p.1.0;
      flags = p.1.1.0;
      fore = p.1.1.1.0;
      back = p.1.1.1.1;
    })
    (λ a. (a.session, (a.sequence, (a.flags, (a.fore, a.back)))))
    (session_id & unsigned_int & unsigned_int & channel & channel)

abbrev pub sequence_answer : Grammar SequenceAnswer
sequence_answer = of
    (λ (p : List ℕ × (ℕ × (ℕ × (ℕ × (ℕ × ℕ))))). record {
      session = p.0;
      sequence = p.1.0;
      slot = p.1.1.0;
      highest_slot = p.1.1.1.0;
      target_highest_slot = p.1.1.1.1.0;
      flags = p.1.1.1.1.1;
    })
    (λ a. (a.session, (a.sequence, (a.slot, (a.highest_slot, (a.target_highest_slot, a.flags))))))
    (session_id & unsigned_int & unsigned_int & unsigned_int & unsigned_int & unsigned_int)

-- what follows the status OK, by the operation's number
abbrev pub encoded_answer : Answer → Encoded
encoded_answer (Answer.Access a) = arm OP_ACCESS access_answer a
encoded_answer (Answer.Close state) = arm OP_CLOSE state_id state
encoded_answer (Answer.Commit bytes) = arm OP_COMMIT verifier bytes
encoded_answer (Answer.Create a) = arm OP_CREATE create_answer a
encoded_answer (Answer.GetAttr given) = arm OP_GETATTR answered_attributes given
encoded_answer (Answer.GetFh handle) = arm OP_GETFH file_handle handle
encoded_answer Answer.Lookup = arm OP_LOOKUP void tt
encoded_answer Answer.LookupParent = arm OP_LOOKUPP void tt
encoded_answer (Answer.Open a) = arm OP_OPEN open_answer a
encoded_answer Answer.PutFh = arm OP_PUTFH void tt
encoded_answer Answer.PutRootFh = arm OP_PUTROOTFH void tt
encoded_answer (Answer.Read a) = arm OP_READ read_answer a
encoded_answer (Answer.ReadDir a) = arm OP_READDIR read_dir_answer a
encoded_answer (Answer.Remove change) = arm OP_REMOVE change_info change
encoded_answer (Answer.Rename a) = arm OP_RENAME rename_answer a
encoded_answer Answer.RestoreFh = arm OP_RESTOREFH void tt
encoded_answer Answer.SaveFh = arm OP_SAVEFH void tt
encoded_answer (Answer.SetAttr was_set) = arm OP_SETATTR trimmed_bitmap was_set
encoded_answer (Answer.Write a) = arm OP_WRITE write_answer a
encoded_answer (Answer.ExchangeId a) = arm OP_EXCHANGE_ID exchange_id_answer a
encoded_answer (Answer.CreateSession a) = arm OP_CREATE_SESSION create_session_answer a
encoded_answer Answer.DestroySession = arm OP_DESTROY_SESSION void tt
encoded_answer (Answer.Sequence a) = arm OP_SEQUENCE sequence_answer a
encoded_answer Answer.DestroyClientId = arm OP_DESTROY_CLIENTID void tt
encoded_answer Answer.ReclaimComplete = arm OP_RECLAIM_COMPLETE void tt

abbrev pub answer_choice : Choice Answer
answer_choice =
    on OP_ACCESS access_answer Answer.Access
    (on OP_CLOSE state_id Answer.Close
    (on OP_COMMIT verifier Answer.Commit
    (on OP_CREATE create_answer Answer.Create
    (on OP_GETATTR answered_attributes Answer.GetAttr
    (on OP_GETFH file_handle Answer.GetFh
    (on OP_LOOKUP void (λ _. Answer.Lookup)
    (on OP_LOOKUPP void (λ _. Answer.LookupParent)
    (on OP_OPEN open_answer Answer.Open
    (on OP_PUTFH void (λ _. Answer.PutFh)
    (on OP_PUTROOTFH void (λ _. Answer.PutRootFh)
    (on OP_READ read_answer Answer.Read
    (on OP_READDIR read_dir_answer Answer.ReadDir
    (on OP_REMOVE change_info Answer.Remove
    (on OP_RENAME rename_answer Answer.Rename
    (on OP_RESTOREFH void (λ _. Answer.RestoreFh)
    (on OP_SAVEFH void (λ _. Answer.SaveFh)
    (on OP_SETATTR trimmed_bitmap Answer.SetAttr
    (on OP_WRITE write_answer Answer.Write
    (on OP_EXCHANGE_ID exchange_id_answer Answer.ExchangeId
    (on OP_CREATE_SESSION create_session_answer Answer.CreateSession
    (on OP_DESTROY_SESSION void (λ _. Answer.DestroySession)
    (on OP_SEQUENCE sequence_answer Answer.Sequence
    (on OP_DESTROY_CLIENTID void (λ _. Answer.DestroyClientId)
    (on OP_RECLAIM_COMPLETE void (λ _. Answer.ReclaimComplete) no_other))))))))))))))))))))))))

-- Results: the operation's number, a status (section 15.1), and what follows it

-- every status except OK
abbrev pub refusals : List Status
refusals =
    status.NoEnt ∷ status.Access ∷ status.Exist ∷ status.NotDir ∷ status.IsDir ∷ status.Inval
    ∷ status.FBig ∷ status.NoSpc
    ∷ status.NameTooLong ∷ status.NotEmpty ∷ status.Stale ∷ status.BadHandle ∷ status.NotSupp
    ∷ status.TooSmall ∷ status.ServerFault
    ∷ status.BadType ∷ status.Delay ∷ status.ShareDenied ∷ status.ClidInUse ∷ status.NoFileHandle
    ∷ status.MinorVersMismatch
    ∷ status.StaleClientId ∷ status.OldStateId ∷ status.BadStateId ∷ status.NotSame
    ∷ status.AttrNotSupp ∷ status.BadXdr
    ∷ status.OpenMode ∷ status.BadOwner ∷ status.BadChar ∷ status.BadName ∷ status.OpIllegal
    ∷ status.BadSession ∷ status.BadSlot
    ∷ status.CompleteAlready ∷ status.SeqMisordered ∷ status.SequencePos ∷ status.RepTooBig
    ∷ status.TooManyOps
    ∷ status.OpNotInSession ∷ status.ClientIdBusy ∷ status.SeqFalseRetry
    ∷ status.DeadSession ∷ status.NotOnlyOp ∷ []

-- the refusal of this number
abbrev pub refusal_of : ℕ → Option Status
refusal_of n = find (λ reason. code_of reason == n) refusals

-- an empty bitmap follows a refused SETATTR (section 18.30)
abbrev pub behind_refusal : (operation : ℕ) → List ℕ
behind_refusal operation = if operation == OP_SETATTR then number w32 0 else []

abbrev pub encoded_outcome : Outcome → Encoded
encoded_outcome (Done answer) =
    record {
      number = (encoded_answer answer).number;
      Fits = (encoded_answer answer).Fits;
      text = number w32 0 ++ (encoded_answer answer).text;
    }
encoded_outcome (Refused operation reason) =
    record {
      number = operation;
      Fits = code_of reason ≢ 0;
      text = number w32 (code_of reason) ++ behind_refusal operation;
    }

abbrev pub refused_by : (operation : ℕ) → Option Status → List ℕ → Result (Outcome × List ℕ) Refusal
refused_by operation None bytes = Err Value
refused_by operation (Some reason) bytes =
    if operation == OP_SETATTR
    then made (λ _. Refused operation reason) (always 0 unsigned_int) bytes
    else Ok (Refused operation reason, bytes)

abbrev pub behind_status : (operation : ℕ) → (code_at : ℕ × List ℕ)
    → Result (Outcome × List ℕ) Refusal
behind_status operation code_at =
    if code_at.0 == 0 then (answer_choice operation code_at.1 >>= λ x. Ok (Done x.0, x.1))
    else refused_by operation (refusal_of code_at.0) code_at.1

abbrev pub outcome_choice : Choice Outcome
outcome_choice operation bytes = number_at w32 bytes >>= behind_status operation

-- what follows a result's number
unfoldable pub outcome_at : (operation : ℕ) → List ℕ → Result (Outcome × List ℕ) Refusal
outcome_at operation bytes = outcome_choice operation bytes

-- nfs_resop4
abbrev pub outcome : Grammar Outcome
outcome = union encoded_outcome outcome_at
