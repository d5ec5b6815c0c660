-- The arguments of the operations on the wire, as grammars: RFC 8881, section 18, and RFC 5662.
use Rattle.std.specs.Prelude.{◌≢◌, ℕ, ◌<◌, Bool, List, [], Option, Result}
use Rattle.xdr.specs.declared.refusal.Refusal.{Refusal}
use Rattle.xdr.specs.Grammar.{Grammar, ◌&◌, of, void, unsigned_int, unsigned_hyper}
use Rattle.xdr.specs.Forms.{below, always, boolean, array, optional, bitmap}
use Rattle.xdr.specs.Union.{Encoded, arm, Choice, on, no_other, any_other, other_below, union}
use Rattle.model.specs.Operations.Operation.{StateId, Attributes, Channel, Implementation, CallbackSecurity, CloseArguments, CommitArguments, CreateArguments, NewDirectory, OtherType, NoCreate, Unchecked, Guarded, Claim, ByName, ByHandle, OtherClaim, Opening, Opens, Exclusive, OpenArguments, ReadArguments, ReadDirArguments, RenameArguments, SetAttrArguments, WriteArguments, ExchangeIdArguments, CreateSessionArguments, SequenceArguments, Argument}
use Rattle.model.specs.Operations.OperationNumber.{OP_ACCESS, OP_CLOSE, OP_COMMIT, OP_CREATE, OP_GETATTR, OP_GETFH, OP_LOOKUP, OP_LOOKUPP, OP_OPEN, OP_PUTFH, OP_PUTROOTFH, OP_READ, OP_READDIR, OP_REMOVE, OP_RENAME, OP_RESTOREFH, OP_SAVEFH, OP_SETATTR, OP_WRITE, OP_EXCHANGE_ID, OP_CREATE_SESSION, OP_DESTROY_SESSION, OP_SEQUENCE, OP_DESTROY_CLIENTID, OP_RECLAIM_COMPLETE}
use Rattle.model.specs.Wire.WireTypes.{any_opaque, file_handle, verifier, session_id, owner_id, state_id, attributes, channel, implementation, callback_security}

abbrev pub close_arguments : Grammar CloseArguments
close_arguments =
    of (λ (p : ℕ × StateId). record { seqid = p.0; state = p.1 }) (λ a. (a.seqid, a.state))
    (unsigned_int & state_id)

abbrev pub commit_arguments : Grammar CommitArguments
commit_arguments =
    of (λ (p : ℕ × ℕ). record { offset = p.0; count = p.1 }) (λ a. (a.offset, a.count))
    (unsigned_hyper & unsigned_int)

-- NF4DIR is 2; what follows another type is ignored
abbrev pub encoded_create : CreateArguments → Encoded
encoded_create (NewDirectory name given) = arm 2 (any_opaque & attributes) (name, given)
encoded_create (OtherType n) = record { number = n; Fits = n ≢ 2; text = [] }

abbrev pub create_choice : Choice CreateArguments
create_choice =
    on 2 (any_opaque & attributes) (λ (p : List ℕ × Attributes). NewDirectory p.0 p.1)
    (any_other OtherType)

abbrev pub create_arguments : Grammar CreateArguments
create_arguments = union encoded_create create_choice

-- CLAIM_NULL is 0 and CLAIM_FH 4; what follows another claim is ignored
abbrev pub encoded_claim : Claim → Encoded
encoded_claim (ByName name) = arm 0 any_opaque name
encoded_claim ByHandle = arm 4 void tt
encoded_claim (OtherClaim n) = record { number = n; Fits = (n ≢ 0) × (n ≢ 4); text = [] }

abbrev pub claim_choice : Choice Claim
claim_choice = on 0 any_opaque ByName (on 4 void (λ _. ByHandle) (any_other OtherClaim))

abbrev pub claim : Grammar Claim
claim = union encoded_claim claim_choice

-- createhow4: UNCHECKED4 is 0 and GUARDED4 1, both with attributes; what follows EXCLUSIVE4 2 and
-- EXCLUSIVE4_1 3 is ignored
abbrev pub encoded_create_how : Opening → Encoded
encoded_create_how (Opens (Unchecked given) by) = arm 0 (attributes & claim) (given, by)
encoded_create_how (Opens (Guarded given) by) = arm 1 (attributes & claim) (given, by)
encoded_create_how (Opens NoCreate by) = record { number = 0; Fits = ⊥; text = [] }
encoded_create_how (Exclusive mode) = record {
  number = mode;
  Fits = (mode ≢ 0) × (mode ≢ 1) × (mode < 4);
  text = [];
}

abbrev pub create_how_choice : Choice Opening
create_how_choice =
    on 0 (attributes & claim) (λ (p : Attributes × Claim). Opens (Unchecked p.0) p.1)
    (on 1 (attributes & claim) (λ (p : Attributes × Claim). Opens (Guarded p.0) p.1)
    (other_below 4 Exclusive))

abbrev pub create_how : Grammar Opening
create_how = union encoded_create_how create_how_choice

-- openflag4 and the claim after it: OPEN4_NOCREATE is 0 and OPEN4_CREATE 1
abbrev pub encoded_opening : Opening → Encoded
encoded_opening (Opens NoCreate by) = arm 0 claim by
encoded_opening (Opens (Unchecked given) by) = arm 1 create_how (Opens (Unchecked given) by)
encoded_opening (Opens (Guarded given) by) = arm 1 create_how (Opens (Guarded given) by)
encoded_opening (Exclusive mode) = arm 1 create_how (Exclusive mode)

abbrev pub opening_choice : Choice Opening
opening_choice = on 0 claim (λ by. Opens NoCreate by) (on 1 create_how (λ how. how) no_other)

abbrev pub opening : Grammar Opening
opening = union encoded_opening opening_choice

abbrev pub open_arguments : Grammar OpenArguments
open_arguments = of
    (λ (p : ℕ × (ℕ × (ℕ × (ℕ × (List ℕ × Opening))))).
    record {
      seqid = p.0;
      access = p.1.0;
      deny = p.1.1.0;
      client = p.1.1.1.0;
      owner = p.1.1.1.1.0;
      opening = p.1.1.1.1.1;
    })
    (λ a. (a.seqid, (a.access, (a.deny, (a.client, (a.owner, a.opening))))))
    (unsigned_int & unsigned_int & unsigned_int & unsigned_hyper & owner_id & opening)

abbrev pub read_arguments : Grammar ReadArguments
read_arguments = of
    (λ (p : StateId × (ℕ × ℕ)). record { state = p.0; offset = p.1.0; count = p.1.1 })
    (λ a. (a.state, (a.offset, a.count)))
    (state_id & unsigned_hyper & unsigned_int)

abbrev pub read_dir_arguments : Grammar ReadDirArguments
read_dir_arguments = of
    (λ (p : ℕ × (List ℕ × (ℕ × (ℕ × List ℕ)))).
    record {
      cookie = p.0;
      verifier = p.1.0;
      dir_count = p.1.1.0;
      max_count = p.1.1.1.0;
      bitmap = p.1.1.1.1;
    })
    (λ a. (a.cookie, (a.verifier, (a.dir_count, (a.max_count, a.bitmap)))))
    (unsigned_hyper & verifier & unsigned_int & unsigned_int & bitmap)

abbrev pub rename_arguments : Grammar RenameArguments
rename_arguments =
    of (λ (p : List ℕ × List ℕ). record { old_name = p.0; new_name = p.1 })
    (λ a. (a.old_name, a.new_name)) (any_opaque & any_opaque)

abbrev pub set_attr_arguments : Grammar SetAttrArguments
set_attr_arguments =
    of (λ (p : StateId × Attributes). record { state = p.0; attributes = p.1 })
    (λ a. (a.state, a.attributes)) (state_id & attributes)

abbrev pub write_arguments : Grammar WriteArguments
write_arguments = of
    (λ (p : StateId × (ℕ × (ℕ × List ℕ))).
    record { state = p.0; offset = p.1.0; stable = p.1.1.0; data_bytes = p.1.1.1 })
    (λ a. (a.state, (a.offset, (a.stable, a.data_bytes))))
    (state_id & unsigned_hyper & below 3 & any_opaque)

-- the state protection is SP4_NONE, 0
abbrev pub exchange_id_arguments : Grammar ExchangeIdArguments
exchange_id_arguments = of
    (λ (p : List ℕ × (List ℕ × (ℕ × (Unit {0} × Option Implementation)))).
    record { verifier = p.0; owner = p.1.0; flags = p.1.1.0; implementation = p.1.1.1.1 })
    (λ a. (a.verifier, (a.owner, (a.flags, (tt, a.implementation)))))
    (verifier & owner_id & unsigned_int & always 0 unsigned_int & optional implementation)

abbrev pub create_session_arguments : Grammar CreateSessionArguments
create_session_arguments = of
    (λ (p : ℕ × (ℕ × (ℕ × (Channel × (Channel × (ℕ × List CallbackSecurity)))))). record {
      client = p.0;
      sequence = p.1.0;
      flags = p.1.1.0;
      fore = p.1.1.1.0;
      back = p.1.1.1.1.0;
      callback_program = p.1.1.1.1.1.0;
      security = p.1.1.1.1.1.1;
    })
    (λ a. (a.client, (a.sequence, (a.flags, (a.fore, (a.back, (a.callback_program, a.security)))))))
    (unsigned_hyper & unsigned_int & unsigned_int & channel & channel & unsigned_int & array 4
    callback_security)

abbrev pub sequence_arguments : Grammar SequenceArguments
sequence_arguments = of
    (λ (p : List ℕ × (ℕ × (ℕ × (ℕ × Bool)))).
    record {
      session = p.0;
      sequence = p.1.0;
      slot = p.1.1.0;
      highest_slot = p.1.1.1.0;
      cache_this = p.1.1.1.1;
    })
    (λ a. (a.session, (a.sequence, (a.slot, (a.highest_slot, a.cache_this)))))
    (session_id & unsigned_int & unsigned_int & unsigned_int & boolean)

-- nfs_argop4: the operation's number chooses the arguments
abbrev pub encoded_argument : Argument → Encoded
encoded_argument (Argument.Access rights) = arm OP_ACCESS unsigned_int rights
encoded_argument (Argument.Close a) = arm OP_CLOSE close_arguments a
encoded_argument (Argument.Commit a) = arm OP_COMMIT commit_arguments a
encoded_argument (Argument.Create a) = arm OP_CREATE create_arguments a
encoded_argument (Argument.GetAttr asked) = arm OP_GETATTR bitmap asked
encoded_argument Argument.GetFh = arm OP_GETFH void tt
encoded_argument (Argument.Lookup name) = arm OP_LOOKUP any_opaque name
encoded_argument Argument.LookupParent = arm OP_LOOKUPP void tt
encoded_argument (Argument.Open a) = arm OP_OPEN open_arguments a
encoded_argument (Argument.PutFh handle) = arm OP_PUTFH file_handle handle
encoded_argument Argument.PutRootFh = arm OP_PUTROOTFH void tt
encoded_argument (Argument.Read a) = arm OP_READ read_arguments a
encoded_argument (Argument.ReadDir a) = arm OP_READDIR read_dir_arguments a
encoded_argument (Argument.Remove name) = arm OP_REMOVE any_opaque name
encoded_argument (Argument.Rename a) = arm OP_RENAME rename_arguments a
encoded_argument Argument.RestoreFh = arm OP_RESTOREFH void tt
encoded_argument Argument.SaveFh = arm OP_SAVEFH void tt
encoded_argument (Argument.SetAttr a) = arm OP_SETATTR set_attr_arguments a
encoded_argument (Argument.Write a) = arm OP_WRITE write_arguments a
encoded_argument (Argument.ExchangeId a) = arm OP_EXCHANGE_ID exchange_id_arguments a
encoded_argument (Argument.CreateSession a) = arm OP_CREATE_SESSION create_session_arguments a
encoded_argument (Argument.DestroySession session) = arm OP_DESTROY_SESSION session_id session
encoded_argument (Argument.Sequence a) = arm OP_SEQUENCE sequence_arguments a
encoded_argument (Argument.DestroyClientId client) = arm OP_DESTROY_CLIENTID unsigned_hyper client
encoded_argument (Argument.ReclaimComplete one_fs) = arm OP_RECLAIM_COMPLETE boolean one_fs

abbrev pub argument_choice : Choice Argument
argument_choice =
    on OP_ACCESS unsigned_int Argument.Access
    (on OP_CLOSE close_arguments Argument.Close
    (on OP_COMMIT commit_arguments Argument.Commit
    (on OP_CREATE create_arguments Argument.Create
    (on OP_GETATTR bitmap Argument.GetAttr
    (on OP_GETFH void (λ _. Argument.GetFh)
    (on OP_LOOKUP any_opaque Argument.Lookup
    (on OP_LOOKUPP void (λ _. Argument.LookupParent)
    (on OP_OPEN open_arguments Argument.Open
    (on OP_PUTFH file_handle Argument.PutFh
    (on OP_PUTROOTFH void (λ _. Argument.PutRootFh)
    (on OP_READ read_arguments Argument.Read
    (on OP_READDIR read_dir_arguments Argument.ReadDir
    (on OP_REMOVE any_opaque Argument.Remove
    (on OP_RENAME rename_arguments Argument.Rename
    (on OP_RESTOREFH void (λ _. Argument.RestoreFh)
    (on OP_SAVEFH void (λ _. Argument.SaveFh)
    (on OP_SETATTR set_attr_arguments Argument.SetAttr
    (on OP_WRITE write_arguments Argument.Write
    (on OP_EXCHANGE_ID exchange_id_arguments Argument.ExchangeId
    (on OP_CREATE_SESSION create_session_arguments Argument.CreateSession
    (on OP_DESTROY_SESSION session_id Argument.DestroySession
    (on OP_SEQUENCE sequence_arguments Argument.Sequence
    (on OP_DESTROY_CLIENTID unsigned_hyper Argument.DestroyClientId
    (on OP_RECLAIM_COMPLETE boolean Argument.ReclaimComplete no_other))))))))))))))))))))))))

-- what follows an operation's number
unfoldable pub arguments_at : (operation : ℕ) → List ℕ → Result (Argument × List ℕ) Refusal
arguments_at operation bytes = argument_choice operation bytes

-- an operation's number, and its arguments
abbrev pub argument : Grammar Argument
argument = union encoded_argument arguments_at
