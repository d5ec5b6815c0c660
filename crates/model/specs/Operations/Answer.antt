-- The results of the operations, as values: RFC 8881, section 18.
use Rattle.std.specs.Prelude.{ℕ, Bool, List}
use Rattle.model_tree.specs.declared.status.Status.{Status}
use Rattle.model.specs.Operations.Operation.{StateId, Attributes, ChangeInfo, Channel}
use Rattle.model.specs.Operations.OperationNumber.{OP_ACCESS, OP_CLOSE, OP_COMMIT, OP_CREATE, OP_GETATTR, OP_GETFH, OP_LOOKUP, OP_LOOKUPP, OP_OPEN, OP_PUTFH, OP_PUTROOTFH, OP_READ, OP_READDIR, OP_REMOVE, OP_RENAME, OP_RESTOREFH, OP_SAVEFH, OP_SETATTR, OP_WRITE, OP_EXCHANGE_ID, OP_CREATE_SESSION, OP_DESTROY_SESSION, OP_SEQUENCE, OP_DESTROY_CLIENTID, OP_RECLAIM_COMPLETE}

pub record AccessAnswer : Type 0 where
  pub supported : ℕ
  pub access : ℕ

-- CREATE4resok: the directory's change, and the attributes that were set
pub record CreateAnswer : Type 0 where
  pub change : ChangeInfo
  pub was_set : List ℕ

-- OPEN4resok, without a delegation
pub record OpenAnswer : Type 0 where
  pub state : StateId
  pub change : ChangeInfo
  pub flags : ℕ
  pub was_set : List ℕ

pub record ReadAnswer : Type 0 where
  pub is_end : Bool
  pub data_bytes : List ℕ

-- entry4
pub record Entry : Type 0 where
  pub cookie : ℕ
  pub name : List ℕ
  pub attributes : Attributes

-- READDIR4resok, with a verifier of zero bytes
pub record ReadDirAnswer : Type 0 where
  pub entries : List Entry
  pub is_end : Bool

-- RENAME4resok: the changes of the directory that lost the name, and of the one that gained it
pub record RenameAnswer : Type 0 where
  pub source : ChangeInfo
  pub target : ChangeInfo

pub record WriteAnswer : Type 0 where
  pub count : ℕ
  pub committed : ℕ
  pub verifier : List ℕ

-- EXCHANGE_ID4resok, with SP4_NONE, the minor id 0 and no implementation
pub record ExchangeIdAnswer : Type 0 where
  pub client : ℕ
  pub sequence : ℕ
  pub flags : ℕ
  pub major_id : List ℕ
  pub scope : List ℕ

pub record CreateSessionAnswer : Type 0 where
  pub session : List ℕ
  pub sequence : ℕ
  pub flags : ℕ
  pub fore : Channel
  pub back : Channel

pub record SequenceAnswer : Type 0 where
  pub session : List ℕ
  pub sequence : ℕ
  pub slot : ℕ
  pub highest_slot : ℕ
  pub target_highest_slot : ℕ
  pub flags : ℕ

-- what an operation returns if its status is OK
pub data Answer : Type 0 where
  Access : AccessAnswer → Answer
  Close : StateId → Answer
  Commit : (verifier : List ℕ) → Answer
  Create : CreateAnswer → Answer
  GetAttr : Attributes → Answer
  GetFh : (handle : List ℕ) → Answer
  Lookup : Answer
  LookupParent : Answer
  Open : OpenAnswer → Answer
  PutFh : Answer
  PutRootFh : Answer
  Read : ReadAnswer → Answer
  ReadDir : ReadDirAnswer → Answer
  Remove : ChangeInfo → Answer
  Rename : RenameAnswer → Answer
  RestoreFh : Answer
  SaveFh : Answer
  SetAttr : (was_set : List ℕ) → Answer
  Write : WriteAnswer → Answer
  ExchangeId : ExchangeIdAnswer → Answer
  CreateSession : CreateSessionAnswer → Answer
  DestroySession : Answer
  Sequence : SequenceAnswer → Answer
  DestroyClientId : Answer
  ReclaimComplete : Answer

-- nfs_opnum4
abbrev pub operation_of : Answer → ℕ
operation_of (Access _) = OP_ACCESS
operation_of (Close _) = OP_CLOSE
operation_of (Commit _) = OP_COMMIT
operation_of (Create _) = OP_CREATE
operation_of (GetAttr _) = OP_GETATTR
operation_of (GetFh _) = OP_GETFH
operation_of Lookup = OP_LOOKUP
operation_of LookupParent = OP_LOOKUPP
operation_of (Open _) = OP_OPEN
operation_of PutFh = OP_PUTFH
operation_of PutRootFh = OP_PUTROOTFH
operation_of (Read _) = OP_READ
operation_of (ReadDir _) = OP_READDIR
operation_of (Remove _) = OP_REMOVE
operation_of (Rename _) = OP_RENAME
operation_of RestoreFh = OP_RESTOREFH
operation_of SaveFh = OP_SAVEFH
operation_of (SetAttr _) = OP_SETATTR
operation_of (Write _) = OP_WRITE
operation_of (ExchangeId _) = OP_EXCHANGE_ID
operation_of (CreateSession _) = OP_CREATE_SESSION
operation_of DestroySession = OP_DESTROY_SESSION
operation_of (Sequence _) = OP_SEQUENCE
operation_of DestroyClientId = OP_DESTROY_CLIENTID
operation_of ReclaimComplete = OP_RECLAIM_COMPLETE

-- One result of a COMPOUND (nfs_resop4). A refused one has only its number and status, except that
-- an empty bitmap follows for SETATTR (section 18.30); the number is 10044 if there is no such
-- operation (section 15.2).
pub data Outcome : Type 0 where
  Done : Answer → Outcome
  Refused : (operation : ℕ) → Status → Outcome
