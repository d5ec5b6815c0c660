-- The operations and their arguments, as values: RFC 8881, sections 3.3 (small types) and 18
-- (operations). A name, an opaque and a filehandle are their bytes, a bitmap the list of its words.
use Rattle.std.specs.Prelude.{ℕ, Bool, List, Option}
use Rattle.model.specs.Operations.OperationNumber.{OP_ACCESS, OP_CLOSE, OP_COMMIT, OP_CREATE, OP_GETATTR, OP_GETFH, OP_LOOKUP, OP_LOOKUPP, OP_OPEN, OP_PUTFH, OP_PUTROOTFH, OP_READ, OP_READDIR, OP_REMOVE, OP_RENAME, OP_RESTOREFH, OP_SAVEFH, OP_SETATTR, OP_WRITE, OP_EXCHANGE_ID, OP_CREATE_SESSION, OP_DESTROY_SESSION, OP_SEQUENCE, OP_DESTROY_CLIENTID, OP_RECLAIM_COMPLETE}

-- Small types (section 3.3)

-- stateid4: `other` has 12 bytes
pub record StateId : Type 0 where
  pub seqid : ℕ
  pub other : List ℕ

-- fattr4: which attributes, and their values by rising number, encoded one after the other
pub record Attributes : Type 0 where
  pub bitmap : List ℕ
  pub values : List ℕ

-- change_info4: the directory's change attribute before and after
pub record ChangeInfo : Type 0 where
  pub is_atomic : Bool
  pub before : ℕ
  pub after : ℕ

-- channel_attrs4 (section 18.36)
pub record Channel : Type 0 where
  pub header_pad_size : ℕ
  pub max_request_size : ℕ
  pub max_response_size : ℕ
  pub max_response_size_cached : ℕ
  pub max_operations : ℕ
  pub max_requests : ℕ
  pub rdma_ird : Option ℕ

-- nfs_impl_id4: the seconds as the number that their eight bytes encode
pub record Implementation : Type 0 where
  pub domain : List ℕ
  pub name : List ℕ
  pub seconds : ℕ
  pub nanoseconds : ℕ

-- authsys_parms (RFC 5531, appendix A)
pub record SystemCredential : Type 0 where
  pub stamp : ℕ
  pub machine_name : List ℕ
  pub uid : ℕ
  pub gid : ℕ
  pub gids : List ℕ

-- callback_sec_parms4: AUTH_NONE or AUTH_SYS
pub data CallbackSecurity : Type 0 where
  NoSecurity : CallbackSecurity
  SystemSecurity : SystemCredential → CallbackSecurity

-- Arguments (section 18)

-- CLOSE4args: the seqid is ignored
pub record CloseArguments : Type 0 where
  pub seqid : ℕ
  pub state : StateId

pub record CommitArguments : Type 0 where
  pub offset : ℕ
  pub count : ℕ

-- CREATE4args: after a type other than NF4DIR, what follows is ignored
pub data CreateArguments : Type 0 where
  NewDirectory : (name : List ℕ) → Attributes → CreateArguments
  OtherType : (number : ℕ) → CreateArguments

-- openflag4, with createhow4 if a file may be made
pub data OpenType : Type 0 where
  NoCreate : OpenType
  Unchecked : Attributes → OpenType
  Guarded : Attributes → OpenType

-- open_claim4: CLAIM_NULL, CLAIM_FH; after another claim, what follows is ignored
pub data Claim : Type 0 where
  ByName : List ℕ → Claim
  ByHandle : Claim
  OtherClaim : (number : ℕ) → Claim

-- How a file is opened. For an exclusive create (createmode 2 or 3) what follows is ignored,
-- including the claim.
pub data Opening : Type 0 where
  Opens : OpenType → Claim → Opening
  Exclusive : (mode : ℕ) → Opening

-- OPEN4args: the seqid and the owner's client id are ignored
pub record OpenArguments : Type 0 where
  pub seqid : ℕ
  pub access : ℕ
  pub deny : ℕ
  pub client : ℕ
  pub owner : List ℕ
  pub opening : Opening

pub record ReadArguments : Type 0 where
  pub state : StateId
  pub offset : ℕ
  pub count : ℕ

pub record ReadDirArguments : Type 0 where
  pub cookie : ℕ
  pub verifier : List ℕ
  pub dir_count : ℕ
  pub max_count : ℕ
  pub bitmap : List ℕ

pub record RenameArguments : Type 0 where
  pub old_name : List ℕ
  pub new_name : List ℕ

pub record SetAttrArguments : Type 0 where
  pub state : StateId
  pub attributes : Attributes

-- WRITE4args: `stable` is UNSTABLE4 0, DATA_SYNC4 1 or FILE_SYNC4 2
pub record WriteArguments : Type 0 where
  pub state : StateId
  pub offset : ℕ
  pub stable : ℕ
  pub data_bytes : List ℕ

-- EXCHANGE_ID4args, with the state protection SP4_NONE
pub record ExchangeIdArguments : Type 0 where
  pub verifier : List ℕ
  pub owner : List ℕ
  pub flags : ℕ
  pub implementation : Option Implementation

pub record CreateSessionArguments : Type 0 where
  pub client : ℕ
  pub sequence : ℕ
  pub flags : ℕ
  pub fore : Channel
  pub back : Channel
  pub callback_program : ℕ
  pub security : List CallbackSecurity

-- SEQUENCE4args: a session id has 16 bytes
pub record SequenceArguments : Type 0 where
  pub session : List ℕ
  pub sequence : ℕ
  pub slot : ℕ
  pub highest_slot : ℕ
  pub cache_this : Bool

-- an operation with its arguments (nfs_argop4)
pub data Argument : Type 0 where
  Access : (rights : ℕ) → Argument
  Close : CloseArguments → Argument
  Commit : CommitArguments → Argument
  Create : CreateArguments → Argument
  GetAttr : (bitmap : List ℕ) → Argument
  GetFh : Argument
  Lookup : (name : List ℕ) → Argument
  LookupParent : Argument
  Open : OpenArguments → Argument
  PutFh : (handle : List ℕ) → Argument
  PutRootFh : Argument
  Read : ReadArguments → Argument
  ReadDir : ReadDirArguments → Argument
  Remove : (name : List ℕ) → Argument
  Rename : RenameArguments → Argument
  RestoreFh : Argument
  SaveFh : Argument
  SetAttr : SetAttrArguments → Argument
  Write : WriteArguments → Argument
  ExchangeId : ExchangeIdArguments → Argument
  CreateSession : CreateSessionArguments → Argument
  DestroySession : (session : List ℕ) → Argument
  Sequence : SequenceArguments → Argument
  DestroyClientId : (client : ℕ) → Argument
  ReclaimComplete : (one_fs : Bool) → Argument

-- nfs_opnum4
abbrev pub operation_of : Argument → ℕ
operation_of (Access _) = OP_ACCESS
operation_of (Close _) = OP_CLOSE
operation_of (Commit _) = OP_COMMIT
operation_of (Create _) = OP_CREATE
operation_of (GetAttr _) = OP_GETATTR
operation_of GetFh = OP_GETFH
operation_of (Lookup _) = OP_LOOKUP
operation_of LookupParent = OP_LOOKUPP
operation_of (Open _) = OP_OPEN
operation_of (PutFh _) = OP_PUTFH
operation_of PutRootFh = OP_PUTROOTFH
operation_of (Read _) = OP_READ
operation_of (ReadDir _) = OP_READDIR
operation_of (Remove _) = OP_REMOVE
operation_of (Rename _) = OP_RENAME
operation_of RestoreFh = OP_RESTOREFH
operation_of SaveFh = OP_SAVEFH
operation_of (SetAttr _) = OP_SETATTR
operation_of (Write _) = OP_WRITE
operation_of (ExchangeId _) = OP_EXCHANGE_ID
operation_of (CreateSession _) = OP_CREATE_SESSION
operation_of (DestroySession _) = OP_DESTROY_SESSION
operation_of (Sequence _) = OP_SEQUENCE
operation_of (DestroyClientId _) = OP_DESTROY_CLIENTID
operation_of (ReclaimComplete _) = OP_RECLAIM_COMPLETE
