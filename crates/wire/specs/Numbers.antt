-- The numbers of the operations: RFC 8881, section 18, `nfs_opnum4`.
use Rattle.std.specs.Prelude.{ℕ}
use Rattle.model.specs.Operations.OperationNumber.{OP_ACCESS, OP_CLOSE, OP_COMMIT, OP_CREATE, OP_GETATTR, OP_GETFH, OP_LOOKUP, OP_LOOKUPP, OP_OPEN, OP_PUTFH, OP_PUTROOTFH, OP_READ, OP_READDIR, OP_REMOVE, OP_RENAME, OP_RESTOREFH, OP_SAVEFH, OP_SETATTR, OP_WRITE, OP_EXCHANGE_ID, OP_CREATE_SESSION, OP_DESTROY_SESSION, OP_SEQUENCE, OP_DESTROY_CLIENTID, OP_RECLAIM_COMPLETE}
use Rattle.wire.specs.declared.argument.Operation.{Operation}
use Rattle.wire.specs.declared.argument.Operation.TheVariants as operation

abbrev pub number_of : Operation → ℕ
number_of operation.Access = OP_ACCESS
number_of operation.Close = OP_CLOSE
number_of operation.Commit = OP_COMMIT
number_of operation.Create = OP_CREATE
number_of operation.GetAttr = OP_GETATTR
number_of operation.GetFh = OP_GETFH
number_of operation.Lookup = OP_LOOKUP
number_of operation.LookupParent = OP_LOOKUPP
number_of operation.Open = OP_OPEN
number_of operation.PutFh = OP_PUTFH
number_of operation.PutRootFh = OP_PUTROOTFH
number_of operation.Read = OP_READ
number_of operation.ReadDir = OP_READDIR
number_of operation.Remove = OP_REMOVE
number_of operation.Rename = OP_RENAME
number_of operation.RestoreFh = OP_RESTOREFH
number_of operation.SaveFh = OP_SAVEFH
number_of operation.SetAttr = OP_SETATTR
number_of operation.Write = OP_WRITE
number_of operation.ExchangeId = OP_EXCHANGE_ID
number_of operation.CreateSession = OP_CREATE_SESSION
number_of operation.DestroySession = OP_DESTROY_SESSION
number_of operation.Sequence = OP_SEQUENCE
number_of operation.DestroyClientId = OP_DESTROY_CLIENTID
number_of operation.ReclaimComplete = OP_RECLAIM_COMPLETE
