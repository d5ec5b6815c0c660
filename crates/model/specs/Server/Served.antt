-- The operations that are served: RFC 8881, section 18. Any other operation of the standard returns
-- NOTSUPP.
use Rattle.std.specs.Prelude.{ℕ, ◌==◌, Bool, true, false, List, [], ◌∷◌}
use Rattle.std.specs.List.{list_any}
use Rattle.model.specs.Operations.Operation.{Argument, OtherType, Opening, Opens, Exclusive, OtherClaim}
use Rattle.model.specs.Operations.OperationNumber.{OP_ACCESS, OP_CLOSE, OP_COMMIT, OP_CREATE, OP_GETATTR, OP_GETFH, OP_LOOKUP, OP_LOOKUPP, OP_OPEN, OP_PUTFH, OP_PUTROOTFH, OP_READ, OP_READDIR, OP_REMOVE, OP_RENAME, OP_RESTOREFH, OP_SAVEFH, OP_SETATTR, OP_WRITE, OP_EXCHANGE_ID, OP_CREATE_SESSION, OP_DESTROY_SESSION, OP_SEQUENCE, OP_DESTROY_CLIENTID, OP_RECLAIM_COMPLETE}

abbrev pub served : List ℕ
served =
    OP_ACCESS ∷ OP_CLOSE ∷ OP_COMMIT ∷ OP_CREATE ∷ OP_GETATTR ∷ OP_GETFH ∷ OP_LOOKUP ∷ OP_LOOKUPP
    ∷ OP_OPEN ∷ OP_PUTFH ∷ OP_PUTROOTFH ∷ OP_READ ∷ OP_READDIR ∷ OP_REMOVE ∷ OP_RENAME
    ∷ OP_RESTOREFH ∷ OP_SAVEFH ∷ OP_SETATTR ∷ OP_WRITE
    ∷ OP_EXCHANGE_ID ∷ OP_CREATE_SESSION ∷ OP_DESTROY_SESSION ∷ OP_SEQUENCE ∷ OP_DESTROY_CLIENTID
    ∷ OP_RECLAIM_COMPLETE ∷ []

abbrev pub is_served : (operation : ℕ) → Bool
is_served operation = list_any (λ known. known == operation) served

-- What follows the arguments is ignored: a CREATE of another type, an OPEN that is exclusive or has
-- another claim
abbrev pub opens_no_further : Opening → Bool
opens_no_further (Opens kind (OtherClaim claim)) = true
opens_no_further (Opens kind claim) = false
opens_no_further (Exclusive mode) = true

abbrev pub looks_no_further : Argument → Bool
looks_no_further (Argument.Create (OtherType other)) = true
looks_no_further (Argument.Open arguments) = opens_no_further arguments.opening
looks_no_further _ = false
