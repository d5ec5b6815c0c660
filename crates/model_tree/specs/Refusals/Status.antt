-- The numbers of the statuses on the wire: RFC 8881, section 15.1, `nfsstat4`.
use Rattle.std.specs.Prelude.{ℕ}
use Rattle.model_tree.specs.declared.status.Status.{Status}
use Rattle.model_tree.specs.declared.status.Status.TheVariants as status

abbrev pub code_of : Status → ℕ
code_of status.Ok = 0
code_of status.NoEnt = 2
code_of status.Access = 13
code_of status.Exist = 17
code_of status.NotDir = 20
code_of status.IsDir = 21
code_of status.Inval = 22
code_of status.FBig = 27
code_of status.NoSpc = 28
code_of status.NameTooLong = 63
code_of status.NotEmpty = 66
code_of status.Stale = 70
code_of status.BadHandle = 10001
code_of status.NotSupp = 10004
code_of status.TooSmall = 10005
code_of status.ServerFault = 10006
code_of status.BadType = 10007
code_of status.Delay = 10008
code_of status.ShareDenied = 10015
code_of status.ClidInUse = 10017
code_of status.NoFileHandle = 10020
code_of status.MinorVersMismatch = 10021
code_of status.StaleClientId = 10022
code_of status.OldStateId = 10024
code_of status.BadStateId = 10025
code_of status.NotSame = 10027
code_of status.AttrNotSupp = 10032
code_of status.BadXdr = 10036
code_of status.OpenMode = 10038
code_of status.BadOwner = 10039
code_of status.BadChar = 10040
code_of status.BadName = 10041
code_of status.OpIllegal = 10044
code_of status.BadSession = 10052
code_of status.BadSlot = 10053
code_of status.CompleteAlready = 10054
code_of status.SeqMisordered = 10063
code_of status.SequencePos = 10064
code_of status.RepTooBig = 10066
code_of status.TooManyOps = 10070
code_of status.OpNotInSession = 10071
code_of status.ClientIdBusy = 10074
code_of status.SeqFalseRetry = 10076
code_of status.DeadSession = 10078
code_of status.NotOnlyOp = 10081
