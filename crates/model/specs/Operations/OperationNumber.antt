-- The numbers of the operations: RFC 8881, section 18, and RFC 5662, nfs_opnum4. Each is written
-- only here.
use Rattle.std.specs.Prelude.{ℕ}

abbrev pub OP_ACCESS : ℕ
OP_ACCESS = 3

abbrev pub OP_CLOSE : ℕ
OP_CLOSE = 4

abbrev pub OP_COMMIT : ℕ
OP_COMMIT = 5

abbrev pub OP_CREATE : ℕ
OP_CREATE = 6

abbrev pub OP_GETATTR : ℕ
OP_GETATTR = 9

abbrev pub OP_GETFH : ℕ
OP_GETFH = 10

abbrev pub OP_LOOKUP : ℕ
OP_LOOKUP = 15

abbrev pub OP_LOOKUPP : ℕ
OP_LOOKUPP = 16

abbrev pub OP_OPEN : ℕ
OP_OPEN = 18

abbrev pub OP_PUTFH : ℕ
OP_PUTFH = 22

abbrev pub OP_PUTROOTFH : ℕ
OP_PUTROOTFH = 24

abbrev pub OP_READ : ℕ
OP_READ = 25

abbrev pub OP_READDIR : ℕ
OP_READDIR = 26

abbrev pub OP_REMOVE : ℕ
OP_REMOVE = 28

abbrev pub OP_RENAME : ℕ
OP_RENAME = 29

abbrev pub OP_RESTOREFH : ℕ
OP_RESTOREFH = 31

abbrev pub OP_SAVEFH : ℕ
OP_SAVEFH = 32

abbrev pub OP_SETATTR : ℕ
OP_SETATTR = 34

abbrev pub OP_WRITE : ℕ
OP_WRITE = 38

abbrev pub OP_EXCHANGE_ID : ℕ
OP_EXCHANGE_ID = 42

abbrev pub OP_CREATE_SESSION : ℕ
OP_CREATE_SESSION = 43

abbrev pub OP_DESTROY_SESSION : ℕ
OP_DESTROY_SESSION = 44

abbrev pub OP_SEQUENCE : ℕ
OP_SEQUENCE = 53

abbrev pub OP_DESTROY_CLIENTID : ℕ
OP_DESTROY_CLIENTID = 57

abbrev pub OP_RECLAIM_COMPLETE : ℕ
OP_RECLAIM_COMPLETE = 58
