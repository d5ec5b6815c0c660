-- Stamps, and the filehandles that are made of them: RFC 8881, sections 4.2 (filehandles), 5.8.1.4
-- (change), 18.23.3 (cookies). The n-th change of run r has the stamp r * 2^32 + n: it is the new
-- change value of everything that the change makes or alters, the number of the node that it makes,
-- and the entry stamp (and so the cookie) of each name that it adds.
use Rattle.std.specs.Prelude.{ℕ, Bool, List, ◌≡◌, ◌+◌, ◌*◌, ◌^◌, ◌<◌, ◌==◌, nat_lt, length}
use Rattle.std.specs.Int.{w64, to_be_bytes, from_be_bytes}

abbrev pub stamp : (run n : ℕ) → ℕ
stamp run n = run * 2 ^ 32 + n

-- the stamp of the next change of a run that has made `changes` changes, and whether one is left
abbrev pub next_stamp : (run changes : ℕ) → ℕ
next_stamp run changes = stamp run (changes + 1)

abbrev pub is_stamp_left : (changes : ℕ) → Bool
is_stamp_left changes = nat_lt (changes + 1) (2 ^ 32)

-- A filehandle is the number as 8 big-endian bytes

abbrev pub filehandle_of : (number : ℕ) → List ℕ
filehandle_of number = to_be_bytes w64 number

abbrev pub is_filehandle : List ℕ → Bool
is_filehandle bytes = length bytes == 8

abbrev pub handle_number : List ℕ → ℕ
handle_number bytes = from_be_bytes w64 bytes

-- Laws

-- a stamp determines its run and its number in it
abbrev pub OnlyStamp : Type 0
OnlyStamp =
    (run n run' n' : ℕ) → n < 2 ^ 32 → n' < 2 ^ 32 → stamp run n ≡ stamp run' n'
    → (run ≡ run') × (n ≡ n')

-- stamps rise within a run, and from run to run
abbrev pub StampsRise : Type 0
StampsRise = (run n run' n' : ℕ) → n < 2 ^ 32 → run < run' → stamp run n < stamp run' n'

-- a filehandle determines its number
abbrev pub ReadsHandle : Type 0
ReadsHandle = (number : ℕ) → number < 2 ^ 64 → handle_number (filehandle_of number) ≡ number
