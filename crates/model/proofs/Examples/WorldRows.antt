-- Worked rows over the world, bytes in and bytes out, on a fresh volume of 256 sectors and 16 nodes
-- in its first run; the caller has uid 7 and gid 7, and each turn is at the moment 0.
use Rattle.std.proofs.Common.{◌≡◌, ℕ, zero, suc, ◌+◌, ◌*◌, refl, List, [], ◌∷◌, ◌++◌, length, replicate, fold, true, false, Option, Some, None}
use Rattle.std.specs.Int.{w32}
use Rattle.xdr.specs.Grammar.{number, number_at}
use Rattle.xdr.specs.Forms.{padded, padded_at, counted, counted_at, each_at, elements, elements_at}
use Rattle.std.specs.Char.{encode_utf8}
use Rattle.std.specs.Str.{is_utf8, chars}
use Rattle.model_tree.specs.Rights.Acl.{first_of, granted}
use Rattle.model_tree.specs.Rights.Inherit.{inherited}
use Rattle.model_tree.specs.Rights.Mode.{moded}
use Rattle.model.specs.Attributes.Attribute.{attributes_of, attribute_refusals}
use Rattle.model.specs.Attributes.AttributeValue.{value_at, values_at}
use Rattle.model_tree.specs.Trees.Charge.{fits}
use Rattle.model_tree.specs.Trees.Fresh.{fresh_tree}
use Rattle.model_tree.specs.Trees.Limits.{limits_of}
use Rattle.model_tree.specs.Refusals.Name.{name_refusals}
use Rattle.model.specs.Wire.Record.{prefix_from, fragment, behind_header, framed}
use Rattle.model.specs.Wire.Rpc.{words, read_call, request_of, reply_text, compound_text}
use Rattle.model.specs.Wire.WireArguments.{arguments_at}
use Rattle.model_tree.specs.Seats.Seats.{Seat, Seats, no_seats}
use Rattle.model.specs.declared.holding.Holding.TheVariants as holdings
use Rattle.model.specs.Sessions.Session.{plain_settings, exchange_id, create_session, destroy_session, destroy_client_id, reclaim_complete, begin, started, finish, session_id}
use Rattle.model.specs.Sessions.StateIds as stateids
use Rattle.model.specs.Operations.Step.{does, effect, refusals, permitted}
use Rattle.model_tree.specs.Trees.Tree.{Tree, root, names_at}
use Rattle.model.specs.Server.World.{World, ServerLimits, mounted_world, one, arrives, takes, connects, hung_up, hangs_up, turns, reply_at, Turn, Idle, Ran, Answered, next_operation, run, outcome_text}

abbrev limits : ServerLimits
limits = record {
  volume = limits_of 256 16;
  sessions = record { clients = 64; sessions = 32; slots = 8; seat_slots = 2; operations = 16; record_bytes = 16384 };
  records = record { bytes = 16384; fragments = 64 };
  connections = 16;
  settings = record plain_settings { holding = holdings.All };
  reply_bytes = 16368;
}

-- a server in a run, with two connections; a fresh one
mounted : (run : ℕ) → Tree → Seats → World
unfolding connects
mounted run tree seats = connects (connects (mounted_world limits run tree seats) 0) 1

fresh : World
unfolding mounted
fresh = mounted 1 fresh_tree []

-- a record of one fragment; the words of it
abbrev record_of : List ℕ → List ℕ
record_of body = number w32 (0x80000000 + 4 * length body) ++ words body

-- a COMPOUND by a caller, with an empty tag
abbrev compound : (xid uid count : ℕ) → List ℕ → List ℕ
compound xid uid count operations =
    record_of (xid ∷ 0 ∷ 2 ∷ 0x186a3 ∷ 4 ∷ 1 ∷ 1 ∷ 0x14 ∷ 0 ∷ 0 ∷ uid ∷ uid ∷ 0 ∷ 0 ∷ 0 ∷ 0 ∷ 1 ∷ count ∷ operations)

-- the reply of a COMPOUND with an empty tag
abbrev compound_reply : (xid status count : ℕ) → List ℕ → List ℕ
compound_reply xid status count results = record_of (xid ∷ 1 ∷ 0 ∷ 0 ∷ 0 ∷ 0 ∷ status ∷ 0 ∷ count ∷ results)

-- the world after a record that arrives on a connection; after `turns` turns there; the turn that
-- is taken next
comes : World → ℕ → List ℕ → World
unfolding arrives prefix_from fragment behind_header read_call number number_at padded padded_at counted_at
comes world connection bytes = arrives world connection bytes

turned : ℕ → World → ℕ → World
unfolding one framed read_call request_of reply_text compound_text arguments_at outcome_text next_operation run number number_at padded padded_at counted counted_at each_at elements elements_at exchange_id create_session destroy_session destroy_client_id reclaim_complete begin started finish session_id does effect refusals permitted granted first_of fits name_refusals attribute_refusals attributes_of value_at values_at inherited moded is_utf8 chars encode_utf8
turned zero world connection = world
turned (suc turns) world connection = turned turns (one world connection 0).world connection

next_turn : World → ℕ → Turn
unfolding turned
next_turn world connection = (one world connection 0).turn

-- a record, and the reply after `turns` turns, which is taken
answer : ℕ → World → ℕ → List ℕ → Option (List ℕ)
unfolding comes turned
answer turns world connection bytes = reply_at (turned turns (comes world connection bytes) connection) connection

behind : ℕ → World → ℕ → List ℕ → World
unfolding comes turned takes
behind turns world connection bytes = takes (turned turns (comes world connection bytes) connection) connection

-- EXCHANGE_ID of the owner `cl` with the verifier 0102030405060708: client id 4294967297, sequence
-- 1
abbrev exchange_call : List ℕ
exchange_call = words (
    0x80000068 ∷ 2 ∷ 0 ∷ 2 ∷ 0x186a3 ∷ 4 ∷ 1 ∷ 1 ∷ 0x14 ∷ 0 ∷ 0 ∷ 7
    ∷ 7 ∷ 0 ∷ 0 ∷ 0 ∷ 0 ∷ 1 ∷ 1 ∷ 0x2a ∷ 0x1020304 ∷ 0x5060708 ∷ 2 ∷ 0x636c0000
    ∷ 0 ∷ 0 ∷ 0 ∷ [])

exchange : answer 1 fresh 0 exchange_call ≡ Some (words (
    0x80000064 ∷ 2 ∷ 1 ∷ 0 ∷ 0 ∷ 0 ∷ 0 ∷ 0 ∷ 0 ∷ 1 ∷ 0x2a ∷ 0
    ∷ 1 ∷ 1 ∷ 1 ∷ 0x10000 ∷ 0 ∷ 0 ∷ 0 ∷ 8 ∷ 0x6e667334 ∷ 0x31737276 ∷ 8 ∷ 0x6e667334
    ∷ 0x31737276 ∷ 0 ∷ []))
unfolding fresh answer
exchange = refl

greeted : World
unfolding fresh behind
greeted = behind 1 fresh 0 exchange_call

-- CREATE_SESSION with 8 slots, by a client of a run: its session is RUN CLIENT 00000000 SERIAL
abbrev channel : (slots : ℕ) → List ℕ
channel slots = 0 ∷ 16384 ∷ 16384 ∷ 16384 ∷ 16 ∷ slots ∷ 0 ∷ []

abbrev create_by : (uid run client sequence flags : ℕ) → List ℕ
create_by uid run client sequence flags =
    compound 3 uid 1 (43 ∷ run ∷ client ∷ sequence ∷ flags ∷ (channel 8 ++ (channel 8 ++ (0 ∷ 1 ∷ 0 ∷ []))))

abbrev created : (run client serial sequence flags slots : ℕ) → List ℕ
created run client serial sequence flags slots =
    compound_reply 3 0 1 (43 ∷ 0 ∷ run ∷ client ∷ 0 ∷ serial ∷ sequence ∷ flags ∷ (channel slots ++ channel 8))

-- session 00000001 00000001 00000000 00000001
abbrev create_session_call : List ℕ
create_session_call = create_by 7 1 1 1 0

creates_session : answer 1 greeted 0 create_session_call ≡ Some (created 1 1 1 1 0 8)
unfolding greeted answer
creates_session = refl

opened : World
unfolding greeted behind
opened = behind 1 greeted 0 create_session_call

-- SEQUENCE (number 1, slot 0), PUTROOTFH, CREATE "a" with mode 755, GETFH: one operation a turn
abbrev begin_on : (slot sequence : ℕ) → List ℕ
begin_on slot sequence = 53 ∷ 1 ∷ 1 ∷ 0 ∷ 1 ∷ sequence ∷ slot ∷ 0 ∷ 1 ∷ []

abbrev make_directory : (first_letters : ℕ) → List ℕ
make_directory letters = 6 ∷ 2 ∷ 1 ∷ letters ∷ 2 ∷ 0 ∷ 2 ∷ 4 ∷ 0x1ed ∷ []

abbrev make_call : (uid : ℕ) → List ℕ
make_call uid = compound 9 uid 4 (begin_on 0 1 ++ (24 ∷ (make_directory 0x61000000 ++ (10 ∷ []))))

-- .. in a session with this highest slot
abbrev make_reply : (highest : ℕ) → List ℕ
make_reply highest = words (
    0x80000094 ∷ 9 ∷ 1 ∷ 0 ∷ 0 ∷ 0 ∷ 0 ∷ 0 ∷ 0 ∷ 4 ∷ 0x35 ∷ 0
    ∷ 1 ∷ 1 ∷ 0 ∷ 1 ∷ 1 ∷ 0 ∷ highest ∷ highest ∷ 0 ∷ 0x18 ∷ 0 ∷ 6
    ∷ 0 ∷ 1 ∷ 0 ∷ 1 ∷ 1 ∷ 1 ∷ 2 ∷ 0 ∷ 2 ∷ 0xa ∷ 0 ∷ 8
    ∷ 1 ∷ 1 ∷ [])

make : answer 4 opened 0 (make_call 7) ≡ Some (make_reply 7)
unfolding opened answer
make = refl

-- turn by turn: Ran, Ran, Ran, Answered, and then nothing to do
waiting : World
unfolding opened comes
waiting = comes opened 0 (make_call 7)

first_turn : next_turn waiting 0 ≡ Ran
unfolding waiting next_turn
first_turn = refl

second_turn : next_turn (turned 1 waiting 0) 0 ≡ Ran
unfolding waiting next_turn
second_turn = refl

third_turn : next_turn (turned 2 waiting 0) 0 ≡ Ran
unfolding waiting next_turn
third_turn = refl

fourth_turn : next_turn (turned 3 waiting 0) 0 ≡ Answered
unfolding waiting next_turn
fourth_turn = refl

no_turn : next_turn (turned 4 waiting 0) 0 ≡ Idle
unfolding waiting next_turn
no_turn = refl

-- the same request again, on another connection: one turn, the same reply, and the root has one
-- name
made : World
unfolding opened behind
made = behind 4 opened 0 (make_call 7)

retry : answer 1 made 1 (make_call 7) ≡ Some (make_reply 7)
unfolding made answer
retry = refl

retry_makes_nothing : length (names_at (behind 1 made 1 (make_call 7)).tree root) ≡ 1
unfolding made behind
retry_makes_nothing = refl

-- by another caller it is a false retry, and number 3 is not the next
false_retry : answer 1 made 1 (make_call 8) ≡ Some (compound_reply 9 10076 1 (53 ∷ 10076 ∷ []))
unfolding made answer
false_retry = refl

misordered : answer 1 made 1 (compound 10 7 1 (begin_on 0 3)) ≡ Some (words (0x8000002c ∷ 0xa ∷ 1 ∷ 0 ∷ 0 ∷ 0 ∷ 0 ∷ 0x274f ∷ 0 ∷ 1 ∷ 0x35 ∷ 0x274f ∷ []))
unfolding made answer
misordered = refl

-- while the request runs: DELAY for its number, and for the next SEQ_MISORDERED; DESTROY_SESSION
-- waits too
half_made : World
unfolding waiting turned
half_made = turned 2 waiting 0

delay : answer 1 half_made 1 (make_call 7) ≡ Some (compound_reply 9 10008 1 (53 ∷ 10008 ∷ []))
unfolding half_made answer
delay = refl

misordered_while : answer 1 half_made 1 (compound 10 7 1 (begin_on 0 2)) ≡ Some (compound_reply 10 10063 1 (53 ∷ 10063 ∷ []))
unfolding half_made answer
misordered_while = refl

abbrev destroy_call : List ℕ
destroy_call = compound 11 7 1 (44 ∷ 1 ∷ 1 ∷ 0 ∷ 1 ∷ [])

destroy_while : answer 1 half_made 1 destroy_call ≡ Some (compound_reply 11 10008 1 (44 ∷ 10008 ∷ []))
unfolding half_made answer
destroy_while = refl

destroy_after : answer 1 made 1 destroy_call ≡ Some (compound_reply 11 0 1 (44 ∷ 0 ∷ []))
unfolding made answer
destroy_after = refl

destroy_twice : answer 1 (behind 1 made 1 destroy_call) 1 destroy_call ≡ Some (compound_reply 11 10052 1 (44 ∷ 10052 ∷ []))
unfolding made answer behind
destroy_twice = refl

-- A pad fault in the last operation: those before it have run, and "b" is there
abbrev padded_call : List ℕ
padded_call = compound 10 7 4 (begin_on 0 2 ++ (24 ∷ (make_directory 0x62000000 ++ (15 ∷ 1 ∷ 0x61000001 ∷ []))))

pad_fault : answer 4 made 0 padded_call ≡ Some (compound_reply 10 10036 4
    (53 ∷ 0 ∷ 1 ∷ 1 ∷ 0 ∷ 1 ∷ 2 ∷ 0 ∷ 7 ∷ 7 ∷ 0 ∷ 24 ∷ 0 ∷ 6 ∷ 0 ∷ 1 ∷ 1 ∷ 1 ∷ 1 ∷ 2 ∷ 2 ∷ 0 ∷ 2 ∷ 15 ∷ 10036 ∷ []))
unfolding made answer
pad_fault = refl

still_made : length (names_at (behind 4 made 0 padded_call).tree root) ≡ 2
unfolding made behind
still_made = refl

-- in a tag it makes the arguments garbage: nothing runs, and the slot is as before
abbrev padded_tag : List ℕ
padded_tag = record_of (10 ∷ 0 ∷ 2 ∷ 0x186a3 ∷ 4 ∷ 1 ∷ 1 ∷ 0x14 ∷ 0 ∷ 0 ∷ 7 ∷ 7 ∷ 0 ∷ 0 ∷ 0 ∷ 1 ∷ 0x61000001 ∷ 1 ∷ 1 ∷ begin_on 0 2)

garbage : answer 1 made 0 padded_tag ≡ Some (record_of (10 ∷ 1 ∷ 0 ∷ 0 ∷ 0 ∷ 4 ∷ []))
unfolding made answer
garbage = refl

-- A hang-up after one turn runs the rest of the request: "h" is there, and a new connection gets
-- the kept reply
abbrev hang_call : List ℕ
hang_call = compound 9 7 3 (begin_on 0 1 ++ (24 ∷ make_directory 0x68000000))

hung : World
unfolding opened comes turned hung_up hangs_up
hung = hung_up (turned 1 (comes opened 0 hang_call) 0) 0 0

hung_made : length (names_at hung.tree root) ≡ 1
unfolding hung
hung_made = refl

hung_kept : answer 1 hung 1 hang_call ≡ Some (compound_reply 9 0 3
    (53 ∷ 0 ∷ 1 ∷ 1 ∷ 0 ∷ 1 ∷ 1 ∷ 0 ∷ 7 ∷ 7 ∷ 0 ∷ 24 ∷ 0 ∷ 6 ∷ 0 ∷ 1 ∷ 0 ∷ 1 ∷ 1 ∷ 1 ∷ 2 ∷ 0 ∷ 2 ∷ []))
unfolding hung answer
hung_kept = refl

-- The tests around the operations: no results, another minor version, too many operations, and
-- operations out of place
no_operation : answer 1 made 0 (compound 10 7 0 []) ≡ Some (compound_reply 10 0 0 [])
unfolding made answer
no_operation = refl

bytes_behind : answer 1 made 0 (compound 10 7 0 (0 ∷ [])) ≡ Some (record_of (10 ∷ 1 ∷ 0 ∷ 0 ∷ 0 ∷ 4 ∷ []))
unfolding made answer
bytes_behind = refl

minor_version : answer 1 made 0 (record_of (10 ∷ 0 ∷ 2 ∷ 0x186a3 ∷ 4 ∷ 1 ∷ 1 ∷ 0x14 ∷ 0 ∷ 0 ∷ 7 ∷ 7 ∷ 0 ∷ 0 ∷ 0 ∷ 0 ∷ 2 ∷ 0 ∷ 5 ∷ [])) ≡ Some (compound_reply 10 10021 0 [])
unfolding made answer
minor_version = refl

too_many : answer 1 made 0 (compound 10 7 0xffffffff (begin_on 0 2)) ≡ Some (compound_reply 10 10070 1 (53 ∷ 10070 ∷ []))
unfolding made answer
too_many = refl

not_in_session : answer 1 made 0 (compound 10 7 1 (24 ∷ [])) ≡ Some (compound_reply 10 10071 1 (24 ∷ 10071 ∷ []))
unfolding made answer
not_in_session = refl

not_only : answer 1 made 0 (compound 10 7 2 (44 ∷ [])) ≡ Some (compound_reply 10 10081 1 (44 ∷ 10081 ∷ []))
unfolding made answer
not_only = refl

illegal : answer 1 made 0 (compound 10 7 1 (59 ∷ [])) ≡ Some (compound_reply 10 10044 1 (10044 ∷ 10044 ∷ []))
unfolding made answer
illegal = refl

no_number : answer 1 made 0 (compound 10 7 1 []) ≡ Some (compound_reply 10 10036 1 (10044 ∷ 10036 ∷ []))
unfolding made answer
no_number = refl

sequence_behind : answer 2 made 0 (compound 10 7 2 (begin_on 0 2 ++ begin_on 1 1))
    ≡ Some (compound_reply 10 10064 2 (53 ∷ 0 ∷ 1 ∷ 1 ∷ 0 ∷ 1 ∷ 2 ∷ 0 ∷ 7 ∷ 7 ∷ 0 ∷ 53 ∷ 10064 ∷ []))
unfolding made answer
sequence_behind = refl

not_served : answer 2 made 0 (compound 10 7 2 (begin_on 0 2 ++ (44 ∷ [])))
    ≡ Some (compound_reply 10 10004 2 (53 ∷ 0 ∷ 1 ∷ 1 ∷ 0 ∷ 1 ∷ 2 ∷ 0 ∷ 7 ∷ 7 ∷ 0 ∷ 44 ∷ 10004 ∷ []))
unfolding made answer
not_served = refl

-- bytes after the last operation: the slot is taken, and the last result is BADXDR
bytes_behind_last : answer 2 made 0 (compound 10 7 2 (begin_on 0 2 ++ (24 ∷ 24 ∷ [])))
    ≡ Some (compound_reply 10 10036 2 (53 ∷ 0 ∷ 1 ∷ 1 ∷ 0 ∷ 1 ∷ 2 ∷ 0 ∷ 7 ∷ 7 ∷ 0 ∷ 24 ∷ 10036 ∷ []))
unfolding made answer
bytes_behind_last = refl

-- RECLAIM_COMPLETE once
reclaim : answer 3 made 0 (compound 10 7 3 (begin_on 0 2 ++ (58 ∷ 0 ∷ 58 ∷ 0 ∷ [])))
    ≡ Some (compound_reply 10 10054 3 (53 ∷ 0 ∷ 1 ∷ 1 ∷ 0 ∷ 1 ∷ 2 ∷ 0 ∷ 7 ∷ 7 ∷ 0 ∷ 58 ∷ 0 ∷ 58 ∷ 10054 ∷ []))
unfolding made answer
reclaim = refl

-- a call under AUTH_NONE, in fragments of 4, 0 and 36 bytes and byte by byte
abbrev byte_arrives : World → ℕ → World
byte_arrives world byte = arrives world 0 (byte ∷ [])

null_in_bytes : reply_at (turned 1 (fold byte_arrives fresh
    (words (4 ∷ 1 ∷ 0 ∷ 0x80000024 ∷ 0 ∷ 2 ∷ 0x186a3 ∷ 4 ∷ 0 ∷ 0 ∷ 0 ∷ 0 ∷ 0 ∷ []))) 0) 0
    ≡ Some (record_of (1 ∷ 1 ∷ 0 ∷ 0 ∷ 0 ∷ 0 ∷ []))
unfolding fresh comes turned
null_in_bytes = refl

-- a reply without room for CREATE's result: it is refused with REP_TOO_BIG, and nothing is made
small : World
unfolding opened
small = record opened { limits = record limits { reply_bytes = 100 } }

no_room : answer 4 small 0 (make_call 7) ≡ Some (compound_reply 9 10066 3 (53 ∷ 0 ∷ 1 ∷ 1 ∷ 0 ∷ 1 ∷ 1 ∷ 0 ∷ 7 ∷ 7 ∷ 0 ∷ 24 ∷ 0 ∷ 6 ∷ 10066 ∷ []))
unfolding small answer
no_room = refl

no_room_made : length (names_at (behind 4 small 0 (make_call 7)).tree root) ≡ 0
unfolding small behind
no_room_made = refl

-- one turn runs only SEQUENCE, and two run nothing that makes "a"
one_operation : length (names_at half_made.tree root) ≡ 0
unfolding half_made
one_operation = refl

-- Lengths and counts that are too great: a name of 2^32 - 1 bytes and a bitmap of 9 words in the
-- last operation, a tag of 256 bytes
abbrev begun_reply : (status operation : ℕ) → List ℕ
begun_reply status operation = compound_reply 10 status 3 (53 ∷ 0 ∷ 1 ∷ 1 ∷ 0 ∷ 1 ∷ 2 ∷ 0 ∷ 7 ∷ 7 ∷ 0 ∷ 24 ∷ 0 ∷ operation ∷ status ∷ [])

long_name : answer 3 made 0 (compound 10 7 3 (begin_on 0 2 ++ (24 ∷ 15 ∷ 0xFFFFFFFF ∷ 0 ∷ []))) ≡ Some (begun_reply 10036 15)
unfolding made answer
long_name = refl

long_bitmap : answer 3 made 0 (compound 10 7 3 (begin_on 0 2 ++ (24 ∷ 6 ∷ 2 ∷ 1 ∷ 0x62000000 ∷ 9 ∷ 0 ∷ 0 ∷ 0 ∷ 0 ∷ 0 ∷ 0 ∷ 0 ∷ 0 ∷ 0 ∷ 0 ∷ [])))
    ≡ Some (begun_reply 10036 6)
unfolding made answer
long_bitmap = refl

long_tag : answer 1 made 0 (record_of (10 ∷ 0 ∷ 2 ∷ 0x186a3 ∷ 4 ∷ 1 ∷ 1 ∷ 0x14 ∷ 0 ∷ 0 ∷ 7 ∷ 7 ∷ 0 ∷ 0 ∷ 0 ∷ 256 ∷ (replicate 64 0 ++ (1 ∷ 1 ∷ begin_on 0 2))))
    ≡ Some (record_of (10 ∷ 1 ∷ 0 ∷ 0 ∷ 0 ∷ 4 ∷ []))
unfolding made answer
long_tag = refl

-- after a CREATE of another type the rest is ignored: BADTYPE
other_type : answer 3 made 0 (compound 10 7 3 (begin_on 0 2 ++ (24 ∷ 6 ∷ 1 ∷ 5 ∷ 5 ∷ []))) ≡ Some (begun_reply 10007 6)
unfolding made answer
other_type = refl

-- by another caller "a" may be looked up, and its handle put again; nothing may be made in it
abbrev other_caller : List ℕ → List ℕ
other_caller operation = compound 10 8 4 (begin_on 0 2 ++ (24 ∷ (15 ∷ 1 ∷ 0x61000000 ∷ operation)))

not_permitted : answer 4 made 0 (other_caller (make_directory 0x62000000))
    ≡ Some (compound_reply 10 13 4 (53 ∷ 0 ∷ 1 ∷ 1 ∷ 0 ∷ 1 ∷ 2 ∷ 0 ∷ 7 ∷ 7 ∷ 0 ∷ 24 ∷ 0 ∷ 15 ∷ 0 ∷ 6 ∷ 13 ∷ []))
unfolding made answer
not_permitted = refl

-- A removal between another connection's turns: "f" is looked up, removed on slot 1, and then read:
-- STALE
abbrev make_file : List ℕ
make_file = compound 9 7 3 (begin_on 0 1 ++ (24 ∷ 18 ∷ 0 ∷ 3 ∷ 0 ∷ 0 ∷ 0 ∷ 1 ∷ 0x6f000000 ∷ 1 ∷ 0 ∷ 2 ∷ 0 ∷ 2 ∷ 4 ∷ 0x1a4 ∷ 0 ∷ 1 ∷ 0x66000000 ∷ []))

makes_file : answer 3 opened 0 make_file ≡ Some (compound_reply 9 0 3
    (53 ∷ 0 ∷ 1 ∷ 1 ∷ 0 ∷ 1 ∷ 1 ∷ 0 ∷ 7 ∷ 7 ∷ 0 ∷ 24 ∷ 0 ∷ 18 ∷ 0 ∷ 1 ∷ 1 ∷ 0 ∷ 1 ∷ 1 ∷ 0 ∷ 1 ∷ 1 ∷ 1 ∷ 0 ∷ 2 ∷ 0 ∷ 2 ∷ 0 ∷ []))
unfolding opened answer stateids.opened
makes_file = refl

abbrev read_file : List ℕ
read_file = compound 9 7 4 (begin_on 0 2 ++ (24 ∷ 15 ∷ 1 ∷ 0x66000000 ∷ 25 ∷ 0 ∷ 0 ∷ 0 ∷ 0 ∷ 0 ∷ 0 ∷ 9 ∷ []))

abbrev remove_file : List ℕ
remove_file = compound 9 7 3 (begin_on 1 1 ++ (24 ∷ 28 ∷ 1 ∷ 0x66000000 ∷ []))

-- three turns of the one, and three of the other
removed : World
unfolding opened behind comes turned stateids.opened
removed = turned 3 (turned 3 (comes (comes (behind 3 opened 0 make_file) 0 read_file) 1 remove_file) 0) 1

removes : reply_at removed 1 ≡ Some (compound_reply 9 0 3 (53 ∷ 0 ∷ 1 ∷ 1 ∷ 0 ∷ 1 ∷ 1 ∷ 1 ∷ 7 ∷ 7 ∷ 0 ∷ 24 ∷ 0 ∷ 28 ∷ 0 ∷ 1 ∷ 1 ∷ 1 ∷ 1 ∷ 2 ∷ []))
unfolding removed
removes = refl

read_behind : reply_at (turned 1 removed 0) 0 ≡ Some (compound_reply 9 70 4 (53 ∷ 0 ∷ 1 ∷ 1 ∷ 0 ∷ 1 ∷ 2 ∷ 0 ∷ 7 ∷ 7 ∷ 0 ∷ 24 ∷ 0 ∷ 15 ∷ 0 ∷ 25 ∷ 70 ∷ []))
unfolding removed turned
read_behind = refl

-- On a volume with five seats, all free: a persistent session has two slots

seated_fresh : World
unfolding mounted
seated_fresh = mounted 1 fresh_tree no_seats

seated_greeted : World
unfolding seated_fresh behind
seated_greeted = behind 1 seated_fresh 0 exchange_call

abbrev persist_call : (sequence : ℕ) → List ℕ
persist_call sequence = create_by 7 1 1 sequence 1

persists : answer 1 seated_greeted 0 (persist_call 1) ≡ Some (created 1 1 1 1 1 2)
unfolding seated_greeted answer
persists = refl

-- .. or the one that it asks for; and a server that has no persistent sessions gives none
one_slot : answer 1 seated_greeted 0 (compound 3 7 1 (43 ∷ 1 ∷ 1 ∷ 1 ∷ 1 ∷ (channel 1 ++ (channel 8 ++ (0 ∷ 1 ∷ 0 ∷ []))))) ≡ Some (created 1 1 1 1 1 1)
unfolding seated_greeted answer
one_slot = refl

not_offering : World
unfolding seated_greeted
not_offering = record seated_greeted { table = record seated_greeted.table { settings = plain_settings } }

not_offered : answer 1 not_offering 0 (persist_call 1) ≡ Some (created 1 1 1 1 0 8)
unfolding not_offering answer
not_offered = refl

seated_opened : World
unfolding seated_greeted behind
seated_opened = behind 1 seated_greeted 0 (persist_call 1)

-- SEQUENCE, PUTROOTFH, CREATE "a", GETFH: each operation is a turn that returns Ran, and one more
-- makes the reply
seated_waiting : World
unfolding seated_opened comes
seated_waiting = comes seated_opened 0 (make_call 7)

seated_fourth : next_turn (turned 3 seated_waiting 0) 0 ≡ Ran
unfolding seated_waiting next_turn
seated_fourth = refl

seated_fifth : next_turn (turned 4 seated_waiting 0) 0 ≡ Answered
unfolding seated_waiting next_turn
seated_fifth = refl

seated_make : answer 5 seated_opened 0 (make_call 7) ≡ Some (make_reply 1)
unfolding seated_opened answer
seated_make = refl

-- the same number waits until the reply is held
seated_delay : answer 1 (turned 4 seated_waiting 0) 1 (make_call 7) ≡ Some (compound_reply 9 10008 1 (53 ∷ 10008 ∷ []))
unfolding seated_waiting answer turned
seated_delay = refl

seated_made : World
unfolding seated_opened behind
seated_made = behind 5 seated_opened 0 (make_call 7)

-- after a restart the retry has the same reply and makes nothing; the next number, and another
-- caller, find a dead session
restarted : World → World
unfolding mounted
restarted world = mounted 2 world.tree world.table.seats

retry_later : answer 1 (restarted seated_made) 1 (make_call 7) ≡ Some (make_reply 1)
unfolding seated_made restarted answer
retry_later = refl

retry_later_makes_nothing : length (names_at (behind 1 (restarted seated_made) 1 (make_call 7)).tree root) ≡ 1
unfolding seated_made restarted behind
retry_later_makes_nothing = refl

dead_next : answer 1 (restarted seated_made) 1 (compound 12 7 1 (begin_on 0 2))
    ≡ Some (words (0x8000002c ∷ 0xc ∷ 1 ∷ 0 ∷ 0 ∷ 0 ∷ 0 ∷ 0x275e ∷ 0 ∷ 1 ∷ 0x35 ∷ 0x275e ∷ []))
unfolding seated_made restarted answer
dead_next = refl

dead_to_others : answer 1 (restarted seated_made) 1 (make_call 8) ≡ Some (compound_reply 9 10078 1 (53 ∷ 10078 ∷ []))
unfolding seated_made restarted answer
dead_to_others = refl

-- a request that ran and whose reply was not held yet: the session is dead, and "a" is there once
ran_only : World
unfolding seated_waiting turned
ran_only = turned 4 seated_waiting 0

dead_retry : answer 1 (restarted ran_only) 1 (make_call 7) ≡ Some (compound_reply 9 10078 1 (53 ∷ 10078 ∷ []))
unfolding ran_only restarted answer
dead_retry = refl

made_once : length (names_at (restarted ran_only).tree root) ≡ 1
unfolding ran_only restarted
made_once = refl

-- DESTROY_SESSION frees the seat of a dead session: after it the session is unknown
destroys_dead : answer 1 (restarted seated_made) 1 destroy_call ≡ Some (compound_reply 11 0 1 (44 ∷ 0 ∷ []))
unfolding seated_made restarted answer
destroys_dead = refl

unknown_then : answer 1 (behind 1 (restarted seated_made) 1 destroy_call) 1 (make_call 7) ≡ Some (compound_reply 9 10052 1 (53 ∷ 10052 ∷ []))
unfolding seated_made restarted behind answer
unknown_then = refl

-- Five sessions of one client take the five seats: the sixth is as if PERSIST was not asked for, by
-- another client too
abbrev persisting : World → (sequence : ℕ) → World
persisting world sequence = behind 1 world 0 (persist_call sequence)

four : World
unfolding seated_opened behind
four = fold persisting seated_opened (2 ∷ 3 ∷ 4 ∷ [])

fifth_session : answer 1 four 0 (persist_call 5) ≡ Some (created 1 1 5 5 1 2)
unfolding four answer
fifth_session = refl

five : World
unfolding four behind
five = persisting four 5

abbrev seat_of : (run client serial : ℕ) → Option Seat
seat_of run client serial =
    Some (record { session = words (run ∷ client ∷ 0 ∷ serial ∷ []); owner = 0x63 ∷ 0x6c ∷ []; principal = 7; slots = None ∷ None ∷ [] })

abbrev behind_first : Seats
behind_first = seat_of 1 1 2 ∷ seat_of 1 1 3 ∷ seat_of 1 1 4 ∷ seat_of 1 1 5 ∷ []

five_seats : five.table.seats ≡ seat_of 1 1 1 ∷ behind_first
unfolding five
five_seats = refl

sixth_session : answer 1 five 0 (persist_call 6) ≡ Some (created 1 1 6 6 0 8)
unfolding five answer
sixth_session = refl

sixth_has_none : (behind 1 five 0 (persist_call 6)).table.seats ≡ seat_of 1 1 1 ∷ behind_first
unfolding five behind
sixth_has_none = refl

-- EXCHANGE_ID by a caller, of an owner of two letters: `cl` or `cm`
abbrev exchange_by : (uid letters verifier : ℕ) → List ℕ
exchange_by uid letters verifier = compound 2 uid 1 (42 ∷ 0x1020304 ∷ verifier ∷ 2 ∷ letters ∷ 0 ∷ 0 ∷ 0 ∷ [])

abbrev greeted_by : (uid letters verifier : ℕ) → World → World
greeted_by uid letters verifier world = behind 1 world 0 (exchange_by uid letters verifier)

sixth_of_another : answer 1 (greeted_by 7 0x636d0000 0x5060708 five) 0 (create_by 7 1 2 1 1) ≡ Some (created 1 2 6 1 0 8)
unfolding five behind answer
sixth_of_another = refl

-- a session that is destroyed frees its seat, which the sixth takes: another client's, or the
-- owner's
one_freed : World
unfolding five behind
one_freed = behind 1 five 0 destroy_call

one_freed_seats : one_freed.table.seats ≡ None ∷ behind_first
unfolding one_freed
one_freed_seats = refl

sixth_takes : answer 1 (greeted_by 7 0x636d0000 0x5060708 one_freed) 0 (create_by 7 1 2 1 1) ≡ Some (created 1 2 6 1 1 2)
unfolding one_freed behind answer
sixth_takes = refl

sixth_seats : (persisting one_freed 6).table.seats ≡ seat_of 1 1 6 ∷ behind_first
unfolding one_freed behind
sixth_seats = refl

-- the client starts again, with another verifier: its first session ends the five, whose seats give
-- way
client_again : World
unfolding five behind
client_again = greeted_by 7 0x636c0000 0x5060709 five

ends_five : answer 1 client_again 0 (create_by 7 1 2 1 1) ≡ Some (created 1 2 6 1 1 2)
unfolding client_again answer
ends_five = refl

five_gave_way : (behind 1 client_again 0 (create_by 7 1 2 1 1)).table.seats ≡ seat_of 1 2 6 ∷ None ∷ None ∷ None ∷ None ∷ []
unfolding client_again behind
five_gave_way = refl

-- the server starts again: the five are dead, and give way to their owner id by their principal
dead_five : World
unfolding five restarted
dead_five = restarted five

owner_again : World
unfolding dead_five behind
owner_again = greeted_by 7 0x636c0000 0x5060708 dead_five

dead_give_way : answer 1 owner_again 0 (create_by 7 2 1 1 1) ≡ Some (created 2 1 1 1 1 2)
unfolding owner_again answer
dead_give_way = refl

dead_gave_way : (behind 1 owner_again 0 (create_by 7 2 1 1 1)).table.seats ≡ seat_of 2 1 1 ∷ None ∷ None ∷ None ∷ None ∷ []
unfolding owner_again behind
dead_gave_way = refl

-- .. if none is asked for too; the dead session is unknown from then on
none_taken : (behind 1 owner_again 0 (create_by 7 2 1 1 0)).table.seats ≡ no_seats
unfolding owner_again behind
none_taken = refl

unknown_behind : answer 1 (behind 1 owner_again 0 (create_by 7 2 1 1 0)) 1 (make_call 7) ≡ Some (compound_reply 9 10052 1 (53 ∷ 10052 ∷ []))
unfolding owner_again behind answer
unknown_behind = refl

-- .. and not if CREATE_SESSION is refused, here with the number 2, nor by just EXCHANGE_ID
refused_frees_none : (behind 1 owner_again 0 (create_by 7 2 1 2 1)).table.seats ≡ seat_of 1 1 1 ∷ behind_first
unfolding owner_again behind
refused_frees_none = refl

-- the kept answer takes no second seat
kept_takes_none : (behind 1 (behind 1 owner_again 0 (create_by 7 2 1 1 1)) 0 (create_by 7 2 1 1 1)).table.seats ≡ seat_of 2 1 1 ∷ None ∷ None ∷ None ∷ None ∷ []
unfolding owner_again behind
kept_takes_none = refl

-- they give way to no other owner id, and to no other principal
other_owner : World
unfolding dead_five behind
other_owner = greeted_by 7 0x636d0000 0x5060708 dead_five

none_for_owner : answer 1 other_owner 0 (create_by 7 2 1 1 1) ≡ Some (created 2 1 1 1 0 8)
unfolding other_owner answer
none_for_owner = refl

owner_frees_none : (behind 1 other_owner 0 (create_by 7 2 1 1 1)).table.seats ≡ seat_of 1 1 1 ∷ behind_first
unfolding other_owner behind
owner_frees_none = refl

other_principal : World
unfolding dead_five behind
other_principal = greeted_by 8 0x636c0000 0x5060708 dead_five

none_for_principal : answer 1 other_principal 0 (create_by 8 2 1 1 1) ≡ Some (created 2 1 1 1 0 8)
unfolding other_principal answer
none_for_principal = refl

principal_frees_none : (behind 1 other_principal 0 (create_by 8 2 1 1 1)).table.seats ≡ seat_of 1 1 1 ∷ behind_first
unfolding other_principal behind
principal_frees_none = refl
