-- Worked rows over record marking and over calls and replies: bytes in, bytes out.
use Rattle.std.proofs.Common.{◌≡◌, ℕ, refl, List, [], ◌∷◌, ◌++◌, replicate, fold, Some, None}
use Rattle.std.specs.List.{flat_map}
use Rattle.xdr.specs.Grammar.{number, number_at}
use Rattle.xdr.specs.Forms.{padded, padded_at, counted_at, each_at, elements_at}
use Rattle.model.specs.Wire.Record.{RecordLimits, Refused, Whole, RecordTooBig, TooManyFragments, records, records_from, prefix, prefix_from, fragment, behind_header, fed, no_stream, framed}
use Rattle.model.specs.Wire.Rpc.{words, read_call, CallRead, NoCall, OtherVersion, Calls, request_of, Request, Answers, Runs, reply_text, VersionRefused}

abbrev limits : RecordLimits
limits = record { bytes = 16384; fragments = 64 }

-- Row by row: the record that replies to this record without an operation, and nothing if there is
-- none

abbrev answered : ℕ → Request → List ℕ
answered xid (Answers reply) = framed (reply_text xid reply)
answered xid (Runs cred compound) = []

abbrev replied : CallRead → List ℕ
replied NoCall = []
replied (OtherVersion xid) = framed (reply_text xid VersionRefused)
replied (Calls call) = answered call.xid (request_of call)

abbrev reply_to : List ℕ → List ℕ
reply_to bytes = replied (read_call bytes)

-- a NULL call, in one fragment and in fragments of 4, 0 and 36 bytes
abbrev null_call : List ℕ
null_call = words (1 ∷ 0 ∷ 2 ∷ 0x186a3 ∷ 4 ∷ 0 ∷ 0 ∷ 0 ∷ 0 ∷ 0 ∷ [])

abbrev cut_call : List ℕ
cut_call = words (4 ∷ 1 ∷ 0 ∷ 0x80000024 ∷ 0 ∷ 2 ∷ 0x186a3 ∷ 4 ∷ 0 ∷ 0 ∷ 0 ∷ 0 ∷ 0 ∷ [])

whole : records limits (words (0x80000028 ∷ []) ++ null_call) ≡ record { records = null_call ∷ []; rest = []; fault = None }
unfolding records_from prefix_from fragment behind_header number
whole = refl

cut : records limits cut_call ≡ record { records = null_call ∷ []; rest = []; fault = None }
unfolding records_from prefix_from fragment behind_header number
cut = refl

byte_by_byte : fold (fed limits) no_stream (flat_map (λ byte. (byte ∷ []) ∷ []) cut_call) ≡ record { records = null_call ∷ []; rest = []; fault = None }
unfolding records_from prefix_from fragment behind_header number
byte_by_byte = refl

null_reply : reply_to null_call ≡ words (0x80000018 ∷ 1 ∷ 1 ∷ 0 ∷ 0 ∷ 0 ∷ 0 ∷ [])
unfolding read_call request_of reply_text framed number number_at padded padded_at counted_at
null_reply = refl

-- limits of a record
too_big : records limits (words (0x80004001 ∷ [])) ≡ record { records = []; rest = []; fault = Some RecordTooBig }
unfolding records_from prefix_from fragment behind_header number
too_big = refl

-- the largest one is waited for
largest : records limits (words (0x80004000 ∷ [])) ≡ record { records = []; rest = words (0x80004000 ∷ []); fault = None }
unfolding records_from prefix_from fragment behind_header number
largest = refl

last_fragment : prefix limits (flat_map (λ none. words (none ∷ [])) (replicate 63 0) ++ (words (0x80000028 ∷ []) ++ null_call)) ≡ Whole null_call []
unfolding prefix_from fragment behind_header number
last_fragment = refl

one_fragment_more : prefix limits (flat_map (λ none. words (none ∷ [])) (replicate 64 0) ++ words (0x80000028 ∷ [])) ≡ Refused TooManyFragments
unfolding prefix_from fragment behind_header number
one_fragment_more = refl

-- no calls: an empty record, a reply, a header that ends too early, a credential of 401 bytes
empty_record : read_call [] ≡ NoCall
unfolding read_call number_at
empty_record = refl

a_reply : read_call (words (1 ∷ 1 ∷ 3 ∷ [])) ≡ NoCall
unfolding read_call number number_at
a_reply = refl

too_short : read_call (words (1 ∷ 0 ∷ 2 ∷ 0x186a3 ∷ 4 ∷ 0 ∷ 0 ∷ 0 ∷ 0 ∷ [])) ≡ NoCall
unfolding read_call number number_at padded_at counted_at
too_short = refl

long_credential : read_call (words (1 ∷ 0 ∷ 2 ∷ 0x186a3 ∷ 4 ∷ 0 ∷ 1 ∷ 401 ∷ []) ++ replicate 500 0) ≡ NoCall
unfolding read_call number number_at padded_at counted_at
long_credential = refl

-- the refusals of a call, in their order
other_version : reply_to (words (3 ∷ 0 ∷ 3 ∷ [])) ≡ words (0x80000018 ∷ 3 ∷ 1 ∷ 1 ∷ 0 ∷ 2 ∷ 2 ∷ [])
unfolding read_call reply_text framed number number_at
other_version = refl

other_program : reply_to (words (4 ∷ 0 ∷ 2 ∷ 100004 ∷ 3 ∷ 2 ∷ 0 ∷ 0 ∷ 0 ∷ 0 ∷ [])) ≡ words (0x80000018 ∷ 4 ∷ 1 ∷ 0 ∷ 0 ∷ 0 ∷ 1 ∷ [])
unfolding read_call request_of reply_text framed number number_at padded_at counted_at
other_program = refl

other_program_version : reply_to (words (5 ∷ 0 ∷ 2 ∷ 100003 ∷ 3 ∷ 2 ∷ 0 ∷ 0 ∷ 0 ∷ 0 ∷ [])) ≡ words (0x80000020 ∷ 5 ∷ 1 ∷ 0 ∷ 0 ∷ 0 ∷ 2 ∷ 4 ∷ 4 ∷ [])
unfolding read_call request_of reply_text framed number number_at padded_at counted_at
other_program_version = refl

other_procedure : reply_to (words (6 ∷ 0 ∷ 2 ∷ 100003 ∷ 4 ∷ 2 ∷ 0 ∷ 0 ∷ 0 ∷ 0 ∷ [])) ≡ words (0x80000018 ∷ 6 ∷ 1 ∷ 0 ∷ 0 ∷ 0 ∷ 3 ∷ [])
unfolding read_call request_of reply_text framed number number_at padded_at counted_at
other_procedure = refl

no_credential : reply_to (words (7 ∷ 0 ∷ 2 ∷ 100003 ∷ 4 ∷ 1 ∷ 0 ∷ 0 ∷ 0 ∷ 0 ∷ 0 ∷ 1 ∷ 1 ∷ [])) ≡ words (0x80000014 ∷ 7 ∷ 1 ∷ 1 ∷ 1 ∷ 5 ∷ [])
unfolding read_call request_of reply_text framed number number_at padded_at counted_at
no_credential = refl

-- an AUTH_SYS body of 17 gids
many_groups : reply_to (words (8 ∷ 0 ∷ 2 ∷ 100003 ∷ 4 ∷ 1 ∷ 1 ∷ 88 ∷ 0 ∷ 0 ∷ 7 ∷ 7 ∷ 17 ∷ []) ++ (words (replicate 17 5) ++ words (0 ∷ 0 ∷ 0 ∷ 1 ∷ 1 ∷ [])))
    ≡ words (0x80000014 ∷ 8 ∷ 1 ∷ 1 ∷ 1 ∷ 1 ∷ [])
unfolding read_call request_of reply_text framed number number_at padded_at counted_at elements_at each_at
many_groups = refl

null_with_arguments : reply_to (words (9 ∷ 0 ∷ 2 ∷ 100003 ∷ 4 ∷ 0 ∷ 0 ∷ 0 ∷ 0 ∷ 0 ∷ 0 ∷ [])) ≡ words (0x80000018 ∷ 9 ∷ 1 ∷ 0 ∷ 0 ∷ 0 ∷ 4 ∷ [])
unfolding read_call request_of reply_text framed number number_at padded_at counted_at
null_with_arguments = refl
