-- How many bytes a reply has.
use Rattle.std.proofs.Common.{◌≡◌, ℕ, ◌+◌, ◌≤◌, List, ◌++◌, ◌-◌, length, take, drop, refl, ap, ◌∙◌, arith, length-append, take_all}
use Rattle.std.proofs.lemmas.Grind.{common_steps}
use Rattle.xdr.specs.Forms.{counted}
use Rattle.xdr.specs.Grammar.{number}
use Rattle.xdr.proofs.Sizes.{counted_length}
use Rattle.xdr.proofs.Numbers.{length-number_32}
use Rattle.model.specs.Operations.Answer.{Outcome, Done, Refused}
use Rattle.model.specs.Wire.Record.{framed}
use Rattle.model.specs.Wire.Rpc.{Success, reply_text, compound_text}
use Rattle.model.specs.Server.World.{InProgress, outcome_text, reply_with, result_of, status_of}
use Rattle.model_tree.specs.declared.status.Status.{Status}
use Rattle.model.proofs.Sessions.KeptLaws.{refused_length}
use Rattle.compound.specs.Operates.{IsEncoded}

pub reply_length : (xid : ℕ) (status : Status) (tag : List ℕ) (count : ℕ) (results more : List ℕ)
    → length (reply_text xid (Success (compound_text status tag count (results ++ more)))) ≡ 32 + length (counted tag) + length results + length more
unfolding reply_text compound_text
reply_length xid status tag count results more = simp (length-append, length-number_32) (omega arith)

pub room_length : (request : InProgress) (outcome : Outcome)
    → length (reply_with request outcome) ≡ 32 + length (counted request.tag) + length request.results + length (outcome_text outcome)
room_length request outcome = reply_length request.xid (status_of outcome) request.tag (request.answered + 1) request.results (outcome_text outcome)

-- around a result are the xid, the message type and four words
pub success_length : (xid : ℕ) (result : List ℕ) → length (reply_text xid (Success result)) ≡ 24 + length result
unfolding reply_text
success_length xid result = simp (length-append, length-number_32) (omega arith)

pub framed_length : (bytes : List ℕ) → length (framed bytes) ≡ 4 + length bytes
unfolding framed
framed_length bytes = grind (arith, common_steps)

-- a result comes after the record's header and those words
result_behind : (xid : ℕ) (result : List ℕ) → drop 28 (framed (reply_text xid (Success result))) ≡ result
unfolding framed reply_text number
result_behind xid result = refl

pub result_within : (xid : ℕ) (result bytes : List ℕ) → bytes ≡ framed (reply_text xid (Success result)) → take (length bytes - 28) (drop 28 bytes) ≡ result
result_within xid result bytes is =
    let size : length bytes - 28 ≡ length result = omega (arith, ap length is, framed_length (reply_text xid (Success result)), success_length xid result) in
    let behind : drop 28 bytes ≡ result = ap (drop 28) is ∙ result_behind xid result in
    rw (size, behind) (take_all (length result) result (omega arith))

pub tag_brief : (tag : List ℕ) → length tag ≤ 255 → length (counted tag) ≤ 262
tag_brief tag short = omega (arith, counted_length tag)

-- an OK result has room, and any other one exceeds it by a few bytes
pub encoded_short : (request : InProgress) (outcome : Outcome) → IsEncoded request outcome
    → 32 + length (counted request.tag) + length request.results ≤ 16368
    → 32 + length (counted request.tag) + length request.results + length (outcome_text outcome) ≤ 16380
encoded_short request (Done answer) encode brief = omega (arith, encode.room, room_length request (Done answer))
encoded_short request (Refused operation reason) encode brief = omega (arith, brief, refused_length operation reason)

-- how many bytes a whole result has
pub result_length : (request : InProgress) (last : Status)
    → 24 + length (result_of request last) ≡ 32 + length (counted request.tag) + length request.results
unfolding compound_text
result_length request last = simp (length-append, length-number_32) (omega arith)
