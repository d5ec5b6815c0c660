-- What a client sends is what the server runs, and what that replies is what the client returns.
use Rattle.std.proofs.Common.{◌≡◌, ◌+◌, ◌<◌, ◌^◌, ◌==◌, ℕ, false, cond, List, [], ◌++◌, length, Option, Some, Ok, refl, sym, ap, ◌∙◌, subst, arith, append_assoc, append-nil, ne_eqb}
use Rattle.std.proofs.lemmas.Bool.{eq-eqb}
use Rattle.std.specs.Prelude.{option_map}
use Rattle.std.specs.Cmp.Lexicographic.{bytes_decides}
use Rattle.xdr.specs.Grammar.{number}
use Rattle.xdr.specs.Laws.{Exact}
use Rattle.xdr.proofs.Numbers.{int_exact}
use Rattle.xdr.proofs.Sequences.{then_exact}
use Rattle.xdr.proofs.Opaques.{opaque_exact}
use Rattle.model_tree.specs.declared.acl.Cred.{Cred}
use Rattle.model_tree.specs.declared.status.Status.{Status}
use Rattle.model.specs.Operations.Answer.{Outcome}
use Rattle.model_tree.specs.Trees.Keyed.{at}
use Rattle.model.specs.Operations.Operation.{Argument}
use Rattle.model.specs.Wire.Record.{Prefix, Whole, prefix, framed}
use Rattle.model.specs.Wire.Results.{compound_result}
use Rattle.model.specs.Wire.Rpc.{CallRead, Calls, Call, Reply, Success, Runs, read_call, is_call_read, request_of, reply_text, compound_head, by_cred, by_head, encoded_cred, cred_of}
use Rattle.model.specs.Wire.RpcGrammar.{call_head, call_with, read_reply, reply_head, head_of}
use Rattle.model.specs.Wire.RpcGrammar as rpc
use Rattle.model.specs.Server.RuledOut.{request_at, request_in, request_by}
use Rattle.model_tree.specs.Refusals.Status.{code_of}
use Rattle.model.specs.Server.World.{World, Connection, Quiet, Waiting, Closed, arrives, arrives_at, arrived, connection_changed, with_connection, in_progress, result_of}
use Rattle.model_tree.proofs.Trees.KeyedLaws.{at-with_same}
use Rattle.model.proofs.Wire.RecordLaws.{sent_is_read}
use Rattle.model.proofs.Wire.ResultLaws.{result_exact, encodes_results}
use Rattle.model.proofs.Wire.RpcExact.{reads_calls, reads_credentials, reply_head_exact}
use Rattle.client.specs.Client.{Sent}
use Rattle.client.specs.Replies.{Gives, ending, result_by, results_by, reply_by, told_by, message_by, behind_header, message_of, reply_read}
use Rattle.client.specs.Requests.{credential_of, credential_text, compound_call, head_text, operations_text, call_text, record_text}
use Rattle.client.specs.Joined.{compound_sent, CanBeSent, IsWhole, IsWithin, EveryPieceWaits, EveryRecordIsAsked, EveryReplyIsTold}

-- The request

compound_head_exact : Exact compound_head
compound_head_exact = then_exact (opaque_exact 255 (omega arith)) (then_exact int_exact int_exact)

module _ (xid : ℕ) (cred : Cred) (tag : List ℕ) (operations : List Argument) (can : CanBeSent xid cred tag operations) where
  body : List ℕ
  body = compound_head.encoding (tag, (1, length operations)) ++ operations_text operations

  abbrev call : Call
  call = call_with (compound_call xid (credential_text cred)) body

  unfoldable pub text : List ℕ
  text = call_text xid (credential_text cred) tag operations

  encoded : text ≡ call_head.encoding (compound_call xid (credential_text cred)) ++ body
  unfolding text body call_text head_text
  encoded = append_assoc (call_head.encoding (compound_call xid (credential_text cred))) (compound_head.encoding (tag, (1, length operations))) (operations_text operations)

  is_read : read_call text ≡ Calls call
  unfolding text
  is_read = (reads_calls.call text call can.bytes).1 (record {
    head = compound_call xid (credential_text cred);
    fits = (can.xid_fits, (tt, (tt, (omega arith, (omega arith, (omega arith, ((omega arith, can.cred_short), (omega arith, omega arith))))))));
    encoded = encoded;
    call_is = refl;
  })

  known : cred_of (credential_text cred) ≡ Some cred
  known = ap (option_map encoded_cred) ((reads_credentials (credential_text cred) (credential_of cred) can.cred_bytes).1 (can.cred_fits, refl))

  head_read : compound_head.read body ≡ Ok ((tag, (1, length operations)), operations_text operations)
  unfolding body
  head_read = compound_head_exact.again (tag, (1, length operations)) (operations_text operations) (can.tag_short, (omega arith, can.counted))

  counted : (length operations == 0) ≡ false
  counted = ne_eqb (length operations) 0 (λ none. absurd (omega (arith, none, can.some)))

  runs : request_of call ≡ Runs cred (compound_sent tag operations)
  unfolding request_of
  runs = ap (by_cred call) known ∙ (ap (by_head cred) head_read ∙ rw counted refl)

  -- when it arrives
  module _ (world : World) (number : ℕ) (within : IsWithin world text) (piece : List ℕ)
      (is : IsWhole (record_text xid (credential_text cred) tag operations) world number piece) where
    came : arrives_at world.limits.records piece (Quiet is.so_far) ≡ Waiting text
    unfolding record_text text
    came =
        let bytes = call_text xid (credential_text cred) tag operations in
        let whole : prefix world.limits.records (framed bytes) ≡ Whole bytes [] =
        ap (prefix world.limits.records) (sym (append-nil (framed bytes))) ∙ sent_is_read world.limits.records bytes [] within.size within.short within.fragments in
        ap (λ (all : List ℕ). arrived all (prefix world.limits.records all)) is.joins ∙ ap (arrived (framed bytes)) whole ∙ ap (λ (read : CallRead). cond (is_call_read read) (Waiting bytes) Closed) is_read

    pub after_is : arrives world number piece ≡ with_connection world number (Waiting text)
    unfolding arrives
    after_is =
        ap (connection_changed world number (arrives_at world.limits.records piece)) is.has
        ∙ ap (with_connection world number) came

    abbrev pub Asks : World → Type 0
    Asks after = request_at after (at number after.connections) ≡ Some (in_progress after xid cred (compound_sent tag operations))

    pub waits : Asks (with_connection world number (Waiting text))
    waits =
        let after = with_connection world number (Waiting text) in
        ap (request_at after) (at-with_same world.connections number (Waiting text))
        ∙ (ap (request_in after) is_read ∙ ap (request_by after xid) runs)

    asks : Asks (arrives world number piece)
    asks = subst Asks (sym after_is) waits

pub every_record_is_asked : EveryRecordIsAsked
unfolding text
every_record_is_asked world connection xid cred tag operations piece can within is = asks xid cred tag operations can world connection within piece is

pub every_piece_waits : EveryPieceWaits
unfolding arrives
every_piece_waits world connection so_far piece has partial =
    let records = world.limits.records in
    ap (λ (there : Option Connection). at connection (connection_changed world connection (arrives_at records piece) there).connections) has
    ∙ (ap (λ (there : Prefix). at connection (with_connection world connection (arrived (so_far ++ piece) there)).connections) partial
    ∙ at-with_same world.connections connection (Quiet (so_far ++ piece)))

-- The reply

message_is : (message : List ℕ) → length message < 2 ^ 31 → message_of (framed message) ≡ Some message
unfolding message_of framed number
message_is message short =
    ap behind_header (int_exact.again (2 ^ 31 + length message) message (omega arith))
    ∙ rw (eq-eqb (2 ^ 31 + length message) (2 ^ 31 + length message) refl) refl

told_result : (tag operations : List ℕ) (outcomes : List Outcome) (last : Status) → ending operations outcomes ≡ Some last
    → result_by tag operations (Ok ((code_of last, (tag, outcomes)), [])) ≡ Gives outcomes last
told_result tag operations outcomes last is =
    rw ((bytes_decides tag tag).1 refl, is, eq-eqb (code_of last) (code_of last) refl) refl

reply_is_read : (xid : ℕ) (result : List ℕ) → xid < 2 ^ 32 → read_reply (reply_text xid (Success result)) ≡ Some (xid, Success result)
unfolding read_reply reply_text
reply_is_read xid result small =
    let head = head_of xid (Success result) in
    let text : reply_text xid (Success result) ≡ reply_head.encoding head ++ result = simp (append_assoc, append-nil) in
    ap (λ (bytes : List ℕ). rpc.reply_by (reply_head.read bytes)) text
    ∙ ap rpc.reply_by (reply_head_exact.again head result (small, (tt, (omega arith, (tt, (tt, (omega arith, tt)))))))

told : (tag : List ℕ) (sent : Sent) (outcomes : List Outcome) (last : Status) → sent.xid < 2 ^ 32 → ending sent.operations outcomes ≡ Some last
    → compound_result.Fits (code_of last, (tag, outcomes))
    → let reply = reply_text sent.xid (Success (compound_result.encoding (code_of last, (tag, outcomes)))) in
    length reply < 2 ^ 31 → reply_read tag sent (framed reply) ≡ Gives outcomes last
unfolding reply_read
told tag sent outcomes last small is fits short =
    let result = compound_result.encoding (code_of last, (tag, outcomes)) in
    let reply = reply_text sent.xid (Success result) in
    let read : read_reply reply ≡ Some (sent.xid, Success result) = reply_is_read sent.xid result small in
    let whole : compound_result.read result ≡ Ok ((code_of last, (tag, outcomes)), []) =
    ap compound_result.read (sym (append-nil result)) ∙ result_exact.again (code_of last, (tag, outcomes)) [] fits in
    let same : reply_by tag sent (Some (sent.xid, Some result)) ≡ results_by tag sent (Some result) = rw (eq-eqb sent.xid sent.xid refl) refl in
    ap (message_by tag sent) (message_is reply short)
    ∙ (ap (λ (r : Option (ℕ × Reply)). reply_by tag sent (told_by r)) read
    ∙ (same ∙ (ap (result_by tag sent.operations) whole ∙ told_result tag sent.operations outcomes last is)))

pub every_reply_is_told : EveryReplyIsTold
every_reply_is_told tag sent request outcomes last xid_is tag_is small are is fits =
    let ends : result_of request last ≡ compound_result.encoding (code_of last, (request.tag, outcomes)) = encodes_results.ends request outcomes last are in
    let with_tag : List ℕ → Type 0 = λ t. compound_result.Fits (code_of last, (t, outcomes)) in
    let here : (r : List ℕ) → compound_result.encoding (code_of last, (tag, outcomes)) ≡ r
    → length (reply_text sent.xid (Success r)) < 2 ^ 31
    → reply_read tag sent (framed (reply_text sent.xid (Success r))) ≡ Gives outcomes last =
    λ r same. subst (λ (r : List ℕ). length (reply_text sent.xid (Success r)) < 2 ^ 31
    → reply_read tag sent (framed (reply_text sent.xid (Success r))) ≡ Gives outcomes last) same
    (told tag sent outcomes last small is (subst with_tag tag_is fits)) in
    let encoding_is : compound_result.encoding (code_of last, (tag, outcomes)) ≡ result_of request last =
    ap (λ (t : List ℕ). compound_result.encoding (code_of last, (t, outcomes))) (sym tag_is) ∙ sym ends in
    subst (λ (x : ℕ). length (reply_text x (Success (result_of request last))) < 2 ^ 31
    → reply_read tag sent (framed (reply_text x (Success (result_of request last)))) ≡ Gives outcomes last) (sym xid_is)
    (here (result_of request last) encoding_is)
