-- The texts of replies, in the parts that are written.
use Rattle.std.proofs.Common.{◌≡◌, ℕ, ◌+◌, ◌≤◌, List, [], ◌++◌, length, replicate, Result, Ok, Err, refl, ap, sym, ◌∙◌, append_assoc, length-append, arith}
use Rattle.std.specs.Prelude.{OnErr}
use Rattle.xdr.specs.declared.refusal.Refusal.{Refusal}
use Rattle.std.specs.Int.{w32}
use Rattle.std.proofs.lemmas.List.{length-replicate}
use Rattle.xdr.specs.Grammar.{number}
use Rattle.xdr.specs.Forms.{padding, padded, counted}
use Rattle.xdr.proofs.Numbers.{length-number_32}
use Rattle.model_tree.specs.Refusals.Status.{code_of}
use Rattle.rpc.specs.declared.reply.CompoundResult.{CompoundResult}
use Rattle.model_tree.specs.declared.status.Status.{Status}
use Rattle.model.specs.Wire.Record.{framed}
use Rattle.model.specs.Wire.Rpc.{Success, compound_text, reply_text}
use Rattle.rpc.specs.declared.reply.Reply.{Reply}
use Rattle.rpc.specs.declared.reply.Reply.TheVariants as replies
use Rattle.rpc.specs.Views.{success_head, compound_prefix, frame_header, prefix_of, tail_of, reply_view}

pub framed_parts : (text : List ℕ) → framed text ≡ frame_header (length text) ++ text
unfolding framed number
framed_parts text = refl

pub compound_parts : (status : Status) (tag : List ℕ) (count : ℕ) (results : List ℕ) → compound_text status tag count results ≡ compound_prefix status tag count ++ results
unfolding compound_text
compound_parts status tag count results = simp append_assoc

success_parts : (xid : ℕ) (result : List ℕ) → reply_text xid (Success result) ≡ success_head xid ++ result
unfolding reply_text number
success_parts xid result = refl

pub reply_parts : (xid : ℕ) (reply : Reply) → reply_text xid (reply_view reply) ≡ prefix_of xid reply ++ tail_of reply
unfolding reply_text number
reply_parts xid replies.VersionRefused = refl
reply_parts xid (replies.AuthRefused stat) = refl
reply_parts xid replies.ProgramUnavailable = refl
reply_parts xid replies.ProgramMismatch = refl
reply_parts xid replies.ProcedureUnavailable = refl
reply_parts xid replies.GarbageArguments = refl
reply_parts xid (replies.Success result) = refl
reply_parts xid (replies.Compound compound) =
    ap (λ (result : List ℕ). reply_text xid (Success result)) (compound_parts compound.status compound.tag.bytes.now compound.count compound.results.now)
    ∙ success_parts xid (compound_prefix compound.status compound.tag.bytes.now compound.count ++ compound.results.now)
    ∙ sym (append_assoc (success_head xid) (compound_prefix compound.status compound.tag.bytes.now compound.count) compound.results.now)

-- the record of a reply, after other bytes
pub record_parts : (before after tail : List ℕ) (size xid : ℕ) (reply : Reply) → after ≡ before ++ (frame_header size ++ prefix_of xid reply) → tail ≡ tail_of reply
    → size ≡ length (reply_text xid (reply_view reply)) → after ++ tail ≡ before ++ framed (reply_text xid (reply_view reply))
record_parts before after tail size xid reply after_is tail_is size_is =
    let text = reply_text xid (reply_view reply) in
    ap (λ (prefix : List ℕ). prefix ++ tail) after_is
    ∙ append_assoc before (frame_header size ++ prefix_of xid reply) tail
    ∙ ap (λ (all : List ℕ). before ++ all) (append_assoc (frame_header size) (prefix_of xid reply) tail)
    ∙ ap (λ (rest : List ℕ). before ++ (frame_header size ++ (prefix_of xid reply ++ rest))) tail_is
    ∙ ap (λ (all : List ℕ). before ++ (frame_header size ++ all)) (sym (reply_parts xid reply))
    ∙ ap (λ (n : ℕ). before ++ (frame_header n ++ text)) size_is
    ∙ ap (λ (all : List ℕ). before ++ all) (sym (framed_parts text))

-- if there was no memory for a part, there was none for the whole

pub err_more : {A : Type 0} (r : Result A Refusal) (P Q : Type 0) → (P → Q) → OnErr r P → OnErr r Q
err_more (Ok x) P Q f h = tt
err_more (Err e) P Q f h = f h

pub err_any : {A : Type 0} (r : Result A Refusal) (P : Type 0) → P → OnErr r P
err_any (Ok x) P h = tt
err_any (Err e) P h = h

-- the beginning of a record is no longer than the record
pub prefix_fits : (size xid : ℕ) (reply : Reply) → size ≡ length (reply_text xid (reply_view reply)) → length (frame_header size ++ prefix_of xid reply) ≤ length (framed (reply_text xid (reply_view reply)))
prefix_fits size xid reply size_is =
    let whole = record_parts [] (frame_header size ++ prefix_of xid reply) (tail_of reply) size xid reply refl refl size_is in
    omega (arith, ap length whole, length-append (frame_header size ++ prefix_of xid reply) (tail_of reply))

-- what is written of a reply is short

length-counted : (text : List ℕ) → length (counted text) ≤ length text + 7
unfolding counted padded
length-counted text =
    omega (
      arith,
      length-append (number w32 (length text)) (text ++ replicate (padding (length text)) 0),
      length-number_32 (length text),
      length-append text (replicate (padding (length text)) 0),
      length-replicate {A = ℕ} (padding (length text)) 0,
    )

head_length : (xid : ℕ) → length (success_head xid) ≡ 24
unfolding number
head_length xid = refl

compound_short : (xid : ℕ) (compound : CompoundResult) → length (prefix_of xid (replies.Compound compound)) ≤ 512
compound_short xid compound =
    let status = code_of compound.status in
    let tag = compound.tag.bytes.now in
    let small : length tag ≤ 255 = compound.tag.short in
    omega (
      arith,
      head_length xid,
      length-append (success_head xid) (number w32 status ++ (counted tag ++ number w32 compound.count)),
      length-append (number w32 status) (counted tag ++ number w32 compound.count),
      length-number_32 status,
      length-append (counted tag) (number w32 compound.count),
      length-number_32 compound.count,
      length-counted tag,
    )

prefix_short : (xid : ℕ) (reply : Reply) → length (prefix_of xid reply) ≤ 512
unfolding number
prefix_short xid replies.VersionRefused = omega arith
prefix_short xid (replies.AuthRefused stat) = omega arith
prefix_short xid replies.ProgramUnavailable = omega arith
prefix_short xid replies.ProgramMismatch = omega arith
prefix_short xid replies.ProcedureUnavailable = omega arith
prefix_short xid replies.GarbageArguments = omega arith
prefix_short xid (replies.Success result) = omega arith
prefix_short xid (replies.Compound compound) = compound_short xid compound

pub reply_short : (xid : ℕ) (reply : Reply) → length (reply_text xid (reply_view reply)) ≤ 512 + length (tail_of reply)
reply_short xid reply = omega (arith, ap length (reply_parts xid reply), length-append (prefix_of xid reply) (tail_of reply), prefix_short xid reply)
