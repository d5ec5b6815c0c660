use Rattle.std.proofs.Common.{◌≡◌, ◌-◌, ◌++◌, List, ℕ, is_some, sym, subst, ap, ◌∙◌, arith}
use Rattle.std.specs.Option.{option_map}
use Rattle.std.specs.Prelude.{length, take, drop}
use Rattle.model.specs.Wire.Record.{framed}
use Rattle.model.specs.Wire.Rpc.{Success, compound_text, reply_text}
use Rattle.model.specs.Server.World.{kept_by, result_of}
use Rattle.rpc.specs.Views.{result_text}
use Rattle.session.specs.Views.{table_of}
use Rattle.compound.specs.Turns.{AreOfReply}
use Rattle.compound.specs.Views.{in_progress_of, slot_of}
use Rattle.compound.proofs.Replies.{framed_length, result_within, result_length, success_length}
use Rattle.compound.proofs.running.Running.end.Goals as goal

pub write_reply-requires : goal.write_reply-requires
unfolding in_progress_of
write_reply-requires c = omega (arith, c.args.self.brief, ap length (c.result_of-compound.ensures.results ∙ c.as_slice.ensures))

pub unreachable-requires : goal.unreachable-requires
unfolding in_progress_of
unreachable-requires c =
    let result = result_text c.result_of-compound.result in
    let text : result ≡ result_of (in_progress_of c.args.self) c.args.last.status =
    c.result_of-compound.ensures.text ∙ ap (compound_text c.args.last.status c.args.self.compound.tag.bytes.now c.args.self.progress.answered) c.as_slice.ensures in
    omega (
      arith,
      c.in-Err.ensures.full,
      c.args.self.progress.reply_room,
      ap length c.args.self.progress.reply_fresh,
      framed_length (reply_text c.args.self.xid (Success result)),
      success_length c.args.self.xid result,
      c.args.self.brief,
      result_length (in_progress_of c.args.self) c.args.last.status,
      ap length text,
    )

-- The record, and the result in it

pub invariant_of-kept : goal.invariant_of-kept
unfolding in_progress_of
invariant_of-kept c =
    let text : result_text c.result_of-compound.result ≡ result_of (in_progress_of c.args.self) c.args.last.status =
    c.result_of-compound.ensures.text ∙ ap (compound_text c.args.last.status c.args.self.compound.tag.bytes.now c.args.self.progress.answered) c.as_slice.ensures in
    let whole : c.deref.result.now ≡ framed (reply_text c.args.self.xid (Success (result_text c.result_of-compound.result))) =
    c.deref.ensures.value ∙ (c.in-Ok.ensures.ok ∙ ap (λ (prefix : List ℕ). prefix ++ framed (reply_text c.args.self.xid (Success (result_text c.result_of-compound.result)))) c.args.self.progress.reply_fresh) in
    let within : take (length c.deref.result.now - 28) (drop 28 c.deref.result.now) ≡ result_of (in_progress_of c.args.self) c.args.last.status =
    result_within c.args.self.xid (result_text c.result_of-compound.result) c.deref.result.now whole ∙ text in
    record { short = omega (arith, c.args.self.brief, result_length (in_progress_of c.args.self) c.args.last.status, ap length within) }

pub keep_by-left-requires-clause-edits : goal.keep_by-left-requires-clause-edits
unfolding in_progress_of
keep_by-left-requires-clause-edits c =
    let text : result_text c.result_of-compound.result ≡ result_of (in_progress_of c.args.self) c.args.last.status =
    c.result_of-compound.ensures.text ∙ ap (compound_text c.args.last.status c.args.self.compound.tag.bytes.now c.args.self.progress.answered) c.as_slice.ensures in
    let whole : c.deref.result.now ≡ framed (reply_text c.args.self.xid (Success (result_text c.result_of-compound.result))) =
    c.deref.ensures.value ∙ (c.in-Ok.ensures.ok ∙ ap (λ (prefix : List ℕ). prefix ++ framed (reply_text c.args.self.xid (Success (result_text c.result_of-compound.result)))) c.args.self.progress.reply_fresh) in
    let within : take (length c.deref.result.now - 28) (drop 28 c.deref.result.now) ≡ result_of (in_progress_of c.args.self) c.args.last.status =
    result_within c.args.self.xid (result_text c.result_of-compound.result) c.deref.result.now whole ∙ text in
    subst (λ (bytes : List ℕ). AreOfReply (option_map slot_of c.args.self.progress.slot) bytes (table_of c.args.table.now) c.args.last.edits) (sym within) c.requires

pub returns-clause-kept : goal.returns-clause-kept
unfolding in_progress_of
returns-clause-kept c =
    let text : result_text c.result_of-compound.result ≡ result_of (in_progress_of c.args.self) c.args.last.status =
    c.result_of-compound.ensures.text ∙ ap (compound_text c.args.last.status c.args.self.compound.tag.bytes.now c.args.self.progress.answered) c.as_slice.ensures in
    let whole : c.deref.result.now ≡ framed (reply_text c.args.self.xid (Success (result_text c.result_of-compound.result))) =
    c.deref.ensures.value ∙ (c.in-Ok.ensures.ok ∙ ap (λ (prefix : List ℕ). prefix ++ framed (reply_text c.args.self.xid (Success (result_text c.result_of-compound.result)))) c.args.self.progress.reply_fresh) in
    let within : take (length c.deref.result.now - 28) (drop 28 c.deref.result.now) ≡ result_of (in_progress_of c.args.self) c.args.last.status =
    result_within c.args.self.xid (result_text c.result_of-compound.result) c.deref.result.now whole ∙ text in
    c.keep_by-left.ensures ∙ ap (λ (bytes : List ℕ). kept_by (option_map slot_of c.args.self.progress.slot) (is_some c.args.last.edits) bytes (table_of c.args.table.now)) within
