use Rattle.std.proofs.Common.{◌≡◌, ◌+◌, ◌<◌, ◌++◌, List, ℕ, length, ap, subst, length-append, arith}
use Rattle.std.specs.Prelude.{IfOk}
use Rattle.model.specs.Wire.Record.{framed}
use Rattle.model.specs.Wire.Rpc.{reply_text}
use Rattle.rpc.specs.Views.{frame_header, prefix_of, reply_view}
use Rattle.rpc.proofs.Replies.{record_parts, reply_short, prefix_fits, err_more, err_any}
use Rattle.rpc.proofs.reply.write_reply.Goals as goal

pub overflow_cast-size : goal.overflow_cast-size
overflow_cast-size c = omega (arith, c.size.ensures c.args.xid, reply_short c.args.xid c.args.reply.now)

pub write_prefix-requires : goal.write_prefix-requires
write_prefix-requires c = omega (arith, c.size.ensures c.args.xid, reply_short c.args.xid c.args.reply.now)

pub returns-in_err-write_prefix-clause-full : goal.returns-in_err-write_prefix-clause-full
returns-in_err-write_prefix-clause-full c =
    let fits = prefix_fits c.size.result c.args.xid c.args.reply.now (c.size.ensures c.args.xid) in
    let full : c.args.out.capacity < length c.args.out.bytes + length (frame_header c.size.result ++ prefix_of c.args.xid c.args.reply.now) = c.in_err-write_prefix.ensures.full in
    err_any c.from_residual.result _ (omega arith)

pub returns-clause-ok : goal.returns-clause-ok
returns-clause-ok c =
    subst (λ (text : List ℕ). IfOk c.append_to.result (λ bytes. bytes.items ≡ text))
    (record_parts c.args.out.bytes c.write_prefix.new.w.bytes c.tail.result.now c.size.result c.args.xid c.args.reply.now c.in_ok-write_prefix.ensures.ok c.tail.ensures (c.size.ensures c.args.xid))
    c.append_to.ensures.ok

pub returns-clause-full : goal.returns-clause-full
returns-clause-full c =
    let wrote = c.in_ok-write_prefix.ensures in
    let keeps = wrote.keeps in
    let whole = record_parts c.args.out.bytes c.write_prefix.new.w.bytes c.tail.result.now c.size.result c.args.xid c.args.reply.now wrote.ok c.tail.ensures (c.size.ensures c.args.xid) in
    err_more c.append_to.result _ _
    (λ h. omega (
      arith,
      ap length whole,
      length-append c.write_prefix.new.w.bytes c.tail.result.now,
      length-append c.args.out.bytes (framed (reply_text c.args.xid (reply_view c.args.reply.now))),
    )) c.append_to.ensures.full
