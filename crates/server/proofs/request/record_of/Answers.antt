use Rattle.std.proofs.Common.{ℕ, List, length, ◌++◌, ap, ◌∙◌, arith}
use Rattle.model.specs.Wire.Record.{framed}
use Rattle.model.specs.Wire.Rpc.{reply_text}
use Rattle.rpc.specs.Views.{reply_view}
use Rattle.server.proofs.request.record_of.Goals as goal

pub write_reply-requires : goal.write_reply-requires
write_reply-requires c = omega (arith, ap length c.requires)

pub returns-in-Ok-write_reply-clause-ok : goal.returns-in-Ok-write_reply-clause-ok
returns-in-Ok-write_reply-clause-ok c =
    c.in-Ok-write_reply.ensures.ok ∙ ap (λ (prefix : List ℕ). prefix ++ framed (reply_text c.args.xid (reply_view c.args.reply.now))) c.in-Ok.ensures.bytes
