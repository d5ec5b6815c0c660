use Rattle.std.proofs.Common.{◌∙◌, [], sym}
use Rattle.tree_transaction.proofs.PendingLaws.{content-none, content-some, content_of-at}
use Rattle.tree_transaction.proofs.updates.content_at.Goals as goal

pub returns-in-Some : goal.returns-in-Some
returns-in-Some c = c.encode.ensures ∙ sym (content-some c.args.list.now c.args.pending.now c.args.place c.index-pending-place.result c.in-Some.inode c.requires.whole c.requires.within (sym c.index-pending-place.is ∙ c.in-Some.is))

pub returns-in_default : goal.returns-in_default
returns-in_default c = sym (content-none c.args.list.now c.args.pending.now c.args.place c.index-pending-place.result c.requires.whole c.requires.within (sym c.index-pending-place.is ∙ c.in_default.is)
    ∙ content_of-at c.args.list.now c.args.place (record { target = 0; content = [] }) c.requires.within)
