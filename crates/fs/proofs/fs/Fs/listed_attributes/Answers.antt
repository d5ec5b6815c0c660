use Rattle.std.proofs.Common.{◌≡◌, ◌∙◌, ◌⊎◌, true, false, inl, inr, sym, ap}
use Rattle.model_tree.specs.Trees.Keyed.{at}
use Rattle.model.specs.Operations.ReadDir.{may_read_acl}
use Rattle.model.specs.Operations.SetAttr.{attributes_at}
use Rattle.fs.specs.Views.{fs_of}
use Rattle.fs.proofs.AttributeLaws.{attributes_are}
use Rattle.fs.proofs.ListLaws.{attributes_shown}
use Rattle.fs.proofs.fs.Fs.listed_attributes.Goals as goal
use Rattle.fs.proofs.fs.Fs.listed_attributes.Goals.{else-hides_unreadable-via-then-hides_unreadable+else-not-may_read_acl, else-hides_unreadable-via-else-hides_unreadable}

pub returns-in-Some-clause-view : goal.returns-in-Some-clause-view
unfolding fs_of
returns-in-Some-clause-view g c =
    let held = (fs_of c.args.self.now).volume in
    let bitmap = c.args.asked.now in
    let number = c.args.number in
    let is = c.in-Some.ensures.some in
    let may : (c.args.hides_unreadable ≡ false) ⊎ (may_read_acl c.args.cred.now (at number held.tree) ≡ true) =
    elim c.else-hides_unreadable.branch [
      | else-hides_unreadable-via-then-hides_unreadable+else-not-may_read_acl w ↦ inr (sym w.may_read_acl.ensures ∙ w.if-not-may_read_acl.false)
      | else-hides_unreadable-via-else-hides_unreadable w ↦ inl w.if-hides_unreadable.false
    ] in
    c.metadata.ensures.shows bitmap
    ∙ sym (attributes_are c.in-Some.cached.now c.in-Some.ensures.fit held.limits held.tree number is bitmap)
    ∙ sym (ap (attributes_at held.limits bitmap number) is.there)
    ∙ sym (attributes_shown held.limits c.args.cred.now c.args.hides_unreadable bitmap number (at number held.tree) may)
