use Rattle.std.proofs.Common.{[], ◌∷◌, sym, subst}
use Rattle.tree_edits.specs.declared.edit.Edit.{Edit}
use Rattle.tree_edits.specs.declared.edit.Edit.TheVariants as edit
use Rattle.tree_edits.specs.Doing.{DoesEdits}
use Rattle.tree_edits.proofs.ListLaws.{anywhere}
use Rattle.tree_edits.proofs.doing.edit_one.Goals as goal

pub returns-in_ok-put_node-in-PutNode-clause-done : goal.returns-in_ok-put_node-in-PutNode-clause-done
returns-in_ok-put_node-in-PutNode-clause-done g c = subst (λ (edit : Edit). DoesEdits g.S.Sectors.keeps_word (g.S.Sectors.image (g.S.Sectors.kept c.args.base.now)) (g.S.Sectors.size (g.S.Sectors.kept c.args.base.now)) c.args.transaction.now c.put_node.new.transaction (edit ∷ []))
    (sym c.in-PutNode.is)
    (anywhere g.S.Sectors.keeps_word (g.S.Sectors.image (g.S.Sectors.kept c.args.base.now)) (g.S.Sectors.size (g.S.Sectors.kept c.args.base.now)) c.args.transaction.now c.put_node.new.transaction (edit.PutNode c.in-PutNode.number c.in-PutNode.kind c.in-PutNode.metadata) c.in_ok-put_node-in-PutNode.ensures.done)

pub returns-in_ok-drop_node-in-DropNode-clause-done : goal.returns-in_ok-drop_node-in-DropNode-clause-done
returns-in_ok-drop_node-in-DropNode-clause-done g c = subst (λ (edit : Edit). DoesEdits g.S.Sectors.keeps_word (g.S.Sectors.image (g.S.Sectors.kept c.args.base.now)) (g.S.Sectors.size (g.S.Sectors.kept c.args.base.now)) c.args.transaction.now c.drop_node.new.transaction (edit ∷ []))
    (sym c.in-DropNode.is)
    (anywhere g.S.Sectors.keeps_word (g.S.Sectors.image (g.S.Sectors.kept c.args.base.now)) (g.S.Sectors.size (g.S.Sectors.kept c.args.base.now)) c.args.transaction.now c.drop_node.new.transaction (edit.DropNode c.in-DropNode.number) c.in_ok-drop_node-in-DropNode.ensures.done)

pub returns-in_ok-show-in-Show-clause-done : goal.returns-in_ok-show-in-Show-clause-done
returns-in_ok-show-in-Show-clause-done g c = subst (λ (edit : Edit). DoesEdits g.S.Sectors.keeps_word (g.S.Sectors.image (g.S.Sectors.kept c.args.base.now)) (g.S.Sectors.size (g.S.Sectors.kept c.args.base.now)) c.args.transaction.now c.show.new.transaction (edit ∷ []))
    (sym c.in-Show.is)
    (anywhere g.S.Sectors.keeps_word (g.S.Sectors.image (g.S.Sectors.kept c.args.base.now)) (g.S.Sectors.size (g.S.Sectors.kept c.args.base.now)) c.args.transaction.now c.show.new.transaction (edit.Show c.in-Show.number c.in-Show.metadata) c.in_ok-show-in-Show.ensures.done)

pub returns-in_ok-put_name-in-PutName-clause-done : goal.returns-in_ok-put_name-in-PutName-clause-done
returns-in_ok-put_name-in-PutName-clause-done g c = subst (λ (edit : Edit). DoesEdits g.S.Sectors.keeps_word (g.S.Sectors.image (g.S.Sectors.kept c.args.base.now)) (g.S.Sectors.size (g.S.Sectors.kept c.args.base.now)) c.args.transaction.now c.put_name.new.transaction (edit ∷ []))
    (sym c.in-PutName.is)
    (anywhere g.S.Sectors.keeps_word (g.S.Sectors.image (g.S.Sectors.kept c.args.base.now)) (g.S.Sectors.size (g.S.Sectors.kept c.args.base.now)) c.args.transaction.now c.put_name.new.transaction (edit.PutName c.in-PutName.directory c.in-PutName.stamp c.in-PutName.name c.in-PutName.number) c.in_ok-put_name-in-PutName.ensures.done)

pub returns-in_ok-drop_name-in-DropName-clause-done : goal.returns-in_ok-drop_name-in-DropName-clause-done
returns-in_ok-drop_name-in-DropName-clause-done g c = subst (λ (edit : Edit). DoesEdits g.S.Sectors.keeps_word (g.S.Sectors.image (g.S.Sectors.kept c.args.base.now)) (g.S.Sectors.size (g.S.Sectors.kept c.args.base.now)) c.args.transaction.now c.drop_name.new.transaction (edit ∷ []))
    (sym c.in-DropName.is)
    (anywhere g.S.Sectors.keeps_word (g.S.Sectors.image (g.S.Sectors.kept c.args.base.now)) (g.S.Sectors.size (g.S.Sectors.kept c.args.base.now)) c.args.transaction.now c.drop_name.new.transaction (edit.DropName c.in-DropName.directory c.in-DropName.stamp c.in-DropName.name) c.in_ok-drop_name-in-DropName.ensures.done)
