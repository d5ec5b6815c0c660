use Rattle.std.proofs.Common.{◌≡◌, ◌∙◌, sym, ap}
use Rattle.model_tree.specs.Rights.Acl.{read_acl}
use Rattle.model.specs.Operations.Answer.{Answer}
use Rattle.model.specs.Attributes.Attribute.{attributes_of, is_among}
use Rattle.model.specs.Attributes.NodeAttributes.{node_attributes}
use Rattle.model.specs.Operations.Operation.{Argument, Attributes}
use Rattle.model.specs.Operations.SetAttr.{asks_acls}
use Rattle.model.specs.Operations.Step.{answered, does}
use Rattle.fs.specs.Views.{fs_of}
use Rattle.fs.proofs.AttributeLaws.{attributes_are}
use Rattle.fs.proofs.CachedNodeViews.{granted_by}
use Rattle.fs.proofs.ReadingLaws.{attributes_gone, attributes_denied, attributes_unlisted, attributes_granted}
use Rattle.fs.proofs.fs.Fs.asked_attributes.Goals as goal
use Rattle.fs.proofs.fs.Fs.asked_attributes.Goals.{else-is_asked-via-then-is_asked+else-not-grants, else-is_asked-via-else-is_asked}

pub returns-in_default-clause-attributes : goal.returns-in_default-clause-attributes
unfolding fs_of
returns-in_default-clause-attributes g c state now is =
    let held = (fs_of c.args.self.now).volume in
    attributes_gone held.limits held.tree c.args.cred.now c.args.number state now is c.args.asked.now c.in_default.ensures.none

pub returns-then-not-grants-clause-attributes : goal.returns-then-not-grants-clause-attributes
unfolding fs_of
returns-then-not-grants-clause-attributes g c state now is =
    let held = (fs_of c.args.self.now).volume in
    let node = c.in-Some.ensures.some in
    let bitmap = c.args.asked.now in
    attributes_denied held.limits held.tree c.args.cred.now c.args.number state now is bitmap node.node node.there
    (sym (c.is_asked.ensures ∙ ap (is_among (attributes_of bitmap)) c.number.ensures) ∙ c.if-is_asked.true)
    (sym (granted_by held.tree c.args.number c.in-Some.cached.now node c.args.cred.now read_acl) ∙ (sym c.grants.ensures ∙ c.if-not-grants.true))

pub returns-clause-attributes : goal.returns-clause-attributes
unfolding fs_of
returns-clause-attributes g c state now is =
    let held = (fs_of c.args.self.now).volume in
    let cached_node = c.in-Some.cached.now in
    let node = c.in-Some.ensures.some in
    let bitmap = c.args.asked.now in
    let listed : c.is_asked.result ≡ asks_acls bitmap = c.is_asked.ensures ∙ ap (is_among (attributes_of bitmap)) c.number.ensures in
    let told : does held.limits state now (Argument.GetAttr bitmap) ≡ answered state (Answer.GetAttr (node_attributes held.limits bitmap c.args.number node.node)) =
    elim c.else-is_asked.branch [
      | else-is_asked-via-then-is_asked+else-not-grants w ↦
          attributes_granted held.limits held.tree c.args.cred.now c.args.number state now is bitmap node.node node.there (sym listed ∙ w.if-is_asked.true)
          (sym (granted_by held.tree c.args.number cached_node node c.args.cred.now read_acl) ∙ (sym w.grants.ensures ∙ w.if-not-grants.false))
      | else-is_asked-via-else-is_asked w ↦
          attributes_unlisted held.limits held.tree c.args.cred.now c.args.number state now is bitmap node.node node.there (sym listed ∙ w.if-is_asked.false)
    ] in
    told
    ∙ ap (λ (metadata : Attributes). answered state (Answer.GetAttr metadata))
    (attributes_are cached_node c.in-Some.ensures.fit held.limits held.tree c.args.number node bitmap ∙ sym (c.metadata.ensures.shows bitmap))
