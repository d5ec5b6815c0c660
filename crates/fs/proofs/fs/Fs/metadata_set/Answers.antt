use Rattle.std.proofs.Common.{◌≡◌, ap, sym, subst, arith, rules}
use Rattle.model_tree.specs.declared.limits.Limits.{Limits}
use Rattle.model.specs.Operations.SetAttr.{list_set}
use Rattle.fs.specs.Views.{fs_of}
use Rattle.fs.specs.Planned.{IsList}
use Rattle.fs.proofs.EntryLaws.{small_list, set_list}
use Rattle.volume.specs.Views.{volume_state}
use Rattle.volume.proofs.LimitLaws.{limited_of}
use Rattle.fs.proofs.fs.Fs.metadata_set.Goals as goal

pub returns-clause-entries : goal.returns-clause-entries
unfolding fs_of volume_state
returns-clause-entries g c =
    let held = (fs_of c.args.self.now).volume in
    let fields = c.args.cached.now.fields in
    let is : c.in_ok-acl.acl ≡ list_set fields.kind fields.acl c.args.settings.mode c.args.settings.acl = search rules in
    let list : IsList held.limits fields.kind c.in_ok-acl.acl = subst (IsList held.limits fields.kind) (sym is)
    (set_list held (limited_of c.args.self.now.volume) fields.kind fields.acl c.requires.listed c.args.settings c.requires.within) in
    let small = small_list held.limits fields.kind c.in_ok-acl.acl list in
    let few = small.few in
    let most : held.limits.aces ≡ 72 = ap (λ (l : Limits). l.aces) (limited_of c.args.self.now.volume).limits in
    record { few = omega (arith, few, most); each = small.each }
