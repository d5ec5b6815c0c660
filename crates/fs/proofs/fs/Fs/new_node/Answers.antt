use Rattle.std.proofs.Common.{◌≡◌, ap, sym, subst, arith, rules}
use Rattle.model_tree.specs.declared.limits.Limits.{Limits}
use Rattle.fs.specs.Views.{fs_of}
use Rattle.fs.specs.Planned.{IsList, list_by}
use Rattle.fs.proofs.EntryLaws.{small_list, given_list_fits}
use Rattle.volume.specs.Views.{volume_state}
use Rattle.volume.proofs.LimitLaws.{limited_of}
use Rattle.fs.proofs.fs.Fs.new_node.Goals as goal

pub returns-clause-entries : goal.returns-clause-entries
unfolding fs_of volume_state
returns-clause-entries g c =
    let held = (fs_of c.args.self.now).volume in
    let is : c.in_ok-acl.acl ≡ list_by c.args.kind c.args.parent.now.fields.acl c.args.settings = search rules in
    let list : IsList held.limits c.args.kind c.in_ok-acl.acl = subst (IsList held.limits c.args.kind) (sym is)
    (given_list_fits held (limited_of c.args.self.now.volume) c.args.kind c.args.parent.now.fields.acl c.requires.listed c.args.settings c.requires.within) in
    let small = small_list held.limits c.args.kind c.in_ok-acl.acl list in
    let few = small.few in
    let most : held.limits.aces ≡ 72 = ap (λ (l : Limits). l.aces) (limited_of c.args.self.now.volume).limits in
    record { few = omega (arith, few, most); each = small.each }

pub returns-clause-metadata : goal.returns-clause-metadata
unfolding fs_of
returns-clause-metadata g c = search rules
