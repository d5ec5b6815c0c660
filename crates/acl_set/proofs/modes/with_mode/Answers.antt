use Rattle.std.proofs.Common.{◌&&◌, [], ◌∷◌, not, filter, map}
use Rattle.model_tree.specs.Rights.Acl.{counts, is_special}
use Rattle.model_tree.specs.Rights.Mode.{entry, group_bits, has_rights, is_handed_down, limited, moded, not_counting, other_bits, owner_bits, rights_lacking, rights_of}
use Rattle.model_tree.specs.declared.acl.Ace.{Ace}
use Rattle.model_tree.specs.declared.acl.AceKind.TheVariants as kind
use Rattle.model_tree.specs.declared.acl.Who.TheVariants as who
use Rattle.acl_set.proofs.Kept.{filter-five}
use Rattle.acl_set.proofs.modes.with_mode.Goals as goal

pub returns-clause-list : goal.returns-clause-list
unfolding moded
returns-clause-list c =
    let of = c.args.kind in
    let mode = c.args.mode in
    rw (c.in_ok-push_handed_down.ensures, c.in_ok-push_if_any.ensures, c.in_ok-push_special-2.ensures, c.in_ok-push_numbers.ensures, c.in_ok-push_special.ensures, c.new-list.ensures, c.entry.ensures, c.rights_of.ensures)
    (filter-five has_rights
    (entry kind.Allow who.Owner (rights_of of (owner_bits mode)) ∷ entry kind.Deny who.Owner (rights_lacking of (owner_bits mode)) ∷ [])
    (map (limited of mode) (filter (λ (ace : Ace). counts ace && not (is_special ace.who)) c.args.acl.now))
    (entry kind.Allow who.Group (rights_of of (group_bits mode)) ∷ entry kind.Deny who.Group (rights_lacking of (group_bits mode)) ∷ [])
    (entry kind.Allow who.Everyone (rights_of of (other_bits mode)) ∷ [])
    (map not_counting (filter is_handed_down c.args.acl.now)))
