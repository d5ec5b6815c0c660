-- The entries of a list that a node may have.
use Rattle.std.proofs.Common.{◌≡◌, ◌≤◌, ◌<◌, ◌+◌, ◌^◌, ℕ, true, ◌&&◌, bit_and, List, [], ◌∷◌, length, option_map, sym, ap, ◌∙◌, arith, subst}
use Rattle.std.specs.List.{AllByRecursion, list_all}
use Rattle.std.proofs.lemmas.Bool.{and_parts, eqb-true, leb-true, ltb-true}
use Rattle.std.proofs.lemmas.Nat.{and_le_l}
use Rattle.std.proofs.Math.Logic.{∥∥₁_elim}
use Rattle.std.proofs.Props.{props}
use Rattle.tree_edits.specs.Outlines.{blank_node, without_data}
use Rattle.tree_edits.proofs.BlankLaws.{at-without_data}
use Rattle.inode.specs.Fields.{IsAce, id_of}
use Rattle.layout.specs.CachedNodes.{CachedNode}
use Rattle.model_tree.specs.declared.acl.Ace.{Ace}
use Rattle.model_tree.specs.declared.acl.Who.{Who}
use Rattle.model_tree.specs.declared.acl.Who.TheVariants as who
use Rattle.model_tree.specs.declared.limits.Limits.{Limits}
use Rattle.model_tree.specs.declared.node.NodeKind.{NodeKind}
use Rattle.model_tree.specs.declared.node.NodeKind.TheVariants as kind
use Rattle.model_tree.specs.Rights.Acl.{is_within, every_right, inheritance, are_flags_for, has_width, is_entry_for, is_list_for}
use Rattle.model_tree.specs.Rights.Inherit.{created_list}
use Rattle.volume.specs.VolumeState.{IsLimited, VolumeState}
use Rattle.model.specs.Operations.SetAttr.{list_set}
use Rattle.model.proofs.Operations.FileStepLaws.{list_given, list_is_set}
use Rattle.model_tree.proofs.Rights.LimitLaws.{modes_keep_limits, inheritance_keeps_limits}
use Rattle.wire_attributes.specs.declared.settings.Settings.{Settings}
use Rattle.wire_attributes.specs.Given.{WithinLimits}
use Rattle.fs.specs.FileSystem.{FileSystem}
use Rattle.fs.specs.Planned.{IsList}
use Rattle.fs.specs.Ready.{MayStand}
use Rattle.volume.specs.Nodes.{IsNodeOf}

-- no other flag than those of inheritance, and of a file's entries none at all
few_for : (of : NodeKind) (flags : ℕ) → are_flags_for of flags ≡ true → flags < 16
few_for kind.Directory flags are =
    let within = eqb-true (bit_and inheritance flags) flags (and_parts _ _ are).0 in
    omega (arith, within, and_le_l inheritance flags)
few_for kind.File flags are = (let none = eqb-true flags 0 are in omega (arith, none))

known_rights : (mask : ℕ) → is_within mask every_right ≡ true → mask < 2 ^ 32
known_rights mask is = (let within = eqb-true (bit_and every_right mask) mask is in omega (arith, within, and_le_l every_right mask))

known_number : (name : Who) → has_width name ≡ true → id_of name < 2 ^ 32
known_number who.Owner has = omega arith
known_number who.Group has = omega arith
known_number who.Everyone has = omega arith
known_number (who.User number) has = ltb-true number (2 ^ 32) has
known_number (who.NamedGroup number) has = ltb-true number (2 ^ 32) has

-- an entry that a node may have can be encoded
each_encoded : (of : NodeKind) (acl : List Ace) → list_all (is_entry_for of) acl ≡ true → AllByRecursion IsAce acl
each_encoded of [] all = tt
each_encoded of (ace ∷ acl) all =
    let parts = and_parts _ _ all in
    let entry = and_parts (are_flags_for of ace.flags.0 && is_within ace.mask.0 every_right) (has_width ace.who) parts.0 in
    let prefix = and_parts (are_flags_for of ace.flags.0) (is_within ace.mask.0 every_right) entry.0 in (
      record { flags = few_for of ace.flags.0 prefix.0; mask = known_rights ace.mask.0 prefix.1; id = known_number ace.who entry.1 },
      each_encoded of acl parts.1,
    )

pub record IsSmall (acl : List Ace) (most : ℕ) : Type 0 where
  pub each : AllByRecursion IsAce acl
  pub few : length acl ≤ most

pub small_list : (limits : Limits) (of : NodeKind) (acl : List Ace) → IsList limits of acl → IsSmall acl limits.aces
unfolding is_list_for
small_list limits of acl is =
    let prefix = and_parts _ _ is in
    let parts = and_parts _ _ prefix.0 in
    record { each = each_encoded of acl parts.0; few = leb-true (length acl) limits.aces parts.1 }

-- no node has more entries than the limit, whatever its form has room for
pub few_listed : (fs : FileSystem) → MayStand fs.volume fs.changes → IsLimited fs.volume
    → (number : ℕ) (cached : CachedNode) → IsNodeOf fs.volume.tree number cached
    → length cached.fields.acl ≤ 72
few_listed fs formed limited number cached node = ∥∥₁_elim formed.well_formed (Prim.hlevel props) (λ well.
    let is = well.nodes number (blank_node node.node) (at-without_data fs.volume.tree number ∙ ap (option_map blank_node) node.there) in
    let small = small_list fs.volume.limits _ node.node.acl is.entries in
    let most : fs.volume.limits.aces ≡ 72 = ap (λ (l : Limits). l.aces) limited.limits in
    let same : length node.node.acl ≡ length cached.fields.acl = ap (λ (l : List Ace). length l) node.acl in
    omega (arith, small.few, most, same))

-- the list of a new node may be one if the list that is given may
pub given_list_fits : (held : VolumeState) → IsLimited held → (of : NodeKind) (parent : List Ace) → IsList held.limits kind.Directory parent
    → (settings : Settings) → WithinLimits held.limits of settings → IsList held.limits of (created_list parent of settings.is_empty settings.mode settings.acl)
given_list_fits held limited of parent is settings within =
    let limits = held.limits in
    let room : limits.aces_set + 5 ≤ limits.aces = subst (λ (l : Limits). l.aces_set + 5 ≤ l.aces) (sym limited.limits) (omega arith) in
    list_given modes_keep_limits inheritance_keeps_limits limits of room parent is settings.is_empty settings.mode settings.acl
    (λ list said. within.acl (omega (arith, room)) list said)

-- and so may the list that a node has if one, or a mode, is set
pub set_list : (held : VolumeState) → IsLimited held → (of : NodeKind) (acl : List Ace) → IsList held.limits of acl
    → (settings : Settings) → WithinLimits held.limits of settings → IsList held.limits of (list_set of acl settings.mode settings.acl)
set_list held limited of acl is settings within =
    let limits = held.limits in
    let room : limits.aces_set + 5 ≤ limits.aces = subst (λ (l : Limits). l.aces_set + 5 ≤ l.aces) (sym limited.limits) (omega arith) in
    list_is_set modes_keep_limits inheritance_keeps_limits limits of room acl is settings.mode settings.acl
    (λ list said. within.acl (omega (arith, room)) list said)
