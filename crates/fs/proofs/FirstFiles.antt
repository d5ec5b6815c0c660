-- The file that an OPEN makes: it may be made, and is the one that the definition says.
use Rattle.std.proofs.Common.{◌≡◌, ◌≤◌, ◌<◌, ℕ, Bool, false, List, Option, Some, None, refl, sym, ap, ◌∙◌, arith, subst}
use Rattle.std.specs.Prelude.{unwrap_or}
use Rattle.std.specs.Option.{ForSome}
use Rattle.std.proofs.lemmas.List.Elements.{All-replicate}
use Rattle.tree_edits.proofs.BlankLaws.{length-zeros}
use Rattle.layout.specs.CachedNodes.{CachedNode}
use Rattle.model_tree.specs.declared.acl.Ace.{Ace}
use Rattle.model_tree.specs.declared.acl.Cred.{Cred}
use Rattle.model_tree.specs.declared.limits.Limits.{Limits}
use Rattle.model_tree.specs.declared.node.NodeKind.TheVariants as kind
use Rattle.model.specs.Attributes.Attribute.{is_empty, mode_given, size_given}
use Rattle.model_tree.specs.Trees.Tree.{is_named, Node, entry_of, names_at}
use Rattle.model_tree.specs.Trees.Changes.{acl_of}
use Rattle.model_tree.specs.Trees.Edit.{Metadata}
use Rattle.model_tree.specs.Rights.Inherit.{created_list}
use Rattle.model_tree.specs.Trees.Keyed.{at}
use Rattle.volume.proofs.LimitLaws.{file_most}
use Rattle.volume.specs.VolumeState.{IsLimited}
use Rattle.model_tree.specs.Refusals.Name.{name_refusals}
use Rattle.model.specs.Operations.Open.{new_file}
use Rattle.model.specs.Operations.Operation.{Attributes}
use Rattle.model_tree.specs.Refusals.Refusal.{first_refusal}
use Rattle.model_tree.specs.Trees.Stamp.{next_stamp}
use Rattle.model_tree.specs.Trees.WellFormed.{IsNode}
use Rattle.model_tree.proofs.Facts.OptionLaws.{none_by_test}
use Rattle.wire_attributes.specs.declared.settings.Settings.{Settings}
use Rattle.wire_attributes.specs.Given.{AreSettings, WithinLimits}
use Rattle.fs.specs.FileSystem.{FileSystem}
use Rattle.fs.specs.Making.{first_node, IsDirectoryOf, IsSizeOf, MayBeMade}
use Rattle.fs.specs.Planned.{IsList, child_metadata, list_by}
use Rattle.fs.specs.Ready.{MayStand}
use Rattle.fs.proofs.CreatedLaws.{listed}
use Rattle.fs.proofs.EntryLaws.{given_list_fits}

size_within : (size : Option ℕ) (most : ℕ) → ForSome size (λ some. some ≤ most) → unwrap_or size 0 ≤ most
size_within None most within = omega arith
size_within (Some some) most within = within some refl

module _ (fs : FileSystem) (formed : MayStand fs.volume fs.changes) (limited : IsLimited fs.volume)
    (cred : Cred) (now number : ℕ) (name : List ℕ) (given : Attributes) (cached : CachedNode) (parent : IsDirectoryOf fs.volume.tree number cached)
    (allowed : first_refusal (name_refusals fs.volume.limits name) ≡ None) (lacks : is_named fs.volume.tree number name ≡ false)
    (settings : Settings) (set : AreSettings settings given) (within : WithinLimits fs.volume.limits kind.File settings) (size : ℕ) (size_is : size ≡ unwrap_or settings.size 0) where
  low : size ≤ fs.volume.limits.file_bytes
  low = (let is = size_within settings.size fs.volume.limits.file_bytes within.size in omega (arith, is, size_is))

  pub has_size : IsSizeOf kind.File size
  has_size = record { none = λ other. absurd cc; low = (let most : fs.volume.limits.file_bytes ≤ 16777216 = file_most fs.volume limited in omega (arith, low, most)) }

  abbrev own : ℕ
  own = next_stamp fs.volume.run fs.changes

  module _ (stamp : ℕ) (child : Metadata) (stamp_is : stamp ≡ own) (child_is : child ≡ child_metadata cred (list_by kind.File cached.fields.acl settings) stamp now) where
    pub made_is : first_node kind.File size child ≡ new_file cred (acl_of (at number fs.volume.tree)) given own now
    made_is =
        let by : ℕ → ℕ → List Ace → Bool → Option ℕ → Option (List Ace) → Node =
        λ n s acl nothing_given mode list. first_node kind.File n (child_metadata cred (created_list acl kind.File nothing_given mode list) s now) in
        let acl_is : cached.fields.acl ≡ acl_of (at number fs.volume.tree) = sym parent.node.acl ∙ sym (ap acl_of parent.node.there) in
        ap (first_node kind.File size) child_is
        ∙ ap (λ (n : ℕ). by n stamp cached.fields.acl settings.is_empty settings.mode settings.acl) (size_is ∙ ap (λ (o : Option ℕ). unwrap_or o 0) set.size)
        ∙ ap (λ (s : ℕ). by (unwrap_or (size_given given) 0) s cached.fields.acl settings.is_empty settings.mode settings.acl) stamp_is
        ∙ ap (λ (acl : List Ace). by (unwrap_or (size_given given) 0) own acl settings.is_empty settings.mode settings.acl) acl_is
        ∙ ap (λ (b : Bool). by (unwrap_or (size_given given) 0) own (acl_of (at number fs.volume.tree)) b settings.mode settings.acl) set.empty
        ∙ ap (λ (m : Option ℕ). by (unwrap_or (size_given given) 0) own (acl_of (at number fs.volume.tree)) (is_empty given.bitmap) m settings.acl) set.mode
        ∙ ap (by (unwrap_or (size_given given) 0) own (acl_of (at number fs.volume.tree)) (is_empty given.bitmap) (mode_given given)) set.acl

    list_of_it : IsList fs.volume.limits kind.File child.acl
    list_of_it = subst (λ (s : Metadata). IsList fs.volume.limits kind.File s.acl) (sym child_is)
        (given_list_fits fs.volume limited kind.File cached.fields.acl (listed fs formed number cached parent) settings within)

    is_node : IsNode fs.volume.limits (first_node kind.File size child)
    is_node = record {
      entries = list_of_it;
      content = (
        All-replicate (λ (byte : ℕ). byte < 256) size 0 (omega arith),
        (let few = low in omega (arith, few, length-zeros size)),
      );
    }

    pub may : MayBeMade fs number name (first_node kind.File size child)
    may = record {
      allowed = allowed;
      new = none_by_test (entry_of name (names_at fs.volume.tree number)) lacks;
      is_node = is_node;
      change = ap (λ (s : Metadata). s.change) child_is ∙ stamp_is;
    }
