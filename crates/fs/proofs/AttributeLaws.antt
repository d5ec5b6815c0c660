-- What the cached node of a node says of its attributes.
use Rattle.std.proofs.Common.{◌≡◌, ℕ, List, length, map, refl, sym, ap, subst, ◌∙◌}
use Rattle.std.specs.List.{flat_map}
use Rattle.std.proofs.lemmas.List.{length-replicate}
use Rattle.directory.specs.Listing.{by_stamp}
use Rattle.layout.specs.CachedNodes.{CachedNode}
use Rattle.layout.specs.Known.{IsCached, HasContent}
use Rattle.layout.proofs.ChargeLaws.{length-by_stamp}
use Rattle.model_tree.specs.declared.limits.Limits.{Limits}
use Rattle.model_tree.specs.declared.node.NodeKind.{NodeKind}
use Rattle.model_tree.specs.declared.node.NodeKind.TheVariants as kind
use Rattle.model.specs.Attributes.Attribute.{attributes_of, trimmed}
use Rattle.model.specs.Attributes.AttributeValue.{Value, value_text}
use Rattle.model_tree.specs.Rights.Mode.{mode_of}
use Rattle.model.specs.Attributes.NodeAttributes.{node_values, node_attributes, asked_values, common, supported_bitmap, size_of}
use Rattle.model.specs.Operations.Operation.{Attributes}
use Rattle.model_tree.specs.Trees.Tree.{Tree, Node, kind_of}
use Rattle.fs.specs.Outline.{content_metadata, node_metadata}
use Rattle.fs.proofs.AccessLaws.{kind_is}
use Rattle.volume.specs.Nodes.{IsNodeOf, ShowsContent}
use Rattle.wire_attributes.specs.declared.node.NodeAttributes.{NodeAttributes}
use Rattle.wire_attributes.specs.NodeValues.{attributes_answered, every_attribute, value_of}

-- nodes that show the same have the same values
same_values : (limits : Limits) (m n : ℕ) (a b : Node) → m ≡ n → kind_of a.content ≡ kind_of b.content → size_of a.content ≡ size_of b.content
    → a.owner ≡ b.owner → a.group ≡ b.group → a.acl ≡ b.acl → a.change ≡ b.change → a.time_modify ≡ b.time_modify
    → node_values limits m a ≡ node_values limits n b
same_values limits m n a b number kind size owner group acl change time = rw (number, kind, size, owner, group, acl, change, time) refl

answered_by : (bitmap : List ℕ) → List Value → Attributes
answered_by bitmap values = record {
  bitmap = trimmed (common bitmap supported_bitmap);
  values = flat_map value_text (asked_values (attributes_of bitmap) values);
}

module _ (cached : CachedNode) where
  kind_metadata : (of : NodeKind) → kind_of (content_metadata of cached) ≡ of
  kind_metadata kind.File = refl
  kind_metadata kind.Directory = refl

  module _ (fit : IsCached cached) where
    names_count : cached.fields.kind ≡ kind.Directory → length (by_stamp cached.names) ≡ cached.fields.size
    names_count directory =
        let has = subst (λ (of : NodeKind). HasContent of cached) directory fit.content in
        length-by_stamp cached.names has.stamped ∙ has.count

    size_metadata : size_of (content_metadata cached.fields.kind cached) ≡ cached.fields.size
    size_metadata = by_kind cached.fields.kind refl
      where
        by_kind : (of : NodeKind) → cached.fields.kind ≡ of → size_of (content_metadata of cached) ≡ cached.fields.size
        by_kind kind.File is = length-replicate cached.fields.size 0
        by_kind kind.Directory is = names_count is

    -- what the node of a tree shows, its cached node shows
    module _ (limits : Limits) (tree : Tree) (number : ℕ) (is : IsNodeOf tree number cached) where
      size_is : size_of is.node.content ≡ cached.fields.size
      size_is = by_kind cached.fields.kind refl is.content
        where
          by_kind : (of : NodeKind) → cached.fields.kind ≡ of → ShowsContent of cached is.node.content → size_of is.node.content ≡ cached.fields.size
          by_kind kind.File same file = ap size_of file.file ∙ file.size_is
          by_kind kind.Directory same names = ap size_of names ∙ names_count same

      pub attributes_are : (bitmap : List ℕ) → node_attributes limits bitmap number is.node ≡ node_attributes limits bitmap cached.fields.number (node_metadata cached)
      unfolding node_attributes answered_by
      attributes_are bitmap = ap (answered_by bitmap)
          (same_values limits number cached.fields.number is.node (node_metadata cached) (sym is.number_is) (kind_is tree number cached is ∙ sym (kind_metadata cached.fields.kind))
          (size_is ∙ sym size_metadata) is.owner is.group is.acl is.change is.time_modify)

    -- and so do the attributes that are returned
    pub shows : (limits : Limits) (node : NodeAttributes) → node.kind ≡ cached.fields.kind → node.number ≡ cached.fields.number → node.owner ≡ cached.fields.owner → node.group ≡ cached.fields.group
        → node.acl.now ≡ cached.fields.acl → node.change ≡ cached.fields.change → node.time_modify ≡ cached.fields.time_modify
        → node.size ≡ cached.fields.size → node.max_file_size ≡ limits.file_bytes → node.max_name ≡ limits.name_bytes
        → node.max_transfer ≡ limits.transfer_bytes → (bitmap : List ℕ) → attributes_answered node bitmap ≡ node_attributes limits bitmap cached.fields.number (node_metadata cached)
    unfolding attributes_answered node_attributes answered_by
    shows limits node kind number owner group acl change time size file name transfer bitmap =
        let here : map (value_of node) every_attribute ≡ node_values limits cached.fields.number (node_metadata cached)
        = rw (kind, number, owner, group, acl, change, time, size, file, name, transfer, kind_metadata cached.fields.kind, size_metadata) refl in
        ap (answered_by bitmap) here
