-- A well-formed tree, in a version whose files have at most 16,777,216 bytes, has no node with more
-- than 4,096 blocks.
use Rattle.std.proofs.Common.{◌≡◌, ◌≤◌, ℕ, None, length, refl, sym, ap, subst, ◌∙◌, arith, inl, inr}
use Rattle.std.proofs.Props.{props}
use Rattle.std.proofs.Math.Logic.{∥∥₁_elim}
use Rattle.std.proofs.lemmas.Bool.{cases_lt}
use Rattle.std.proofs.lemmas.List.{get_or_past}
use Rattle.std.proofs.lemmas.Option.{none-some}
use Rattle.disk.specs.Moments.{Image}
use Rattle.model_tree.specs.declared.node.NodeKind.{NodeKind}
use Rattle.model_tree.specs.declared.node.NodeKind.TheVariants as kind
use Rattle.model_tree.specs.Trees.Charge.{blocks_of}
use Rattle.model_tree.specs.Trees.Keyed.{at}
use Rattle.model_tree.specs.declared.limits.Limits.{Limits}
use Rattle.model_tree.specs.Trees.WellFormed.{IsContent, IsNode}
use Rattle.layout.specs.CachedNodes.{CachedNode, cached_nodes_in, content_of, node_of}
use Rattle.layout.specs.Laid.{HoldsPlace, HoldsContent, HoldsCached}
use Rattle.layout.specs.Stands.{marked_by}
use Rattle.layout.proofs.Answering.{each_answer}
use Rattle.layout.proofs.StepLaws.{length-bytes_in}
use Rattle.volume_load.specs.Volumes.{StandsIsFew}

content-is : (image : Image) (cached : CachedNode) → (node_of image cached).content ≡ content_of image cached.fields.kind cached
unfolding node_of
content-is image cached = refl

few_blocks : (limits : Limits) (image : Image) (kind : NodeKind) (cached : CachedNode) → limits.file_bytes ≤ 16777216 → IsContent limits (content_of image kind cached) → HoldsContent image kind cached → blocks_of kind cached.fields.size ≤ 4096
few_blocks limits image kind.File cached short is holds = let long = length-bytes_in image cached.blocks cached.fields.size in let few = is.1 in omega (arith, short)
few_blocks limits image kind.Directory cached short is holds = omega (arith, holds.count, holds.names.few)

few_at : (limits : Limits) (image : Image) (place : ℕ) (cached : CachedNode) → limits.file_bytes ≤ 16777216 → IsNode limits (node_of image cached) → HoldsCached image place cached → length cached.blocks ≤ 4096
few_at limits image place cached short is holds =
    omega (arith, holds.node.blocks, few_blocks limits image cached.fields.kind cached short (subst (IsContent limits) (content-is image cached) is.content) holds.content)

pub stands_few : StandsIsFew
stands_few version size nodes image run tree short stands place cached there = ∥∥₁_elim stands.well_formed (Prim.hlevel props) (λ formed.
    elim (cases_lt place nodes) [
      | inl h ↦
          let laid = stands.laid.laid in
          let answers = each_answer nodes image (marked_by version.marking nodes image (cached_nodes_in nodes image)) (cached_nodes_in nodes image) laid cached.fields.number in
          let node = formed.nodes cached.fields.number (node_of image cached) (ap (at cached.fields.number) stands.tree_is ∙ answers.found place cached there refl) in
          few_at (version.limits size nodes) image place cached short node (subst (HoldsPlace image place) there (laid.held place h))
      | inr past ↦ absurd (none-some cached (sym (get_or_past (cached_nodes_in nodes image) place None (omega (arith, stands.laid.laid.count))) ∙ there))
    ])
