use Rattle.std.proofs.Common.{◌≡◌, ◌≤◌, ◌*◌, ◌%◌, ℕ, length, take}
use Rattle.std.specs.List.{flat_map}
use Rattle.wire_attributes.proofs.NodeSizes.{ace_text}
use Rattle.wire_attributes.proofs.node.aces_size.Given as goal

pub record SoFar (size index text : ℕ) : Type 0 where
  pub value : size ≡ text
  pub bound : size ≤ 60 * index
  pub whole : size % 4 ≡ 0

abbrev pub invariant-loop-ace : goal.invariant-loop-ace
invariant-loop-ace l = SoFar l.size l.ace-index (length (flat_map ace_text (take l.ace-index l.acl)))
