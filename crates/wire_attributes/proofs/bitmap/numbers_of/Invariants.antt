use Rattle.std.proofs.Common.{◌≡◌, ◌*◌, ℕ, List, take}
use Rattle.model.specs.Attributes.Attribute.{attributes_from}
use Rattle.wire_attributes.proofs.bitmap.numbers_of.Given as goal

pub record SoFar (first index : ℕ) (attributes bitmap : List ℕ) : Type 0 where
  pub next : first ≡ 32 * index
  pub listed : attributes ≡ attributes_from 0 (take index bitmap)

abbrev pub invariant-loop-word : goal.invariant-loop-word
invariant-loop-word l = SoFar l.first l.word-index l.numbers.items l.bitmap
