-- How deep a tree is: an inode has 256 entries, and an entry at depth e spans 512 ^ e blocks.
use Rattle.std.specs.Prelude.{◌≤◌, ◌*◌, ◌^◌, ℕ, nat_le, if◌then◌else◌}

-- the depth of the entries in the inode of a file of b blocks, up to 2 ^ 28
abbrev pub depth_of : (b : ℕ) → ℕ
depth_of b =
    if nat_le b 256 then 0
    else if nat_le b (256 * 512) then 1
    else if nat_le b (256 * 512 ^ 2) then 2
    else 3

-- d is the least depth at which 256 entries span b blocks
pub record IsDepth (b d : ℕ) : Type 0 where
  pub spans : b ≤ 256 * 512 ^ d
  pub least : (e : ℕ) → b ≤ 256 * 512 ^ e → d ≤ e

abbrev pub DepthIsLeast : Type 0
DepthIsLeast = (b : ℕ) → b ≤ 2 ^ 28 → IsDepth b (depth_of b)
