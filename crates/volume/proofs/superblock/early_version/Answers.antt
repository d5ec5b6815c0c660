use Rattle.std.proofs.Common.{rules, ◌≡◌, sym}
use Rattle.volume.specs.Superblock.{word}
use Rattle.volume.proofs.FirstLaws.{one_in, two_in}
use Rattle.volume.proofs.superblock.early_version.Goals as goal

pub returns-then-u32_at-number : goal.returns-then-u32_at-number
unfolding word
returns-then-u32_at-number c = sym (one_in c.args.sector.now (let one : word 8 c.args.sector.now ≡ 1 = search rules in one))

pub returns-else-u32_at-number : goal.returns-else-u32_at-number
unfolding word
returns-else-u32_at-number c = sym (two_in c.args.sector.now (let two : word 8 c.args.sector.now ≡ 2 = search rules in two))
