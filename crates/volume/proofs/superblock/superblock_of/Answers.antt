use Rattle.std.proofs.Common.{◌∙◌, ap, subst, sym}
use Rattle.layout.specs.declared.versions.VersionNumber.{VersionNumber}
use Rattle.layout.specs.declared.versions.VersionNumber.TheVariants.{Three}
use Rattle.volume.specs.Superblock.{HasSizes, superblock}
use Rattle.volume.proofs.FirstLaws.{encoded_large}
use Rattle.volume.proofs.superblock.superblock_of.Goals as goal

pub returns-in-Three : goal.returns-in-Three
returns-in-Three c =
    let s = c.in-Three.superblock in
    let has : HasSizes (Three s) c.args.sectors c.args.nodes = subst (λ (version : VersionNumber). HasSizes version c.args.sectors c.args.nodes) c.in-Three.is c.requires in
    c.encode.ensures ∙ (sym (encoded_large s c.args.sectors c.args.nodes c.args.run has)
    ∙ ap (λ (version : VersionNumber). superblock version c.args.sectors c.args.nodes c.args.run) (sym c.in-Three.is))
