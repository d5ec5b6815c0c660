use Rattle.std.proofs.Common.{ap, is_some}
use Rattle.fs.specs.Views.{fs_of}
use Rattle.fs.proofs.OpenTests.{node_above}
use Rattle.fs.proofs.fs.Fs.permit_current.Goals as goal
use Rattle.volume.proofs.ViewLaws.{volume_formed}

pub returns-clause-number : goal.returns-clause-number
unfolding fs_of
returns-clause-number g c =
    node_above _ _ _ (volume_formed c.args.self.now.volume) c.args.number (ap is_some c.in-Some.ensures.some.there)
