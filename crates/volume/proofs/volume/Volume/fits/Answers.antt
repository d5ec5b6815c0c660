use Rattle.std.proofs.Common.{◌+◌, ◌∙◌, []}
use Rattle.tree_edits.specs.Edits.{edits_of}
use Rattle.tree_edits.proofs.DoableLaws.{measurable_alike}
use Rattle.journal.specs.Journal.{log_of}
use Rattle.journal.specs.Log.{Log, contents}
use Rattle.layout.specs.CachedNodes.{tree_of}
use Rattle.model_tree.specs.Trees.Stamp.{stamp}
use Rattle.volume.specs.Views.{volume_state}
use Rattle.volume.proofs.EditLaws.{few_formed, fits_outline, outline_alike}
use Rattle.volume.proofs.volume.Volume.fits.Goals as goal

pub fits-requires-clause-can : goal.fits-requires-clause-can
unfolding volume_state
fits-requires-clause-can g c =
    let volume = c.args.self.now in
    let log : Log = log_of volume.store.journal in
    measurable_alike (tree_of (contents log) volume.table) (tree_of (λ n. []) volume.table) c.args.edits.now (outline_alike (contents log) volume.table) c.requires

pub fits-requires-clause-names : goal.fits-requires-clause-names
fits-requires-clause-names g c =
    let volume = c.args.self.now in
    few_formed volume.limits (stamp (volume.run + 1) 0) volume.table volume.formed

pub returns : goal.returns
unfolding volume_state
returns g c =
    let volume = c.args.self.now in
    let log : Log = log_of volume.store.journal in
    c.fits.ensures ∙ fits_outline volume.limits (edits_of c.args.edits.now) (contents log) volume.table
