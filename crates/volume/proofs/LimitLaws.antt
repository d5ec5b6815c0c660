-- The limits of volumes that are served.
use Rattle.std.proofs.Common.{◌≡◌, ◌≤◌, ap, arith}
use Rattle.journal.specs.Journal.{log_of}
use Rattle.layout.specs.Versions.{IsServed, file_bytes_by, names_by}
use Rattle.layout.specs.declared.versions.VersionNumber.{VersionNumber}
use Rattle.layout.specs.declared.versions.VersionNumber.TheVariants as numbers
use Rattle.model_tree.specs.declared.limits.Limits.{Limits}
use Rattle.volume.specs.VolumeState.{VolumeState, IsLimited}
use Rattle.volume.specs.Views.{volume_state}
use Rattle.volume.specs.declared.volume.Volume.{Volume}

pub bytes_most : (version : VersionNumber) → IsServed version → file_bytes_by version ≤ 16777216
bytes_most numbers.One served = absurd served
bytes_most numbers.Two served = omega arith
bytes_most (numbers.Three s) served = served.fits.limits.max_file_bytes

pub names_most : (version : VersionNumber) → IsServed version → names_by version ≤ 1024
names_most numbers.One served = absurd served
names_most numbers.Two served = omega arith
names_most (numbers.Three s) served = served.fits.limits.max_names

module _ (held : VolumeState) (limited : IsLimited held) where
  pub file_most : held.limits.file_bytes ≤ 16777216
  file_most = omega (arith, bytes_most held.version limited.served, ap (λ (l : Limits). l.file_bytes) limited.limits)

-- those of a volume are
pub limited_of : {D : _} {g : _} → (volume : Volume D g) → IsLimited (volume_state volume)
unfolding volume_state
limited_of volume = record { served = volume.served; limits = volume.limited }
