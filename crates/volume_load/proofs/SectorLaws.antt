-- A sector of zeros, and which fault a part gave.
use Rattle.std.proofs.Common.{◌≡◌, ℕ, List, Option, Some, None, length, get_or, refl, sym, ap, ◌∙◌, arith}
use Rattle.std.proofs.lemmas.List.{ext_get_or, length-replicate}
use Rattle.std.specs.Prelude.{Result, Err, IsErrAnd}
use Rattle.std.proofs.lemmas.Result.{err_from_is_err_and}
use Rattle.layout.proofs.FileLaws.{zero_sector-at}
use Rattle.inode.specs.declared.fault.InodeFault.{InodeFault}
use Rattle.inode.specs.declared.fault.InodeFault.TheVariants as inode
use Rattle.volume_load.specs.declared.fault.ScanFault.{ScanFault}
use Rattle.volume_load.specs.declared.fault.ScanFault.TheVariants.{Damaged}
use Rattle.volume_load.specs.Faults.{of_inode}
use Rattle.disk.specs.Calls.{zero_sector}
use Rattle.inode.specs.declared.node.Form.{Form}
use Rattle.inode.specs.Fields.{Fields}
use Rattle.volume_load.specs.Places.{FindsFields}
use Rattle.volume_load.specs.Sectors.{AreZeroFrom}

pub length-zero : length zero_sector ≡ 4096
unfolding zero_sector
length-zero = length-replicate {A = ℕ} 4096 0

pub zero-is : (content : List ℕ) → length content ≡ 4096 → AreZeroFrom content 0 → content ≡ zero_sector
zero-is content long zeros = ext_get_or 0 content zero_sector (long ∙ sym length-zero) (λ k h. zeros k (omega arith) ∙ sym (zero_sector-at k))

pub zero-all : (content : List ℕ) (from : ℕ) → content ≡ zero_sector → AreZeroFrom content from
zero-all content from is at h = ap (λ (bytes : List ℕ). get_or bytes at 0) is ∙ zero_sector-at at

-- what is found in an image's sector is found in the same content
pub finds-here : (word : Type 0) (form : Form) (content there : List ℕ) (fields : Option Fields) → word → content ≡ there → FindsFields word form there fields → FindsFields (Unit {0}) form content fields
finds-here word form content there None w same found = λ u. same ∙ found w
finds-here word form content there (Some fields) w same found = record { fits = found.fits; number = found.number; encoded = λ u. same ∙ found.encoded w }

-- Which fault a part gave, if the whole is `Damaged`

refused_by : {T : Type 0} (result : Result T ScanFault) (given made : ScanFault) → result ≡ Err made → made ≡ given → result ≡ Err Damaged → given ≡ Damaged
refused_by result given made is gives damaged = cc

inode_damaged : (fault : InodeFault) → of_inode fault ≡ Damaged → fault ≡ inode.NotInode
inode_damaged inode.NotInode e = refl
inode_damaged inode.Memory e = cc

pub not_inode : {T : Type 0} (result : Result T ScanFault) (fault : InodeFault) → IsErrAnd result (λ e. e ≡ of_inode fault) → result ≡ Err Damaged → fault ≡ inode.NotInode
not_inode result fault and is = let p = err_from_is_err_and result and in inode_damaged fault (refused_by result (of_inode fault) p.0 p.1 p.2 is)

pub same_fault : {T : Type 0} (result : Result T ScanFault) (fault : ScanFault) → IsErrAnd result (λ e. e ≡ fault) → result ≡ Err Damaged → fault ≡ Damaged
same_fault result fault and is = let p = err_from_is_err_and result and in refused_by result fault p.0 p.1 p.2 is
