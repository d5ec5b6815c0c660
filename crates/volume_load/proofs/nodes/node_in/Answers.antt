use Rattle.std.proofs.Common.{◌≡◌, ◌<◌, ◌∙◌, ℕ, List, Option, Some, None, Err, sym, ap, arith}
use Rattle.std.proofs.lemmas.Bool.{false≢true}
use Rattle.inode.specs.declared.node.Form.{Form}
use Rattle.inode.specs.declared.fault.InodeFault.{InodeFault}
use Rattle.inode.specs.Fields.{Fields, fields_of, IsInode}
use Rattle.inode.specs.Encoding.{inode_sector}
use Rattle.inode.proofs.ReadBack.{one_node}
use Rattle.volume_load.specs.Places.{FindsFields}
use Rattle.volume_load.specs.Sectors.{AreZeroFrom}
use Rattle.volume_load.proofs.SectorLaws.{zero-is, zero-all, not_inode}
use Rattle.volume_load.proofs.nodes.node_in.Goals as goal

-- what is not a node's and not zero belongs to no place
not_place : (form : Form) (content : List ℕ) (fields : Option Fields) → (AreZeroFrom content 0 → ⊥) → ((fields : Fields) → IsInode form fields → 0 < fields.number → content ≡ inode_sector form fields → ⊥) → FindsFields (Unit {0}) form content fields → ⊥
not_place form content None other none found = other (zero-all content 0 (found tt))
not_place form content (Some fields) other none found = none fields found.fits found.number (found.encoded tt)

pub returns-then-is_zero_from-clause-found : goal.returns-then-is_zero_from-clause-found
returns-then-is_zero_from-clause-found c = λ u. zero-is c.args.content.now c.told-content (c.is_zero_from.ensures.zero.0 c.if-is_zero_from.true)

pub returns-in_err-inode-clause-damaged : goal.returns-in_err-inode-clause-damaged
returns-in_err-inode-clause-damaged c = λ is fields found.
    not_place c.args.form c.args.content.now fields (λ zeros. false≢true (sym c.if-is_zero_from.false ∙ c.is_zero_from.ensures.zero.1 zeros)) (λ fields fits some encoded. c.in_err-inode.ensures.not_inode (ap (λ (e : InodeFault). Err e) (not_inode c.from_residual.result c.in_err-inode.field-0.0 c.from_residual.ensures.1 is)) fields fits encoded) found

pub returns-then-inode-eq0-clause-damaged : goal.returns-then-inode-eq0-clause-damaged
returns-then-inode-eq0-clause-damaged c = λ is fields found.
    not_place c.args.form c.args.content.now fields (λ zeros. false≢true (sym c.if-is_zero_from.false ∙ c.is_zero_from.ensures.zero.1 zeros)) (λ other fits some encoded.
    let same = (one_node c.args.form c.args.form other (fields_of c.in_ok-inode.inode) fits c.in_ok-inode.ensures.fits (sym encoded ∙ c.in_ok-inode.ensures.found)).1 in
    let number = ap (λ (f : Fields). f.number) same in
    omega (arith, c.if-inode-eq0.true)) found
