-- The edits that remove a name, as they are in memory: a change that may be kept, and that does
-- what the definition says.
use denote.Ref.{Bor}
use Rattle.std.proofs.Common.{◌≡◌, ◌<◌, ◌+◌, ◌^◌, ℕ, true, false, List, [], ◌∷◌, Option, Some, None, sym, ap, ◌∙◌, subst}
use Rattle.std.proofs.lemmas.Bool.{lt-ltb}
use Rattle.directory.specs.Records.{Record, record_from}
use Rattle.tree_transaction.specs.declared.nodes.Metadata.{Metadata}
use Rattle.tree_transaction.specs.Nodes.{metadata_of}
use Rattle.tree_edits.specs.declared.edit.Edit.{Edit}
use Rattle.tree_edits.specs.declared.edit.Edit.TheVariants as edit
use Rattle.tree_edits.specs.Edits.{AreEntries, AreDoable, edits_of}
use Rattle.layout.specs.CachedNodes.{CachedNode}
use Rattle.layout.specs.Known.{IsCached}
use Rattle.model_tree.specs.declared.acl.Ace.{Ace}
use Rattle.model_tree.specs.declared.acl.Cred.{Cred}
use Rattle.model_tree.specs.declared.status.Status.TheVariants as status
use Rattle.model_tree.specs.Trees.Changes.{touched}
use Rattle.model_tree.specs.Trees.Charge.{fits}
use Rattle.model.specs.Operations.Directory.{change_of}
use Rattle.model_tree.specs.Trees.Edit.{DropName, DropNode, Show, edited}
use Rattle.model_tree.specs.Trees.Edit as model
use Rattle.model_tree.specs.Trees.Keyed.{at}
use Rattle.volume.specs.VolumeState.{IsLimited}
use Rattle.model.specs.Operations.Operation.{Argument}
use Rattle.model_tree.specs.Refusals.Refusal.{first_refusal}
use Rattle.model_tree.specs.Trees.Stamp.{next_stamp, is_stamp_left}
use Rattle.model.specs.Operations.Step.{State, does, refused}
use Rattle.model_tree.specs.Trees.Tree.{Tree, Node, names_at, entry_of}
use Rattle.fs.specs.FileSystem.{FileSystem}
use Rattle.fs.specs.Operations.{IsOn}
use Rattle.fs.specs.Planned.{IsPlanned, metadata_by}
use Rattle.fs.specs.Ready.{MayStand}
use Rattle.fs.specs.Removing.{removal_refusals, removed}
use Rattle.fs.proofs.KeptLaws.{planned_by}
use Rattle.fs.proofs.RemovedLaws as laws
use Rattle.volume.specs.Edits.{edited_by}
use Rattle.volume.specs.Formed.{IsFormed}
use Rattle.fs.specs.Forms as form
use Rattle.volume.specs.Nodes.{IsNodeOf}
use Rattle.fs.proofs.EntryLaws.{few_listed}

-- What a cached node shows is what its node does

abbrev metadata_with : (stamp now owner group : ℕ) → List Ace → model.Metadata
metadata_with stamp now owner group acl = record { owner = owner; group = group; acl = acl; change = stamp; time_modify = now }

pub metadata_touched : (tree : Tree) (number : ℕ) (cached : CachedNode) (is : IsNodeOf tree number cached) (stamp now : ℕ) → metadata_by cached.fields stamp now ≡ touched (at number tree) stamp now
metadata_touched tree number cached is stamp now =
    ap (λ (n : ℕ). metadata_with stamp now n cached.fields.group cached.fields.acl) (sym is.owner)
    ∙ ap (λ (n : ℕ). metadata_with stamp now is.node.owner n cached.fields.acl) (sym is.group)
    ∙ ap (metadata_with stamp now is.node.owner is.node.group) (sym is.acl)
    ∙ ap (λ (o : Option Node). touched o stamp now) (sym is.there)

pub change_metadata : (tree : Tree) (number : ℕ) (cached : CachedNode) (is : IsNodeOf tree number cached) → change_of (at number tree) ≡ cached.fields.change
change_metadata tree number cached is = ap change_of is.there ∙ is.change

pub entries_metadata : (fs : FileSystem) → MayStand fs.volume fs.changes → IsLimited fs.volume → (number : ℕ) (cached : CachedNode) → IsNodeOf fs.volume.tree number cached
    → (fit : IsCached cached) (metadata : Metadata) (stamp now : ℕ) → metadata_of metadata ≡ metadata_by cached.fields stamp now → AreEntries (metadata_of metadata).acl
entries_metadata fs formed limited number cached node fit metadata stamp now is =
    subst (λ (s : model.Metadata). AreEntries s.acl) (sym is) (record { few = few_listed fs formed limited number cached node; each = fit.fits.each_ace })

module _ (fs : FileSystem) (formed : MayStand fs.volume fs.changes) (counted : fs.changes < 2 ^ 32) (limited : IsLimited fs.volume)
    (cred : Cred) (now number : ℕ) (cached : CachedNode) (encoded : Bor (List ℕ)) (entry_stamp target : ℕ) (node : IsNodeOf fs.volume.tree number cached) (fit_cached : IsCached cached)
    (found : entry_of encoded.now (names_at fs.volume.tree number) ≡ Some (record_from entry_stamp encoded.now target))
    (passed : first_refusal (removal_refusals fs.volume.limits fs.volume.tree cred number encoded.now) ≡ None)
    (stamp : ℕ) (metadata : Metadata) (edits : List Edit) (stamp_is : stamp ≡ next_stamp fs.volume.run fs.changes)
    (metadata_is : metadata_of metadata ≡ metadata_by cached.fields stamp now)
    (edits_are : edits ≡ edit.DropName number entry_stamp encoded ∷ edit.DropNode target ∷ edit.Show number metadata ∷ []) where
  abbrev own : ℕ
  own = next_stamp fs.volume.run fs.changes

  abbrev entry : Record
  entry = record_from entry_stamp encoded.now target

  abbrev list : List Edit
  list = edit.DropName number entry_stamp encoded ∷ edit.DropNode target ∷ edit.Show number metadata ∷ []

  abbrev wanted : List model.Edit
  wanted = laws.wanted fs formed counted limited cred now number encoded.now entry found passed

  metadata_then : metadata_of metadata ≡ touched (at number fs.volume.tree) own now
  metadata_then = metadata_is ∙ ap (λ (s : ℕ). metadata_by cached.fields s now) stamp_is ∙ metadata_touched fs.volume.tree number cached node own now

  list_is : edits_of list ≡ wanted
  list_is = ap (λ (s : model.Metadata). DropName number entry_stamp ∷ DropNode target ∷ Show number s ∷ []) metadata_then

  wanted_is : edits_of edits ≡ wanted
  wanted_is = ap edits_of edits_are ∙ list_is

  pub after_is : edited_by fs.volume edits ≡ laws.after fs formed counted limited cred now number encoded.now entry found passed
  after_is = ap (λ (l : List model.Edit). edited l fs.volume.tree) wanted_is

  doable_list : AreDoable fs.volume.tree list
  doable_list = (
    record { there = (laws.is fs formed counted limited cred now number encoded.now entry found passed).directory; number = target; named = found },
    (
      laws.node_there fs formed counted limited cred now number encoded.now entry found passed,
      (
        record {
          there = laws.directory_there fs formed counted limited cred now number encoded.now entry found passed;
          entries = entries_metadata fs formed limited number cached node fit_cached metadata stamp now metadata_is;
        },
        tt,
      ),
    ),
  )

  list_after : edited_by fs.volume list ≡ laws.after fs formed counted limited cred now number encoded.now entry found passed
  list_after = ap (λ (l : List model.Edit). edited l fs.volume.tree) list_is

  pub planned : fs.changes + 1 < 2 ^ 32 → IsPlanned fs edits
  planned left = subst (IsPlanned fs) (sym edits_are) (planned_by fs formed counted limited
      (form.Removing (record { directory = number; stamp = entry_stamp; name = encoded }) target metadata) tt doable_list
      (ap (fits fs.volume.limits) list_after ∙ laws.fit fs formed counted limited cred now number encoded.now entry found passed) left
      (subst (IsFormed fs.volume.limits (next_stamp fs.volume.run (fs.changes + 1))) (sym list_after)
      (laws.formed_after fs formed counted limited cred now number encoded.now entry found passed (lt-ltb (fs.changes + 1) (2 ^ 32) left))))

  module _ (state : State) (on : IsOn fs cred number state) where
    pub used_up : is_stamp_left fs.changes ≡ false
        → does fs.volume.limits state now (Argument.Remove encoded.now) ≡ refused state (Argument.Remove encoded.now) status.ServerFault
    used_up none = laws.used_up fs formed counted limited cred now number encoded.now entry found passed state on none

    pub goes_on : is_stamp_left fs.changes ≡ true → (before : ℕ) → before ≡ cached.fields.change
        → does fs.volume.limits state now (Argument.Remove encoded.now)
        ≡ removed (edited_by fs.volume edits) (fs.changes + 1) state (record { number = target; before = before; after = stamp })
    goes_on left before before_is =
        laws.goes_on fs formed counted limited cred now number encoded.now entry found passed state on left before
        (change_metadata fs.volume.tree number cached node ∙ sym before_is)
        ∙ ap (λ (t : Tree). removed t (fs.changes + 1) state (record { number = target; before = before; after = own })) (sym after_is)
        ∙ ap (λ (s : ℕ). removed (edited_by fs.volume edits) (fs.changes + 1) state (record { number = target; before = before; after = s })) (sym stamp_is)
