-- WRITE that was permitted: what it does by the definition, and that its edits are a change that
-- may be kept.
use denote.Ref.{Bor}
use Rattle.std.proofs.Common.{◌≡◌, ◌≤◌, ◌<◌, ◌+◌, ◌^◌, ℕ, Bool, true, false, List, [], ◌∷◌, Some, None, length, take, refl, sym, ap, ap₂, ◌∙◌, arith, subst, not, is_some, ◌&&◌, ◌||◌}
use Rattle.std.proofs.lemmas.Bool.{lt-ltb, le-ltb, ltb-true}
use Rattle.std.proofs.lemmas.List.{length-take}
use Rattle.std.specs.Prelude.{IsTrue, Result, nat_lt, ◌==◌}
use Rattle.tree_transaction.specs.declared.nodes.Metadata.{Metadata}
use Rattle.tree_transaction.specs.Nodes.{metadata_of}
use Rattle.tree_edits.specs.declared.edit.Edit.{Edit}
use Rattle.tree_edits.specs.declared.edit.Edit.TheVariants as edit
use Rattle.tree_edits.specs.Edits.{AreEntries, AreDoable, edits_of, size_of}
use Rattle.layout.specs.CachedNodes.{CachedNode}
use Rattle.layout.specs.Known.{IsCached}
use Rattle.layout.specs.Stands.{Kept}
use Rattle.model_tree.specs.declared.acl.Ace.{Ace}
use Rattle.model_tree.specs.declared.acl.Cred.{Cred}
use Rattle.model_tree.specs.declared.limits.Limits.{Limits}
use Rattle.model_tree.specs.declared.node.NodeKind.{NodeKind}
use Rattle.model_tree.specs.declared.node.NodeKind.TheVariants as kind
use Rattle.model_tree.specs.declared.status.Status.{Status}
use Rattle.model_tree.specs.declared.status.Status.TheVariants as status
use Rattle.model_tree.specs.Rights.Acl.{write_data}
use Rattle.model_tree.specs.Trees.Changes.{touched}
use Rattle.model_tree.specs.Trees.Charge.{fits}
use Rattle.model_tree.specs.Trees.Edit.{PutBytes, Show, done, edited, with_content, overwritten}
use Rattle.model_tree.specs.Trees.Edit as model
use Rattle.model.specs.Operations.Files.{are_bytes, has_bytes, taken_bytes, write}
use Rattle.model_tree.specs.Trees.Keyed.{at, is_key}
use Rattle.volume.proofs.LimitLaws.{file_most}
use Rattle.volume.specs.VolumeState.{IsLimited}
use Rattle.model.specs.Operations.Operation.{Argument, WriteArguments}
use Rattle.model_tree.specs.Refusals.Refusal.{first_refusal}
use Rattle.model_tree.specs.Trees.Stamp.{next_stamp, is_stamp_left}
use Rattle.model.specs.Server.Runs.{is_done}
use Rattle.model.specs.Operations.Step.{State, Stepped, current, refused}
use Rattle.model_tree.specs.Trees.Tree.{Tree, Node, Content, File, bytes_of, is_directory, is_directory_node, is_directory_at}
use Rattle.model_tree.proofs.Trees.KeyedLaws.{at-with_same}
use Rattle.model_tree.proofs.Trees.NodeChangeLaws.{altered-once}
use Rattle.fs.specs.declared.writing.Writing.{Writing}
use Rattle.fs.specs.FileSystem.{FileSystem}
use Rattle.fs.specs.Files.{permit_refusals}
use Rattle.fs.specs.Making.{AsRoomy, room_tests}
use Rattle.fs.specs.Operations.{IsOn, does_on}
use Rattle.fs.specs.Planned.{IsPlanned, metadata_by}
use Rattle.fs.specs.Ready.{MayStand}
use Rattle.fs.specs.Writing.{IsWrittenTree, IsWriting, WritesTree, after_write, bytes_taken}
use Rattle.fs.proofs.FileSteps as steps
use Rattle.fs.proofs.FlatWrites as flat
use Rattle.fs.proofs.KeptLaws.{planned_by}
use Rattle.fs.proofs.RoomTests.{HasRoom, put_room, told_by}
use Rattle.volume.specs.Edits.{edited_by}
use Rattle.volume.specs.Formed.{IsFormed}
use Rattle.fs.specs.Forms as form
use Rattle.volume.specs.Nodes.{IsNodeOf, IsFile, ShowsContent}
use Rattle.volume.specs.VolumeState.{with_tree}
use Rattle.fs.proofs.EntryLaws.{few_listed}

-- The tree that it leaves

abbrev pub tree_written : FileSystem → (now number : ℕ) → Writing → Node → Tree
tree_written fs now number asked node =
    edited (PutBytes number asked.offset (bytes_taken fs asked) ∷ Show number (touched (Some node) (next_stamp fs.volume.run fs.changes) now) ∷ []) fs.volume.tree

-- has room exactly if the tree with the bytes has
pub room_asked : (fs : FileSystem) → MayStand fs.volume fs.changes → (now number : ℕ) (asked : Writing) (node : Node) (place : ℕ) (encoded : Bor (List ℕ)) → place ≡ asked.offset → encoded.now ≡ bytes_taken fs asked
    → AsRoomy fs (tree_written fs now number asked node) (edited_by fs.volume (edit.PutBytes number place encoded ∷ []))
room_asked fs formed now number asked node place encoded place_is encoded_is =
    put_room fs formed number asked.offset (bytes_taken fs asked) (touched (Some node) (next_stamp fs.volume.run fs.changes) now)
    ∙ ap₂ (λ (offset : ℕ) (l : List ℕ). fits fs.volume.limits (done (PutBytes number offset l) fs.volume.tree)) (sym place_is) (sym encoded_is)

-- In each state of the operation

module _ (fs : FileSystem) (cred : Cred) (now number : ℕ) (verdict : Result (Unit {0}) Status) (asked : Writing) (bytes : are_bytes asked.bytes.now ≡ true)
    (state : State) (arguments : WriteArguments) (on : IsOn fs cred number state) (is : IsWriting state verdict asked arguments) where
  abbrev limits : Limits
  limits = fs.volume.limits

  bytes_are : are_bytes arguments.data_bytes ≡ true
  bytes_are = ap are_bytes is.bytes_are ∙ bytes

  first_same : first_refusal (permit_refusals state.tree state.context.cred (current state) write_data verdict) ≡ first_refusal (permit_refusals fs.volume.tree cred number write_data verdict)
  first_same = rw (on.is_state.tree_is, on.is_state.cred_is, on.is_state.current_is) refl

  pub early : (reason : Status) → first_refusal (permit_refusals fs.volume.tree cred number write_data verdict) ≡ Some reason
      → does_on fs state now (Argument.Write arguments) ≡ refused state (Argument.Write arguments) reason
  early reason first = steps.write_refused limits state now on.is_state.has_current arguments verdict is.verdict_is bytes_are reason (first_same ∙ first)

  module _ (passed : first_refusal (permit_refusals fs.volume.tree cred number write_data verdict) ≡ None) where
    passed_there : first_refusal (permit_refusals state.tree state.context.cred (current state) write_data verdict) ≡ None
    passed_there = first_same ∙ passed

    pub nothing : length asked.bytes.now ≡ 0 → does_on fs state now (Argument.Write arguments) ≡ after_write fs.volume.tree fs.changes state arguments 0
    nothing none =
        let empty : length arguments.data_bytes ≡ 0 = ap (λ (l : List ℕ). length l) is.bytes_are ∙ none in
        let count : length (taken_bytes limits arguments) ≡ 0 = omega (arith, empty, length-take limits.transfer_bytes arguments.data_bytes) in
        steps.nothing_written limits state now on.is_state.has_current arguments verdict is.verdict_is bytes_are passed_there (le-ltb 0 (length arguments.data_bytes) (omega (arith, empty)))
        ∙ ap (λ (n : ℕ). after_write state.tree state.changes state arguments n) count
        ∙ ap₂ (λ (t : Tree) (n : ℕ). after_write t n state arguments 0) on.is_state.tree_is on.changes

    module _ (some : 0 < length asked.bytes.now) where
      has : has_bytes arguments ≡ true
      has =
          let count : length arguments.data_bytes ≡ length asked.bytes.now = ap (λ (l : List ℕ). length l) is.bytes_are in
          lt-ltb 0 (length arguments.data_bytes) (omega (arith, some, count))

      end_is : arguments.offset + length (taken_bytes limits arguments) ≡ asked.offset + length (bytes_taken fs asked)
      end_is = ap₂ (λ (offset : ℕ) (l : List ℕ). offset + length (take limits.transfer_bytes l)) is.offset_is is.bytes_are

      pub too_big : limits.file_bytes < asked.offset + length (bytes_taken fs asked)
          → does_on fs state now (Argument.Write arguments) ≡ refused state (Argument.Write arguments) status.FBig
      too_big high = steps.too_big limits state now on.is_state.has_current arguments verdict is.verdict_is bytes_are passed_there has
          (lt-ltb limits.file_bytes (arguments.offset + length (taken_bytes limits arguments)) (omega (arith, high, end_is)))

      module _ (low : asked.offset + length (bytes_taken fs asked) ≤ limits.file_bytes) (node : Node) (there : at number fs.volume.tree ≡ Some node) where
        low_there : nat_lt limits.file_bytes (arguments.offset + length (taken_bytes limits arguments)) ≡ false
        low_there = le-ltb limits.file_bytes (arguments.offset + length (taken_bytes limits arguments)) (omega (arith, low, end_is))

        abbrev after : Tree
        after = tree_written fs now number asked node

        state_tree : (write true limits state now arguments).state.tree ≡ after
        state_tree = rw (on.is_state.tree_is, on.is_state.current_is, on.run, on.changes, is.offset_is, is.bytes_are, there) refl

        full : fits limits after ≡ false → does_on fs state now (Argument.Write arguments) ≡ refused state (Argument.Write arguments) status.NoSpc
        full none = steps.no_room limits state now on.is_state.has_current arguments verdict is.verdict_is bytes_are passed_there has low_there (ap (fits limits) state_tree ∙ none)

        module _ (fit : fits limits after ≡ true) where
          used_up : is_stamp_left fs.changes ≡ false → does_on fs state now (Argument.Write arguments) ≡ refused state (Argument.Write arguments) status.ServerFault
          used_up none = steps.no_stamp limits state now on.is_state.has_current arguments verdict is.verdict_is bytes_are passed_there has low_there (ap (fits limits) state_tree ∙ fit)
              (ap is_stamp_left on.changes ∙ none)

          pub goes_on : is_stamp_left fs.changes ≡ true
              → does_on fs state now (Argument.Write arguments) ≡ after_write after (fs.changes + 1) state arguments (length (bytes_taken fs asked))
          goes_on left =
              let count : length (taken_bytes limits arguments) ≡ length (bytes_taken fs asked) = ap (λ (l : List ℕ). length (take limits.transfer_bytes l)) is.bytes_are in
              steps.done limits state now on.is_state.has_current arguments verdict is.verdict_is bytes_are passed_there has low_there (ap (fits limits) state_tree ∙ fit) (ap is_stamp_left on.changes ∙ left)
              ∙ ap (λ (t : Tree). after_write t (state.changes + 1) state arguments (length (taken_bytes limits arguments))) state_tree
              ∙ ap (λ (n : ℕ). after_write after (n + 1) state arguments (length (taken_bytes limits arguments))) on.changes
              ∙ ap (after_write after (fs.changes + 1) state arguments) count

        pub late : (reason : Status) → first_refusal (room_tests fs after) ≡ Some reason → does_on fs state now (Argument.Write arguments) ≡ refused state (Argument.Write arguments) reason
        late = told_by fs (λ (reason : Status). does_on fs state now (Argument.Write arguments) ≡ refused state (Argument.Write arguments) reason) after full used_up

-- What it leaves by the definition is what its edits put, and need not last if it is not to be
-- stable

unless_stable : (alters done stable unstable : Bool) → unstable ≡ not stable → ((alters && (done && not unstable)) || false) ≡ true → stable ≡ true
unless_stable alters done true unstable is lasts = refl
unless_stable true true false true is lasts = cc
unless_stable true true false false is lasts = cc
unless_stable true false false unstable is lasts = cc
unless_stable false done false unstable is lasts = cc

pub puts_tree : (fs : FileSystem) (cred : Cred) (now number : ℕ) (verdict : Result (Unit {0}) Status) (asked : Writing) (edits : List Edit)
    → ((state : State) (arguments : WriteArguments) → IsOn fs cred number state → IsWriting state verdict asked arguments
    → does_on fs state now (Argument.Write arguments) ≡ after_write (edited_by fs.volume edits) (fs.changes + 1) state arguments (length (bytes_taken fs asked)))
    → (then : Kept) (lasts : Bool) → WritesTree fs cred number now verdict asked then lasts → IsWrittenTree fs.volume edits asked.is_stable then lasts
puts_tree fs cred now number verdict asked edits step then lasts made = (
  made.kept ∙ ap (λ (s : Stepped). with_tree fs.volume s.state.tree) (step made.state made.arguments made.on made.writing),
  λ lasting. unless_stable (has_bytes made.arguments) (is_done (does_on fs made.state now (Argument.Write made.arguments)).outcome) asked.is_stable (made.arguments.stable == 0)
      made.writing.stable_is (sym made.lasting_is ∙ lasting),
)

-- The edits, as they are in memory

module _ (fs : FileSystem) (formed : MayStand fs.volume fs.changes) (counted : fs.changes < 2 ^ 32) (limited : IsLimited fs.volume)
    (cred : Cred) (now number : ℕ) (verdict : Result (Unit {0}) Status) (asked : Writing) (cached : CachedNode) (node : IsNodeOf fs.volume.tree number cached) (file : cached.fields.kind ≡ kind.File) (fit_cached : IsCached cached)
    (passed : first_refusal (permit_refusals fs.volume.tree cred number write_data verdict) ≡ None) (some : 0 < length asked.bytes.now)
    (low : asked.offset + length (bytes_taken fs asked) ≤ fs.volume.limits.file_bytes)
    (stamp place : ℕ) (encoded : Bor (List ℕ)) (metadata : Metadata) (edits : List Edit) (stamp_is : stamp ≡ next_stamp fs.volume.run fs.changes) (place_is : place ≡ asked.offset)
    (encoded_is : encoded.now ≡ bytes_taken fs asked) (metadata_is : metadata_of metadata ≡ metadata_by cached.fields stamp now)
    (edits_are : edits ≡ edit.PutBytes number place encoded ∷ edit.Show number metadata ∷ []) where
  abbrev part : List ℕ
  part = bytes_taken fs asked

  abbrev own : ℕ
  own = next_stamp fs.volume.run fs.changes

  is_file : IsFile cached.fields.size node.node.content
  is_file = subst (λ (of : NodeKind). ShowsContent of cached node.node.content) file node.content

  abbrev metadata_with : (at_stamp owner group : ℕ) → List Ace → model.Metadata
  metadata_with at_stamp owner group acl = record { owner = owner; group = group; acl = acl; change = at_stamp; time_modify = now }

  new_metadata : metadata_of metadata ≡ touched (Some node.node) own now
  new_metadata =
      metadata_is
      ∙ ap (λ (s : ℕ). metadata_with s cached.fields.owner cached.fields.group cached.fields.acl) stamp_is
      ∙ ap (λ (n : ℕ). metadata_with own n cached.fields.group cached.fields.acl) (sym node.owner)
      ∙ ap (λ (n : ℕ). metadata_with own node.node.owner n cached.fields.acl) (sym node.group)
      ∙ ap (metadata_with own node.node.owner node.node.group) (sym node.acl)

  abbrev wanted : List model.Edit
  wanted = PutBytes number asked.offset part ∷ Show number (touched (Some node.node) own now) ∷ []

  wanted_is : edits_of edits ≡ wanted
  wanted_is =
      ap edits_of edits_are
      ∙ ap₂ (λ (offset : ℕ) (bytes : List ℕ). PutBytes number offset bytes ∷ Show number (metadata_of metadata) ∷ []) place_is encoded_is
      ∙ ap (λ (s : model.Metadata). PutBytes number asked.offset part ∷ Show number s ∷ []) new_metadata

  after_is : edited_by fs.volume edits ≡ edited wanted fs.volume.tree
  after_is = ap (λ (l : List model.Edit). edited l fs.volume.tree) wanted_is

  transfer : fs.volume.limits.transfer_bytes ≡ 8192
  transfer = ap (λ (l : Limits). l.transfer_bytes) limited.limits

  most : fs.volume.limits.file_bytes ≤ 16777216
  most = file_most fs.volume limited

  part_some : 0 < length part
  part_some = omega (arith, some, length-take fs.volume.limits.transfer_bytes asked.bytes.now, transfer)

  part_few : length part ≤ fs.volume.limits.transfer_bytes
  part_few = omega (arith, length-take fs.volume.limits.transfer_bytes asked.bytes.now)

  small : length is_file.bytes ≤ fs.volume.limits.file_bytes
  small = flat.small fs formed counted limited cred now number verdict node.node node.there passed asked.offset part part_some part_few low is_file.bytes is_file.file

  key : is_key number fs.volume.tree ≡ true
  key = ap is_some node.there

  no_directory : is_directory_at fs.volume.tree number ≡ false
  no_directory = ap is_directory_node node.there ∙ ap is_directory is_file.file

  put_there : at number (done (PutBytes number place encoded.now) fs.volume.tree) ≡ Some (with_content node.node (File (overwritten (bytes_of node.node.content) place encoded.now)))
  put_there =
      let put : Node → Node = λ old. with_content old (File (overwritten (bytes_of old.content) place encoded.now)) in
      ap (at number) (altered-once put fs.volume.tree number node.node node.there) ∙ at-with_same fs.volume.tree number (put node.node)

  doable : AreDoable fs.volume.tree edits
  doable = subst (AreDoable fs.volume.tree) (sym edits_are) (
    record {
      there = key;
      is_file = no_directory;
      small =
          (let size : size_of (at number fs.volume.tree) ≡ length is_file.bytes = ap size_of node.there ∙ ap (λ (c : Content). length (bytes_of c)) is_file.file in omega (arith, size, small, most));
      low = (let count : length encoded.now ≡ length part = ap (λ (l : List ℕ). length l) encoded_is in omega (arith, low, count, place_is, most));
    },
    (
      record {
        there = ap is_some put_there;
        entries = subst (λ (s : model.Metadata). AreEntries s.acl) (sym metadata_is) (record { few = few_listed fs formed limited number cached node; each = fit_cached.fits.each_ace });
      },
      tt,
    ),
  )

  few_bytes : length encoded.now ≤ 8192
  few_bytes =
      let count : length encoded.now ≡ length part = ap (λ (l : List ℕ). length l) encoded_is in
      let few = part_few in
      omega (arith, few, count, transfer)

  abbrev list : List Edit
  list = edit.PutBytes number place encoded ∷ edit.Show number metadata ∷ []

  abbrev stands : Tree → Type 0
  stands t = IsFormed fs.volume.limits (next_stamp fs.volume.run (fs.changes + 1)) t

  planned_list : AreDoable fs.volume.tree list → edits_of list ≡ wanted → IsTrue (fits fs.volume.limits (edited_by fs.volume list)) → fs.changes + 1 < 2 ^ 32 → IsPlanned fs list
  planned_list can same fit left =
      let tree_is : edited_by fs.volume list ≡ edited wanted fs.volume.tree = ap (λ (l : List model.Edit). edited l fs.volume.tree) same in
      planned_by fs formed counted limited (form.Writing number place encoded metadata) few_bytes can
      fit left
      (subst stands (sym tree_is)
      (flat.formed_after fs formed counted limited cred now number verdict node.node node.there passed asked.offset part part_some part_few low
      (sym (ap (fits fs.volume.limits) tree_is) ∙ fit) (lt-ltb (fs.changes + 1) (2 ^ 32) left)))

  planned : IsTrue (fits fs.volume.limits (edited_by fs.volume edits)) → fs.changes + 1 < 2 ^ 32 → IsPlanned fs edits
  planned fit left = subst (IsPlanned fs) (sym edits_are)
      (planned_list (subst (AreDoable fs.volume.tree) edits_are doable) (ap edits_of (sym edits_are) ∙ wanted_is)
      (ap (λ (l : List Edit). fits fs.volume.limits (edited_by fs.volume l)) (sym edits_are) ∙ fit) left)

  module _ (room : HasRoom fs (tree_written fs now number asked node.node)) where
    pub planned_where : IsPlanned fs edits
    planned_where = planned (ap (fits fs.volume.limits) after_is ∙ room.fit) (ltb-true (fs.changes + 1) (2 ^ 32) room.left)

    -- In each state of the operation
    module _ (bytes : are_bytes asked.bytes.now ≡ true) (state : State) (arguments : WriteArguments) (on : IsOn fs cred number state) (is : IsWriting state verdict asked arguments) where
      pub plan_goes_on : does_on fs state now (Argument.Write arguments) ≡ after_write (edited_by fs.volume edits) (fs.changes + 1) state arguments (length (bytes_taken fs asked))
      plan_goes_on = goes_on fs cred now number verdict asked bytes state arguments on is passed some low node.node node.there room.fit room.left
          ∙ ap (λ (t : Tree). after_write t (fs.changes + 1) state arguments (length (bytes_taken fs asked))) (sym after_is)
