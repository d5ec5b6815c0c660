-- The tests of room and stamps, what takes no room, and that a well-formed tree has no number that is 0.
use Rattle.std.proofs.Common.{◌≡◌, ◌++◌, ℕ, Bool, true, false, List, [], ◌∷◌, Option, Some, None, refl, sym, ap, ◌∙◌, subst, not}
use Rattle.std.proofs.Math.Logic.{∥∥₁_elim}
use Rattle.std.proofs.Props.{props}
use Rattle.std.proofs.lemmas.Bool.{not-false}
use Rattle.tree_edits.specs.Outlines.{without_data}
use Rattle.tree_edits.proofs.BlankLaws.{names-without_data}
use Rattle.tree_edits.proofs.KeyLaws.{rises_above}
use Rattle.tree_edits.proofs.SizeLaws.{IsRising}
use Rattle.layout.specs.CachedNodes.{CachedNode}
use Rattle.model_tree.specs.declared.node.NodeKind.{NodeKind}
use Rattle.model_tree.specs.declared.node.NodeKind.TheVariants as kind
use Rattle.model_tree.specs.declared.status.Status.{Status}
use Rattle.model_tree.specs.declared.status.Status.TheVariants as status
use Rattle.model_tree.specs.Trees.Charge.{fits}
use Rattle.model_tree.specs.Trees.Edit.{Metadata, Show, SetSize, PutBytes, done, edited, overwritten, resized, with_content}
use Rattle.model_tree.specs.Trees.Keyed.{IsAbove}
use Rattle.model_tree.specs.Refusals.Refusal.{first_refusal, refused_or}
use Rattle.model.specs.Operations.SetAttr.{size_edits}
use Rattle.model_tree.specs.Trees.Stamp.{is_stamp_left}
use Rattle.model_tree.specs.declared.limits.Limits.{Limits}
use Rattle.model_tree.specs.Trees.Tree.{Tree, Node, File, bytes_of, is_directory, is_directory_at, is_directory_node, names_at}
use Rattle.model_tree.specs.Trees.WellFormed.{IsWellFormed}
use Rattle.model_tree.proofs.Trees.ChangeLaws.{names_in}
use Rattle.model_tree.proofs.Trees.EditLaws.{forest_of}
use Rattle.model.proofs.Operations.RefusalLaws.{none_earlier}
use Rattle.fs.specs.FileSystem.{FileSystem}
use Rattle.fs.specs.Making.{AsRoomy, room_tests}
use Rattle.fs.specs.Ready.{MayStand}
use Rattle.volume.specs.Edits.{edited_by}
use Rattle.fs.specs.Forms.{resizing}
use Rattle.volume.specs.Nodes.{IsNodeOf, IsFile, ShowsContent}
use Rattle.fs.proofs.RoomLaws.{above_altered, above_flat, show_room}

-- The results of the tests of room and stamps

pub no_room : (fs : FileSystem) (after : Tree) → fits fs.volume.limits after ≡ false → first_refusal (room_tests fs after) ≡ Some status.NoSpc
no_room fs after full = ap (λ (b : Bool). refused_or (not b) status.NoSpc (refused_or (not (is_stamp_left fs.changes)) status.ServerFault None)) full

pub no_stamp : (fs : FileSystem) (after : Tree) → fits fs.volume.limits after ≡ true → is_stamp_left fs.changes ≡ false → first_refusal (room_tests fs after) ≡ Some status.ServerFault
no_stamp fs after fit none = ap (λ (b : Bool). refused_or (not b) status.NoSpc (refused_or (not (is_stamp_left fs.changes)) status.ServerFault None)) fit
    ∙ ap (λ (b : Bool). refused_or (not b) status.ServerFault None) none

pub has_room : (fs : FileSystem) (after : Tree) → fits fs.volume.limits after ≡ true → is_stamp_left fs.changes ≡ true → first_refusal (room_tests fs after) ≡ None
has_room fs after fit left = ap (λ (b : Bool). refused_or (not b) status.NoSpc (refused_or (not (is_stamp_left fs.changes)) status.ServerFault None)) fit
    ∙ ap (λ (b : Bool). refused_or (not b) status.ServerFault None) left

-- what refuses an operation is what refuses its tree
pub told_by : (fs : FileSystem) (Encoded : Status → Type 0) (after : Tree) → (fits fs.volume.limits after ≡ false → Encoded status.NoSpc)
    → (fits fs.volume.limits after ≡ true → is_stamp_left fs.changes ≡ false → Encoded status.ServerFault)
    → (reason : Status) → first_refusal (room_tests fs after) ≡ Some reason → Encoded reason
told_by fs Encoded after full used_up reason first = by_room (fits fs.volume.limits after) refl
  where
    some_is : {x y : Status} → (let one : Option Status = Some x in one ≡ Some y) → x ≡ y
    some_is e = cc

    never : (let one : Option Status = Some reason in one ≡ None) → ⊥
    never e = cc

    by_left : fits fs.volume.limits after ≡ true → (b : Bool) → is_stamp_left fs.changes ≡ b → Encoded reason
    by_left fit true left = absurd (never (sym first ∙ has_room fs after fit left))
    by_left fit false none = subst Encoded (some_is (sym (no_stamp fs after fit none) ∙ first)) (used_up fit none)

    by_room : (b : Bool) → fits fs.volume.limits after ≡ b → Encoded reason
    by_room true fit = by_left fit (is_stamp_left fs.changes) refl
    by_room false none = subst Encoded (some_is (sym (no_room fs after none) ∙ first)) (full none)

-- and if nothing does
pub record HasRoom (fs : FileSystem) (after : Tree) : Type 0 where
  pub fit : fits fs.volume.limits after ≡ true
  pub left : is_stamp_left fs.changes ≡ true

pub passed_room : (fs : FileSystem) (after : Tree) → first_refusal (room_tests fs after) ≡ None → HasRoom fs after
passed_room fs after passed =
    let first = none_earlier (not (fits fs.volume.limits after)) status.NoSpc _ passed in
    let second = none_earlier (not (is_stamp_left fs.changes)) status.ServerFault None first.1 in
    record { fit = not-false _ first.0; left = not-false _ second.0 }

-- What a node shows takes no room

module _ (fs : FileSystem) (formed : MayStand fs.volume fs.changes) where
  abbrev tree : Tree
  tree = fs.volume.tree

  show_behind : (number : ℕ) (metadata : Metadata) (before : Tree) → (IsAbove 0 tree → IsAbove 0 before) → AsRoomy fs (done (Show number metadata) before) before
  show_behind number metadata before rises = ∥∥₁_elim formed.well_formed (Prim.hlevel props) (λ well.
      show_room fs.volume.limits before number metadata (rises (above_flat 0 tree well.numbered)))

  pub resized_room : (number : ℕ) (size : Option ℕ) (metadata : Metadata)
      → AsRoomy fs (edited (size_edits number size ++ (Show number metadata ∷ [])) tree) (edited_by fs.volume (resizing number size))
  resized_room number None metadata = show_behind number metadata tree (λ above. above)
  resized_room number (Some size) metadata = show_behind number metadata (done (SetSize number size) tree)
      (λ above. above_altered (λ (node : Node). with_content node (File (resized (bytes_of node.content) size))) tree number above)

  pub put_room : (number offset : ℕ) (part : List ℕ) (metadata : Metadata)
      → AsRoomy fs (edited (PutBytes number offset part ∷ Show number metadata ∷ []) tree) (done (PutBytes number offset part) tree)
  put_room number offset part metadata = show_behind number metadata (done (PutBytes number offset part) tree)
      (λ above. above_altered (λ (node : Node). with_content node (File (overwritten (bytes_of node.content) offset part))) tree number above)

-- what a cached node shows of a file
pub file_of : (held : Tree) (number : ℕ) (cached : CachedNode) → IsNodeOf held number cached → cached.fields.kind ≡ kind.File → is_directory_at held number ≡ false
file_of held number cached node file =
    let is : IsFile cached.fields.size node.node.content = subst (λ (of : NodeKind). ShowsContent of cached node.node.content) file node.content in
    ap is_directory_node node.there ∙ ap is_directory is.file

-- A well-formed tree has neither a number nor a stamp that is 0

pub above_all : (limits : Limits) (tree : Tree) → IsWellFormed limits (without_data tree) → IsAbove 0 tree
above_all limits tree well = above_flat 0 tree well.numbered

pub names_above : (limits : Limits) (tree : Tree) → IsWellFormed limits (without_data tree) → (number : ℕ) → IsAbove 0 (names_at tree number)
names_above limits tree well number = subst (IsAbove 0) (names-without_data tree number) ((names_in limits (without_data tree) (forest_of limits (without_data tree) well) number).rising)

pub rising_by : (limits : Limits) (tree : Tree) → IsWellFormed limits (without_data tree) → IsRising tree
rising_by limits tree well = record {
  rises = rises_above tree 0 (above_all limits tree well);
  names = λ number. rises_above (names_at tree number) 0 (names_above limits tree well number);
}
