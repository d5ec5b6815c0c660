-- WRITE of bytes that passed its tests, on the tree with zeros for the bytes of files: there it
-- writes the same number of zeros. So the tree after it is one that the run may have.
use Rattle.std.proofs.Common.{◌≡◌, ◌≤◌, ◌<◌, ◌+◌, ◌-◌, ◌^◌, ℕ, zero, suc, Bool, true, false, List, [], ◌∷◌, ◌++◌, Option, Some, None, length, drop, replicate, refl, sym, ap, ap₂, ◌∙◌, arith, subst, not}
use Rattle.std.proofs.Math.Logic.{∥∥₁_elim}
use Rattle.std.proofs.Props.{props}
use Rattle.std.proofs.lemmas.Bool.{lt-ltb, le-ltb, leb-true, leb-false}
use Rattle.std.proofs.lemmas.List.{take-replicate, drop-replicate, take_all, append-nil, replicate-append-replicate}
use Rattle.std.specs.Prelude.{Result, Ok, option_map, nat_le}
use Rattle.tree_edits.specs.Outlines.{blank, blank_node, without_data, zeros}
use Rattle.tree_edits.proofs.BlankLaws.{at-without_data, without_data-with, key-without_data, directory-without_data, length-zeros, overwritten-length}
use Rattle.tree_edits.proofs.FitLaws.{fits-without_data}
use Rattle.model_tree.specs.declared.acl.Cred.{Cred}
use Rattle.model_tree.specs.declared.limits.Limits.{Limits}
use Rattle.model_tree.specs.declared.status.Status.{Status}
use Rattle.model_tree.specs.declared.status.Status.TheVariants as status
use Rattle.model_tree.specs.Rights.Acl.{write_data}
use Rattle.model_tree.specs.Trees.Changes.{touched}
use Rattle.model_tree.specs.Trees.Charge.{fits}
use Rattle.model_tree.specs.Trees.Edit.{Edit, PutBytes, Show, Metadata, edited, showing, with_content, overwritten, resized}
use Rattle.model.specs.Operations.Files.{are_bytes, taken_bytes, write}
use Rattle.model_tree.specs.Trees.Keyed.{at, with, is_key}
use Rattle.volume.specs.VolumeState.{IsLimited}
use Rattle.model.specs.Operations.Need.{granted_on}
use Rattle.model.specs.Sessions.Opens.{no_opens}
use Rattle.model.specs.Operations.Operation.{Argument, StateId, WriteArguments}
use Rattle.model_tree.specs.Refusals.Refusal.{first_refusal}
use Rattle.model_tree.specs.Trees.Stamp.{next_stamp, is_stamp_left}
use Rattle.model.specs.Sessions.StateIds.{found, state_refusals, write_access}
use Rattle.model.specs.Operations.Step.{State, does}
use Rattle.model_tree.specs.Trees.Tree.{Tree, Node, Content, File, Directory, bytes_of, is_directory_at}
use Rattle.model_tree.specs.Trees.WellFormed.{IsContent}
use Rattle.model_tree.proofs.Trees.NodeChangeLaws.{altered-twice}
use Rattle.model.proofs.Operations.RefusalLaws.{none_earlier, none_in_both}
use Rattle.fs.specs.FileSystem.{FileSystem}
use Rattle.fs.specs.Files.{permit_refusals, verdict_refusals}
use Rattle.fs.specs.Ready.{MayStand}
use Rattle.fs.proofs.FileSteps as steps
use Rattle.fs.proofs.KeptLaws.{formed_by}
use Rattle.volume.specs.Formed.{IsFormed}

-- Zeros that are written over zeros are zeros

pub resized_zeros : (n size : ℕ) → resized (zeros n) size ≡ zeros size
resized_zeros n size = by_test (nat_le size n) refl
  where
    by_test : (b : Bool) → nat_le size n ≡ b → resized (zeros n) size ≡ zeros size
    by_test true is =
        let less = leb-true size n is in
        let none : size - length (zeros n) ≡ 0 = omega (arith, length-zeros n) in
        ap₂ (λ (prefix : List ℕ) (k : ℕ). prefix ++ replicate k 0) (take-replicate size n 0 less) none ∙ append-nil (zeros size)
    by_test false is =
        let more = leb-false size n is in
        let rest : size - length (zeros n) ≡ size - n = ap (λ (k : ℕ). size - k) (length-zeros n) in
        let whole : n + (size - n) ≡ size = omega arith in
        ap₂ (λ (prefix : List ℕ) (k : ℕ). prefix ++ replicate k 0) (take_all size (zeros n) (omega (arith, length-zeros n))) rest
        ∙ replicate-append-replicate n (size - n) 0 ∙ ap zeros whole

overwritten_zeros : (n offset k : ℕ) → overwritten (zeros n) offset (zeros k) ≡ zeros (length (overwritten (zeros n) offset (zeros k)))
overwritten_zeros n offset k =
    let tail = n - (offset + k) in
    let count : length (overwritten (zeros n) offset (zeros k)) ≡ offset + (k + tail) =
    overwritten-length (zeros n) (zeros k) offset ∙ ap₂ (λ (a b : ℕ). offset + (a + (b - (offset + a)))) (length-zeros k) (length-zeros n) in
    let rest : drop (offset + length (zeros k)) (zeros n) ≡ zeros tail =
    ap (λ (a : ℕ). drop (offset + a) (zeros n)) (length-zeros k) ∙ drop-replicate (offset + k) n 0 in
    ap₂ (λ (prefix back : List ℕ). prefix ++ (zeros k ++ back)) (resized_zeros n offset) rest
    ∙ ap (λ (back : List ℕ). zeros offset ++ back) (replicate-append-replicate k tail 0)
    ∙ replicate-append-replicate offset (k + tail) 0 ∙ ap zeros (sym count)

pub bytes_blank : (content : Content) → bytes_of (blank content) ≡ zeros (length (bytes_of content))
bytes_blank (File bytes) = refl
bytes_blank (Directory names) = refl

written_blank : (content : Content) (offset : ℕ) (part : List ℕ)
    → overwritten (bytes_of (blank content)) offset (zeros (length part)) ≡ zeros (length (overwritten (bytes_of content) offset part))
written_blank content offset part =
    let n = length (bytes_of content) in
    let k = length part in
    let count : length (overwritten (zeros n) offset (zeros k)) ≡ length (overwritten (bytes_of content) offset part) =
    overwritten-length (zeros n) (zeros k) offset
    ∙ ap₂ (λ (a b : ℕ). offset + (a + (b - (offset + a)))) (length-zeros k) (length-zeros n)
    ∙ sym (overwritten-length (bytes_of content) part offset) in
    ap (λ (l : List ℕ). overwritten l offset (zeros k)) (bytes_blank content) ∙ overwritten_zeros n offset k ∙ ap zeros count

zeros_are_bytes : (k : ℕ) → are_bytes (zeros k) ≡ true
zeros_are_bytes zero = refl
zeros_are_bytes (suc k) = zeros_are_bytes k

-- The anonymous stateid passes

abbrev pub anonymous : StateId
anonymous = record { seqid = 0; other = replicate 12 0 }

abbrev pub on_flat : Tree → (changes run : ℕ) → Cred → (number : ℕ) → State
on_flat tree changes run cred number = record {
  tree = tree;
  changes = changes;
  opens = no_opens;
  context = record { cred = cred; client = 0; run = run; current = Some (record { number = number; state = None }); saved = None };
}

pub anonymous_passes : (tree : Tree) (changes run : ℕ) (cred : Cred) (number : ℕ)
    → first_refusal (state_refusals no_opens (on_flat tree changes run cred number).context write_access anonymous) ≡ None
unfolding found
anonymous_passes tree changes run cred number = refl

module _ (fs : FileSystem) (formed : MayStand fs.volume fs.changes) (counted : fs.changes < 2 ^ 32) (limited : IsLimited fs.volume)
    (cred : Cred) (now number : ℕ) (verdict : Result (Unit {0}) Status) (node : Node) (there : at number fs.volume.tree ≡ Some node)
    (passed : first_refusal (permit_refusals fs.volume.tree cred number write_data verdict) ≡ None)
    (offset : ℕ) (part : List ℕ) (some : 0 < length part) (few : length part ≤ fs.volume.limits.transfer_bytes) (low : offset + length part ≤ fs.volume.limits.file_bytes) where
  abbrev limits : Limits
  limits = fs.volume.limits

  abbrev tree : Tree
  tree = fs.volume.tree

  abbrev flat : Tree
  flat = without_data tree

  abbrev pub own : ℕ
  own = next_stamp fs.volume.run fs.changes

  abbrev blanks : List ℕ
  blanks = zeros (length part)

  abbrev metadata : Metadata
  metadata = touched (Some node) own now

  abbrev pub wanted : List Edit
  wanted = PutBytes number offset part ∷ Show number metadata ∷ []

  abbrev pub after : Tree
  after = edited wanted tree

  abbrev wanted_flat : List Edit
  wanted_flat = PutBytes number offset blanks ∷ Show number metadata ∷ []

  pub flat_there : at number flat ≡ Some (blank_node node)
  flat_there = at-without_data tree number ∙ ap (option_map blank_node) there

  -- The trees after the edits

  abbrev put : List ℕ → Node → Node
  put bytes old = with_content old (File (overwritten (bytes_of old.content) offset bytes))

  after_is : after ≡ with tree number (showing metadata (put part node))
  after_is = altered-twice (put part) (showing metadata) tree number node there

  flat_is : edited wanted_flat flat ≡ with flat number (showing metadata (put blanks (blank_node node)))
  flat_is = altered-twice (put blanks) (showing metadata) flat number (blank_node node) flat_there

  same_node : showing metadata (put blanks (blank_node node)) ≡ blank_node (showing metadata (put part node))
  same_node = ap (λ (bytes : List ℕ). showing metadata (with_content node (File bytes))) (written_blank node.content offset part)

  seen : edited wanted_flat flat ≡ without_data after
  seen = flat_is ∙ ap (with flat number) same_node ∙ sym (without_data-with tree number (showing metadata (put part node))) ∙ sym (ap without_data after_is)

  fits_flat : fits limits (edited wanted_flat flat) ≡ fits limits after
  fits_flat = ap (fits limits) seen ∙ fits-without_data limits after

  -- The tests on the flat tree

  granted_flat : granted_on (at number flat) cred write_data ≡ granted_on (at number tree) cred write_data
  granted_flat = ap (λ (o : Option Node). granted_on o cred write_data) flat_there ∙ ap (λ (o : Option Node). granted_on o cred write_data) (sym there)

  passed_flat : first_refusal (permit_refusals flat cred number write_data (Ok tt)) ≡ None
  passed_flat =
      let stale = none_earlier (not (is_key number tree)) status.Stale _ passed in
      let directory = none_earlier (is_directory_at tree number) status.IsDir _ stale.1 in
      let stateid = none_in_both (verdict_refusals verdict) ((not (granted_on (at number tree) cred write_data), status.Access) ∷ []) directory.1 in
      let right = none_earlier (not (granted_on (at number tree) cred write_data)) status.Access None stateid.1 in
      rw (key-without_data tree number, directory-without_data tree number, granted_flat, stale.0, directory.0, right.0) refl

  abbrev flat_arguments : WriteArguments
  flat_arguments = record { state = anonymous; offset = offset; stable = 0; data_bytes = blanks }

  abbrev on : State
  on = on_flat flat fs.changes fs.volume.run cred number

  taken_flat : taken_bytes limits flat_arguments ≡ blanks
  taken_flat = take_all limits.transfer_bytes blanks (omega (arith, length-zeros (length part)))

  step_tree : (write true limits on now flat_arguments).state.tree ≡ edited wanted_flat flat
  step_tree =
      ap (λ (bytes : List ℕ). edited (PutBytes number offset bytes ∷ Show number (touched (at number flat) own now) ∷ []) flat) taken_flat
      ∙ ap (λ (o : Option Node). edited (PutBytes number offset blanks ∷ Show number (touched o own now) ∷ []) flat) flat_there

  module _ (fit : fits limits after ≡ true) (left : is_stamp_left fs.changes ≡ true) where
    goes : does limits on now (Argument.Write flat_arguments) ≡ write true limits on now flat_arguments
    goes =
        let count : length (taken_bytes limits flat_arguments) ≡ length part = ap (λ (l : List ℕ). length l) taken_flat ∙ length-zeros (length part) in
        steps.done limits on now refl flat_arguments (Ok tt) (anonymous_passes flat fs.changes fs.volume.run cred number) (zeros_are_bytes (length part)) passed_flat
        (lt-ltb 0 (length blanks) (omega (arith, some, length-zeros (length part))))
        (le-ltb limits.file_bytes (offset + length (taken_bytes limits flat_arguments)) (omega (arith, low, count)))
        (ap (fits limits) step_tree ∙ fits_flat ∙ fit) left

    pub formed_after : IsFormed limits (next_stamp fs.volume.run (fs.changes + 1)) after
    formed_after = formed_by fs formed counted limited on now (Argument.Write flat_arguments) (write true limits on now flat_arguments) after refl refl refl goes refl (step_tree ∙ seen)

  -- the file has few bytes before it
  pub small : (bytes : List ℕ) → node.content ≡ File bytes → length bytes ≤ limits.file_bytes
  small bytes content = ∥∥₁_elim formed.well_formed (Prim.hlevel props) (λ well.
      let is = well.nodes number (blank_node node) flat_there in
      let within = subst (λ (c : Content). IsContent limits (blank c)) content is.content in
      let most = within.1 in
      omega (arith, most, length-zeros (length bytes)))
