-- What is found in the blocks of a node.
use Rattle.std.specs.Prelude.{◌≡◌, ◌≤◌, ◌<◌, ℕ, List, [], Option, Some, None, length}
use Rattle.std.specs.Prelude.{slice_index_or}
use Rattle.std.specs.List.{AllByRecursion}
use Rattle.disk.specs.Moments.{Image}
use Rattle.model_tree.specs.declared.node.NodeKind.{NodeKind}
use Rattle.model_tree.specs.declared.node.NodeKind.TheVariants as kind
use Rattle.directory.specs.Records.{Record, IsRecord, IsDirectory, NamesStamped}
use Rattle.directory.specs.Encoding.{directory_sector}
use Rattle.layout.specs.CachedNodes.{byte_at}
use Rattle.layout.specs.Laid.{AreEncoded}

-- each block that has a sector can be read
abbrev pub AreSetWithin : (size : ℕ) → List (Option ℕ) → Type 0
AreSetWithin size blocks =
    (i sector : ℕ) → slice_index_or blocks i None ≡ Some sector → sector < size

-- `count` records in one sector
pub record FindsPart (word : Type 0) (content : List ℕ) (count : ℕ) (names : List Record)
    : Type 0 where
  pub each : AllByRecursion IsRecord names
  pub count_is : length names ≡ count
  pub encoded : word → content ≡ directory_sector names

-- `count` records in all blocks
pub record FindsRecords (word : Type 0) (image : Image) (blocks : List (Option ℕ)) (count : ℕ)
    (names : List Record) : Type 0 where
  pub each : AllByRecursion IsRecord names
  pub count_is : length names ≡ count
  pub encoded : word → AreEncoded image blocks names

-- the bytes of a file past its size are zero
abbrev pub HasTail : Image → List (Option ℕ) → (size : ℕ) → Type 0
HasTail image blocks size = (k : ℕ) → size ≤ k → byte_at image blocks k ≡ 0

pub record FindsFile (word : Type 0) (image : Image) (size : ℕ) (blocks : List (Option ℕ))
    (names : List Record) : Type 0 where
  pub unnamed : names ≡ []
  pub tail : word → HasTail image blocks size

pub record FindsNames (word : Type 0) (image : Image) (size : ℕ) (blocks : List (Option ℕ))
    (names : List Record) : Type 0 where
  pub count : length names ≡ size
  pub directory : IsDirectory names
  pub stamped : NamesStamped names
  pub encoded : word → AreEncoded image blocks names

abbrev pub FindsContent : (word : Type 0) → Image → NodeKind → (size : ℕ) → List (Option ℕ)
    → List Record → Type 0
FindsContent word image kind.File size blocks names = FindsFile word image size blocks names
FindsContent word image kind.Directory size blocks names = FindsNames word image size blocks names
