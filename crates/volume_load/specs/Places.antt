-- What is found at a place of the node table. Something is known of what is read, whatever the
-- sectors hold; that they hold it, only if the device keeps its word, which is `word` here.
use Rattle.std.specs.Prelude.{◌≡◌, ◌<◌, ℕ, List, Option, Some, None}
use Rattle.disk.specs.Calls.{zero_sector}
use Rattle.inode.specs.declared.node.Form.{Form}
use Rattle.inode.specs.Fields.{Fields, IsInode}
use Rattle.inode.specs.Encoding.{inode_sector}

-- a node's sector in this form
pub record FindsNode (word : Type 0) (form : Form) (content : List ℕ) (fields : Fields)
    : Type 0 where
  pub fits : IsInode form fields
  pub number : 0 < fields.number
  pub encoded : word → content ≡ inode_sector form fields

-- the sector of a place
abbrev pub FindsFields : (word : Type 0) → Form → (content : List ℕ) → Option Fields → Type 0
FindsFields word form content None = word → content ≡ zero_sector
FindsFields word form content (Some fields) = FindsNode word form content fields
