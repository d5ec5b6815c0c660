-- A cached node in memory, as the layout sees it.
use Rattle.std.specs.Prelude.{ℕ, List, Option}
use Rattle.inode.specs.declared.node.Form.{Form}
use Rattle.inode.specs.declared.node.Inode.{Inode}
use Rattle.inode.specs.Fields.{fields_of}
use Rattle.extents.specs.declared.run.Run.{Run}
use Rattle.directory.specs.Records.{Record}
use Rattle.layout.specs.CachedNodes.{CachedNode}

abbrev pub seen : Form → Inode → List Run → List (Option ℕ) → List Record → CachedNode
seen form inode runs blocks names = record {
  form = form;
  fields = fields_of inode;
  runs = runs;
  blocks = blocks;
  names = names;
}
