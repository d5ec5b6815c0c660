-- What an iterator over names has left.
use denote.Ref.{Bor}
use Rattle.model_tree.specs.Trees.Keyed.{Keyed}
use Rattle.model_tree.specs.Trees.Tree.{DirEntry}
use Rattle.directory.specs.declared.entry.Entry.{Entry}
use Rattle.directory.specs.declared.listing.ListAfter.{ListAfter}
use Rattle.directory.specs.Listing.{by_stamp, after}
use Rattle.directory.specs.Records.{Record, record_of}

-- the names above its cookie
abbrev pub rest_of : ListAfter → Keyed DirEntry
rest_of list = after list.cookie (by_stamp list.names.now)

abbrev pub record_at : Bor Entry → Record
record_at entry = record_of entry.now
