-- An entry of a directory, as READDIR returns it.
use Rattle.std.specs.Prelude.{◌≤◌, [], length}
use Rattle.model.specs.Operations.Answer as answer
use Rattle.model.specs.Attributes.NodeAttributes.{unreadable}
use Rattle.model.specs.Operations.Operation as operation
use Rattle.wire_attributes.specs.declared.listed.ListedAttributes.{ListedAttributes}
use Rattle.wire_attributes.specs.declared.listed.ListedAttributes.TheVariants as listed
use Rattle.wire_attributes.specs.declared.listed.ListedEntry.{ListedEntry}
use Rattle.wire_attributes.specs.NodeValues.{HasFewEntries, answer_view}

abbrev pub listed_view : ListedAttributes → operation.Attributes
listed_view (listed.Readable shown) = answer_view shown
listed_view listed.Unreadable = unreadable
listed_view listed.Gone = record { bitmap = []; values = [] }

abbrev pub ListedFits : ListedAttributes → Type 0
ListedFits (listed.Readable shown) = HasFewEntries shown.node
ListedFits listed.Unreadable = Unit {0}
ListedFits listed.Gone = Unit {0}

abbrev pub entry_view : ListedEntry → answer.Entry
entry_view entry = record {
  cookie = entry.cookie;
  name = entry.name.now;
  attributes = listed_view entry.attributes;
}

-- a name that a directory may have, and a list that a node may have
pub record EntryFits (entry : ListedEntry) : Type 0 where
  pub name : length entry.name.now ≤ 255
  pub attributes : ListedFits entry.attributes
