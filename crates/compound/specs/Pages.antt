-- The entries of a page, as they are encoded one after the other.
use Rattle.std.specs.Prelude.{ℕ, List, ◌++◌}
use Rattle.std.specs.Int.{w32}
use Rattle.std.specs.List.{flat_map}
use Rattle.model.specs.Wire.WireAnswers.{entry}
use Rattle.wire_attributes.specs.Listed.{entry_view}
use Rattle.wire_attributes.specs.declared.listed.ListedEntry.{ListedEntry}
use Rattle.xdr.specs.Grammar.{number}

-- an entry in a chain; entries; entries with the end of their chain
abbrev pub link_of : ListedEntry → List ℕ
link_of listed = number w32 1 ++ entry.encoding (entry_view listed)

abbrev pub links_of : List ListedEntry → List ℕ
links_of entries = flat_map link_of entries

unfoldable pub chain_of : List ListedEntry → List ℕ
chain_of entries = links_of entries ++ number w32 0
