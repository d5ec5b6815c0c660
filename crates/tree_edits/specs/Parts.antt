-- The bytes that edits put.
use Rattle.std.specs.Prelude.{◌<◌, List, All}
use Rattle.std.specs.List.{AllByRecursion}
use Rattle.tree_edits.specs.declared.edit.Edit.{Edit}
use Rattle.tree_edits.specs.declared.edit.Edit.TheVariants as declared

-- each is below 256
abbrev pub PutsBytes : Edit → Type 0
PutsBytes (declared.PutNode number kind metadata) = Unit {0}
PutsBytes (declared.DropNode number) = Unit {0}
PutsBytes (declared.Show number metadata) = Unit {0}
PutsBytes (declared.PutName directory stamp name number) = Unit {0}
PutsBytes (declared.DropName directory stamp name) = Unit {0}
PutsBytes (declared.PutBytes file offset bytes) = All (λ byte. byte < 256) bytes.now
PutsBytes (declared.SetSize file size) = Unit {0}

abbrev pub PartsAreBytes : List Edit → Type 0
PartsAreBytes edits = AllByRecursion PutsBytes edits
