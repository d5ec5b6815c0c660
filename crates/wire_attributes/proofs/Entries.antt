-- The entries of a list, as the code has them.
use Rattle.std.proofs.Common.{◌≡◌, ℕ, suc, List, [], ◌∷◌, ◌++◌, length, refl, ap}
use Rattle.std.specs.Prelude.{map}
use Rattle.std.specs.Int.{w32}
use Rattle.std.specs.List.{flat_map}
use Rattle.xdr.specs.Grammar.{number}
use Rattle.xdr.specs.Forms.{elements}
use Rattle.model.specs.Attributes.AttributeValue.{acl_entry}
use Rattle.wire_attributes.specs.declared.entry.AclEntry.{AclEntry}
use Rattle.wire_attributes.specs.Views.{entry_view, entry_encoding}

each_text : (list : List AclEntry) → flat_map acl_entry.encoding (map entry_view list) ≡ flat_map entry_encoding list
each_text [] = refl
each_text (e ∷ list) = ap (λ (t : List ℕ). entry_encoding e ++ t) (each_text list)

count : (list : List AclEntry) → length (map entry_view list) ≡ length list
count [] = refl
count (e ∷ list) = ap suc (count list)

pub entries_text : (list : List AclEntry) → elements acl_entry.encoding (map entry_view list) ≡ number w32 (length list) ++ flat_map entry_encoding list
unfolding elements
entries_text list = rw (each_text list, count list) refl
