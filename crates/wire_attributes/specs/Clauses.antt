-- What readers of lists say.
use Rattle.std.specs.Prelude.{◌≡◌, ◌≢◌, ◌⊎◌, ℕ, List, Some, None, Result, Ok, Err, map}
use Rattle.std.specs.Global.{Vec}
use Rattle.xdr.specs.declared.refusal.Refusal.{Refusal}
use Rattle.xdr.specs.declared.refusal.Refusal.TheVariants.{Memory}
use Rattle.xdr.specs.Forms.{each_at}
use Rattle.model.specs.Attributes.AttributeValue as spec
use Rattle.wire_attributes.specs.declared.entry.AclEntry.{AclEntry}
use Rattle.wire_attributes.specs.declared.value.Value.{Value}
use Rattle.wire_attributes.specs.Views.{entry_view, value_view}

-- The values are those whose encoding the bytes are; an error other than `Memory` is returned only
-- if no values of these attributes have it.
abbrev pub AreValues : (attributes bytes : List ℕ) → Result (Vec Value) Refusal → Type 0
AreValues attributes bytes (Ok vs) =
    (spec.values attributes).Fits (map value_view vs.items)
    × (bytes ≡ (spec.values attributes).encoding (map value_view vs.items))
AreValues attributes bytes (Err e) =
    (e ≡ Memory) ⊎ ((vs : List spec.Value) → (spec.values attributes).Fits vs
    → bytes ≢ (spec.values attributes).encoding vs)

-- They are what the definition reads from the whole of the bytes.
abbrev pub AreRead : (attributes bytes : List ℕ) → Result (Vec Value) Refusal → Type 0
AreRead attributes bytes (Ok vs) =
    spec.whole_values attributes bytes ≡ Some (map value_view vs.items)
AreRead attributes bytes (Err e) = (e ≡ Memory) ⊎ (spec.whole_values attributes bytes ≡ None)

-- what a loop over `count` entries has read, and what is left
abbrev pub ReadsEntries : ℕ → List ℕ → Result (Vec AclEntry × List ℕ) Refusal → Type 0
ReadsEntries count old (Ok x) =
    each_at spec.acl_entry.read count old ≡ Ok (map entry_view x.0.items, x.1)
ReadsEntries count old (Err e) = (e ≡ Memory) ⊎ (each_at spec.acl_entry.read count old ≡ Err e)

-- what a loop over these attributes has read, and what is left
abbrev pub ReadsValues : List ℕ → List ℕ → Result (Vec Value × List ℕ) Refusal → Type 0
ReadsValues attributes old (Ok x) =
    spec.values_at attributes old ≡ Ok (map value_view x.0.items, x.1)
ReadsValues attributes old (Err e) = (e ≡ Memory) ⊎ (spec.values_at attributes old ≡ Err e)
