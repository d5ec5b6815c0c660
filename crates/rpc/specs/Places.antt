-- The places of the parts of a call in its record.
use Rattle.std.specs.Prelude.{◌≡◌, ℕ, ◌+◌, ◌-◌, ◌≤◌, nat_le, Bool, ◌&&◌, List, length, take, drop}
use Rattle.model.specs.Wire.Rpc.{Compound}
use Rattle.rpc.specs.declared.call.CallRead.{CallRead}
use Rattle.rpc.specs.declared.call.CallRead.TheVariants as reads
use Rattle.rpc.specs.declared.place.CompoundPlace.{CompoundPlace}
use Rattle.rpc.specs.declared.request.Request.{Request}
use Rattle.rpc.specs.declared.request.Request.TheVariants as requests
use Rattle.rpc.specs.Views.{compound_view}

-- the last bytes are these
abbrev pub EndsWith : List ℕ → (part : List ℕ) → Type 0
EndsWith bytes part = drop (length bytes - length part) bytes ≡ part

-- a record ends with the body of its call
abbrev pub HasBody : List ℕ → CallRead → Type 0
HasBody bytes (reads.OtherVersion xid) = Unit {0}
HasBody bytes (reads.Calls call) = EndsWith bytes call.body.now

-- the arguments of a COMPOUND: behind its length the tag, and at the end the operations
pub record StandsIn (body : List ℕ) (compound : Compound) : Type 0 where
  pub within : 4 + length compound.tag ≤ length body
  pub tag : take (length compound.tag) (drop 4 body) ≡ compound.tag
  pub operations : EndsWith body compound.operations

abbrev pub IsOfBody : (body : List ℕ) → Request → Type 0
IsOfBody body (requests.Answers reply) = Unit {0}
IsOfBody body (requests.Runs cred compound) = StandsIn body (compound_view compound)

-- the COMPOUND that is there in a record
abbrev pub compound_at : List ℕ → CompoundPlace → Compound
compound_at bytes place = record {
  tag = take place.tag_size (drop place.tag bytes);
  count = place.count;
  operations = drop place.operations bytes;
}

abbrev pub is_within : List ℕ → CompoundPlace → Bool
is_within bytes place =
    nat_le (place.tag + place.tag_size) (length bytes) && nat_le place.operations (length bytes)
