-- The arguments of the code as the values of the definitions.
use Rattle.std.specs.Prelude.{◌≡◌, ◌⊎◌, ℕ, List, Result, Ok, Err, map}
use Rattle.std.specs.Option.{option_map}
use Rattle.std.specs.Global.{Vec}
use Rattle.xdr.specs.declared.refusal.Refusal.{Refusal}
use Rattle.xdr.specs.declared.refusal.Refusal.TheVariants.{Memory}
use Rattle.xdr.specs.Forms.{each_at}
use Rattle.model.specs.Operations.Operation as spec
use Rattle.model.specs.Wire.WireTypes.{callback_security}
use Rattle.wire.specs.declared.small.CallbackSecurity.{CallbackSecurity}
use Rattle.wire.specs.declared.file.CloseArguments.{CloseArguments}
use Rattle.wire.specs.declared.file.CommitArguments.{CommitArguments}
use Rattle.wire.specs.declared.file.ReadArguments.{ReadArguments}
use Rattle.wire.specs.declared.file.StableHow.{StableHow}
use Rattle.wire.specs.declared.file.StableHow.TheVariants as stable
use Rattle.wire.specs.declared.file.WriteArguments.{WriteArguments}
use Rattle.wire.specs.declared.file.SetAttrArguments.{SetAttrArguments}
use Rattle.wire.specs.declared.directory.ReadDirArguments.{ReadDirArguments}
use Rattle.wire.specs.declared.directory.RenameArguments.{RenameArguments}
use Rattle.wire.specs.declared.directory.CreateArguments.{CreateArguments}
use Rattle.wire.specs.declared.directory.CreateArguments.TheVariants as create
use Rattle.wire.specs.declared.open.OpenType.{OpenType}
use Rattle.wire.specs.declared.open.OpenType.TheVariants as open_type
use Rattle.wire.specs.declared.open.Claim.{Claim}
use Rattle.wire.specs.declared.open.Claim.TheVariants as claims
use Rattle.wire.specs.declared.open.ExclusiveCreate.{ExclusiveCreate}
use Rattle.wire.specs.declared.open.ExclusiveCreate.TheVariants as exclusive
use Rattle.wire.specs.declared.open.Opening.{Opening}
use Rattle.wire.specs.declared.open.Opening.TheVariants as openings
use Rattle.wire.specs.declared.open.OpenArguments.{OpenArguments}
use Rattle.wire.specs.declared.exchange.ExchangeIdArguments.{ExchangeIdArguments}
use Rattle.wire.specs.declared.session.CreateSessionArguments.{CreateSessionArguments}
use Rattle.wire.specs.declared.session.SequenceArguments.{SequenceArguments}
use Rattle.wire.specs.SmallViews.{state_view, attributes_view, channel_view, implementation_view, security_view}

abbrev pub close_view : CloseArguments → spec.CloseArguments
close_view a = record { seqid = a.seqid; state = state_view a.state }

abbrev pub commit_view : CommitArguments → spec.CommitArguments
commit_view a = record { offset = a.offset; count = a.count }

abbrev pub read_view : ReadArguments → spec.ReadArguments
read_view a = record { state = state_view a.state; offset = a.offset; count = a.count }

-- stable_how4
abbrev pub stable_number : StableHow → ℕ
stable_number stable.Unstable = 0
stable_number stable.DataSync = 1
stable_number stable.FileSync = 2

abbrev pub write_view : WriteArguments → spec.WriteArguments
write_view a = record {
  state = state_view a.state;
  offset = a.offset;
  stable = stable_number a.stable;
  data_bytes = a.data.now;
}

abbrev pub set_attr_view : SetAttrArguments → spec.SetAttrArguments
set_attr_view a = record { state = state_view a.state; attributes = attributes_view a.attributes }

abbrev pub read_dir_view : ReadDirArguments → spec.ReadDirArguments
read_dir_view a = record {
  cookie = a.cookie;
  verifier = a.verifier;
  dir_count = a.dir_count;
  max_count = a.max_count;
  bitmap = a.bitmap;
}

abbrev pub rename_view : RenameArguments → spec.RenameArguments
rename_view a = record { old_name = a.old_name.now; new_name = a.new_name.now }

abbrev pub create_view : CreateArguments → spec.CreateArguments
create_view (create.NewDirectory name attributes) =
    spec.NewDirectory name.now (attributes_view attributes)
create_view (create.OtherType number) = spec.OtherType number

abbrev pub open_type_view : OpenType → spec.OpenType
open_type_view open_type.NoCreate = spec.NoCreate
open_type_view (open_type.Unchecked attributes) = spec.Unchecked (attributes_view attributes)
open_type_view (open_type.Guarded attributes) = spec.Guarded (attributes_view attributes)

abbrev pub claim_view : Claim → spec.Claim
claim_view (claims.ByName name) = spec.ByName name.now
claim_view claims.ByHandle = spec.ByHandle
claim_view (claims.OtherClaim number) = spec.OtherClaim number

-- the exclusive modes of createmode4
abbrev pub exclusive_number : ExclusiveCreate → ℕ
exclusive_number exclusive.ByVerifier = 2
exclusive_number exclusive.ByVerifierAndAttributes = 3

abbrev pub opening_view : Opening → spec.Opening
opening_view (openings.Opens how claim) = spec.Opens (open_type_view how) (claim_view claim)
opening_view (openings.Exclusive mode) = spec.Exclusive (exclusive_number mode)

abbrev pub open_view : OpenArguments → spec.OpenArguments
open_view a = record {
  seqid = a.seqid;
  access = a.access;
  deny = a.deny;
  client = a.client;
  owner = a.owner.now;
  opening = opening_view a.opening;
}

abbrev pub exchange_id_view : ExchangeIdArguments → spec.ExchangeIdArguments
exchange_id_view a = record {
  verifier = a.verifier;
  owner = a.owner.now;
  flags = a.flags;
  implementation = option_map implementation_view a.implementation;
}

abbrev pub create_session_view : CreateSessionArguments → spec.CreateSessionArguments
create_session_view a = record {
  client = a.client;
  sequence = a.sequence;
  flags = a.flags;
  fore = channel_view a.fore;
  back = channel_view a.back;
  callback_program = a.callback_program;
  security = map security_view a.security.items;
}

abbrev pub sequence_view : SequenceArguments → spec.SequenceArguments
sequence_view a = record {
  session = a.session;
  sequence = a.sequence;
  slot = a.slot;
  highest_slot = a.highest_slot;
  cache_this = a.cache_this;
}

-- what a loop over `count` security parameters has read, and what is left
abbrev pub ReadsSecurities : ℕ → List ℕ → Result (Vec CallbackSecurity × List ℕ) Refusal → Type 0
ReadsSecurities count old (Ok x) =
    each_at callback_security.read count old ≡ Ok (map security_view x.0.items, x.1)
ReadsSecurities count old (Err e) =
    (e ≡ Memory) ⊎ (each_at callback_security.read count old ≡ Err e)
