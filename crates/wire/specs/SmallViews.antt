-- The small types of the code as the values of the definitions.
use Rattle.std.specs.Prelude.{ℕ, List}
use Rattle.xdr.specs.Grammar.{◌&◌, unsigned_int}
use Rattle.xdr.specs.Forms.{optional}
use Rattle.model.specs.Operations.Operation as spec
use Rattle.wire.specs.declared.small.StateId.{StateId}
use Rattle.wire.specs.declared.small.Attributes.{Attributes}
use Rattle.wire.specs.declared.small.ChangeInfo.{ChangeInfo}
use Rattle.wire.specs.declared.small.Channel.{Channel}
use Rattle.wire.specs.declared.small.Implementation.{Implementation}
use Rattle.wire.specs.declared.small.SystemCredential.{SystemCredential}
use Rattle.wire.specs.declared.small.CallbackSecurity.{CallbackSecurity}
use Rattle.wire.specs.declared.small.CallbackSecurity.TheVariants as security

abbrev pub state_view : StateId → spec.StateId
state_view s = record { seqid = s.seqid; other = s.other }

abbrev pub attributes_view : Attributes → spec.Attributes
attributes_view a = record { bitmap = a.bitmap; values = a.values.now }

abbrev pub change_view : ChangeInfo → spec.ChangeInfo
change_view c = record { is_atomic = c.is_atomic; before = c.before; after = c.after }

abbrev pub channel_view : Channel → spec.Channel
channel_view c = record {
  header_pad_size = c.header_pad_size;
  max_request_size = c.max_request_size;
  max_response_size = c.max_response_size;
  max_response_size_cached = c.max_response_size_cached;
  max_operations = c.max_operations;
  max_requests = c.max_requests;
  rdma_ird = c.rdma_ird;
}

abbrev pub implementation_view : Implementation → spec.Implementation
implementation_view i = record {
  domain = i.domain.now;
  name = i.name.now;
  seconds = i.seconds;
  nanoseconds = i.nanoseconds;
}

abbrev pub credential_view : SystemCredential → spec.SystemCredential
credential_view c = record {
  stamp = c.stamp;
  machine_name = c.machine_name.now;
  uid = c.uid;
  gid = c.gid;
  gids = c.gids;
}

abbrev pub security_view : CallbackSecurity → spec.CallbackSecurity
security_view security.NoSecurity = spec.NoSecurity
security_view (security.System credential) = spec.SystemSecurity (credential_view credential)

-- the last four fields of a channel
abbrev pub channel_rest : Channel → List ℕ
channel_rest c =
    (unsigned_int & unsigned_int & unsigned_int & optional unsigned_int).encoding
    (c.max_response_size_cached, (c.max_operations, (c.max_requests, c.rdma_ird)))
