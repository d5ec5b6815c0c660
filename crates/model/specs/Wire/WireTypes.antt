-- The small types on the wire, as grammars: RFC 8881, section 3.3, and RFC 5662.
use Rattle.std.specs.Prelude.{ℕ, ◌-◌, ◌^◌, Bool, List, Option}
use Rattle.xdr.specs.Grammar.{Grammar, ◌&◌, of, void, unsigned_int, unsigned_hyper}
use Rattle.xdr.specs.Forms.{boolean, fixed_opaque, opaque, array, optional, bitmap}
use Rattle.xdr.specs.Union.{Encoded, arm, on, no_other, union}
use Rattle.model.specs.Operations.Operation.{StateId, Attributes, ChangeInfo, Channel, Implementation, SystemCredential, CallbackSecurity, NoSecurity, SystemSecurity}

-- a name, or data: no limit but that of its length
abbrev pub any_opaque : Grammar (List ℕ)
any_opaque = opaque (2 ^ 32 - 1)

-- nfs_fh4: a filehandle
abbrev pub file_handle : Grammar (List ℕ)
file_handle = opaque 128

-- verifier4
abbrev pub verifier : Grammar (List ℕ)
verifier = fixed_opaque 8

-- sessionid4
abbrev pub session_id : Grammar (List ℕ)
session_id = fixed_opaque 16

-- client_owner4 and open_owner4 have at most NFS4_OPAQUE_LIMIT bytes
abbrev pub owner_id : Grammar (List ℕ)
owner_id = opaque 1024

-- stateid4
abbrev pub state_id : Grammar StateId
state_id =
    of (λ (p : ℕ × List ℕ). record { seqid = p.0; other = p.1 }) (λ s. (s.seqid, s.other))
    (unsigned_int & fixed_opaque 12)

-- fattr4, with the bitmaps of `words`
abbrev pub attributes_of : Grammar (List ℕ) → Grammar Attributes
attributes_of words =
    of (λ (p : List ℕ × List ℕ). record { bitmap = p.0; values = p.1 }) (λ a. (a.bitmap, a.values))
    (words & any_opaque)

abbrev pub attributes : Grammar Attributes
attributes = attributes_of bitmap

-- change_info4
abbrev pub change_info : Grammar ChangeInfo
change_info = of
    (λ (p : Bool × (ℕ × ℕ)). record { is_atomic = p.0; before = p.1.0; after = p.1.1 })
    (λ c. (c.is_atomic, (c.before, c.after)))
    (boolean & unsigned_hyper & unsigned_hyper)

-- channel_attrs4
abbrev pub channel : Grammar Channel
channel = of
    (λ (p : ℕ × (ℕ × (ℕ × (ℕ × (ℕ × (ℕ × Option ℕ)))))). record {
      header_pad_size = p.0;
      max_request_size = p.1.0;
      max_response_size = p.1.1.0;
      max_response_size_cached = p.1.1.1.0;
      max_operations = p.1.1.1.1.0;
      max_requests = p.1.1.1.1.1.0;
      rdma_ird = p.1.1.1.1.1.1;
    })
    (λ c. (
      c.header_pad_size,
      (
        c.max_request_size,
        (
          c.max_response_size,
          (c.max_response_size_cached, (c.max_operations, (c.max_requests, c.rdma_ird))),
        ),
      ),
    ))
    (unsigned_int & unsigned_int & unsigned_int & unsigned_int & unsigned_int & unsigned_int
    & optional unsigned_int)

-- nfs_impl_id4
abbrev pub implementation : Grammar Implementation
implementation = of
    (λ (p : List ℕ × (List ℕ × (ℕ × ℕ))).
    record { domain = p.0; name = p.1.0; seconds = p.1.1.0; nanoseconds = p.1.1.1 })
    (λ i. (i.domain, (i.name, (i.seconds, i.nanoseconds))))
    (any_opaque & any_opaque & unsigned_hyper & unsigned_int)

-- authsys_parms (RFC 5531, appendix A)
abbrev pub system_credential : Grammar SystemCredential
system_credential = of
    (λ (p : ℕ × (List ℕ × (ℕ × (ℕ × List ℕ)))).
    record {
      stamp = p.0;
      machine_name = p.1.0;
      uid = p.1.1.0;
      gid = p.1.1.1.0;
      gids = p.1.1.1.1;
    })
    (λ c. (c.stamp, (c.machine_name, (c.uid, (c.gid, c.gids)))))
    (unsigned_int & opaque 255 & unsigned_int & unsigned_int & array 16 unsigned_int)

-- callback_sec_parms4
abbrev pub encoded_security : CallbackSecurity → Encoded
encoded_security NoSecurity = arm 0 void tt
encoded_security (SystemSecurity credential) = arm 1 system_credential credential

abbrev pub callback_security : Grammar CallbackSecurity
callback_security =
    union encoded_security
    (on 0 void (λ _. NoSecurity) (on 1 system_credential SystemSecurity no_other))
