-- What is encoded after the first fields of longer arguments.
use Rattle.std.specs.Prelude.{ℕ, List, ◌++◌, map}
use Rattle.std.specs.Option.{option_map}
use Rattle.std.specs.Int.{w32}
use Rattle.xdr.specs.Grammar.{◌&◌, number, unsigned_int, unsigned_hyper}
use Rattle.xdr.specs.Forms.{always, array, bitmap, boolean, optional}
use Rattle.model.specs.Wire.WireTypes.{attributes, channel, callback_security, implementation, owner_id}
use Rattle.model.specs.Wire.WireArguments.{claim, opening}
use Rattle.wire.specs.declared.small.Attributes.{Attributes}
use Rattle.wire.specs.declared.small.SystemCredential.{SystemCredential}
use Rattle.wire.specs.declared.directory.ReadDirArguments.{ReadDirArguments}
use Rattle.wire.specs.declared.open.OpenType.{OpenType}
use Rattle.wire.specs.declared.open.Claim.{Claim}
use Rattle.wire.specs.declared.open.Opening.TheVariants as openings
use Rattle.wire.specs.declared.open.OpenArguments.{OpenArguments}
use Rattle.wire.specs.declared.exchange.ExchangeIdArguments.{ExchangeIdArguments}
use Rattle.wire.specs.declared.session.CreateSessionArguments.{CreateSessionArguments}
use Rattle.wire.specs.declared.session.SequenceArguments.{SequenceArguments}
use Rattle.wire.specs.SmallViews.{attributes_view, channel_view, implementation_view, security_view}
use Rattle.wire.specs.ArgumentViews.{claim_view, opening_view}

-- after the machine's name
abbrev pub credential_rest : SystemCredential → List ℕ
credential_rest c =
    (unsigned_int & unsigned_int & array 16 unsigned_int).encoding (c.uid, (c.gid, c.gids))

-- after the flags
abbrev pub exchange_id_rest : ExchangeIdArguments → List ℕ
exchange_id_rest a =
    (always 0 unsigned_int & optional implementation).encoding
    (tt, option_map implementation_view a.implementation)

-- after the flags, and after the channels
abbrev pub create_session_end : CreateSessionArguments → List ℕ
create_session_end a =
    (unsigned_int & array 4 callback_security).encoding
    (a.callback_program, map security_view a.security.items)

abbrev pub create_session_rest : CreateSessionArguments → List ℕ
create_session_rest a =
    channel.encoding (channel_view a.fore)
    ++ (channel.encoding (channel_view a.back) ++ create_session_end a)

-- after the slot
abbrev pub sequence_rest : SequenceArguments → List ℕ
sequence_rest a = (unsigned_int & boolean).encoding (a.highest_slot, a.cache_this)

-- after the cookie verifier
abbrev pub read_dir_rest : ReadDirArguments → List ℕ
read_dir_rest a =
    (unsigned_int & unsigned_int & bitmap).encoding (a.dir_count, (a.max_count, a.bitmap))

-- after the share that is denied
abbrev pub open_rest : OpenArguments → List ℕ
open_rest a =
    (unsigned_hyper & owner_id & opening).encoding (a.client, (a.owner.now, opening_view a.opening))

-- an open type and a claim, except of an exclusive create
abbrev pub opens_text : OpenType → Claim → List ℕ
opens_text how by = opening.encoding (opening_view (openings.Opens how by))

-- a created file's mode, UNCHECKED4 or GUARDED4, its attributes and the claim
abbrev pub created_text : ℕ → Attributes → Claim → List ℕ
created_text mode a by =
    number w32 1
    ++ (number w32 mode ++ (attributes & claim).encoding (attributes_view a, claim_view by))
