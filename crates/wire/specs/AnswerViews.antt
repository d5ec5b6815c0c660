-- The results of the code as the values of the definitions.
use Rattle.std.specs.Prelude.{ℕ, ◌<◌, ◌^◌, List, ◌++◌, length, map}
use Rattle.std.specs.Int.{w32}
use Rattle.std.specs.List.{flat_map}
use Rattle.xdr.specs.Grammar.{◌&◌, number, unsigned_int, unsigned_hyper}
use Rattle.xdr.specs.Forms.{always, trimmed_bitmap}
use Rattle.model.specs.Wire.WireTypes.{any_opaque, channel}
use Rattle.model.specs.Wire.WireAnswers.{entry}
use Rattle.model.specs.Operations.Answer as spec
use Rattle.wire.specs.declared.answers.AccessAnswer.{AccessAnswer}
use Rattle.wire.specs.declared.answers.CreateAnswer.{CreateAnswer}
use Rattle.wire.specs.declared.answers.OpenAnswer.{OpenAnswer}
use Rattle.wire.specs.declared.answers.ReadAnswer.{ReadAnswer}
use Rattle.wire.specs.declared.answers.Entry.{Entry}
use Rattle.wire.specs.declared.answers.ReadDirAnswer.{ReadDirAnswer}
use Rattle.wire.specs.declared.answers.RenameAnswer.{RenameAnswer}
use Rattle.wire.specs.declared.answers.WriteAnswer.{WriteAnswer}
use Rattle.wire.specs.declared.answers.ExchangeIdAnswer.{ExchangeIdAnswer}
use Rattle.wire.specs.declared.answers.CreateSessionAnswer.{CreateSessionAnswer}
use Rattle.wire.specs.declared.answers.SequenceAnswer.{SequenceAnswer}
use Rattle.wire.specs.SmallViews.{state_view, attributes_view, change_view, channel_view}

abbrev pub access_view : AccessAnswer → spec.AccessAnswer
access_view a = record { supported = a.supported; access = a.access }

abbrev pub create_view : CreateAnswer → spec.CreateAnswer
create_view a = record { change = change_view a.change; was_set = a.was_set }

abbrev pub open_view : OpenAnswer → spec.OpenAnswer
open_view a = record {
  state = state_view a.state;
  change = change_view a.change;
  flags = a.flags;
  was_set = a.was_set;
}

-- what is encoded after the change
abbrev pub open_rest : OpenAnswer → List ℕ
open_rest a =
    (unsigned_int & trimmed_bitmap & always 0 unsigned_int).encoding (a.flags, (a.was_set, tt))

abbrev pub read_view : ReadAnswer → spec.ReadAnswer
read_view a = record { is_end = a.is_end; data_bytes = a.data.now }

abbrev pub entry_view : Entry → spec.Entry
entry_view e = record {
  cookie = e.cookie;
  name = e.name.now;
  attributes = attributes_view e.attributes;
}

-- the lengths of its name and of its attributes' values can be encoded
abbrev pub EntryFits : Entry → Type 0
EntryFits e = (length e.name.now < 2 ^ 32) × (length e.attributes.values.now < 2 ^ 32)

-- an entry in a chain; entries; entries with the end of their chain
abbrev pub link_of : Entry → List ℕ
link_of e = number w32 1 ++ entry.encoding (entry_view e)

abbrev pub links_of : List Entry → List ℕ
links_of es = flat_map link_of es

unfoldable pub chain_of : List Entry → List ℕ
chain_of es = links_of es ++ number w32 0

abbrev pub read_dir_view : ReadDirAnswer → spec.ReadDirAnswer
read_dir_view a = record { entries = map entry_view a.entries.items; is_end = a.is_end }

abbrev pub rename_view : RenameAnswer → spec.RenameAnswer
rename_view a = record { source = change_view a.source; target = change_view a.target }

abbrev pub write_view : WriteAnswer → spec.WriteAnswer
write_view a = record { count = a.count; committed = a.committed; verifier = a.verifier }

abbrev pub exchange_id_view : ExchangeIdAnswer → spec.ExchangeIdAnswer
exchange_id_view a = record {
  client = a.client;
  sequence = a.sequence;
  flags = a.flags;
  major_id = a.major_id.now;
  scope = a.scope.now;
}

-- what is encoded after the flags, and after the minor id
abbrev pub exchange_id_names : ExchangeIdAnswer → List ℕ
exchange_id_names a =
    (any_opaque & any_opaque & always 0 unsigned_int).encoding (a.major_id.now, (a.scope.now, tt))

abbrev pub exchange_id_rest : ExchangeIdAnswer → List ℕ
exchange_id_rest a = number w32 0 ++ (unsigned_hyper.encoding 0 ++ exchange_id_names a)

abbrev pub create_session_view : CreateSessionAnswer → spec.CreateSessionAnswer
create_session_view a = record {
  session = a.session;
  sequence = a.sequence;
  flags = a.flags;
  fore = channel_view a.fore;
  back = channel_view a.back;
}

abbrev pub create_session_rest : CreateSessionAnswer → List ℕ
create_session_rest a = (channel & channel).encoding (channel_view a.fore, channel_view a.back)

abbrev pub sequence_view : SequenceAnswer → spec.SequenceAnswer
sequence_view a = record {
  session = a.session;
  sequence = a.sequence;
  slot = a.slot;
  highest_slot = a.highest_slot;
  target_highest_slot = a.target_highest_slot;
  flags = a.flags;
}

abbrev pub sequence_rest : SequenceAnswer → List ℕ
sequence_rest a =
    (unsigned_int & unsigned_int & unsigned_int).encoding
    (a.highest_slot, (a.target_highest_slot, a.flags))
