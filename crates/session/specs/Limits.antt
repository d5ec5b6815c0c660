-- What the code's limits represent.
use Rattle.model.specs.Sessions.Session.{SessionLimits}
use Rattle.session.specs.declared.limits.Limits.{Limits}

abbrev pub limits_of : Limits → SessionLimits
limits_of limits = record {
  clients = limits.clients;
  sessions = limits.sessions;
  slots = limits.slots;
  seat_slots = limits.seat_slots;
  operations = limits.operations;
  record_bytes = limits.record_bytes;
}
