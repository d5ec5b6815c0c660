use Rattle.std.proofs.Common.{vec_len}
use Rattle.disk.specs.declared.call.Call.TheVariants.{Sync}
use Rattle.disk.proofs.RecordLemmas.{maybe_synced_is_told, pushed, recorded, counted_fault}
use Rattle.disk.proofs.memory.MemDeviceDevice.sync.Goals as goal

pub invariant_of-self : goal.invariant_of-self
invariant_of-self c =
    let self = c.args.self.now in
    let told = maybe_synced_is_told (vec_len self.sectors) self.sectors.items self.first.items self.calls.items _ _
    c.push.ensures.items (record { told = self.told; within = self.within }) in
    record { few = self.few; same_size = self.same_size; told = told.told; within = told.within; rows = self.rows }

pub returns-then-is_err-clause-cause : goal.returns-then-is_err-clause-cause
returns-then-is_err-clause-cause c = rw c.fail.ensures.fault (counted_fault _ _ c.fail.ensures.counted)

pub returns-clause-ok : goal.returns-clause-ok
returns-clause-ok c _ =
    recorded _ _ _ Sync (pushed _ _ _ _ _ c.push.ensures.items c.is_err.ensures.negation c.if-is_err.false)
