use Rattle.std.proofs.Common.{◌≡◌, ◌++◌, ◌∷◌, [], length, take, sym, arith, length-append}
use Rattle.std.proofs.lemmas.List.{length-take-le}
use Rattle.disk.specs.declared.call.Call.TheVariants.{Sync}
use Rattle.disk.proofs.CallLemmas.{last_sync-take, last_sync-write, last_sync-sync}
use Rattle.disk.proofs.call.synced_count.Goals as goal
use Rattle.disk.proofs.call.synced_count.Goals.{in-Write, in-Sync}

pub loop-i-preserved : goal.loop-i-preserved
loop-i-preserved c =
    let calls = c.args.calls.now in
    let i = c.loop-i.i in
    let taken : length (take i calls) ≡ i = length-take-le i calls (omega arith) in
    elim c.match-call.branch [
      | in-Write w ↦ record {
        within = omega arith;
        last = rw w.count-is (last_sync-take calls i _ _ _ c.loop-i-test.true (sym w.in-Write.is)
            (last_sync-write (take i calls) w.in-Write.field-0 c.loop-i.count (omega arith) c.loop-i.invariant.last));
      }
      | in-Sync w ↦ record {
        within = omega arith;
        last = (let all : c.match-call.count ≡ length (take i calls ++ Sync ∷ []) = omega (arith, length-append (take i calls) (Sync ∷ [])) in
            last_sync-take calls i _ _ _ c.loop-i-test.true (sym w.in-Sync.is) (last_sync-sync (take i calls) _ all));
      }
    ]
