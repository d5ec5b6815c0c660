-- What a call leaves, whatever it returned.
use Rattle.std.proofs.Common.{◌≤◌, ℕ, List, [], ◌∷◌, length, take, inl, ⊎_elim, arith}
use Rattle.disk.specs.Moments.{Image, Moment, Left, LeftSince, LeftWithin, moment, seen}
use Rattle.journal.specs.Laws.{CrashLeavesPrefix, EveryMount}
use Rattle.journal.specs.Log.{StandsForPrefix, applied_all}
use Rattle.journal.proofs.Moments.{seen-may_hold}
use Rattle.journal.proofs.Recovers.{settles_once}

-- no moment of the past is as late as this
none_later : (past : List Moment) (t : ℕ) (image : Image) → length past ≤ t → LeftWithin past t image → ⊥
none_later [] t image l left = left
none_later (m ∷ past) t image l left = ⊎_elim
    (λ (now : (t ≤ length past) × Left m image). omega (arith, now.0, l))
    (λ (before : LeftWithin past t image). none_later past t image (omega (arith, l)) before)
    left

pub every_stop : CrashLeavesPrefix
every_stop old new settled adds image left = ⊎_elim
    (λ (before : LeftSince old.history (moment old.history) image). ⊎_elim
    (λ (now : Left old.history.now image). record { count = 0; within = omega arith; settles = settled image now })
    (λ (past : LeftWithin old.history.past (moment old.history) image). absurd (none_later old.history.past (moment old.history) image (omega arith) past))
    before)
    (λ (prefix : StandsForPrefix old.area old.base old.list image). prefix)
    (adds.added (moment old.history) image (omega arith) (inl left))

pub every_mount : EveryMount
every_mount old new found is small settled adds mounted =
    let image = seen new.history.now in
    let prefix = every_stop old new settled adds image (λ n. seen-may_hold new.history.now.unsynced new.history.now.fixed n) in
    record {
      count = prefix.count;
      within = prefix.within;
      same = settles_once old.area is image (applied_all (take prefix.count old.list) old.base) found.base small prefix.settles mounted.base;
    }
