use Rattle.std.proofs.Common.{◌∙◌, ap, arith, inl, refl}
use Rattle.disk.specs.Moments.{History, moment}
use Rattle.journal.proofs.Answerings.{counted_of, is_fault}
use Rattle.journal.proofs.Recovers.{counted_after, fault_counted, unmoved}
use Rattle.journal.proofs.recover.recover.Goals as goal

pub returns-in_err-sync : goal.returns-in_err-sync
returns-in_err-sync g c = rw (is_fault _ c.from_residual.ensures.1) (record {
  moments = λ k. unmoved _ _ _ (c.in_err-sync.ensures.err k);
  brief = λ k. omega (arith, ap (λ (h : History). moment h) (c.in_err-sync.ensures.err k));
  ok = λ k. tt;
  closed = λ k closed. record { ok = tt; err = inl (c.in_err-sync.ensures.err k) };
  damaged = λ k e. absurd (cc);
  none = tt;
  room = tt;
  size = c.in_err-sync.ensures.size;
  failures = fault_counted _ _ _ refl (counted_of _ _ _ refl c.in_err-sync.ensures.cause c.in_err-sync.ensures.not_range);
})

pub returns : goal.returns
returns g c =
    let replays = λ (k : g.D.Device.keeps_word). c.replay.ensures.replays k _ (c.in_ok-sync.ensures.ok k) in
    record {
      moments = λ k. (replays k).moments;
      brief = λ k. (replays k).brief;
      ok = λ k. (replays k).ok;
      closed = λ k. (replays k).closed;
      damaged = λ k. (replays k).damaged;
      none = c.replay.ensures.none;
      room = c.replay.ensures.room;
      size = c.replay.ensures.size ∙ c.in_ok-sync.ensures.size;
      failures = counted_after _ _ _ _ c.in_ok-sync.ensures.cause.ok c.replay.ensures.failures;
    }
