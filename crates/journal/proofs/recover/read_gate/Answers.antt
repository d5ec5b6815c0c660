use Rattle.std.proofs.Common.{◌∙◌, arith, refl, sym}
use Rattle.journal.proofs.Areas.{log_within}
use Rattle.journal.proofs.Answerings.{counted_of, is_fault}
use Rattle.journal.proofs.Recovers.{damaged_counted, fault_counted, none_counted}
use Rattle.journal.proofs.recover.read_gate.Goals as goal

pub returns-in_err-read : goal.returns-in_err-read
returns-in_err-read g c = rw (is_fault _ c.from_residual.ensures.1) (record {
  named = tt;
  gate_is = λ k. tt;
  capacity = refl;
  reads = (c.in_err-read.ensures.history, c.in_err-read.ensures.size);
  small = omega arith;
  damaged = λ k e. absurd (cc);
  failures = fault_counted _ _ _ refl (counted_of _ _ _ refl c.in_err-read.ensures.cause (λ past. omega (arith, c.in_err-read.ensures.range.0 past, log_within c.args.area (g.D.Device.size c.args.device.now) c.requires.large, c.requires.area.behind, c.requires.area.room)));
})

pub returns-then-not-decode : goal.returns-then-not-decode
returns-then-not-decode g c = record {
  named = tt;
  gate_is = λ k. tt;
  capacity = c.decode.ensures.capacity;
  reads = (c.in_ok-read.ensures.history, c.in_ok-read.ensures.size);
  small = omega arith;
  damaged = λ k e to names. c.if-not-decode.ensures.missing refl to (record {
    few = names.few;
    fit = names.fit;
    gate_is = c.in_ok-read.ensures.ok k ∙ names.gate_is;
  });
  failures = damaged_counted _ _ c.in_ok-read.ensures.cause.ok;
}

pub returns : goal.returns
returns g c =
    let found = c.if-not-decode.ensures.found refl in
    record {
      named = (found.few, found.fit);
      gate_is = λ k. sym (c.in_ok-read.ensures.ok k) ∙ found.gate_is;
      capacity = c.decode.ensures.capacity;
      reads = (c.in_ok-read.ensures.history, c.in_ok-read.ensures.size);
      small = omega arith;
      damaged = λ k e. absurd (cc);
      failures = none_counted _ _ _ c.in_ok-read.ensures.cause.ok;
    }
